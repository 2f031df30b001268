use Rattle.propagate.proofs.Lowering.{clear_at_last}
use Rattle.propagate.proofs.falls.stays.Goals as goal

pub returns-in-Some : goal.returns-in-Some
returns-in-Some c =
    let table = rw c.in-Some.is at c.requires.table in
    λ yes. clear_at_last c.args.chains.now.accepted c.in-Some.needs.now.accepted c.args.stage.now.cut.items c.args.process table.0 table.1 c.requires.process (c.is_clear_at_last.ensures.0 yes)
