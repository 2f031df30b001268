use Rattle.std.specs.Prelude.{is_ok}
use Rattle.coordinator.proofs.Remembered.{one_more}
use Rattle.coordinator.proofs.found.remember.Goals as goal

pub returns-then-shows_line : goal.returns-then-shows_line
returns-then-shows_line g c = λ held checked rights.
    one_more c.args.passes.now held c.args.found.now.items c.push-kept.new.self.items c.args.owner (is_ok c.push-kept.result) c.push-kept.ensures.items rights (c.shows_line.ensures c.if-shows_line.true held checked)
