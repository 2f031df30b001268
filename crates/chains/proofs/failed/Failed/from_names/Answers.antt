use Rattle.chains.proofs.Failing.{failed_set}
use Rattle.chains.proofs.failed.Failed.from_names.Goals as goal

pub returns-in-Ok : goal.returns-in-Ok
returns-in-Ok c =
    failed_set c.args.chains.now.accepted c.args.names.now c.in_ok-flags.flags.items c.in-Ok.numbers.items c.in_ok-flags.ensures.known c.in_ok-flags.ensures.marked
    (rw c.deref.ensures.value at c.in-Ok.ensures)
