use Rattle.std.proofs.Common.{subst, List, Bool}
use Rattle.chains.specs.Processes.{known}
use Rattle.chains.specs.working.Flags.{AreNumbersOf}
use Rattle.chains.proofs.Failing.{failed_set, all_set, all_are_known}
use Rattle.chains.proofs.failed.Failed.all.Goals as goal

pub returns : goal.returns
returns c =
    let listed = subst (λ (flags : List Bool). AreNumbersOf flags c.in_ok-numbers.numbers.items) c.deref.ensures.value c.in_ok-numbers.ensures in
    failed_set c.args.chains.now.accepted (known c.args.chains.now.accepted) c.in_ok-flags.flags.items c.in_ok-numbers.numbers.items (all_are_known c.args.chains.now.accepted)
    (all_set c.args.chains.now.accepted c.in_ok-flags.flags.items c.count.result (c.in_ok-flags.ensures.items_if_clones_equal (λ y e. e)) c.count.ensures) listed
