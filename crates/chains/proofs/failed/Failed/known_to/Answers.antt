use Rattle.std.proofs.Common.{ℕ, List, Bool, subst, ◌<◌, ◌↔◌}
use Rattle.std.specs.Prelude.{Contains}
use Rattle.chains.specs.working.Flags.{AreNumbersOf, AreFlagged}
use Rattle.chains.proofs.Failing.{flagged_numbers}
use Rattle.chains.proofs.failed.Failed.known_to.Goals as goal

pub returns : goal.returns
returns c =
    let flags : List Bool = c.in_ok-flags.flags.items in
    let found : List ℕ = c.in_ok-numbers.numbers.items in
    subst (λ (n : ℕ). (p : ℕ) → (Contains found p ↔ (Contains c.args.self.now p × (p < n)))) c.count.ensures
    (flagged_numbers c.args.self.now c.count.result flags found
    (subst (λ (l : List ℕ). AreFlagged l c.count.result flags) c.numbers.ensures.numbers c.in_ok-flags.ensures)
    (subst (λ (l : List Bool). AreNumbersOf l found) c.deref.ensures.value c.in_ok-numbers.ensures))
