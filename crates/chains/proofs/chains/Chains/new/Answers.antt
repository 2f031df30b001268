use Rattle.std.proofs.Common.{◌≤◌, sym, refl, subst, arith}
use Rattle.std.proofs.lemmas.List.Elements.{All-nil}
use Rattle.chains.specs.Folded.{IsFolded, nothing_folded}
use Rattle.chains.proofs.chains.Chains.new.Goals as goal

pub invariant_of-result : goal.invariant_of-result
invariant_of-result c =
    let none = c.new.ensures.items in
    record {
      fields = record {
        folded = subst IsFolded (sym none) nothing_folded;
        few = rw none (omega arith);
        few_known = rw none (omega arith);
        distinct = rw none (λ i j p lt lu e. absurd (omega (arith, lt)));
        named = rw (none, c.new-3.ensures.empty) refl;
        kept = rw (none, c.new-4.ensures.items) refl;
      };
      marked = rw (none, c.new-2.ensures.items) refl;
      past = rw c.new-2.ensures.items (All-nil (λ e. e ≤ 0));
      counted = rw none (omega arith);
      within = omega arith;
      first = c.first.ensures;
    }
