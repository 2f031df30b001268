use Rattle.std.proofs.Common.{◌≡◌, ◌≢◌, ◌<◌, ◌+◌, ℕ, inl, inr, length, sym, subst, ◌∙◌, arith}
use Rattle.std.proofs.lemmas.Bool.{cases_lt}
use Rattle.std.proofs.lemmas.List.{get_or-set_other}
use Rattle.std.proofs.lemmas.Grind.{get_or-set_at}
use Rattle.std.proofs.Math.ListN.{length-set}
use Rattle.knows_row.specs.Needs.{IsUnknownCount}
use Rattle.knows_row.proofs.by_runs.look.Goals as goal

pub overflow_add-start : goal.overflow_add-start
overflow_add-start c = omega (arith, c.requires.within, c.recall_lawful.ensures.known_at_most, c.loop-k-test.true, c.loop-k.auto.k-end, c.loop-k.invariant.0)

pub overflow_cast-start : goal.overflow_cast-start
overflow_cast-start c = omega (arith, c.requires.within, c.recall_lawful.ensures.known_at_most, c.loop-k-test.true, c.loop-k.auto.k-end, c.loop-k.invariant.0)

pub loop-k-preserved : goal.loop-k-preserved
loop-k-preserved c =
    let accepted = c.args.chains.now.accepted in
    let slots = c.loop-k.slots in
    let at = c.loop-k.k in
    let kin : at < length slots = omega (arith, c.loop-k-test.true, c.loop-k.auto.k-end, c.loop-k.invariant.0) in (
      length-set slots at c.unknown_to.result ∙ c.loop-k.invariant.0,
      λ k lt. elim (cases_lt k at) [
        | inl below ↦
            let apart : k ≢ at = λ e. absurd (omega (arith, e, below)) in
            subst (IsUnknownCount accepted (c.args.start + k)) (sym (get_or-set_other slots at k c.unknown_to.result 0 apart)) (c.loop-k.invariant.1 k below)
        | inr past ↦
            let e : k ≡ at = omega (arith, lt, past) in
            subst (IsUnknownCount accepted (c.args.start + k)) (sym (get_or-set_at slots at k c.unknown_to.result 0 e kin))
            (subst (λ (j : ℕ). IsUnknownCount accepted (c.args.start + j) c.unknown_to.result) (sym e) c.unknown_to.ensures)
      ],
    )
