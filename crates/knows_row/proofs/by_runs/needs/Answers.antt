use Rattle.std.proofs.Common.{◌<◌, ℕ, List, length, refl, sym, ap, subst, ◌∙◌, arith}
use Rattle.std.specs.Prelude.{All}
use Rattle.knows_row.specs.Looks.{AreBoundsOf, all_known}
use Rattle.knows_row.proofs.Lawful.{lawful}
use Rattle.knows_row.proofs.Lasts.{lasts_len, all_below, bounds_of, falls_from_past}
use Rattle.knows_row.proofs.by_runs.needs.Goals as goal

pub of-requires-clause-complete : goal.of-requires-clause-complete
of-requires-clause-complete g c = ap length (c.deref.ensures.value ∙ c.in_ok-lasts.ensures) ∙ lasts_len c.args.chains.now.accepted

pub of-requires-clause-falls : goal.of-requires-clause-falls
of-requires-clause-falls g c = falls_from_past c.args.chains.now.accepted c.deref.result.now c.deref-2.result.now (c.deref.ensures.value ∙ c.in_ok-lasts.ensures) (c.deref-2.ensures.value ∙ c.in_ok-before.ensures)

pub of-requires-clause-fell : goal.of-requires-clause-fell
of-requires-clause-fell g c =
    subst (All (λ (q : ℕ). q < length c.deref.result.now)) (sym (c.deref-3.ensures.value ∙ c.in_ok-all.ensures))
    (all_below c.args.chains.now.accepted (length c.deref.result.now) (ap length (c.deref.ensures.value ∙ c.in_ok-lasts.ensures) ∙ lasts_len c.args.chains.now.accepted))

pub look_by_runs-requires-clause-bounds : goal.look_by_runs-requires-clause-bounds
look_by_runs-requires-clause-bounds g c κs within =
    let accepted = c.args.chains.now.accepted in
    let rows = c.in_ok-thresholds.thresholds in
    subst (λ (all : List ℕ). AreBoundsOf accepted c.deref-4.result.now all rows) (sym (c.deref-5.ensures.value ∙ c.in_ok-all.ensures))
    (subst (λ (lasts : List ℕ). AreBoundsOf accepted lasts (all_known accepted) rows) (sym (c.deref-4.ensures.value ∙ c.in_ok-lasts.ensures)) (bounds_of accepted (lawful accepted c.recall_lawful.ensures.folded) c.deref.result.now c.deref-2.result.now c.deref-3.result.now rows
    (c.deref.ensures.value ∙ c.in_ok-lasts.ensures) (c.deref-2.ensures.value ∙ c.in_ok-before.ensures) (c.deref-3.ensures.value ∙ c.in_ok-all.ensures) c.in_ok-thresholds.ensures))

pub look_by_runs-requires-clause-complete : goal.look_by_runs-requires-clause-complete
look_by_runs-requires-clause-complete g c κs within =
    let lasts = c.in_ok-lasts.lasts in
    omega (arith, c.as_mut_slice.ensures.len, c.in_ok-unknown.ensures.len, c.len.ensures, ap length c.in_ok-lasts.ensures, lasts_len c.args.chains.now.accepted, lasts.ok.0)

pub returns : goal.returns
returns g c =
    let accepted = c.args.chains.now.accepted in
    record {
      of_list = refl;
      bounds = bounds_of accepted (lawful accepted c.recall_lawful.ensures.folded) c.deref.result.now c.deref-2.result.now c.deref-3.result.now c.in_ok-thresholds.thresholds
          (c.deref.ensures.value ∙ c.in_ok-lasts.ensures) (c.deref-2.ensures.value ∙ c.in_ok-before.ensures) (c.deref-3.ensures.value ∙ c.in_ok-all.ensures) c.in_ok-thresholds.ensures;
    }
