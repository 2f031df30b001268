use Rattle.std.proofs.Common.{◌≡◌, ℕ, ◌<◌, refl, arith}
use Rattle.std.specs.Prelude.{slice_get}
use Rattle.coordinator.proofs.Openings.{same_by_get}
use Rattle.coordinator.proofs.auditing.have_same_reports.Goals as goal

pub returns : goal.returns
returns c =
    let n = c.args.a.now.front in
    let same : (j : ℕ) → j < n → (slice_get c.args.a.now.accepted j ≡ slice_get c.args.b.now.accepted j) × (slice_get c.args.a.now.epochs j ≡ slice_get c.args.b.now.epochs j) =
    λ j lt. c.loop-i.invariant j (omega (arith, lt, c.front-i-end.ensures)) in (
      λ _. (
        same_by_get n c.args.a.now.accepted c.args.b.now.accepted (omega (arith, c.recall_lawful.ensures.counted)) (omega (arith, c.recall_lawful-2.ensures.counted, c.requires)) (λ j lt. (same j lt).0),
        same_by_get n c.args.a.now.epochs c.args.b.now.epochs (omega (arith, c.recall_lawful.ensures.counted, c.recall_lawful.ensures.marked))
            (omega (arith, c.recall_lawful-2.ensures.counted, c.recall_lawful-2.ensures.marked, c.requires)) (λ j lt. (same j lt).1),
      ),
      λ _. refl,
    )
