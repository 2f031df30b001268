use Rattle.std.proofs.Common.{sym, ◌∙◌, refl, arith}
use Rattle.std.proofs.lemmas.Bool.{true≢false}
use Rattle.chains.specs.Stamps.{stamp_of}
use Rattle.knows_row.proofs.Repeated.{beyond_there, looked_same, looked_more, looked_run, looked_absent}
use Rattle.knows_row.proofs.is_beyond_from.Goals as goal

pub loop-before-preserved-then-equal : goal.loop-before-preserved-then-equal
loop-before-preserved-then-equal c =
    let here = c.loop-before.invariant in
    (omega (arith, here.0), looked_same _ _ _ _ _ (stamp_of c.in-Some-get.later) c.requires here.1 here.0 (sym c.in-Some-get.ensures) (c.equal.ensures.0 c.if-equal.true))

pub returns-then-exceeds_on-2 : goal.returns-then-exceeds_on-2
returns-then-exceeds_on-2 c =
    let here = c.loop-before.invariant in (
      λ yes. beyond_there _ _ _ c.loop-before.before (stamp_of c.in-Some-get.later) (omega (arith, here.0)) (sym c.in-Some-get.ensures) (c.exceeds_on-in-loop-before.ensures.0 c.if-exceeds_on-2.true),
      λ beyond. refl,
    )

pub loop-before-preserved : goal.loop-before-preserved
loop-before-preserved c =
    let here = c.loop-before.invariant in (
      omega (arith, here.0),
      looked_more _ _ _ _ _ (stamp_of c.in-Some-get.later) here.1 (sym c.in-Some-get.ensures) (λ exceeds. true≢false (sym (c.exceeds_on-in-loop-before.ensures.1 exceeds) ∙ c.if-exceeds_on-2.false)),
    )

pub returns : goal.returns
returns c = (
  λ yes. absurd (true≢false (sym yes)),
  λ beyond. absurd (looked_run _ _ _ _ _ c.requires c.loop-before.invariant.1 c.loop-before.invariant.0 (omega (arith, c.loop-before-test.false, c.same_id_from-end.ensures.run)) beyond),
)

pub returns-in_default-get : goal.returns-in_default-get
returns-in_default-get c = (
  λ yes. absurd (true≢false (sym yes)),
  λ beyond. absurd (looked_absent _ _ _ _ _ c.loop-before.invariant.1 (sym c.in_default-get.ensures) beyond),
)
