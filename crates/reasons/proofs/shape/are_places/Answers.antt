use Rattle.std.proofs.Common.{arith, true, subst}
use Rattle.chains.proofs.Lists.{refuted}
use Rattle.serde_json.specs.View.{view}
use Rattle.serde_json.specs.declared.value.Value.{Value}
use Rattle.reasons.specs.CertificateReading.{NamedPlace, HasSmallPosition, place_data}
use Rattle.reasons.proofs.InLists.{list_stands, list_fails, each_more, StandsFor}
use Rattle.reasons.proofs.shape.are_places.Goals as goal

pub returns-then-not-is_place : goal.returns-then-not-is_place
returns-then-not-is_place c = (
  (λ yes. absurd cc),
  (λ is. absurd (list_fails NamedPlace HasSmallPosition place_data _ c.in-Some.list.now c.loop-place.place-index c.place-item.result c.in-Some.ensures c.loop-place-test.true
      (subst (λ (w : Value). ¬ StandsFor NamedPlace HasSmallPosition place_data (view w)) c.place-item.is (refuted c.is_place.result c.is_place.ensures c.if-not-is_place.true)) is)),
)

pub loop-place-preserved : goal.loop-place-preserved
loop-place-preserved c = each_more NamedPlace HasSmallPosition place_data c.in-Some.list.now c.loop-place.place-index c.place-item.result c.loop-place-test.true c.loop-place.invariant
    (subst (λ (w : Value). StandsFor NamedPlace HasSmallPosition place_data (view w)) c.place-item.is (c.is_place.ensures.0 c.if-not-is_place.false))

pub returns : goal.returns
returns c = ((λ yes. list_stands NamedPlace HasSmallPosition place_data _ c.in-Some.list.now c.loop-place.place-index c.in-Some.ensures (omega (arith, c.loop-place-test.false)) c.loop-place.invariant), (λ is. λ i. true))
