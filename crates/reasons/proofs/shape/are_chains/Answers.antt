use Rattle.std.proofs.Common.{arith, List, true, subst}
use Rattle.std.specs.Prelude.{All}
use Rattle.chains.proofs.Lists.{refuted}
use Rattle.serde_json.specs.View.{view}
use Rattle.serde_json.specs.declared.value.Value.{Value}
use Rattle.reasons.specs.CertificateReading.{NamedPlace, HasSmallPosition, places_data}
use Rattle.reasons.proofs.InLists.{list_stands, list_fails, each_more, StandsFor}
use Rattle.reasons.proofs.shape.are_chains.Goals as goal

pub returns-then-not-are_places : goal.returns-then-not-are_places
returns-then-not-are_places c = (
  (λ yes. absurd cc),
  (λ is. absurd (list_fails (List NamedPlace) (All HasSmallPosition) places_data _ c.in-Some.list.now c.loop-chain.chain-index c.chain-item.result c.in-Some.ensures c.loop-chain-test.true
      (subst (λ (w : Value). ¬ StandsFor (List NamedPlace) (All HasSmallPosition) places_data (view w)) c.chain-item.is (refuted c.are_places.result c.are_places.ensures c.if-not-are_places.true)) is)),
)

pub loop-chain-preserved : goal.loop-chain-preserved
loop-chain-preserved c = each_more (List NamedPlace) (All HasSmallPosition) places_data c.in-Some.list.now c.loop-chain.chain-index c.chain-item.result c.loop-chain-test.true c.loop-chain.invariant
    (subst (λ (w : Value). StandsFor (List NamedPlace) (All HasSmallPosition) places_data (view w)) c.chain-item.is (c.are_places.ensures.0 c.if-not-are_places.false))

pub returns : goal.returns
returns c = ((λ yes. list_stands (List NamedPlace) (All HasSmallPosition) places_data _ c.in-Some.list.now c.loop-chain.chain-index c.in-Some.ensures (omega (arith, c.loop-chain-test.false)) c.loop-chain.invariant), (λ is. λ i. true))
