use Rattle.std.proofs.Common.{arith, true, subst}
use Rattle.chains.proofs.Lists.{refuted}
use Rattle.chains.specs.Processes.{Name}
use Rattle.serde_json.specs.Data.{string}
use Rattle.serde_json.specs.View.{view}
use Rattle.serde_json.specs.declared.value.Value.{Value}
use Rattle.reasons.specs.working.Reading.{AnyName}
use Rattle.reasons.proofs.InLists.{list_stands, list_fails, each_more, StandsFor}
use Rattle.reasons.proofs.shape.are_texts.Goals as goal

pub returns-then-not-is_text : goal.returns-then-not-is_text
returns-then-not-is_text c = (
  (λ yes. absurd cc),
  (λ is. absurd (list_fails Name AnyName string _ c.in-Some.list.now c.loop-name.name-index c.name-item.result c.in-Some.ensures c.loop-name-test.true
      (subst (λ (w : Value). ¬ StandsFor Name AnyName string (view w)) c.name-item.is (refuted c.is_text.result c.is_text.ensures c.if-not-is_text.true)) is)),
)

pub loop-name-preserved : goal.loop-name-preserved
loop-name-preserved c = each_more Name AnyName string c.in-Some.list.now c.loop-name.name-index c.name-item.result c.loop-name-test.true c.loop-name.invariant
    (subst (λ (w : Value). StandsFor Name AnyName string (view w)) c.name-item.is (c.is_text.ensures.0 c.if-not-is_text.false))

pub returns : goal.returns
returns c = ((λ yes. list_stands Name AnyName string _ c.in-Some.list.now c.loop-name.name-index c.in-Some.ensures (omega (arith, c.loop-name-test.false)) c.loop-name.invariant), (λ is. λ i. true))
