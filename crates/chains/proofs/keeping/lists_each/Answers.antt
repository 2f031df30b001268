use Rattle.std.proofs.Common.{get_or, refl, sym, arith}
use Rattle.std.proofs.lemmas.Bool.{true≢false}
use Rattle.std.proofs.lemmas.Option.{slice_get-get_or}
use Rattle.chains.proofs.Lists.{refuted}
use Rattle.chains.proofs.LineElements.{at_first, lists_all, listed_at, places_more}
use Rattle.chains.proofs.keeping.lists_each.Goals as goal

pub returns-then-not-is_own : goal.returns-then-not-is_own
returns-then-not-is_own c = (
  λ e. absurd (true≢false (sym e)),
  λ h. absurd (refuted c.is_own.result c.is_own.ensures c.if-not-is_own.true
      (listed_at c.args.chains.now.accepted c.args.line.now c.loop-i.i (get_or c.args.line.now c.loop-i.i at_first) h (slice_get-get_or c.args.line.now c.loop-i.i at_first c.loop-i-test.true))),
)

pub loop-i-preserved : goal.loop-i-preserved
loop-i-preserved c = places_more c.args.chains.now.accepted c.args.line.now c.loop-i.i c.loop-i.invariant (c.is_own.ensures.0 c.if-not-is_own.false)

pub returns : goal.returns
returns c = (
  λ _. lists_all c.args.chains.now.accepted c.args.line.now c.loop-i.i (omega (arith, c.loop-i-test.false, c.loop-i.auto.i-end)) (omega (arith, c.if-line-count.false, c.count.ensures)) c.loop-i.invariant,
  λ _. refl,
)
