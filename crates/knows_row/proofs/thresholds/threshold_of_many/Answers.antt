use Rattle.std.proofs.Common.{◌≡◌, ◌+◌, ◌≤◌, ◌↔◌, ◌⊎◌, List, subst, arith}
use Rattle.event_tree.specs.EventTree.{EventTree}
use Rattle.event_tree.specs.NormalForm.{greatest, value_limit}
use Rattle.stamp.specs.declared.stamp.Stamp.{Stamp}
use Rattle.chains.specs.LastRun.{same_id_from}
use Rattle.knows_row.specs.working.Beyond.{IsBeyondAt, AddsNothing}
use Rattle.knows_row.specs.Thresholds.{Passes}
use Rattle.knows_row.proofs.Thresholding.{threshold_one, threshold_more, threshold_same, threshold_run, elements_are_rising}
use Rattle.knows_row.proofs.thresholds.threshold_of_many.Goals as goal

pub loop-k-init : goal.loop-k-init
loop-k-init c =
    let t = c.in_ok-bound.bound in (
      omega arith,
      omega (arith, c.requires.order),
      threshold_one c.args.chains.now.accepted c.args.process c.args.from (c.args.from + 1) t (omega arith)
          (subst (λ (ss : List Stamp). (v : EventTree) → greatest v ≤ value_limit → Passes v t ↔ IsBeyondAt v ss c.args.from) c.elements-elements.ensures c.in_ok-bound.ensures),
    )

pub adds_nothing-requires : goal.adds_nothing-requires
adds_nothing-requires c =
    rw c.elements-elements.ensures (elements_are_rising c.args.chains.now.accepted c.args.process c.recall_lawful.ensures.folded)

pub loop-k-preserved-then-adds_nothing : goal.loop-k-preserved-then-adds_nothing
loop-k-preserved-then-adds_nothing c =
    let from = c.loop-k.invariant.0 in (
      omega (arith, from),
      omega (arith, c.loop-k-test.true),
      threshold_same c.args.chains.now.accepted c.args.process c.args.from c.loop-k.k c.loop-k.bound from
          (subst (λ (ss : List Stamp). AddsNothing ss c.loop-k.k) c.elements-elements.ensures (c.adds_nothing.ensures c.if-adds_nothing.true)) c.loop-k.invariant.2,
    )

pub loop-k-preserved : goal.loop-k-preserved
loop-k-preserved c =
    let t = c.in_ok-bound-2.bound in
    let from = c.loop-k.invariant.0 in (
      omega (arith, from),
      omega (arith, c.loop-k-test.true),
      threshold_more c.args.chains.now.accepted c.args.process c.args.from c.loop-k.k c.loop-k.bound t (omega (arith, from)) c.loop-k.invariant.2
          (subst (λ (ss : List Stamp). (v : EventTree) → greatest v ≤ value_limit → Passes v t ↔ (Passes v c.loop-k.bound ⊎ IsBeyondAt v ss c.loop-k.k)) c.elements-elements.ensures c.in_ok-bound-2.ensures),
    )

pub returns : goal.returns
returns c =
    let run = subst (λ (ss : List Stamp). c.same_id_from.result ≡ same_id_from ss) c.elements-elements.ensures c.same_id_from.ensures.run in
    threshold_run c.args.chains.now.accepted c.args.process c.args.from c.loop-k.k c.args.to c.loop-k.bound (elements_are_rising c.args.chains.now.accepted c.args.process c.recall_lawful.ensures.folded) c.loop-k.invariant.0 c.loop-k.invariant.1
    (λ before. omega (arith, c.loop-k-test.false, before, run)) c.loop-k.invariant.2
