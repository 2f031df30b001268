use Rattle.std.proofs.Common.{◌≡◌, true, ◌∙◌, sym, refl, arith}
use Rattle.event_tree.specs.working.Entries.{first}
use Rattle.event_tree.specs.working.Tests.{is_below_from}
use Rattle.event_tree.proofs.Pending.{below_a_leaf, leaf_below, leaf_not_below, first_pair, left_open, left_behind, none_left, not_left}
use Rattle.event_tree.proofs.order.+are_nodes_below.Goals as goal
use Rattle.event_tree.proofs.order.+are_nodes_below.Goals.{then-one-gt1+then-other-gt1+else-open-lt16+else-not-are_nodes_below, then-one-gt1+else-other-gt1+else-not-is_first_at_most, else-one-gt1+else-bases-one}

pub loop-one-preserved-then-open-lt16 : goal.loop-one-preserved-then-open-lt16
loop-one-preserved-then-open-lt16 t c =
    left_open c.loop-one.bases c.loop-one.stack c.loop-one.open _ _ c.loop-one.ones c.loop-one.others _ _ _ _ c.loop-one.invariant (omega (arith, c.entry-one.ensures.size, c.if-one-gt1.true)) (omega (arith, c.entry-other.ensures.size, c.if-other-gt1.true)) c.if-open-lt16.true
    c.entry-one.ensures.value c.entry-other.ensures.value c.halved-ones.ensures c.halved-others.ensures

pub returns-then-not-is_first_at_most : goal.returns-then-not-is_first_at_most
returns-then-not-is_first_at_most t c =
    not_left c.loop-one.bases c.loop-one.stack c.loop-one.open c.loop-one.ones c.loop-one.others _ _ c.loop-one.invariant
    (sym (below_a_leaf c.loop-one.bases.one (first c.loop-one.ones) c.loop-one.bases.other (first c.loop-one.others) _ (omega (arith, c.entry-other.ensures.size, c.if-other-gt1.false)) c.entry-other.ensures.value) ∙ sym c.is_first_at_most.ensures ∙ c.if-not-is_first_at_most.true)

pub returns-then-bases-one : goal.returns-then-bases-one
returns-then-bases-one t c =
    not_left c.loop-one.bases c.loop-one.stack c.loop-one.open c.loop-one.ones c.loop-one.others _ _ c.loop-one.invariant
    (leaf_not_below c.loop-one.bases.one (first c.loop-one.ones) c.loop-one.bases.other (first c.loop-one.others) _ _ (omega (arith, c.entry-one.ensures.size, c.if-one-gt1.false)) c.entry-one.ensures.value c.entry-other.ensures.value
    (first_pair _ _ _ _ _ _ _ c.loop-one.invariant).normal c.if-bases-one.true)

pub returns-then-open-eq0 : goal.returns-then-open-eq0
returns-then-open-eq0 t c =
    none_left c.loop-one.bases c.loop-one.stack c.loop-one.open c.loop-one.ones c.loop-one.others _ _ c.loop-one.invariant below c.if-open-eq0.true
  where
    below : is_below_from c.loop-one.bases.one (first c.loop-one.ones) c.loop-one.bases.other (first c.loop-one.others) ≡ true
    below = elim c.if-one-gt1.branch [
      | then-one-gt1+then-other-gt1+else-open-lt16+else-not-are_nodes_below w ↦ rw (w.first.ensures, w.first-then-other-gt1.ensures) at (sym w.are_nodes_below.ensures ∙ w.if-not-are_nodes_below.false)
      | then-one-gt1+else-other-gt1+else-not-is_first_at_most w ↦ sym (below_a_leaf c.loop-one.bases.one (first c.loop-one.ones) c.loop-one.bases.other (first c.loop-one.others) _ (omega (arith, c.entry-other.ensures.size, w.if-other-gt1.false)) c.entry-other.ensures.value) ∙ sym w.is_first_at_most.ensures ∙ w.if-not-is_first_at_most.false
      | else-one-gt1+else-bases-one w ↦ leaf_below c.loop-one.bases.one (first c.loop-one.ones) c.loop-one.bases.other (first c.loop-one.others) _ _ (omega (arith, c.entry-one.ensures.size, w.if-one-gt1.false)) c.entry-one.ensures.value c.entry-other.ensures.value
          (first_pair _ _ _ _ _ _ _ c.loop-one.invariant).normal (omega (arith, w.if-bases-one.false))
    ]

pub loop-one-preserved : goal.loop-one-preserved
loop-one-preserved t c =
    left_behind c.loop-one.bases c.loop-one.stack c.loop-one.open _ c.loop-one.ones c.loop-one.others _ _ _ _ c.loop-one.invariant below c.if-open-eq0.false refl c.later-ones.ensures c.later-others.ensures
  where
    below : is_below_from c.loop-one.bases.one (first c.loop-one.ones) c.loop-one.bases.other (first c.loop-one.others) ≡ true
    below = elim c.if-one-gt1.branch [
      | then-one-gt1+then-other-gt1+else-open-lt16+else-not-are_nodes_below w ↦ rw (w.first.ensures, w.first-then-other-gt1.ensures) at (sym w.are_nodes_below.ensures ∙ w.if-not-are_nodes_below.false)
      | then-one-gt1+else-other-gt1+else-not-is_first_at_most w ↦ sym (below_a_leaf c.loop-one.bases.one (first c.loop-one.ones) c.loop-one.bases.other (first c.loop-one.others) _ (omega (arith, c.entry-other.ensures.size, w.if-other-gt1.false)) c.entry-other.ensures.value) ∙ sym w.is_first_at_most.ensures ∙ w.if-not-is_first_at_most.false
      | else-one-gt1+else-bases-one w ↦ leaf_below c.loop-one.bases.one (first c.loop-one.ones) c.loop-one.bases.other (first c.loop-one.others) _ _ (omega (arith, c.entry-one.ensures.size, w.if-one-gt1.false)) c.entry-one.ensures.value c.entry-other.ensures.value
          (first_pair _ _ _ _ _ _ _ c.loop-one.invariant).normal (omega (arith, w.if-bases-one.false))
    ]
