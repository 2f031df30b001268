use Rattle.std.proofs.Common.{arith, refl, ◌∙◌}
use Rattle.event_tree.proofs.Preorder.{halves_of, parted, size_within, cut_whole}
use Rattle.event_tree.proofs.layout.view.EventView.part.Goals as goal

pub split_at-requires-2 : goal.split_at-requires-2
split_at-requires-2 c = size_within _ _ _ _ (halves_of _ _ _ c.self.invariant.are (omega arith) c.split_at.ensures.back) refl

pub bounds-rest-0 : goal.bounds-rest-0
bounds-rest-0 c =
    let halves = parted _ _ _ _ _ _ (halves_of _ _ _ c.self.invariant.are (omega arith) c.split_at.ensures.back) refl c.split_at-2.ensures.front c.split_at-2.ensures.back in
    (cut_whole _ _ halves.right_is refl).some

pub split_at-requires-3 : goal.split_at-requires-3
split_at-requires-3 c =
    let halves = parted _ _ _ _ _ _ (halves_of _ _ _ c.self.invariant.are (omega arith) c.split_at.ensures.back) refl c.split_at-2.ensures.front c.split_at-2.ensures.back in
    (cut_whole _ _ halves.right_is refl).within

pub invariant_of-result : goal.invariant_of-result
invariant_of-result c = (parted _ _ _ _ _ _ (halves_of _ _ _ c.self.invariant.are (omega arith) c.split_at.ensures.back) refl c.split_at-2.ensures.front c.split_at-2.ensures.back).left_is

pub invariant_of-result-2 : goal.invariant_of-result-2
invariant_of-result-2 c =
    let halves = parted _ _ _ _ _ _ (halves_of _ _ _ c.self.invariant.are (omega arith) c.split_at.ensures.back) refl c.split_at-2.ensures.front c.split_at-2.ensures.back in
    rw (c.split_at-3.ensures.front ∙ (cut_whole _ _ halves.right_is refl).whole) halves.right_is

pub returns : goal.returns
returns c =
    let halves = parted _ _ _ _ _ _ (halves_of _ _ _ c.self.invariant.are (omega arith) c.split_at.ensures.back) refl c.split_at-2.ensures.front c.split_at-2.ensures.back in
    rw (← c.self.view_is, c.split_at-3.ensures.front ∙ (cut_whole _ _ halves.right_is refl).whole) halves.node
