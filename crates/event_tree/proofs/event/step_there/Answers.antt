use Rattle.std.proofs.Common.{refl}
use Rattle.event_tree.proofs.Places.{if_ok}
use Rattle.event_tree.proofs.Steps.{grown_tells}
use Rattle.event_tree.proofs.Owned.{found_filled, own_leaf_found, above_found, unfilled_found}
use Rattle.event_tree.proofs.event.step_there.Goals as goal

pub raised-requires-clause-own : goal.raised-requires-clause-own
raised-requires-clause-own c = own_leaf_found _ _ _ _ c.requires.own c.in-Own.is

pub returns-in-Own : goal.returns-in-Own
returns-in-Own c =
    let kept = found_filled _ _ _ c.requires.normal c.requires.tree_normal (own_leaf_found _ _ _ _ c.requires.own c.in-Own.is) in
    if_ok c.raised.result (λ fits told. grown_tells fits _ _ _ _ c.requires.normal c.requires.tree_normal refl kept told) c.raised.ensures

pub returns-in-Above : goal.returns-in-Above
returns-in-Above c =
    let told = rw c.view.ensures at c.grown.ensures in
    let kept = above_found _ _ _ c.requires.normal c.requires.tree_normal c.requires.own c.in-Above.is in
    if_ok c.grown.result (λ fits known. grown_tells fits _ _ _ _ c.requires.normal c.requires.tree_normal c.view-in-Above.ensures kept known) told

pub filled_step-requires-clause-other : goal.filled_step-requires-clause-other
filled_step-requires-clause-other c = rw c.view-in-Unfilled.ensures (unfilled_found _ _ _ c.requires.normal c.requires.tree_normal c.requires.own c.in-Unfilled.is)
