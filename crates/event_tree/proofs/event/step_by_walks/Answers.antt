use Rattle.std.proofs.Common.{arith}
use Rattle.event_tree.proofs.Places.{if_ok, written_from_none}
use Rattle.event_tree.proofs.Filling.{here_whole, changed_of, kept_of}
use Rattle.event_tree.proofs.Steps.{filled_tells, grown_tells}
use Rattle.event_tree.proofs.event.step_by_walks.Goals as goal

pub fill_at-requires-clause-here : goal.fill_at-requires-clause-here
fill_at-requires-clause-here c = here_whole _

pub returns-in-Kept : goal.returns-in-Kept
returns-in-Kept c =
    let kept = rw c.view-view.ensures at (kept_of _ _ _ _ _ _ _ c.in_ok-fill_at.ensures c.in-Kept.is) in
    if_ok c.grown.result (λ fits told. grown_tells fits _ _ _ _ c.requires.normal c.requires.tree_normal c.view-view.ensures kept.kept told) c.grown.ensures

pub returns-in-Changed : goal.returns-in-Changed
returns-in-Changed c =
    let told = changed_of _ _ _ _ _ _ _ _ c.in_ok-fill_at.ensures c.in-Changed.is in
    let other = rw c.view-view.ensures at told.0 in
    filled_tells c.args.id.now c.args.e.now _ _ c.requires.normal c.requires.tree_normal c.view-view.ensures (λ same. other (record { kept = same; above = λ o. omega arith })) c.requires.fits (written_from_none _ _ _ _ _ told.1.written c.truncate.ensures.items)
