use Rattle.std.proofs.Common.{◌<◌, arith, length}
use Rattle.event_tree.specs.working.Walks.{filled}
use Rattle.event_tree.proofs.Closed.{ends}
use Rattle.event_tree.proofs.Places.{if_ok, written_both, halves_within}
use Rattle.event_tree.proofs.Filling.{are_filled, halves_raised, raised_fits, raised_closed}
use Rattle.event_tree.proofs.event.fill_in_copy.close_filled.Goals as goal

pub raise_owned-requires-clause-begins : goal.raise_owned-requires-clause-begins
raise_owned-requires-clause-begins c =
    let h = c.requires in
    let lt : c.args.start < length h.old = omega (arith, h.room) in
    (halves_within _ _ _ _ _ _ _ _ lt h.first_made.written h.second_made.written).0

pub raise_owned-requires-clause-within : goal.raise_owned-requires-clause-within
raise_owned-requires-clause-within c =
    let h = c.requires in
    let lt : c.args.start < length h.old = omega (arith, h.room) in
    let places = halves_within _ _ _ _ _ _ _ _ lt h.first_made.written h.second_made.written in
    omega (arith, places.1, places.2)

pub close_at-requires-clause-ends : goal.close_at-requires-clause-ends
close_at-requires-clause-ends c =
    let g = c.requires in
    let lt : c.args.start < length g.old = omega (arith, g.room) in
    let f = are_filled g.l g.r g.a g.b g.id_normal.0 g.id_normal.1 g.tree_normal.0 g.tree_normal.1 in
    let h = written_both _ _ _ _ _ _ _ _ lt g.first_made.written g.second_made.written in
    let places = halves_within _ _ _ _ _ _ _ _ lt g.first_made.written g.second_made.written in
    let is = c.raise_owned.ensures.raised g.l g.r _ _ _ _ _ g.first_made.whole g.second_made.whole h.begins h.halved places.1 places.2 f h.are in
    ends _ _ _ _ _ _ _ _ (halves_raised _ _ _ _ g.l g.r (filled g.l g.a) (filled g.r g.b) _ _ h f is)
    (raised_fits g.l g.r c.args.n g.a g.b g.id_normal.0 g.id_normal.1 (omega (arith, g.fits)))

pub close_at-requires-clause-within : goal.close_at-requires-clause-within
close_at-requires-clause-within c =
    let h = c.requires in
    let lt : c.args.start < length h.old = omega (arith, h.room) in
    omega (arith, (halves_within _ _ _ _ _ _ _ _ lt h.first_made.written h.second_made.written).2, c.raise_owned.ensures.as_long)

pub returns : goal.returns
returns c = if_ok c.close_at.result (λ stop closed g.
    let lt : c.args.start < length g.old = omega (arith, g.room) in
    let f = are_filled g.l g.r g.a g.b g.id_normal.0 g.id_normal.1 g.tree_normal.0 g.tree_normal.1 in
    let h = written_both _ _ _ _ _ _ _ _ lt g.first_made.written g.second_made.written in
    let places = halves_within _ _ _ _ _ _ _ _ lt g.first_made.written g.second_made.written in
    let is = c.raise_owned.ensures.raised g.l g.r _ _ _ _ _ g.first_made.whole g.second_made.whole h.begins h.halved places.1 places.2 f h.are in
    let done = raised_closed _ _ _ _ _ _ _ _ _ c.args.n g.l g.r _ _ lt g.first_made.written g.second_made.written f c.raise_owned.ensures.as_long is c.close_at.ensures.as_long closed in
    record {
      written = done.0;
      next = omega (arith, done.1, g.first_made.next, g.second_made.next);
    }) c.close_at.ensures.closed
