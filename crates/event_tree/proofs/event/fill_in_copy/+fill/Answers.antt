use Rattle.std.proofs.Common.{◌+◌, refl, ap, arith}
use Rattle.id_tree.specs.IdTree.{Pair}
use Rattle.event_tree.specs.Halves.{root}
use Rattle.event_tree.specs.Size.{size}
use Rattle.event_tree.proofs.Preorder.{length_preorder, some_size}
use Rattle.event_tree.proofs.Places.{if_ok}
use Rattle.event_tree.proofs.Filling.{halves_told, here_left, here_within, are_made, ended_at, kept_made, changed_of, kept_of, room_behind}
use Rattle.event_tree.proofs.event.fill_in_copy.+fill.Goals as goal

pub fill_halves-overflow_add-start : goal.fill_halves-overflow_add-start
fill_halves-overflow_add-start t c = omega (arith, here_within _ _ _ c.requires.here, length_preorder c.args.tree.now, c.requires.counted, ap size c.in-Node.ensures, some_size c.in-Node.a)

pub fill_halves-overflow_add-middle : goal.fill_halves-overflow_add-middle
fill_halves-overflow_add-middle t c = omega (arith, here_within _ _ _ c.requires.here, length_preorder c.args.tree.now, c.requires.counted, ap size c.in-Node.ensures, some_size c.in-Node.a)

pub fill_halves-overflow_add-middle-in-Kept : goal.fill_halves-overflow_add-middle-in-Kept
fill_halves-overflow_add-middle-in-Kept t c =
    omega (arith, here_within _ _ _ c.requires.here, length_preorder c.args.tree.now, c.requires.counted, ap size c.in-Node.ensures, some_size c.in-Node.b, c.entries.ensures.size)

pub fill_halves-fill_in_copy-requires-clause-room : goal.fill_halves-fill_in_copy-requires-clause-room
fill_halves-fill_in_copy-requires-clause-room t c =
    room_behind _ _ _ _ _ _ _ _ _ c.requires.here c.in-Node.ensures (changed_of _ _ _ _ _ _ _ _ c.in_ok-middle-in-Node.ensures c.in-Changed.is).1

pub fill_halves-close_in_copy-requires : goal.fill_halves-close_in_copy-requires
fill_halves-close_in_copy-requires t c =
    let within = here_within _ _ _ c.requires.here in
    are_made _ _ _ _ _ _ _ c.args.l.now c.args.r.now c.in-Node.a c.in-Node.b c.requires.normal (rw c.in-Node.ensures at c.requires.tree_normal) (rw c.in-Node.ensures at c.requires.fits) (rw c.in-Node.ensures at within)
    (ended_at _ _ _ _ _ _ _ c.end_of.ensures.stop c.end_of.ensures.whole (changed_of _ _ _ _ _ _ _ _ c.in_ok-middle-in-Node.ensures c.in-Changed.is).1)
    (rw c.end_of.ensures.stop (ended_at _ _ _ _ _ _ _ c.end_of-in-Changed.ensures.stop c.end_of-in-Changed.ensures.whole c.in_ok-stop-in-Changed.ensures))

pub fill_halves-returns-in-Kept-2 : goal.fill_halves-returns-in-Kept-2
fill_halves-returns-in-Kept-2 t c = λ k.
    let told = halves_told (Pair c.args.l.now c.args.r.now) _ _ _ k _ _ _ _ _ c.requires.normal c.requires.tree_normal refl c.in-Node.ensures c.root.ensures c.root-in-Kept.ensures in
    let first = kept_of _ _ _ _ _ _ _ c.in_ok-middle-in-Node.ensures c.in-Kept.is in
    let second = kept_of _ _ _ _ _ _ _ c.in_ok-fill_at-in-Kept.ensures c.in-Kept-2.is in
    told.0 (first, second)

pub fill_halves-close_in_copy-requires-in-Changed-2 : goal.fill_halves-close_in_copy-requires-in-Changed-2
fill_halves-close_in_copy-requires-in-Changed-2 t c =
    let within = here_within _ _ _ c.requires.here in
    let first = kept_of _ _ _ _ _ _ _ c.in_ok-middle-in-Node.ensures c.in-Kept.is in
    let second = changed_of _ _ _ _ _ _ _ _ c.in_ok-fill_at-in-Kept.ensures c.in-Changed-2.is in
    are_made _ _ _ _ _ _ _ c.args.l.now c.args.r.now c.in-Node.a c.in-Node.b c.requires.normal (rw c.in-Node.ensures at c.requires.tree_normal) (rw c.in-Node.ensures at c.requires.fits) (rw c.in-Node.ensures at within)
    (ended_at _ _ _ _ _ _ _ c.end_of-in-Changed-2.ensures.stop c.end_of-in-Changed-2.ensures.whole (kept_made _ _ _ _ _ _ (here_left _ _ _ _ _ _ c.requires.here c.in-Node.ensures) first (ap (λ k. c.args.start + 1 + k) c.entries.ensures.size)))
    (rw c.end_of-in-Changed-2.ensures.stop (ended_at _ _ _ _ _ _ _ c.end_of-in-Changed-2-2.ensures.stop c.end_of-in-Changed-2-2.ensures.whole second.1))

pub fill_halves-returns-in_ok-end-in-Changed : goal.fill_halves-returns-in_ok-end-in-Changed
fill_halves-returns-in_ok-end-in-Changed t c = λ k.
    let told = halves_told (Pair c.args.l.now c.args.r.now) _ _ _ k _ _ (root c.in-Node.a) _ _ c.requires.normal c.requires.tree_normal refl c.in-Node.ensures c.root.ensures refl in
    let within = here_within _ _ _ c.requires.here in
    let first = changed_of _ _ _ _ _ _ _ _ c.in_ok-middle-in-Node.ensures c.in-Changed.is in
    let made =
    are_made _ _ _ _ _ _ _ c.args.l.now c.args.r.now c.in-Node.a c.in-Node.b c.requires.normal (rw c.in-Node.ensures at c.requires.tree_normal) (rw c.in-Node.ensures at c.requires.fits) (rw c.in-Node.ensures at within)
    (ended_at _ _ _ _ _ _ _ c.end_of.ensures.stop c.end_of.ensures.whole first.1)
    (rw c.end_of.ensures.stop (ended_at _ _ _ _ _ _ _ c.end_of-in-Changed.ensures.stop c.end_of-in-Changed.ensures.whole c.in_ok-stop-in-Changed.ensures)) in
    (λ f. first.0 (told.1 f).0, rw c.in-Node.ensures (c.in_ok-end-in-Changed.ensures made))

pub fill_halves-returns-in_ok-end-in-Changed-2 : goal.fill_halves-returns-in_ok-end-in-Changed-2
fill_halves-returns-in_ok-end-in-Changed-2 t c = λ k.
    let told = halves_told (Pair c.args.l.now c.args.r.now) _ _ _ k _ _ _ _ _ c.requires.normal c.requires.tree_normal refl c.in-Node.ensures c.root.ensures c.root-in-Kept.ensures in
    let within = here_within _ _ _ c.requires.here in
    let first = kept_of _ _ _ _ _ _ _ c.in_ok-middle-in-Node.ensures c.in-Kept.is in
    let second = changed_of _ _ _ _ _ _ _ _ c.in_ok-fill_at-in-Kept.ensures c.in-Changed-2.is in
    let made =
    are_made _ _ _ _ _ _ _ c.args.l.now c.args.r.now c.in-Node.a c.in-Node.b c.requires.normal (rw c.in-Node.ensures at c.requires.tree_normal) (rw c.in-Node.ensures at c.requires.fits) (rw c.in-Node.ensures at within)
    (ended_at _ _ _ _ _ _ _ c.end_of-in-Changed-2.ensures.stop c.end_of-in-Changed-2.ensures.whole (kept_made _ _ _ _ _ _ (here_left _ _ _ _ _ _ c.requires.here c.in-Node.ensures) first (ap (λ k. c.args.start + 1 + k) c.entries.ensures.size)))
    (rw c.end_of-in-Changed-2.ensures.stop (ended_at _ _ _ _ _ _ _ c.end_of-in-Changed-2-2.ensures.stop c.end_of-in-Changed-2-2.ensures.whole second.1)) in
    (λ f. second.0 (told.1 f).1, rw c.in-Node.ensures (c.in_ok-end-in-Changed-2.ensures made))

pub fill_at-returns-in-None : goal.fill_at-returns-in-None
fill_at-returns-in-None t c = rw c.in-Halves.ensures (if_ok c.fill_halves.result (λ look told. told c.args.beside) c.fill_halves.ensures)
