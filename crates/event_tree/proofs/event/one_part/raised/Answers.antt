use Rattle.std.proofs.Common.{arith, refl}
use Rattle.event_tree.proofs.Owned.{found, raised_there}
use Rattle.event_tree.proofs.event.one_part.raised.Goals as goal

pub overflow_add-leaf : goal.overflow_add-leaf
overflow_add-leaf c = omega (arith, (found _ _ _ c.requires.own).fits, c.requires.fits)

pub returns-then-leaf : goal.returns-then-leaf
returns-then-leaf c = omega (arith, (found _ _ _ c.requires.own).least, c.if-leaf.true)

pub overflow_add-raised : goal.overflow_add-raised
overflow_add-raised c = omega (arith, (found _ _ _ c.requires.own).fits, c.requires.fits, c.if-leaf.false)

pub put-requires : goal.put-requires
put-requires c =
    (raised_there _ _ _ _ _ _ _ _ c.requires.own c.view.ensures c.entries.ensures.are c.in_ok-out.ensures.ok c.as_mut_slice.ensures.value refl).0

pub returns : goal.returns
returns c =
    let there = raised_there _ _ _ _ _ _ _ _ c.requires.own c.view.ensures c.entries.ensures.are c.in_ok-out.ensures.ok c.as_mut_slice.ensures.value c.put.ensures in
    let own = found _ _ _ c.requires.own in
    (there.1, omega (arith, own.most, own.fits, c.requires.fits, c.if-leaf.false))
