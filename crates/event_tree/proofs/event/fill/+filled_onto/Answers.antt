use Rattle.std.proofs.Common.{ap, arith}
use Rattle.event_tree.specs.NormalForm.{greatest}
use Rattle.event_tree.specs.working.Walks.{filled}
use Rattle.event_tree.proofs.Closed.{written_halves, middle_within, ends}
use Rattle.event_tree.proofs.Preorder.{some_size}
use Rattle.event_tree.proofs.Fills.{filled_leaf}
use Rattle.event_tree.proofs.Filling.{are_filled, halves_raised, raised_fits, filled_is}
use Rattle.event_tree.proofs.event.fill.+filled_onto.Goals as goal

pub raise_at_end-requires-clause-begins : goal.raise_at_end-requires-clause-begins
raise_at_end-requires-clause-begins t c =
    let l = c.in-Halves.l in
    let r = c.in-Halves.r in
    let a = c.in-Node.a in
    let b = c.in-Node.b in
    let h = written_halves _ _ _ _ _ (filled l a) (filled r b) _ _ c.len-start.ensures.value c.in_ok-push-in-Halves.ensures c.in_ok-one-in-Halves.ensures.filled c.len-middle.ensures.value c.in_ok-other-in-Halves.ensures.filled in
    omega (arith, h.halved, some_size (filled l a))

pub raise_at_end-requires-clause-within : goal.raise_at_end-requires-clause-within
raise_at_end-requires-clause-within t c =
    let l = c.in-Halves.l in
    let r = c.in-Halves.r in
    let a = c.in-Node.a in
    let b = c.in-Node.b in
    let h = written_halves _ _ _ _ _ (filled l a) (filled r b) _ _ c.len-start.ensures.value c.in_ok-push-in-Halves.ensures c.in_ok-one-in-Halves.ensures.filled c.len-middle.ensures.value c.in_ok-other-in-Halves.ensures.filled in
    (middle_within _ _ _ _ _ _ _ h).1

pub close-requires : goal.close-requires
close-requires t c =
    let l = c.in-Halves.l in
    let r = c.in-Halves.r in
    let a = c.in-Node.a in
    let b = c.in-Node.b in
    let h = written_halves _ _ _ _ _ (filled l a) (filled r b) _ _ c.len-start.ensures.value c.in_ok-push-in-Halves.ensures c.in_ok-one-in-Halves.ensures.filled c.len-middle.ensures.value c.in_ok-other-in-Halves.ensures.filled in
    let i = rw c.in-Halves.ensures at c.requires.normal in
    let e = rw c.in-Node.ensures at c.requires.tree_normal in
    let f = are_filled l r a b i.0 i.1 e.0 e.1 in
    let raised = halves_raised _ _ _ _ l r (filled l a) (filled r b) _ _ h f (c.raise_at_end.ensures l r _ _ _ _ c.in_ok-one-in-Halves.ensures.whole c.in_ok-other-in-Halves.ensures.whole h.begins h.halved f h.are) in
    ends _ _ _ _ _ _ _ _ raised (raised_fits l r c.in-Node.n a b i.0 i.1 (omega (arith, c.requires.fits, ap greatest c.in-Node.ensures)))

pub returns-in_ok-close-in-Halves-clause-filled : goal.returns-in_ok-close-in-Halves-clause-filled
returns-in_ok-close-in-Halves-clause-filled t c =
    let l = c.in-Halves.l in
    let r = c.in-Halves.r in
    let a = c.in-Node.a in
    let b = c.in-Node.b in
    let h = written_halves _ _ _ _ _ (filled l a) (filled r b) _ _ c.len-start.ensures.value c.in_ok-push-in-Halves.ensures c.in_ok-one-in-Halves.ensures.filled c.len-middle.ensures.value c.in_ok-other-in-Halves.ensures.filled in
    let i = rw c.in-Halves.ensures at c.requires.normal in
    let e = rw c.in-Node.ensures at c.requires.tree_normal in
    let f = are_filled l r a b i.0 i.1 e.0 e.1 in
    let raised = halves_raised _ _ _ _ l r (filled l a) (filled r b) _ _ h f (c.raise_at_end.ensures l r _ _ _ _ c.in_ok-one-in-Halves.ensures.whole c.in_ok-other-in-Halves.ensures.whole h.begins h.halved f h.are) in
    rw (c.in-Halves.ensures, c.in-Node.ensures, ← filled_is l r c.in-Node.n (filled l a) (filled r b)) (c.in_ok-close-in-Halves.ensures _ _ _ _ raised.begins raised.halved raised.are)

pub returns-in_ok-push_leaf-in-Leaf-clause-filled : goal.returns-in_ok-push_leaf-in-Leaf-clause-filled
returns-in_ok-push_leaf-in-Leaf-clause-filled t c = rw (c.in-Leaf.ensures, filled_leaf c.args.id.now c.in-Leaf.n) c.in_ok-push_leaf-in-Leaf.ensures
