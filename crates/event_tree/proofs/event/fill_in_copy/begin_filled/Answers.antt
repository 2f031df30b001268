use Rattle.std.proofs.Common.{ap, ◌∙◌, arith, length}
use Rattle.event_tree.specs.working.Entries.{preorder}
use Rattle.event_tree.proofs.Preorder.{some_size}
use Rattle.event_tree.proofs.Filling.{here_within, begun}
use Rattle.event_tree.proofs.event.fill_in_copy.begin_filled.Goals as goal

pub put_leaf-requires : goal.put_leaf-requires
put_leaf-requires c =
    omega (arith, here_within _ _ _ c.requires.here, some_size c.args.e.now, ap length (c.as_mut_slice.ensures.value ∙ c.in_ok-out.ensures.ok ∙ c.entries.ensures.are))

pub returns : goal.returns
returns c =
    begun c.args.e.now (preorder c.args.tree.now) c.in_ok-out.field-0.items _ _ _ _ _ (c.in_ok-out.ensures.ok ∙ c.entries.ensures.are) c.as_mut_slice.ensures.value c.greatest_of.ensures c.put_leaf.ensures.written c.put_leaf.ensures.next
