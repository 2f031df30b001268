use Rattle.std.proofs.Common.{◌∙◌}
use Rattle.event_tree.proofs.Preorder.{is_preorder, tree_of_preorder}
use Rattle.event_tree.proofs.joins.copied.Goals as goal

pub of-requires : goal.of-requires
of-requires c = is_preorder _ c.args.e (c.in_ok-out.ensures.ok ∙ c.entries.ensures.are)

pub returns : goal.returns
returns c = c.of.ensures ∙ tree_of_preorder _ c.args.e (c.in_ok-out.ensures.ok ∙ c.entries.ensures.are)
