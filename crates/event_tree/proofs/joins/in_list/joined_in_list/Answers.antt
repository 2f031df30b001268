use Rattle.std.proofs.Common.{◌++◌, ap, ◌∙◌, List}
use Rattle.event_tree.specs.working.Entries.{preorder}
use Rattle.event_tree.specs.working.Walks.{combined_from}
use Rattle.event_tree.specs.declared.layout.entries.Entry.{Entry}
use Rattle.event_tree.specs.declared.joins.Pick.TheVariants.{Greater}
use Rattle.event_tree.proofs.Preorder.{is_preorder, tree_of_preorder}
use Rattle.event_tree.proofs.joins.in_list.joined_in_list.Goals as goal

pub of-requires : goal.of-requires
of-requires c =
    let t = combined_from Greater 0 c.args.e 0 c.args.f in
    is_preorder _ t (c.fit.ensures ∙ c.in_ok-joined_onto.ensures ∙ ap (λ (es : List Entry). es ++ preorder t) c.in_ok-out.ensures.items)

pub returns : goal.returns
returns c =
    let t = combined_from Greater 0 c.args.e 0 c.args.f in
    c.of.ensures ∙ tree_of_preorder _ t (c.fit.ensures ∙ c.in_ok-joined_onto.ensures ∙ ap (λ (es : List Entry). es ++ preorder t) c.in_ok-out.ensures.items)
