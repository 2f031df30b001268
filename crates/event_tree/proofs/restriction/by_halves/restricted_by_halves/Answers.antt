use Rattle.std.proofs.Common.{◌++◌, ap, ◌∙◌, List}
use Rattle.event_tree.specs.working.Entries.{preorder}
use Rattle.event_tree.specs.working.Walks.{restricted_from}
use Rattle.event_tree.specs.declared.layout.entries.Entry.{Entry}
use Rattle.event_tree.proofs.Preorder.{is_preorder, tree_of_preorder}
use Rattle.event_tree.proofs.restriction.by_halves.restricted_by_halves.Goals as goal

pub of-requires : goal.of-requires
of-requires c =
    let t = restricted_from c.args.id 0 c.args.e in
    is_preorder _ t (c.leave_room.ensures ∙ c.in_ok-restricted_into.ensures ∙ ap (λ (es : List Entry). es ++ preorder t) c.in_ok-out.ensures.items)

pub returns : goal.returns
returns c =
    let t = restricted_from c.args.id 0 c.args.e in
    c.of.ensures ∙ tree_of_preorder _ t (c.leave_room.ensures ∙ c.in_ok-restricted_into.ensures ∙ ap (λ (es : List Entry). es ++ preorder t) c.in_ok-out.ensures.items)
