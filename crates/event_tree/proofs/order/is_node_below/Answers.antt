use Rattle.std.proofs.Common.{◌+◌, ◌∙◌, sym, ap, eq-eqb}
use Rattle.event_tree.specs.working.Tests.{is_below_from}
use Rattle.event_tree.proofs.Orders.{below_leaf, below_limit}
use Rattle.event_tree.proofs.order.is_node_below.Goals as goal

pub returns-then-y-n : goal.returns-then-y-n
returns-then-y-n c =
    eq-eqb (c.args.y + c.in-Some.n) 4294967295 c.if-y-n.true
    ∙ below_limit c.args.x c.args.e c.args.y c.in-Some.n c.requires.e_fits c.if-y-n.true
    ∙ ap (is_below_from c.args.x c.args.e c.args.y) (sym c.in-Some.ensures)

pub returns-else-y-n : goal.returns-else-y-n
returns-else-y-n c =
    c.is_at_most.ensures ∙ below_leaf c.args.x c.args.e c.args.y c.in-Some.n ∙ ap (is_below_from c.args.x c.args.e c.args.y) (sym c.in-Some.ensures)
