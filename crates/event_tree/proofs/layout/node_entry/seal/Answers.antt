use Rattle.std.proofs.Common.{◌∙◌, arith}
use Rattle.event_tree.proofs.Closed.{sealed}
use Rattle.event_tree.proofs.layout.node_entry.seal.Goals as goal

pub returns : goal.returns
returns c = λ front e a b h are. c.put.ensures ∙ sealed c.args.out.now.items front e a b c.args.n c.args.start c.in_ok-size.size h are (omega (arith, c.in_ok-size.ensures, c.len.ensures.value))
