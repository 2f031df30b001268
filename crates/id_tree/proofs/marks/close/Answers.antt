use Rattle.std.proofs.Common.{arith}
use Rattle.id_tree.proofs.Closing.{closes}
use Rattle.id_tree.proofs.marks.close.Goals as goal

pub returns-then-is_same : goal.returns-then-is_same
returns-then-is_same c = λ front l r n e.
    let same = c.is_same.ensures.0 c.if-is_same.true in
    closes _ front _ c.args.start l r (record { begins = n; are = e }) (omega arith) (cc) (cc)
