use Rattle.std.proofs.Common.{◌+◌, arith}
use Rattle.event_tree.specs.working.Walks.{restricted_from}
use Rattle.event_tree.proofs.Restrictions.{halves_within, greatest_restricted, restricted_halves}
use Rattle.event_tree.proofs.Closed.{written_halves, ends, closes_ok}
use Rattle.event_tree.proofs.restriction.by_halves.+restricted.Goals as goal

pub restricted_in_halves-close-requires : goal.restricted_in_halves-close-requires
restricted_in_halves-close-requires t c =
    let n = c.halves-n.result.0 in
    let a = c.halves-n.result.1 in
    let b = c.halves-n.result.2 in
    let within = halves_within c.args.e n a b c.halves-n.ensures.base c.halves-n.ensures.left c.halves-n.ensures.right in
    ends _ _ _ (restricted_from c.args.l (c.args.x + n) a) (restricted_from c.args.r (c.args.x + n) b) _ _ 0
    (written_halves _ _ _ _ _ _ _ _ _ c.len-start.ensures.value c.in_ok-push.ensures c.in_ok-restricted_into.ensures c.len-middle.ensures.value c.in_ok-restricted_into-2.ensures)
    (omega (arith, greatest_restricted c.args.l (c.args.x + n) a (omega (arith, within, c.requires)), greatest_restricted c.args.r (c.args.x + n) b (omega (arith, within, c.requires))))

pub restricted_in_halves-returns : goal.restricted_in_halves-returns
restricted_in_halves-returns t c =
    let n = c.halves-n.result.0 in
    let a = c.halves-n.result.1 in
    let b = c.halves-n.result.2 in
    rw (restricted_halves c.args.l c.args.r c.args.x c.args.e n a b c.halves-n.ensures.base c.halves-n.ensures.left c.halves-n.ensures.right)
    (closes_ok c.close.result _ _ _ _ (restricted_from c.args.l (c.args.x + n) a) (restricted_from c.args.r (c.args.x + n) b) 0 _ _
    (written_halves _ _ _ _ _ _ _ _ _ c.len-start.ensures.value c.in_ok-push.ensures c.in_ok-restricted_into.ensures c.len-middle.ensures.value c.in_ok-restricted_into-2.ensures)
    c.close.ensures)
