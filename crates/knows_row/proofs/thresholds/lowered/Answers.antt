use Rattle.std.proofs.lemmas.Result.{IfOk-weaker}
use Rattle.knows_row.proofs.Thresholding.{lowered_more}
use Rattle.knows_row.proofs.thresholds.lowered.Goals as goal

pub returns : goal.returns
returns c = IfOk-weaker c.meet.result _ _ (λ t met v small.
    lowered_more v c.in_ok-own.own c.args.bound.now t c.args.events.now c.args.id.now
    (c.a_restricted_tree_bounds_what_exceeds_nowhere.ensures.exceeding c.args.id.now v c.args.events.now c.in_ok-own.own small c.in_ok-own.ensures)
    (c.a_meet_bounds_what_both_bound.ensures.exceeding v c.args.bound.now c.in_ok-own.own t met)) c.meet.ensures
