use Rattle.std.proofs.Common.{◌∙◌}
use Rattle.chains.specs.Processes.{known}
use Rattle.chains.specs.Positions.{positions_of}
use Rattle.chains.specs.Held.{held_of}
use Rattle.chains.specs.working.Settling.{limits_in}
use Rattle.chains.proofs.LineReports.{kept_counted, kept_all}
use Rattle.chains.proofs.chains.Chains.keep_fit.Goals as goal

pub count_from-requires-2-clause-counted : goal.count_from-requires-2-clause-counted
count_from-requires-2-clause-counted c =
    kept_counted (held_of c.args.self.now) (limits_in (known c.args.self.now.accepted) c.in_ok-limits.limits.items) (held_of c.fold_fit_settled.new.kept) c.front.result c.epoch-3.result
    (rw c.deref.ensures.value at c.in_ok-fold_fit_settled.ensures) c.recall_lawful.ensures.counted c.front.ensures c.epoch-3.ensures

pub returns : goal.returns
returns c =
    (rw (c.front.ensures, c.epoch-3.ensures) at c.count_from-2.ensures)
    ∙ kept_all c.args.self.now c.fold_fit_settled.new.kept (positions_of c.args.line.now) (limits_in (known c.args.self.now.accepted) c.in_ok-limits.limits.items)
    (rw c.as_slice.ensures at c.in_ok-limits.ensures).each c.recall_lawful.ensures.marked (rw c.deref.ensures.value at c.in_ok-fold_fit_settled.ensures)
