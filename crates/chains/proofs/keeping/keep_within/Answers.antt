use Rattle.std.proofs.Common.{◌∙◌}
use Rattle.chains.specs.Processes.{known}
use Rattle.chains.specs.Positions.{positions_of}
use Rattle.chains.specs.Held.{held_of}
use Rattle.chains.specs.working.Settling.{limits_in}
use Rattle.chains.proofs.Lists.{refuted}
use Rattle.chains.proofs.LineReports.{kept_counted, kept_all}
use Rattle.chains.proofs.LineKept.{kept_is, cannot_have, can_be_kept}
use Rattle.chains.proofs.keeping.keep_within.Goals as goal

pub returns-then-not-have_elements-clause-unfit : goal.returns-then-not-have_elements-clause-unfit
returns-then-not-have_elements-clause-unfit c = λ _.
    cannot_have c.args.chains.now.accepted c.fold_settled.new.kept.accepted c.args.line.now
    (kept_is (held_of c.args.chains.now) c.args.limits.now (held_of c.fold_settled.new.kept) c.args.line.now c.requires.limits c.in_ok-fold_settled.ensures.ok)
    (refuted c.have_elements.result c.have_elements.ensures c.if-not-have_elements.true)

pub count_from-requires-clause-counted : goal.count_from-requires-clause-counted
count_from-requires-clause-counted c =
    kept_counted (held_of c.args.chains.now) (limits_in (known c.args.chains.now.accepted) c.args.limits.now) (held_of c.fold_settled.new.kept) c.front.result c.epoch.result c.in_ok-fold_settled.ensures.ok c.recall_lawful.ensures.counted
    c.front.ensures c.epoch.ensures

pub returns-clause-ok : goal.returns-clause-ok
returns-clause-ok c = (
  can_be_kept c.args.chains.now.accepted c.fold_settled.new.kept.accepted c.args.line.now c.requires.line
      (kept_is (held_of c.args.chains.now) c.args.limits.now (held_of c.fold_settled.new.kept) c.args.line.now c.requires.limits c.in_ok-fold_settled.ensures.ok) c.recall_lawful-2.ensures.folded
      (c.have_elements.ensures.0 c.if-not-have_elements.false),
  (rw (c.front.ensures, c.epoch.ensures) at c.count_from.ensures)
      ∙ kept_all c.args.chains.now c.fold_settled.new.kept (positions_of c.args.line.now) (limits_in (known c.args.chains.now.accepted) c.args.limits.now) c.requires.limits.each c.recall_lawful.ensures.marked c.in_ok-fold_settled.ensures.ok,
)
