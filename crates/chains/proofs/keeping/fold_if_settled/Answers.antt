use Rattle.std.proofs.Common.{◌+◌, sym, subst, ◌∙◌, List}
use Rattle.std.proofs.lemmas.Result.{on_ok_weaker}
use Rattle.report_line.specs.declared.report.Report.{Report}
use Rattle.chains.specs.Processes.{known}
use Rattle.chains.specs.Held.{held_of}
use Rattle.chains.specs.Folded.{IsFit}
use Rattle.chains.specs.working.Settling.{limits_in, IsKeptTo}
use Rattle.chains.proofs.LineReports.{kept_same, kept_more, kept_few, kept_few_known, past_at, not_folded}
use Rattle.chains.proofs.keeping.fold_if_settled.Goals as goal

pub returns-then-not-is_settled-clause-ok : goal.returns-then-not-is_settled-clause-ok
returns-then-not-is_settled-clause-ok c =
    kept_same (held_of c.args.chains.now) (limits_in (known c.args.chains.now.accepted) c.args.limits.now) c.args.i (held_of c.args.kept.now) c.is_settled.result c.recall_lawful.ensures.marked c.requires.within c.is_settled.ensures
    c.if-not-is_settled.true c.requires.kept

pub fold-requires-clause-past : goal.fold-requires-clause-past
fold-requires-clause-past c = past_at c.args.chains.now.epochs c.args.chains.now.epoch c.args.kept.now.epoch c.args.i c.in-Ok.marked.epoch c.recall_lawful.ensures.past c.in-Ok.ensures.epoch c.requires.kept.epoch

pub fold-requires-clause-at_most : goal.fold-requires-clause-at_most
fold-requires-clause-at_most c =
    kept_few (held_of c.args.chains.now) (limits_in (known c.args.chains.now.accepted) c.args.limits.now) c.args.i (held_of c.args.kept.now) c.requires.kept c.requires.within c.recall_lawful.ensures.counted c.recall_lawful.ensures.lines_at_most

pub fold-requires-clause-known_at_most : goal.fold-requires-clause-known_at_most
fold-requires-clause-known_at_most c =
    kept_few_known (held_of c.args.chains.now) (limits_in (known c.args.chains.now.accepted) c.args.limits.now) c.args.i (held_of c.args.kept.now) c.in-Ok.marked.report c.requires.kept c.in-Ok.ensures.report
    (sym (c.is_settled.ensures c.in-Ok.marked.report c.in-Ok.ensures.report) ∙ c.if-not-is_settled.false) c.recall_lawful.ensures.known_at_most

pub returns-in-Ok-clause-ok : goal.returns-in-Ok-clause-ok
returns-in-Ok-clause-ok c =
    let limits = limits_in (known c.args.chains.now.accepted) c.args.limits.now in
    on_ok_weaker c.fold.result
    (λ folded.
    subst (IsKeptTo (held_of c.args.chains.now) limits (c.args.i + 1)) (sym folded.1)
    (kept_more (held_of c.args.chains.now) limits c.args.i (held_of c.args.kept.now) c.in-Ok.marked c.recall_lawful.ensures.marked c.in-Ok.ensures.report c.in-Ok.ensures.epoch
    (sym (c.is_settled.ensures c.in-Ok.marked.report c.in-Ok.ensures.report) ∙ c.if-not-is_settled.false) c.requires.kept))
    c.fold.ensures.ok

pub returns-in-Ok-clause-unfit : goal.returns-in-Ok-clause-unfit
returns-in-Ok-clause-unfit c = λ unfit.
    not_folded (limits_in (known c.args.chains.now.accepted) c.args.limits.now) c.args.chains.now.accepted c.args.i c.in-Ok.marked.report c.in-Ok.ensures.report
    (sym (c.is_settled.ensures c.in-Ok.marked.report c.in-Ok.ensures.report) ∙ c.if-not-is_settled.false)
    (subst (λ (l : List Report). ¬ IsFit l c.in-Ok.marked.report) c.requires.kept.accepted (c.fold.ensures.unfit unfit))
