use Rattle.std.proofs.Common.{◌+◌, sym, subst, ◌∙◌, List}
use Rattle.std.proofs.lemmas.Result.{on_ok_weaker}
use Rattle.report_line.specs.declared.report.Report.{Report}
use Rattle.chains.specs.Processes.{known}
use Rattle.chains.specs.Held.{held_of}
use Rattle.chains.specs.Folded.{IsFit}
use Rattle.chains.specs.working.Settling.{limits_in, IsKeptTo}
use Rattle.chains.proofs.LineReports.{kept_same, kept_more, kept_few, kept_few_known, past_at, fits_folded}
use Rattle.chains.proofs.keeping.fold_fit_if_settled.Goals as goal

pub returns-then-not-is_settled : goal.returns-then-not-is_settled
returns-then-not-is_settled c =
    kept_same (held_of c.args.chains.now) (limits_in (known c.args.chains.now.accepted) c.args.limits.now) c.args.i (held_of c.args.kept.now) c.is_settled.result c.recall_lawful.ensures.marked c.requires.within c.is_settled.ensures
    c.if-not-is_settled.true c.requires.kept

pub fold_fit-requires-clause-fit : goal.fold_fit-requires-clause-fit
fold_fit-requires-clause-fit c =
    subst (λ (l : List Report). IsFit l c.in_ok-marked.marked.report) (sym c.requires.kept.accepted)
    (fits_folded (limits_in (known c.args.chains.now.accepted) c.args.limits.now) c.args.chains.now.accepted c.args.i c.in_ok-marked.marked.report c.in_ok-marked.ensures.report
    (sym (c.is_settled.ensures c.in_ok-marked.marked.report c.in_ok-marked.ensures.report) ∙ c.if-not-is_settled.false) c.requires.folded)

pub fold_fit-requires-clause-past : goal.fold_fit-requires-clause-past
fold_fit-requires-clause-past c = past_at c.args.chains.now.epochs c.args.chains.now.epoch c.args.kept.now.epoch c.args.i c.in_ok-marked.marked.epoch c.recall_lawful.ensures.past c.in_ok-marked.ensures.epoch c.requires.kept.epoch

pub fold_fit-requires-clause-at_most : goal.fold_fit-requires-clause-at_most
fold_fit-requires-clause-at_most c =
    kept_few (held_of c.args.chains.now) (limits_in (known c.args.chains.now.accepted) c.args.limits.now) c.args.i (held_of c.args.kept.now) c.requires.kept c.requires.within c.recall_lawful.ensures.counted c.recall_lawful.ensures.lines_at_most

pub fold_fit-requires-clause-known_at_most : goal.fold_fit-requires-clause-known_at_most
fold_fit-requires-clause-known_at_most c =
    kept_few_known (held_of c.args.chains.now) (limits_in (known c.args.chains.now.accepted) c.args.limits.now) c.args.i (held_of c.args.kept.now) c.in_ok-marked.marked.report c.requires.kept c.in_ok-marked.ensures.report
    (sym (c.is_settled.ensures c.in_ok-marked.marked.report c.in_ok-marked.ensures.report) ∙ c.if-not-is_settled.false) c.recall_lawful.ensures.known_at_most

pub returns : goal.returns
returns c =
    let limits = limits_in (known c.args.chains.now.accepted) c.args.limits.now in
    on_ok_weaker c.fold_fit.result
    (λ folded.
    subst (IsKeptTo (held_of c.args.chains.now) limits (c.args.i + 1)) (sym folded)
    (kept_more (held_of c.args.chains.now) limits c.args.i (held_of c.args.kept.now) c.in_ok-marked.marked c.recall_lawful.ensures.marked c.in_ok-marked.ensures.report c.in_ok-marked.ensures.epoch
    (sym (c.is_settled.ensures c.in_ok-marked.marked.report c.in_ok-marked.ensures.report) ∙ c.if-not-is_settled.false) c.requires.kept))
    c.fold_fit.ensures
