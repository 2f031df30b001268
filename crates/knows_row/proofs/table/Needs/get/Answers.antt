use Rattle.std.proofs.Common.{ℕ, ◌≤◌, ap, subst, sym, List}
use Rattle.report_line.specs.declared.report.Report.{Report}
use Rattle.knows_row.specs.Knowing.{IsNeed, KnowsAt}
use Rattle.knows_row.specs.Needs.{NeedsTable}
use Rattle.knows_row.proofs.Looking.{need_from_last}
use Rattle.knows_row.proofs.table.Needs.get.Goals as goal

pub returns : goal.returns
returns c =
    let same = ap (λ (v : NeedsTable). v.accepted) c.self.view_is in
    subst (λ (ss : List Report). IsNeed ss c.args.place c.args.process c.last_known.result) same
    (need_from_last c.self.inside.chains.now.accepted c.args.place c.args.process c.bound-bound.result c.last_known.result
    (subst (λ (ss : List Report). (k : ℕ) → c.bound-bound.result ≤ k → ¬ KnowsAt ss c.args.place c.args.process k) (sym same) c.bound-bound.ensures) c.last_known.ensures)
