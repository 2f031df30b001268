use Rattle.std.proofs.Common.{◌≡◌, Some, refl, sym, ◌∙◌}
use Rattle.report_line.specs.View.{numbered_of}
use Rattle.chains.specs.Processes.{Name}
use Rattle.chains.specs.Elements.{name_of, stable_of}
use Rattle.chains.specs.LastRun.{same_id_from}
use Rattle.chains.proofs.LastRun.{run_there, after_check, after_others}
use Rattle.chains.proofs.chains.Chains.run_after.Goals as goal

pub returns-then-is_check : goal.returns-then-is_check
returns-then-is_check c =
    let r = numbered_of c.in-Numbered.fields in
    λ p at. after_check (stable_of p c.args.self.now.accepted) c.args.report.now r c.run_with.result c.in-Numbered.ensures (sym c.is_check.ensures ∙ c.if-is_check.true) (c.run_with.ensures p r.stamp at refl)

pub returns-else-is_check : goal.returns-else-is_check
returns-else-is_check c =
    let a = c.self.inside in
    let r = numbered_of c.in-Numbered.fields in
    let kept : (p : Name) → name_of c.args.self.now.accepted c.args.process ≡ Some p → c.index.result.now.same_id_from ≡ same_id_from (stable_of p c.args.self.now.accepted) =
    rw (← c.self.view_is) (λ p at. run_there a.reports.items a.processes.items c.args.process p c.index.result.now c.self.invariant.fields.kept at c.index.ensures) in
    λ p at. after_others (stable_of p c.args.self.now.accepted) c.args.report.now r c.index.result.now.same_id_from c.in-Numbered.ensures (sym c.is_check.ensures ∙ c.if-is_check.false) (kept p at)
