use Rattle.std.proofs.Common.{◌≡◌, ◌≤◌, Some, refl, sym, ◌∙◌, arith}
use Rattle.std.specs.Prelude.{option_copied}
use Rattle.chains.specs.Processes.{Name}
use Rattle.chains.specs.Elements.{name_of, stable_of, elements_of}
use Rattle.chains.specs.LastRun.{same_id_from}
use Rattle.chains.specs.Admission.{report_limit}
use Rattle.chains.specs.Stamps.{stamp_of}
use Rattle.chains.proofs.Keeps.{named}
use Rattle.chains.proofs.Counting.{one_present}
use Rattle.chains.proofs.LastRun.{run_there, run_stable, run_present, few_run}
use Rattle.chains.proofs.chains.Chains.same_id_from.Goals as goal

pub returns-in-None-clause-run : goal.returns-in-None-clause-run
returns-in-None-clause-run c =
    let a = c.self.inside in
    let accepted = c.args.self.now.accepted in
    let kept : (p : Name) → name_of accepted c.args.process ≡ Some p → c.index.result.now.same_id_from ≡ same_id_from (stable_of p accepted) =
    rw (← c.self.view_is) (λ p at. run_there a.reports.items a.processes.items c.args.process p c.index.result.now c.self.invariant.fields.kept at c.index.ensures) in
    λ p at. kept p at ∙ sym (run_stable p accepted (option_copied c.last_report.result) (c.last_report.ensures p at) c.in-None.ensures)

pub returns-in-None-clause-at_most : goal.returns-in-None-clause-at_most
returns-in-None-clause-at_most c =
    let a = c.self.inside in
    let there = named c.args.self.now.accepted c.args.process c.requires in
    let few : (p : Name) → same_id_from (elements_of p c.args.self.now.accepted) ≤ report_limit = rw (← c.self.view_is) (few_run a.reports.items c.self.invariant.fields.few) in
    omega (arith, few there.0, returns-in-None-clause-run c there.0 there.1)

pub returns-in-Some-clause-run : goal.returns-in-Some-clause-run
returns-in-Some-clause-run c =
    let accepted = c.args.self.now.accepted in
    let s = stamp_of c.in-Some.present in
    λ p at. c.run_with.ensures p s at refl ∙ sym (run_present p accepted (option_copied c.last_report.result) s (c.last_report.ensures p at) (one_present (option_copied c.last_report.result)) c.in-Some.ensures)

pub returns-in-Some-clause-at_most : goal.returns-in-Some-clause-at_most
returns-in-Some-clause-at_most c =
    let a = c.self.inside in
    let there = named c.args.self.now.accepted c.args.process c.requires in
    let few : (p : Name) → same_id_from (elements_of p c.args.self.now.accepted) ≤ report_limit = rw (← c.self.view_is) (few_run a.reports.items c.self.invariant.fields.few) in
    omega (arith, few there.0, returns-in-Some-clause-run c there.0 there.1)
