use Rattle.std.proofs.Common.{◌≡◌, ◌-◌, Some, refl, sym, ◌∙◌, arith}
use Rattle.std.proofs.lemmas.Bool.{true≢false}
use Rattle.chains.specs.Processes.{Name}
use Rattle.chains.specs.Elements.{name_of, stable_of, stable_made}
use Rattle.chains.specs.LastRun.{same_id_from}
use Rattle.chains.specs.Stamps.{stamp_of}
use Rattle.chains.proofs.Keeps.{named}
use Rattle.chains.proofs.Counting.{birth_there}
use Rattle.chains.proofs.LastRun.{run_there, last_shown, run_with_same, run_with_other}
use Rattle.chains.proofs.chains.Chains.run_with.Goals as goal

pub overflow_sub-stable : goal.overflow_sub-stable
overflow_sub-stable c =
    let there = named c.args.self.now.accepted c.args.process c.requires in
    omega (arith, birth_there c.args.self.now.accepted c.args.process there.0 there.1, c.stable_count-stable.ensures.count there.0 there.1)

pub stable_report-requires-clause-within : goal.stable_report-requires-clause-within
stable_report-requires-clause-within c =
    λ p at. omega (arith, birth_there c.args.self.now.accepted c.args.process p at, c.stable_count-stable.ensures.count p at)

pub returns-then-equal : goal.returns-then-equal
returns-then-equal c =
    let a = c.self.inside in
    let accepted = c.args.self.now.accepted in
    let n = c.stable_count-stable.result in
    let last = stamp_of c.element_made-last.result in
    let kept : (p : Name) → name_of accepted c.args.process ≡ Some p → c.index.result.now.same_id_from ≡ same_id_from (stable_of p accepted) =
    rw (← c.self.view_is) (λ p at. run_there a.reports.items a.processes.items c.args.process p c.index.result.now c.self.invariant.fields.kept at c.index.ensures) in
    λ p s at same.
    let all = c.stable_count-stable.ensures.count p at in
    let some = birth_there accepted c.args.process p at in
    let shown = last_shown (stable_of p accepted) n (n - 1) (stable_made p c.stable_report.result.now) last all (omega (arith, all, some)) refl (c.stable_report.ensures.makes p at) (c.element_made-last.ensures p) in
    kept p at ∙ sym (run_with_same (stable_of p accepted) (n - 1) last s (omega (arith, all, some)) shown (c.equal.ensures.0 c.if-equal.true ∙ sym same))

pub returns-else-equal : goal.returns-else-equal
returns-else-equal c =
    let accepted = c.args.self.now.accepted in
    let n = c.stable_count-stable.result in
    let last = stamp_of c.element_made-last.result in
    λ p s at same.
    let all = c.stable_count-stable.ensures.count p at in
    let some = birth_there accepted c.args.process p at in
    let shown = last_shown (stable_of p accepted) n (n - 1) (stable_made p c.stable_report.result.now) last all (omega (arith, all, some)) refl (c.stable_report.ensures.makes p at) (c.element_made-last.ensures p) in
    all ∙ sym (run_with_other (stable_of p accepted) (n - 1) last s (omega (arith, all, some)) shown (λ e. true≢false (sym (c.equal.ensures.1 (e ∙ same)) ∙ c.if-equal.false)))
