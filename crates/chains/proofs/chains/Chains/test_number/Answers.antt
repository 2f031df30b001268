use Rattle.std.proofs.Common.{◌≡◌, ◌≢◌, ℕ, ◌+◌, sym, ap, subst, ◌∙◌, None, Some}
use Rattle.std.specs.Prelude.{IfOk}
use Rattle.std.specs.Fmt.{decimal}
use Rattle.report_line.specs.declared.code.Code.TheVariants.{WrongNumber, NotWaiting}
use Rattle.report_line.specs.declared.report.ReportKind.{ReportKind}
use Rattle.report_line.specs.declared.report.ReportKind.TheVariants.{Absorb}
use Rattle.report_line.specs.declared.reply.Reply.TheVariants.{No}
use Rattle.report_line.specs.View.{numbered_of}
use Rattle.chains.specs.Processes.{next_number, Waits}
use Rattle.chains.specs.Held.{held_of}
use Rattle.chains.specs.Admission.{IsWaitingReply, IsStampReply}
use Rattle.chains.specs.working.Keeping.{Tests}
use Rattle.chains.proofs.LookUps.{known_from}
use Rattle.chains.proofs.Tested.{refuses, passed_on, as_own}
use Rattle.chains.proofs.Partners.{apart}
use Rattle.chains.proofs.chains.Chains.test_number.Goals as goal

pub returns-then-fields-next : goal.returns-then-fields-next
returns-then-fields-next c =
    let held = held_of c.args.self.now in
    let accepted = held.accepted in
    let front = held.front in
    let r = numbered_of c.args.fields in
    let p = r.process in
    let same : c.reports_of-next.result + 1 ≡ next_number p accepted = ap (λ (k : ℕ). k + 1) (c.reports_of-next.ensures p c.requires.place) in
    refuses (r.number ≢ next_number p accepted) (IsWaitingReply held r r.action) front c.refusal_with.result WrongNumber p (decimal (next_number p accepted)) c.number_text.result c.refusal_with.ensures
    (subst (λ (m : ℕ). IfOk c.number_text.result (λ t. t ≡ decimal m)) same c.number_text.ensures) (λ e. c.if-fields-next.true (e ∙ sym same))

pub returns-in-None : goal.returns-in-None
returns-in-None c =
    let held = held_of c.args.self.now in
    let accepted = held.accepted in
    let front = held.front in
    let r = numbered_of c.args.fields in
    let p = r.process in
    let same : c.reports_of-next.result + 1 ≡ next_number p accepted = ap (λ (k : ℕ). k + 1) (c.reports_of-next.ensures p c.requires.place) in
    passed_on (r.number ≢ next_number p accepted) (No WrongNumber (Some p) (Some (decimal (next_number p accepted)))) (IsWaitingReply held r r.action) front c.test_own.result (λ h. h (c.if-fields-next.false ∙ same))
    (as_own held r r.action c.test_own.result c.in-None.ensures c.test_own.ensures)

pub returns-in-Some-waiting : goal.returns-in-Some-waiting
returns-in-Some-waiting c =
    let held = held_of c.args.self.now in
    let accepted = held.accepted in
    let front = held.front in
    let r = numbered_of c.args.fields in
    let p = r.process in
    let retired = c.in-Some.retired.now in
    let same : c.reports_of-next.result + 1 ≡ next_number p accepted = ap (λ (k : ℕ). k + 1) (c.reports_of-next.ensures p c.requires.place) in
    passed_on (r.number ≢ next_number p accepted) (No WrongNumber (Some p) (Some (decimal (next_number p accepted)))) (IsWaitingReply held r r.action) front c.test_absorb.result (λ h. h (c.if-fields-next.false ∙ same))
    (subst (λ (a : ReportKind). Tests (IsWaitingReply held r a) front c.test_absorb.result) (sym c.in-Some.ensures)
    (passed_on (¬ Waits accepted retired p) (No NotWaiting (Some retired) None) (IsStampReply held r (Absorb retired)) front c.test_absorb.result (λ h. h c.in-Some-waiting.ensures.0) c.test_absorb.ensures))

pub test_absorb-requires-clause-apart : goal.test_absorb-requires-clause-apart
test_absorb-requires-clause-apart c =
    let accepted = c.args.self.now.accepted in
    let p = c.args.fields.process.now in
    apart accepted p c.in-Some.retired.now c.recall_lawful.ensures.folded c.recall_lawful.ensures.parts (known_from accepted c.args.place p c.requires.place) (known_from accepted c.in-Some-waiting.partner c.in-Some.retired.now c.in-Some-waiting.ensures.1) c.requires.lives c.in-Some-waiting.ensures.0
