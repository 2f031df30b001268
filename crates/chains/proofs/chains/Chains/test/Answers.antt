use Rattle.std.proofs.Common.{◌≡◌, ℕ, sym, subst, [], Option, None, Some}
use Rattle.std.proofs.lemmas.Bool.{both_ways}
use Rattle.report_line.specs.declared.code.Code.TheVariants.{NothingBegun, UnknownProcess}
use Rattle.report_line.specs.declared.report.Report.{Report}
use Rattle.report_line.specs.declared.reply.Reply.TheVariants.{No}
use Rattle.report_line.specs.View.{numbered_of}
use Rattle.chains.specs.Processes.{IsKnown}
use Rattle.chains.specs.Held.{held_of}
use Rattle.chains.specs.Admission.{Decides, IsNumberedReply, IsReportReply}
use Rattle.chains.specs.working.Keeping.{Tests}
use Rattle.chains.specs.working.Testing.{IsNumberIn, IsPlaceOf}
use Rattle.chains.proofs.LookUps.{known_from}
use Rattle.chains.proofs.Tested.{passed_on, refuses_first}
use Rattle.chains.proofs.chains.Chains.test.Goals as goal

pub returns-then-is_empty : goal.returns-then-is_empty
returns-then-is_empty c =
    refuses_first (held_of c.args.self.now) c.args.epoch c.args.report.now (numbered_of c.in-Numbered.fields) c.in-Numbered.ensures (c.is_empty.ensures.0 c.if-is_empty.true)

pub returns-in-Some : goal.returns-in-Some
returns-in-Some c =
    let held = held_of c.args.self.now in
    let accepted = held.accepted in
    let front = held.front in
    let r = numbered_of c.in-Numbered.fields in
    let later = IsNumberedReply held c.args.epoch r in
    let result = c.test_numbered.result in
    let is = c.in-Numbered.ensures in
    let number = subst (λ (x : Report). IsNumberIn accepted x c.args.number) is c.requires in
    let place = subst (λ (o : Option ℕ). IsPlaceOf accepted r.process o) c.in-Some.is number in
    subst (λ (x : Report). Tests (IsReportReply held c.args.epoch x) front result) (sym is)
    (passed_on (accepted ≡ []) (No NothingBegun None None) (λ a. Decides (¬ IsKnown accepted r.process) (No UnknownProcess (Some r.process) None) a (later a)) front result (λ e. both_ways c.is_empty.result c.if-is_empty.false (c.is_empty.ensures.1 e))
    (passed_on (¬ IsKnown accepted r.process) (No UnknownProcess (Some r.process) None) later front result (λ h. h (known_from accepted c.in-Some.place r.process place)) c.test_numbered.ensures))
