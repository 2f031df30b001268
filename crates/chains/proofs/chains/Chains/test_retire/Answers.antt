use Rattle.std.proofs.Common.{◌≡◌, ◌⊎◌, inl, inr, sym, subst, ◌∙◌, None, Some}
use Rattle.std.proofs.lemmas.Bool.{true≢false}
use Rattle.std.proofs.lemmas.Slice.Eq.{bytes_eq-Decides}
use Rattle.report_line.specs.declared.code.Code.TheVariants.{WrongTarget}
use Rattle.report_line.specs.View.{numbered_of}
use Rattle.report_line.specs.declared.report.Report.{Report}
use Rattle.report_line.specs.declared.report.Report.TheVariants.{Numbered}
use Rattle.report_line.specs.declared.reply.Reply.TheVariants.{No}
use Rattle.chains.specs.Processes.{IsKnown}
use Rattle.chains.specs.Held.{held_of}
use Rattle.chains.specs.Admission.{FitsOrNot}
use Rattle.chains.specs.working.Keeping.{Tests}
use Rattle.chains.proofs.LookUps.{known_from}
use Rattle.chains.proofs.Tested.{passed_on}
use Rattle.chains.proofs.chains.Chains.test_retire.Goals as goal

pub returns-in-Some : goal.returns-in-Some
returns-in-Some c =
    let held = held_of c.args.self.now in
    let accepted = held.accepted in
    let front = held.front in
    let r = numbered_of c.args.fields in
    let target = c.args.target.now in
    let tested = subst (λ (x : Report). Tests (FitsOrNot held x) front c.test_room.result) c.requires c.test_room.ensures in
    passed_on ((target ≡ r.process) ⊎ (¬ IsKnown accepted target)) (No WrongTarget (Some target) None) (FitsOrNot held (Numbered r)) front c.test_room.result
    (λ h. elim h [
      | inl e ↦ true≢false (sym ((bytes_eq-Decides c.as_bytes.result.now c.as_bytes-2.result.now).1 (c.as_bytes.ensures.value ∙ e ∙ sym c.as_bytes-2.ensures.value)) ∙ sym c.if-eq.ensures)
      | inr unknown ↦ unknown (known_from accepted c.in-Some.field-0 target c.in-Some.ensures)
    ]) tested
