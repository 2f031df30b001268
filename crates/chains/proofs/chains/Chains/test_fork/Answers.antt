use Rattle.std.proofs.Common.{◌≡◌, sym, subst, None, Some, Err}
use Rattle.std.specs.Prelude.{IfOk}
use Rattle.std.proofs.lemmas.Bool.{both_ways}
use Rattle.id_tree.specs.IdTree.{IdTree}
use Rattle.id_tree.specs.Spelling.{spelling}
use Rattle.id_tree.specs.Split.{IsSplit}
use Rattle.report_line.specs.declared.code.Code.TheVariants.{NameTaken, WrongParts}
use Rattle.report_line.specs.View.{numbered_of}
use Rattle.report_line.specs.declared.report.Report.TheVariants.{Numbered}
use Rattle.report_line.specs.declared.reply.Reply.TheVariants.{No}
use Rattle.chains.specs.Processes.{IsKnown, registered_id}
use Rattle.chains.specs.Held.{held_of}
use Rattle.chains.specs.Admission.{Decides, FitsOrNot}
use Rattle.chains.proofs.Tested.{refuses, passed_on}
use Rattle.chains.proofs.chains.Chains.test_fork.Goals as goal

pub returns-then-not-is_split : goal.returns-then-not-is_split
returns-then-not-is_split c =
    let held = held_of c.args.self.now in
    let accepted = held.accepted in
    let front = held.front in
    let r = numbered_of c.args.fields in
    let p = r.process in
    let kept = c.args.forked.now.kept in
    let child = c.args.forked.now.child in
    let given = c.args.forked.now.given in
    let id = registered_id p accepted in
    let last = FitsOrNot held (Numbered r) in
    passed_on (IsKnown accepted child) (No NameTaken (Some child) None) (λ a. Decides (¬ IsSplit id kept given) (No WrongParts (Some p) (Some (spelling id))) a (last a)) front (Err c.refusal_with.result) c.in-None.ensures
    (refuses (¬ IsSplit id kept given) last front c.refusal_with.result WrongParts p (spelling id) c.id_text.result c.refusal_with.ensures
    (subst (λ (i : IdTree). IfOk c.id_text.result (λ t. t ≡ spelling i)) c.requires.registered c.id_text.ensures)
    (λ h. both_ways c.is_split.result c.if-not-is_split.true (c.is_split.ensures.1 (subst (λ (i : IdTree). IsSplit i kept given) (sym c.requires.registered) h))))
