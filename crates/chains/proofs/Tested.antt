-- A test that applies, or that leaves it to the later ones.
use Rattle.std.proofs.Common.{◌≡◌, ◌↔◌, inl, inr, ℕ, Bool, List, Some, None, Result, Ok, Err, IsTrue, false, [], refl, sym, ap, ◌∙◌}
use Rattle.std.specs.Prelude.{IfOk}
use Rattle.std.specs.Fmt.{decimal}
use Rattle.std.proofs.lemmas.Bool.{both_ways}
use Rattle.id_tree.specs.IdTree.{IdTree}
use Rattle.id_tree.specs.Points.{AreDisjoint, AreTogether}
use Rattle.id_tree.specs.NormalForm.{IsNormal}
use Rattle.id_tree.specs.Sum.{sum_of}
use Rattle.id_tree.proofs.Points.{equal_points}
use Rattle.id_tree.proofs.Sums as sums
use Rattle.report_line.specs.declared.code.Code.{Code}
use Rattle.report_line.specs.declared.code.Code.TheVariants.{OutOfMemory, Full, Ended, NothingBegun}
use Rattle.report_line.specs.declared.report.ReportKind.{ReportKind}
use Rattle.report_line.specs.declared.report.ReportKind.TheVariants.{Absorb}
use Rattle.report_line.specs.declared.report.NumberedReport.{NumberedReport}
use Rattle.report_line.specs.declared.report.Report.{Report}
use Rattle.report_line.specs.declared.report.Report.TheVariants.{Numbered}
use Rattle.report_line.specs.declared.reply.Reply.{Reply}
use Rattle.report_line.specs.declared.reply.Reply.TheVariants as replies
use Rattle.chains.specs.declared.admission.AdmissionResult.{AdmissionResult}
use Rattle.chains.specs.declared.admission.AdmissionResult.TheVariants.{Old, Fits}
use Rattle.chains.specs.declared.refusal.No.{No}
use Rattle.chains.specs.Processes.{Name, last_report, last_epoch, registered_id, expected_id}
use Rattle.chains.specs.Held.{Held}
use Rattle.chains.specs.Admission.{Decides, TakesMemory, IsStampReply, IsWaitingReply, IsStandingReply, IsEpochReply, IsNumberedReply, IsRepeated, IsReportReply}
use Rattle.chains.specs.working.Keeping.{Tests}
use Rattle.chains.specs.working.Testing.{RefusesWith, IsFull, IsNoAbsorb}

-- the test does not apply, and the later ones decide
pub passed_on : (F : Type 0) (reply : Reply) (P : Reply → Type 0) (front : ℕ) (r : Result AdmissionResult No)
    → ¬ F → Tests P front r → Tests (λ a. Decides F reply a (P a)) front r
passed_on F reply P front (Ok Old) n h = inr (n, h)
passed_on F reply P front (Ok Fits) n h = inr (n, h)
passed_on F reply P front (Err refusal) n (inl h) = inl (inr (n, h))
passed_on F reply P front (Err refusal) n (inr h) = inr (h.0, inr (n, h.1), h.2, h.3, h.4, h.5)

-- memory was wanting in an answer that takes memory
pub lacking : (P : Reply → Type 0) (front : ℕ) (refusal : No) (answer : Reply)
    → refusal ≡ record { code = OutOfMemory; name = None; value = None } → P answer → TakesMemory answer → Tests P front (Err refusal)
lacking P front refusal answer e h t = inr (answer, h, t, ap (λ (r : No). r.code) e, ap (λ (r : No). r.name) e, ap (λ (r : No). r.value) e)

-- a refusal with a value, by the first test
pub refuses : {E : Type 0} (F : Type 0) (P : Reply → Type 0) (front : ℕ) (refusal : No) (code : Code) (name value : List ℕ) (r : Result (List ℕ) E)
    → RefusesWith refusal code name r → IfOk r (λ t. t ≡ value) → F → Tests (λ a. Decides F (replies.No code (Some name) (Some value)) a (P a)) front (Err refusal)
refuses F P front refusal code name value (Ok t) e is h = inl (inl (h, rw (e, is) refl))
refuses F P front refusal code name value (Err x) e is h =
    inr (replies.No code (Some name) (Some value), inl (h, refl), tt, ap (λ (r : No). r.code) e, ap (λ (r : No). r.name) e, ap (λ (r : No). r.value) e)

-- a refusal without one
pub refuses_plainly : (F : Type 0) (P : Reply → Type 0) (front : ℕ) (refusal : No) (code : Code) (name : List ℕ)
    → refusal ≡ record { code = code; name = Some name; value = None } → F → Tests (λ a. Decides F (replies.No code (Some name) None) a (P a)) front (Err refusal)
refuses_plainly F P front refusal code name e h = inl (inl (h, rw e refl))

-- a refusal by a limit
pub refuses_full : (F : Type 0) (P : Reply → Type 0) (front : ℕ) (refusal : No) (limit : ℕ) → IsFull refusal limit → F → Tests (λ a. Decides F (replies.No Full None (Some (decimal limit))) a (P a)) front (Err refusal)
refuses_full F P front refusal limit (inl e) h = inl (inl (h, rw e refl))
refuses_full F P front refusal limit (inr e) h = lacking (λ a. Decides F (replies.No Full None (Some (decimal limit))) a (P a)) front refusal (replies.No Full None (Some (decimal limit))) e (inl (h, refl)) tt

-- a report with a number is refused where nothing was accepted yet
pub refuses_first : (held : Held) (epoch : ℕ) (report : Report) (r : NumberedReport) → report ≡ Numbered r → held.accepted ≡ []
    → Tests (IsReportReply held epoch report) held.front (Err (record { code = NothingBegun; name = None; value = None }))
refuses_first held epoch report r is none = rw is (inl (inl (none, refl)))

-- a report that is not the last one of its process is left to the tests behind
pub not_last : (held : Held) (epoch : ℕ) (report : Report) (r : NumberedReport) (result : Result AdmissionResult No) (b : Bool) → b ≡ false
    → (IsTrue b ↔ ((last_report r.process held.accepted ≡ Some report) × (last_epoch r.process held.accepted held.epochs ≡ Some epoch))) → report ≡ Numbered r
    → Tests (IsEpochReply held epoch r) held.front result → Tests (IsNumberedReply held epoch r) held.front result
not_last held epoch report r result b other last is later =
    passed_on (IsRepeated held epoch r) (replies.Old held.front) (IsEpochReply held epoch r) held.front result
    (λ e. both_ways b other (last.1 (e.0 ∙ ap (λ (x : Report). Some x) (sym is), e.1))) later

-- a refusal since the process ended
pub refuses_ended : {E : Type 0} (target : Name) (held : Held) (r : NumberedReport) (refusal : No) (value : Result (List ℕ) E)
    → RefusesWith refusal Ended r.process value → IfOk value (λ t. t ≡ target) → Tests (IsStandingReply (Some target) held r) held.front (Err refusal)
refuses_ended target held r refusal (Ok t) e is = inl (rw (e, is) refl)
refuses_ended target held r refusal (Err x) e is = lacking (IsStandingReply (Some target) held r) held.front refusal (replies.No Ended (Some r.process) (Some target)) e refl tt

-- an action that is no absorb asks for no retirement
pub as_own : (held : Held) (r : NumberedReport) (a : ReportKind) (result : Result AdmissionResult No) → IsNoAbsorb a → Tests (IsStampReply held r a) held.front result → Tests (IsWaitingReply held r a) held.front result
as_own held r (Absorb retired) result own h = absurd own
as_own held r _ result own h = h

pub own_id : (accepted : List Report) (p : Name) (a : ReportKind) → IsNoAbsorb a → expected_id accepted p a ≡ registered_id p accepted
own_id accepted p (Absorb retired) own = absurd own
own_id accepted p _ own = refl

-- an id with the points of a sum is the sum
pub is_the_sum : (l r i : IdTree) → IsNormal l → IsNormal r → IsNormal i → AreTogether l r i → i ≡ sum_of l r
is_the_sum l r i m n k together = equal_points i (sum_of l r) k (sums.normal l r m n) (λ p. together p ∙ sym (sums.together l r p))

-- what the test for a sum tells of two ids holds of those that they are
pub told_sum : (l r left right i : IdTree) (b : Bool) → l ≡ left → r ≡ right → AreDisjoint left right → (AreDisjoint l r → IsTrue b ↔ (i ≡ sum_of l r)) → IsTrue b ↔ (i ≡ sum_of left right)
told_sum l r left right i b e f apart told = rw (← e, ← f) (told (rw (e, f) apart))
