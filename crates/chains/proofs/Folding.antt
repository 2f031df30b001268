-- What admission reaches is folded, with an epoch beside each report.
use Rattle.std.proofs.Common.{◌≡◌, ◌≢◌, ℕ, ◌+◌, ◌≤◌, List, [], ◌∷◌, ◌++◌, length, refl, sym, ap, ◌∙◌, arith}
use Rattle.report_line.specs.declared.report.Report.{Report}
use Rattle.report_line.specs.declared.report.Report.TheVariants.{Begin, Numbered}
use Rattle.report_line.specs.declared.reply.Reply.TheVariants.{Accepted}
use Rattle.chains.specs.Processes.{Name, known}
use Rattle.std.proofs.lemmas.List.{length-append}
use Rattle.std.proofs.lemmas.List.Elements.{All-nil, All-push}
use Rattle.report_line.specs.declared.marked.MarkedReport.{MarkedReport}
use Rattle.chains.specs.Held.{Held, with_report}
use Rattle.chains.specs.Admission.{IsReportReply, IsAdmission}
use Rattle.chains.specs.Reachable.{IsReachable, nothing_accepted, one_more, all_returned}
use Rattle.chains.specs.Folded.{IsFit, IsFolded, nothing_folded, one_folded, IsReached}
use Rattle.chains.proofs.Passed.{passed_tests, begins, present_epoch}
use Rattle.chains.proofs.Stepping.{known-push, still_known}

no_push : {X : Type 0} (xs : List X) (x : X) → xs ++ x ∷ [] ≢ []
no_push [] x e = cc
no_push (y ∷ ys) x e = cc

-- where no process is known nothing was accepted
pub unbegun : (accepted : List Report) → IsFolded accepted → known accepted ≡ [] → accepted ≡ []
unbegun _ nothing_folded e = refl
unbegun _ (one_folded before (Begin p) folded fit) e = absurd (no_push (known before) p (sym (known-push before (Begin p)) ∙ e))
unbegun _ (one_folded before (Numbered r) folded fit) e =
    let there = still_known before (Numbered r) r.process fit.is_known in
    let some = there.1 in
    let none = ap (λ (ks : List Name). length ks) e in
    absurd (omega arith)

-- ---- each list that is reached

-- what is accepted behind a folded list is fit
pub fit_of : (held : Held) (epoch : ℕ) (r : Report) (front : ℕ) → IsFolded held.accepted → IsReportReply held epoch r (Accepted front) → IsFit held.accepted r
fit_of held epoch (Begin p) front folded admitted = unbegun held.accepted folded (begins (known held.accepted) held epoch p front admitted)
fit_of held epoch (Numbered r) front folded admitted = passed_tests held epoch r front admitted

pub push_reached : (held : Held) (m : MarkedReport) (front : ℕ) → IsReached held → IsAdmission held m (Accepted front) → IsReached (with_report held m)
push_reached held m front at admitted = record {
  folded = one_folded held.accepted m.report at.folded (fit_of held m.epoch m.report front at.folded admitted);
  marked = omega (arith, length-append held.epochs (m.epoch ∷ []), length-append held.accepted (m.report ∷ []), at.marked);
  past = All-push (λ e. e ≤ held.epoch) held.epochs m.epoch at.past (omega (arith, present_epoch held m.epoch m.report front admitted));
  counted = omega (arith, length-append held.accepted (m.report ∷ []), at.counted);
}

pub reached_folded : (held : Held) → IsReachable held → IsReached held
reached_folded _ nothing_accepted = record { folded = nothing_folded; marked = refl; past = All-nil (λ e. e ≤ 0); counted = omega arith }
reached_folded _ (one_more before m reach admitted) = push_reached before m (before.front + 1) (reached_folded before reach) admitted
reached_folded _ (all_returned held after front names reach passes settled) = settled.2.reached
