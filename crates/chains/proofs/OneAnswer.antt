-- Admission answers once, and so do the tests of a settlement.
use Rattle.std.proofs.Common.{◌≡◌, ◌≢◌, ◌≤◌, ◌+◌, inl, inr, ℕ, List, All, Option, Some, None, sym, ap, ◌∙◌}
use Rattle.std.specs.Prelude.{◌⊎◌, slice_get}
use Rattle.std.specs.Fmt.{decimal}
use Rattle.report_line.specs.declared.code.Code.TheVariants.{UnknownProcess, OtherFront, Full}
use Rattle.report_line.specs.declared.report.ReportKind.{ReportKind}
use Rattle.report_line.specs.declared.report.ReportKind.TheVariants.{Check, Present, Fork, Retire, Absorb}
use Rattle.report_line.specs.declared.report.NumberedReport.{NumberedReport}
use Rattle.report_line.specs.declared.report.Report.{Report}
use Rattle.report_line.specs.declared.report.Report.TheVariants.{Begin, Numbered}
use Rattle.report_line.specs.declared.reply.Reply.{Reply}
use Rattle.report_line.specs.declared.reply.Reply.TheVariants.{No, Settled}
use Rattle.chains.specs.Processes.{Name, known, IsKnown, target_of}
use Rattle.chains.specs.Held.{Held}
use Rattle.chains.specs.Admission.{Decides, FitsOrNot, IsBeginReply, IsActionReply, IsStampReply, IsWaitingReply, IsStandingReply, IsReportReply, report_limit}
use Rattle.chains.specs.Failures.{IsFirstUnknown}
use Rattle.chains.specs.Turns.{IsSettling}
use Rattle.chains.proofs.FirstUnknown.{one_first, none_first}

-- the later parts of the tests of a settlement
abbrev SettlesInRoom : Held → ℕ → Reply → Type 0
SettlesInRoom held front x =
    Decides (front ≢ held.front) (No OtherFront None (Some (decimal held.front))) x
    (Decides (report_limit ≤ held.front) (No Full None (Some (decimal report_limit))) x
    (x ≡ Settled (held.epoch + 1) (held.front + 1)))

abbrev SettlesNamed : Held → ℕ → List Name → Reply → Type 0
SettlesNamed held front names x =
    ((p : Name) × IsFirstUnknown held.accepted names p × (x ≡ No UnknownProcess (Some p) None)) ⊎ (All (IsKnown held.accepted) names × SettlesInRoom held front x)

-- a test that decides gives one reply
pub one : (P : Type 0) (reply x y : Reply) (L M : Type 0) → (L → M → x ≡ y) → Decides P reply x L → Decides P reply y M → x ≡ y
one P reply x y L M later (inl (p, e)) (inl (q, f)) = e ∙ sym f
one P reply x y L M later (inl (p, e)) (inr (q, m)) = absurd (q p)
one P reply x y L M later (inr (p, l)) (inl (q, f)) = absurd (p q)
one P reply x y L M later (inr (p, l)) (inr (q, m)) = later l m

module _ (held : Held) (x y : Reply) where
  fits : (r : Report) → FitsOrNot held r x → FitsOrNot held r y → x ≡ y
  fits r = one _ _ x y _ _ (one _ _ x y _ _ (λ e f. e ∙ sym f))

  acted : (r : NumberedReport) (a : ReportKind) → IsActionReply held r a x → IsActionReply held r a y → x ≡ y
  acted r Check = fits (Numbered r)
  acted r Present = fits (Numbered r)
  acted r (Fork f) = one _ _ x y _ _ (one _ _ x y _ _ (fits (Numbered r)))
  acted r (Retire target) = one _ _ x y _ _ (fits (Numbered r))
  acted r (Absorb retired) = one _ _ x y _ _ (fits (Numbered r))

  stamped : (r : NumberedReport) (a : ReportKind) → IsStampReply held r a x → IsStampReply held r a y → x ≡ y
  stamped r a = one _ _ x y _ _ (one _ _ x y _ _ (acted r a))

  waiting : (r : NumberedReport) (a : ReportKind) → IsWaitingReply held r a x → IsWaitingReply held r a y → x ≡ y
  waiting r Check = stamped r Check
  waiting r Present = stamped r Present
  waiting r (Fork f) = stamped r (Fork f)
  waiting r (Retire target) = stamped r (Retire target)
  waiting r (Absorb retired) = one _ _ x y _ _ (stamped r (Absorb retired))

  standing : (target : Option Name) (r : NumberedReport) → IsStandingReply target held r x → IsStandingReply target held r y → x ≡ y
  standing (Some target) r = λ e f. e ∙ sym f
  standing None r = one _ _ x y _ _ (waiting r r.action)

  begun : (root : Option Name) (epoch : ℕ) (p : Name) → IsBeginReply root held epoch p x → IsBeginReply root held epoch p y → x ≡ y
  begun None epoch p = one _ _ x y _ _ (fits (Begin p))
  begun (Some root) epoch p = one _ _ x y _ _ (λ e f. e ∙ sym f)

  pub one_answer : (epoch : ℕ) (r : Report) → IsReportReply held epoch r x → IsReportReply held epoch r y → x ≡ y
  one_answer epoch (Begin p) = begun (slice_get (known held.accepted) 0) epoch p
  one_answer epoch (Numbered r) = one _ _ x y _ _ (one _ _ x y _ _ (one _ _ x y _ _ (one _ _ x y _ _ (standing (target_of r.process held.accepted) r))))

  -- ---- settlements

  room : (front : ℕ) → SettlesInRoom held front x → SettlesInRoom held front y → x ≡ y
  room front = one _ _ x y _ _ (one _ _ x y _ _ (λ e f. e ∙ sym f))

  named : (front : ℕ) (names : List Name) → SettlesNamed held front names x → SettlesNamed held front names y → x ≡ y
  named front names (inl a) (inl b) =
      a.2 ∙ ap (λ (p : Name). No UnknownProcess (Some p) None) (one_first held.accepted names a.0 b.0 a.1 b.1) ∙ sym b.2
  named front names (inl a) (inr b) = absurd (none_first held.accepted names a.0 b.0 a.1)
  named front names (inr a) (inl b) = absurd (none_first held.accepted names b.0 a.0 b.1)
  named front names (inr a) (inr b) = room front a.1 b.1

  pub one_settling : (front : ℕ) (names : List Name) → IsSettling held front names x → IsSettling held front names y → x ≡ y
  one_settling front names = one _ _ x y _ _ (named front names)
