-- The next report of what is handed over is that of a step over the reports before it, or BEGIN.
use Rattle.std.proofs.Common.{◌≡◌, ◌↔◌, inl, inr, List, [], ◌∷◌, ◌++◌, Option, Some, None, All, refl, sym, ◌∙◌, ap, subst, append-nil}
use Rattle.std.specs.Prelude.{Contains, slice_get}
use Rattle.std.specs.List.{cons_option}
use Rattle.std.specs.Option.{option_map}
use Rattle.std.proofs.lemmas.List.Elements.{All-weaker, All-contains, All-contains_itself, Contains-append_left, Contains-push}
use Rattle.report_line.specs.declared.report.ReportKind.{ReportKind}
use Rattle.report_line.specs.declared.report.Report.{Report}
use Rattle.report_line.specs.declared.report.Report.TheVariants.{Begin, Numbered}
use Rattle.report_line.specs.declared.reply.Reply.{Reply}
use Rattle.report_line.specs.declared.step.Step.{Step}
use Rattle.report_line.specs.histories.History.{Name, History, Event, Living, status}
use Rattle.report_line.specs.histories.Lawful.{IsAllowed, IsLawful, start, next}
use Rattle.report_line.specs.histories.StepReports.{report_of}
use Rattle.chains.specs.Held.{Held}
use Rattle.chains.specs.Processes.{known}
use Rattle.chains.specs.Admission.{IsReportReply, IsBeginReply, FitsOrNot}
use Rattle.law_histories.proofs.Rules.{last_step}
use Rattle.law_admission.specs.HandedOver.{handed_over, HasLine, IsReportable}
use Rattle.law_admission.specs.Laws.{OnlyRoomIsTested}
use Rattle.law_admission.proofs.Actions.{reported, reported_id, report_with, report_is, unreported}
use Rattle.law_admission.proofs.Tied.{AreTied, first_tied}
use Rattle.law_admission.proofs.Silent.{silent_tied}
use Rattle.law_admission.proofs.AfterReport.{filled, reported_tied}
use Rattle.law_admission.proofs.Tests.{fits_by}

-- ---- the last step of a history that can be reported

all_left : (P : Report → Type 0) (xs ys : List Report) → All P (xs ++ ys) → All P xs
all_left P xs ys all = All-weaker (Contains xs) P (λ x at. All-contains P (xs ++ ys) x all (Contains-append_left xs ys x at)) xs (All-contains_itself xs)

has_line : (xs : List Report) (o : Option Report) (r : Report) → o ≡ Some r → All HasLine (xs ++ cons_option o []) → HasLine r
has_line xs o r is all = All-contains HasLine (xs ++ r ∷ []) r (subst (λ (p : Option Report). All HasLine (xs ++ cons_option p [])) is all) (Contains-push xs r)

-- the last step, and what came before it
pub record Ends (root : Name) (h : History) (s : Step) : Type 0 where
  pub before : IsReportable root h
  pub last : Event
  pub lives : status root h s.process ≡ Living last
  pub allowed : IsAllowed root h last s s.step_kind
  pub line : (r : Report) → report_of root h s ≡ Some r → HasLine r

pub before_last : {root : Name} {whole : History} → IsLawful root whole → (s : Step) (h : History) → whole ≡ s ∷ h → IsLawful root h
before_last start s h is = absurd (cc)
before_last {root} (next {h = g} lawful living allowed) s h is = (let rest : g ≡ h = cc in subst (IsLawful root) rest lawful)

pub ends : (root : Name) (h : History) (s : Step) → IsReportable root (s ∷ h) → Ends root h s
ends root h s w =
    let last = last_step w.lawful s h refl in
    record {
      before = record { lawful = before_last w.lawful s h refl; lines = all_left HasLine (handed_over root h) (cons_option (report_of root h s) []) w.lines };
      last = last.0;
      lives = last.1;
      allowed = last.2;
      line = λ r is. has_line (handed_over root h) (report_of root h s) r is w.lines;
    }

-- ---- the tie holds along the history

with_option : (root : Name) (h : History) (s : Step) (o : Option Report) → report_of root h s ≡ o
    → AreTied (handed_over root h ++ cons_option o []) root (s ∷ h) → AreTied (handed_over root (s ∷ h)) root (s ∷ h)
with_option root h s o is tied = subst (λ (p : Option Report). AreTied (handed_over root h ++ cons_option p []) root (s ∷ h)) (sym is) tied

tied_next : (root : Name) (h : History) (s : Step) → Ends root h s → AreTied (handed_over root h) root h
    → (o : Option ReportKind) → reported s s.step_kind ≡ o → AreTied (handed_over root (s ∷ h)) root (s ∷ h)
tied_next root h s w tied None is =
    with_option root h s None (report_is root h s s.step_kind ∙ ap (option_map (λ a. Numbered (report_with h s (reported_id root h s s.step_kind) a))) is)
    (subst (λ (xs : List Report). AreTied xs root (s ∷ h)) (sym (append-nil (handed_over root h)))
    (silent_tied (handed_over root h) root h w.last s tied w.lives w.allowed (unreported s s.step_kind is)))
tied_next root h s w tied (Some a) is =
    let made = report_is root h s s.step_kind ∙ ap (option_map (λ x. Numbered (report_with h s (reported_id root h s s.step_kind) x))) is in
    with_option root h s _ made (reported_tied (handed_over root h) root h w.last s tied w.lives w.allowed a is (w.line _ made).1)

pub tied_all : (root : Name) (h : History) → IsReportable root h → AreTied (handed_over root h) root h
tied_all root [] w = first_tied root
tied_all root (s ∷ h) w = (let e = ends root h s w in tied_next root h s e (tied_all root h e.before) (reported s s.step_kind) refl)

-- ---- the next report

-- one more report behind a list: the next one is it, or one of the list
data Behind (xs : List Report) (o : Option Report) (front : List Report) (r : Report) : Type 0 where
  newest : o ≡ Some r → front ≡ xs → Behind xs o front r
  earlier : (rest : List Report) → xs ≡ front ++ r ∷ rest → Behind xs o front r

one_left : (x r : Report) (front rest : List Report) → x ∷ [] ≡ front ++ r ∷ rest → (x ≡ r) × (front ≡ [])
one_left x r [] rest is = (let same : x ≡ r = cc in (same, refl))
one_left x r (y ∷ front) rest is = (let none : [] ≡ front ++ r ∷ rest = cc in absurd (filled front r rest (sym none)))

behind : (xs : List Report) (o : Option Report) (front : List Report) (r : Report) (rest : List Report) → xs ++ cons_option o [] ≡ front ++ r ∷ rest → Behind xs o front r
behind [] None front r rest is = absurd (filled front r rest (sym is))
behind [] (Some x) front r rest is = (let w = one_left x r front rest is in newest (ap (λ (y : Report). Some y) w.0) w.1)
behind (x ∷ xs) o [] r rest is = (let same : x ≡ r = cc in earlier xs (ap (λ (y : Report). y ∷ xs) same))
behind (x ∷ xs) o (y ∷ front) r rest is =
    let same : x ≡ y = cc in
    let tail : xs ++ cons_option o [] ≡ front ++ r ∷ rest = cc in
    elim (behind xs o front r rest tail) [
      | newest new all ↦ newest new (ap (λ (l : List Report). y ∷ l) all ∙ ap (λ (z : Report). z ∷ xs) (sym same))
      | earlier more parts ↦ earlier more (ap (λ (z : Report). z ∷ xs) same ∙ ap (λ (l : List Report). y ∷ l) parts)
    ]

-- BEGIN where nothing is accepted
begins : (root : Name) (held : Held) (r : Report) (answer : Reply) → Begin root ≡ r → held.accepted ≡ [] → IsReportReply held held.epoch r answer ↔ FitsOrNot held r answer
begins root held r answer is none =
    subst (λ (x : Report). IsReportReply held held.epoch x answer ↔ FitsOrNot held x answer) is
    (by held.accepted none)
  where
    of_first : IsBeginReply None held held.epoch root answer → FitsOrNot held (Begin root) answer
    of_first (inl h) = absurd (h.0 refl)
    of_first (inr h) = h.1

    by : (accepted : List Report) → accepted ≡ [] → IsBeginReply (slice_get (known accepted) 0) held held.epoch root answer ↔ FitsOrNot held (Begin root) answer
    by accepted e = subst (λ (xs : List Report). IsBeginReply (slice_get (known xs) 0) held held.epoch root answer ↔ FitsOrNot held (Begin root) answer) (sym e) (of_first, λ x. inr (λ other. other refl, x))

pub only_room_is_tested : OnlyRoomIsTested
only_room_is_tested root [] held r answer w (rest, is) born = (let one = one_left (Begin root) r held.accepted rest is in begins root held r answer one.0 one.1)
only_room_is_tested root (s ∷ h) held r answer w (rest, is) born =
    let e = ends root h s w in
    elim (behind (handed_over root h) (report_of root h s) held.accepted r rest is) [
      | newest made all ↦
          fits_by root h e.last s held (subst (λ (xs : List Report). AreTied xs root h) (sym all) (tied_all root h e.before)) e.lives e.allowed answer s.step_kind r made e.allowed (born.1 made) (e.line r made)
      | earlier more parts ↦ only_room_is_tested root h held r answer e.before (more, parts) born.0
    ]
