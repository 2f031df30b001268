-- What a line is read as, and what is shown for the turn of it.
use Rattle.std.proofs.Common.{◌≡◌, ◌≢◌, ◌↔◌, ℕ, zero, suc, ◌+◌, ◌-◌, ◌≤◌, List, [], ◌∷◌, ◌++◌, length, Some, Result, Ok, Err, Bool, true, false, refl, sym, ap, subst, ◌∙◌, inl, inr, arith}
use Rattle.std.specs.List.{slice_get, AllByRecursion}
use Rattle.std.proofs.lemmas.List.{length-append}
use Rattle.std.proofs.lemmas.Option.{same_Some}
use Rattle.chains.proofs.Showing.{get_behind}
use Rattle.report_line.specs.Cutting.{IsLine}
use Rattle.report_line.specs.declared.call.Call.{Call}
use Rattle.report_line.specs.declared.call.Call.TheVariants as calls
use Rattle.report_line.specs.declared.fault.LineFault.{LineFault}
use Rattle.report_line.specs.declared.fault.LineFault.TheVariants as faults
use Rattle.report_line.specs.Reading.{Reads}
use Rattle.report_line.specs.declared.reply.Reply.{Reply}
use Rattle.report_line.specs.declared.reply.Reply.TheVariants as replies
use Rattle.chains.specs.Processes.{Name, known}
use Rattle.chains.specs.Kept.{Kept}
use Rattle.chains.specs.Held.{Held, held_of}
use Rattle.chains.specs.Turns.{Fate, IsQuestionTurn, IsTurn}
use Rattle.desk.specs.Desks.{DeskState}
use Rattle.desk.specs.Files.{IsShort}
use Rattle.desk.specs.Lawful.{unstopped}
use Rattle.desk.specs.Records.{IsReadOff}
use Rattle.desk.proofs.Short.{short_call, spelled_off}
use Rattle.desk.proofs.Running.{is_unstopped}
use Rattle.desk.specs.declared.turn.Turn.{Turn}
use Rattle.reasons.specs.Shown.{IsLineShown, IsShown}
use Rattle.chains.proofs.Unfailing.{no_line}
use Rattle.session.specs.SessionText.{Means}
use Rattle.line_answer.specs.Questions.{IsChosenFor}
use Rattle.session.specs.Turned.{MakesTurns}
use Rattle.session.specs.working.Parts.{call_read}
use Rattle.session.proofs.ChosenTexts.{chosen_at}

-- ---- what is shown

line_as_is : (held : Held) (names : List Name) (reply : Reply) → ((front : ℕ) → reply ≢ replies.Taken front) → IsLineShown held names reply reply
line_as_is held names (replies.Taken front) other = absurd (other front refl)
line_as_is held names (replies.Accepted front) other = refl
line_as_is held names (replies.Old front) other = refl
line_as_is held names (replies.No code name value) other = refl
line_as_is held names (replies.Bad n) other = refl
line_as_is held names (replies.Line text) other = refl
line_as_is held names (replies.Fail outcome) other = refl
line_as_is held names (replies.State name reports elements live id) other = refl
line_as_is held names (replies.Settled epoch front) other = refl
line_as_is held names replies.Bye other = refl

-- a reply by which no line was taken is shown as it is
pub as_it_is : (held : Held) (call : Call) (reply : Reply) → ((front : ℕ) → reply ≢ replies.Taken front) → IsShown held call reply reply
as_it_is held (calls.Line names) reply other = line_as_is held names reply other
as_it_is held calls.Garbage reply other = line_as_is held (known held.accepted) reply other
as_it_is held (calls.Report m) reply other = refl
as_it_is held (calls.Settle front names) reply other = refl
as_it_is held (calls.State p) reply other = refl
as_it_is held calls.Bye reply other = refl
as_it_is held (calls.Bad n) reply other = refl
as_it_is held calls.Unread reply other = refl

-- ---- the turn of it

-- a question is taken where the store is not stopped, and changes nothing
taken_runs : (stopped : Bool) (fate : Fate) (held after : Held) (Answers : Reply → Type 0) (front : ℕ) → IsQuestionTurn stopped fate held Answers (replies.Taken front) after → (stopped ≡ false) × (after ≡ held)
taken_runs true fate held after Answers front t = absurd (let e = t.1 in cc)
taken_runs false fate held after Answers front t = (refl, t.2)

same_held : (held after : Held) (k : Kept) → held.stopped ≡ false → after ≡ held → held_of k ≡ unstopped after → held_of k ≡ held
same_held held after k runs same holds = holds ∙ ap unstopped same ∙ sym (is_unstopped held runs)

line_fits : (stopped : Bool) (fate : Fate) (held after : Held) (Answers : Reply → Type 0) (k : Kept) (names : Held → List Name) (reply shown : Reply) → held.stopped ≡ stopped → IsQuestionTurn stopped fate held Answers reply after
    → held_of k ≡ unstopped after → IsLineShown (held_of k) (names (held_of k)) reply shown → IsLineShown held (names held) reply shown
line_fits stopped fate held after Answers k names (replies.Taken front) shown e t holds s =
    let runs = taken_runs stopped fate held after Answers front t in
    subst (λ (h : Held). IsLineShown h (names h) (replies.Taken front) shown) (same_held held after k (e ∙ runs.0) runs.1 holds) s
line_fits stopped fate held after Answers k names (replies.Accepted front) shown e t holds s = s
line_fits stopped fate held after Answers k names (replies.Old front) shown e t holds s = s
line_fits stopped fate held after Answers k names (replies.No code name value) shown e t holds s = s
line_fits stopped fate held after Answers k names (replies.Bad m) shown e t holds s = s
line_fits stopped fate held after Answers k names (replies.Line text) shown e t holds s = s
line_fits stopped fate held after Answers k names (replies.Fail outcome) shown e t holds s = s
line_fits stopped fate held after Answers k names (replies.State name reports elements live id) shown e t holds s = s
line_fits stopped fate held after Answers k names (replies.Settled epoch front) shown e t holds s = s
line_fits stopped fate held after Answers k names replies.Bye shown e t holds s = s

-- what is shown over the chains behind a turn is shown over what was held before it
fits_at : (held after : Held) (k : Kept) (call : Call) (reply shown : Reply) → IsTurn held call reply after → held_of k ≡ unstopped after → IsShown (held_of k) call reply shown → IsShown held call reply shown
fits_at held after k (calls.Line names) reply shown (fate, t) holds s = line_fits held.stopped fate held after _ k (λ h. names) reply shown refl t holds s
fits_at held after k calls.Garbage reply shown (fate, t) holds s = line_fits held.stopped fate held after _ k (λ h. known h.accepted) reply shown refl t holds s
fits_at held after k (calls.Report m) reply shown t holds s = s
fits_at held after k (calls.Settle front names) reply shown t holds s = s
fits_at held after k (calls.State p) reply shown t holds s = s
fits_at held after k calls.Bye reply shown t holds s = s
fits_at held after k (calls.Bad m) reply shown t holds s = s
fits_at held after k calls.Unread reply shown t holds s = s

-- the last of the turns
pub last_turn : (turns old : List Turn) (x y : Turn) → turns ≡ old ++ x ∷ [] → Some y ≡ slice_get turns (length turns - 1) → y ≡ x
last_turn turns old x y is at =
    let n : length turns - 1 ≡ length old = omega (arith, ap length is, length-append old (x ∷ [])) in
    same_Some y x (at ∙ ap (λ (i : ℕ). slice_get turns i) n ∙ ap (λ (l : List Turn). slice_get l (length old)) is ∙ get_behind old (x ∷ []))

-- a desk's turn, and what is shown for it
pub makes_turn : {D : Type 0} (keeps : D → Type 0) (desk after : DeskState D) (k : Kept) (call : Call) (reply shown : Reply) (number : ℕ) → IsTurn desk.held call reply after.held
    → after.turns ≡ desk.turns ++ record { call = call; receipt = record { turn = number; reply = reply } } ∷ [] → number ≡ length desk.turns + 1 → after.opening ≡ desk.opening → after.found ≡ desk.found → (keeps after.disk ↔ keeps desk.disk)
    → held_of k ≡ unstopped after.held → IsShown (held_of k) call reply shown → ((text : List ℕ) → reply ≢ replies.Line text → shown ≡ replies.Line text → IsChosenFor (held_of k) call text) → MakesTurns keeps desk (record { call = call; reply = reply; shown = shown } ∷ []) after
makes_turn keeps desk after k call reply shown number turned turns is opening found premise holds fits chose =
    record {
      served = (after.held, record { turned = turned; fits = fits_at desk.held after.held k call reply shown turned holds fits }, refl);
      chosen = (
        λ text e. chosen_at desk.held after.held k call reply text turned holds (chose text (λ line. no_line desk.held after.held call text (subst (λ (r : Reply). IsTurn desk.held call r after.held) line turned)) e),
        λ between step. tt,
      );
      turns = turns ∙ ap (λ (m : ℕ). desk.turns ++ record { call = call; receipt = record { turn = m; reply = reply } } ∷ []) is;
      opening = opening;
      found = found;
      premise = premise;
    }

-- ---- what a line is read as

pub means_read : (line : List ℕ) (read : Result Call LineFault) → Reads read line → Means line (call_read read)
means_read line (Ok call) is = inl is
means_read line (Err faults.Grammar) is = inr (inl (refl, is))
means_read line (Err faults.Memory) is = inr (inr refl)

pub short_read : (line : List ℕ) (read : Result Call LineFault) → length line ≤ 8192 → Reads read line → IsShort (call_read read)
short_read line (Ok call) short is = short_call line call short is.1
short_read line (Err faults.Grammar) short is = tt
short_read line (Err faults.Memory) short is = tt

-- what is read as a report without a mark is its line
pub read_off : (line : List ℕ) (read : Result Call LineFault) → Reads read line → IsReadOff line (call_read read)
read_off line (Ok call) is = spelled_off line call is.1
read_off line (Err faults.Grammar) is = tt
read_off line (Err faults.Memory) is = tt

-- each of the lines is one
pub line_at : (lines : List (List ℕ)) (i : ℕ) (line : List ℕ) → AllByRecursion IsLine lines → slice_get lines i ≡ Some line → IsLine line
line_at [] i line all at = absurd cc
line_at (l ∷ ls) zero line all at = subst IsLine (same_Some l line at) all.0
line_at (l ∷ ls) (suc i) line all at = line_at ls i line all.1 at

-- what stands for a bye was read as one
pub bye_read : (read : Result Call LineFault) → call_read read ≡ calls.Bye → read ≡ Ok calls.Bye
bye_read (Ok call) is = ap Ok is
bye_read (Err faults.Grammar) is = absurd cc
bye_read (Err faults.Memory) is = absurd cc
