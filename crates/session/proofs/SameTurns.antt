-- Where memory suffices and no device fails, a call has one reply, and one reply is shown for it.
use Rattle.std.proofs.Common.{◌≡◌, ◌≢◌, ℕ, Bool, true, false, List, Some, None, All, inl, inr, refl, sym, ap, subst, ◌∙◌}
use Rattle.std.specs.Prelude.{◌⊎◌}
use Rattle.report_line.specs.declared.code.Code.TheVariants.{UnknownProcess}
use Rattle.report_line.specs.declared.report.Report.{Report}
use Rattle.report_line.specs.declared.marked.MarkedReport.{MarkedReport}
use Rattle.report_line.specs.declared.call.Call.{Call}
use Rattle.report_line.specs.declared.call.Call.TheVariants as calls
use Rattle.report_line.specs.declared.reply.Outcome.{Outcome}
use Rattle.report_line.specs.declared.reply.Outcome.TheVariants.{Before, Unknown, Stopped}
use Rattle.report_line.specs.declared.reply.Reply.{Reply}
use Rattle.report_line.specs.declared.reply.Reply.TheVariants as replies
use Rattle.chains.specs.Processes.{Name, known, IsKnown}
use Rattle.chains.specs.Held.{Held}
use Rattle.chains.specs.Failures.{IsFirstUnknown}
use Rattle.chains.specs.Turns.{Fate, fine, memory, before, unknown, no_memory, IsLineReply, IsGarbageReply, IsStateReply, IsQuestionTurn, IsReported, IsSettleAnswered, IsTurn}
use Rattle.chains.proofs.FirstUnknown.{one_first, none_first}
use Rattle.chains.proofs.OneAnswer.{one, one_answer, one_settling}
use Rattle.reasons.specs.Shown.{IsLineShown, IsShown}
use Rattle.line_answer.specs.Questions.{IsChosenFor}
use Rattle.session.proofs.ChosenTexts.{one_for}

-- ---- questions

abbrev Asked : Held → List Name → Reply → Type 0
Asked held names x = ((p : Name) × IsFirstUnknown held.accepted names p × (x ≡ replies.No UnknownProcess (Some p) None)) ⊎ (All (IsKnown held.accepted) names × (x ≡ replies.Taken held.front))

asked_once : (held : Held) (names : List Name) (x y : Reply) → Asked held names x → Asked held names y → x ≡ y
asked_once held names x y (inl a) (inl b) =
    a.2 ∙ ap (λ (p : Name). replies.No UnknownProcess (Some p) None) (one_first held.accepted names a.0 b.0 a.1 b.1) ∙ sym b.2
asked_once held names x y (inl a) (inr b) = absurd (none_first held.accepted names a.0 b.0 a.1)
asked_once held names x y (inr a) (inl b) = absurd (none_first held.accepted names b.0 a.0 b.1)
asked_once held names x y (inr a) (inr b) = a.1 ∙ sym b.1

line_once : (held : Held) (names : List Name) (x y : Reply) → IsLineReply held names x → IsLineReply held names y → x ≡ y
line_once held names x y = one _ _ x y _ _ (asked_once held names x y)

garbage_once : (held : Held) (x y : Reply) → IsGarbageReply held x → IsGarbageReply held y → x ≡ y
garbage_once held x y = one _ _ x y _ _ (λ e f. e ∙ sym f)

state_once : (accepted : List Report) (p : Name) (x y : Reply) → IsStateReply accepted p x → IsStateReply accepted p y → x ≡ y
state_once accepted p x y = one _ _ x y _ _ (one _ _ x y _ _ (λ e f. e ∙ sym f))

-- ---- turns

-- the reply is neither for want of memory nor of a device that failed
pub record IsSettled (x : Reply) : Type 0 where
  pub memory : x ≢ no_memory
  pub device : (o : Outcome) → x ≢ replies.Fail o

question_once : (stopped : Bool) (fate other : Fate) (held after then_held : Held) (Answers : Reply → Type 0) (x y : Reply) → (Answers x → Answers y → x ≡ y) → IsSettled x
    → IsQuestionTurn stopped fate held Answers x after → IsQuestionTurn stopped other held Answers y then_held → x ≡ y
question_once true fate other held after then_held Answers x y once p t u = absurd (p.device Stopped t.1)
question_once false fate other held after then_held Answers x y once p t u = once t.1 u.1

report_once : (stopped : Bool) (fate other : Fate) (held after then_held : Held) (m : MarkedReport) (x y : Reply) → IsSettled x → IsSettled y
    → IsReported stopped fate held m x after → IsReported stopped other held m y then_held → x ≡ y
report_once true fate other held after then_held m x y p q t u = absurd (p.device Stopped t.1)
report_once false fine fine held after then_held m x y p q t u = one_answer held x y m.epoch m.report t.0 u.0
report_once false fine memory held after then_held m x y p q t u = absurd (q.memory u.3)
report_once false fine before held after then_held m x y p q t u = absurd (q.device Before u.1)
report_once false fine unknown held after then_held m x y p q t u = absurd (q.device Unknown u.1)
report_once false memory other held after then_held m x y p q t u = absurd (p.memory t.3)
report_once false before other held after then_held m x y p q t u = absurd (p.device Before t.1)
report_once false unknown other held after then_held m x y p q t u = absurd (p.device Unknown t.1)

settlement_once : (stopped : Bool) (fate other : Fate) (held after then_held : Held) (front : ℕ) (names : List Name) (x y : Reply) → IsSettled x → IsSettled y
    → IsSettleAnswered stopped fate held front names x after → IsSettleAnswered stopped other held front names y then_held → x ≡ y
settlement_once true fate other held after then_held front names x y p q t u = absurd (p.device Stopped t.1)
settlement_once false fine fine held after then_held front names x y p q t u = one_settling held x y front names t.0 u.0
settlement_once false fine memory held after then_held front names x y p q t u = absurd (q.memory u.3)
settlement_once false fine before held after then_held front names x y p q t u = absurd (q.device Before u.1)
settlement_once false fine unknown held after then_held front names x y p q t u = absurd (q.device Unknown u.1)
settlement_once false memory other held after then_held front names x y p q t u = absurd (p.memory t.3)
settlement_once false before other held after then_held front names x y p q t u = absurd (p.device Before t.1)
settlement_once false unknown other held after then_held front names x y p q t u = absurd (p.device Unknown t.1)

one_reply : (held after then_held : Held) (call : Call) (x y : Reply) → IsSettled x → IsSettled y → IsTurn held call x after → IsTurn held call y then_held → x ≡ y
one_reply held after then_held (calls.Report m) x y p q (fate, t) (other, u) = report_once held.stopped fate other held after then_held m x y p q t u
one_reply held after then_held (calls.Settle front names) x y p q (fate, t) (other, u) = settlement_once held.stopped fate other held after then_held front names x y p q t u
one_reply held after then_held (calls.Line names) x y p q (fate, t) (other, u) = question_once held.stopped fate other held after then_held (IsLineReply held names) x y (line_once held names x y) p t u
one_reply held after then_held calls.Garbage x y p q (fate, t) (other, u) = question_once held.stopped fate other held after then_held (IsGarbageReply held) x y (garbage_once held x y) p t u
one_reply held after then_held (calls.State p) x y s q (fate, t) (other, u) =
    question_once held.stopped fate other held after then_held (IsStateReply held.accepted p) x y (state_once held.accepted p x y) s t u
one_reply held after then_held calls.Bye x y p q (fate, t) (other, u) = t.1 ∙ sym u.1
one_reply held after then_held (calls.Bad n) x y p q (fate, t) (other, u) = t.1 ∙ sym u.1
one_reply held after then_held calls.Unread x y p q (fate, t) (other, u) = t.1 ∙ sym u.1

-- ---- what is shown

line_as : (held : Held) (names : List Name) (reply shown : Reply) → IsLineShown held names reply shown → ((front : ℕ) → reply ≢ replies.Taken front) → shown ≡ reply
line_as held names (replies.Taken front) shown is other = absurd (other front refl)
line_as held names reply shown is other = is

-- a reply by which no line was taken is shown as it is
shown_as : (held : Held) (call : Call) (reply shown : Reply) → IsShown held call reply shown → ((front : ℕ) → reply ≢ replies.Taken front) → shown ≡ reply
shown_as held (calls.Line names) reply shown is other = line_as held names reply shown is other
shown_as held calls.Garbage reply shown is other = line_as held (known held.accepted) reply shown is other
shown_as held (calls.Report m) reply shown is other = is
shown_as held (calls.Settle front names) reply shown is other = is
shown_as held (calls.State p) reply shown is other = is
shown_as held calls.Bye reply shown is other = is
shown_as held (calls.Bad n) reply shown is other = is
shown_as held calls.Unread reply shown is other = is

settled_reply : (held : Held) (call : Call) (reply shown : Reply) → IsShown held call reply shown → IsSettled shown → IsSettled reply
settled_reply held call reply shown is s = record {
  memory = λ e. s.memory (shown_as held call reply shown is (λ front t. let x = sym e ∙ t in cc) ∙ e);
  device = λ o e. s.device o (shown_as held call reply shown is (λ front t. let x = sym e ∙ t in cc) ∙ e);
}

line_same : (held : Held) (names : List Name) (reply x y : Reply) → IsLineShown held names reply x → IsLineShown held names reply y → IsSettled x → IsSettled y
    → ((text other : List ℕ) → x ≡ replies.Line text → y ≡ replies.Line other → text ≡ other) → x ≡ y
line_same held names (replies.Taken front) x y (inl a) (inl b) p q once = a.1 ∙ ap replies.Line (once a.0 b.0 a.1 b.1) ∙ sym b.1
line_same held names (replies.Taken front) x y (inl a) (inr none) p q once = absurd (q.memory none)
line_same held names (replies.Taken front) x y (inr none) b p q once = absurd (p.memory none)
line_same held names reply x y a b p q once = a ∙ sym b

shown_same : (held : Held) (call : Call) (reply x y : Reply) → IsShown held call reply x → IsShown held call reply y → IsSettled x → IsSettled y
    → ((text other : List ℕ) → x ≡ replies.Line text → y ≡ replies.Line other → text ≡ other) → x ≡ y
shown_same held (calls.Line names) reply x y a b p q once = line_same held names reply x y a b p q once
shown_same held calls.Garbage reply x y a b p q once = line_same held (known held.accepted) reply x y a b p q once
shown_same held (calls.Report m) reply x y a b p q once = a ∙ sym b
shown_same held (calls.Settle front names) reply x y a b p q once = a ∙ sym b
shown_same held (calls.State n) reply x y a b p q once = a ∙ sym b
shown_same held calls.Bye reply x y a b p q once = a ∙ sym b
shown_same held (calls.Bad n) reply x y a b p q once = a ∙ sym b
shown_same held calls.Unread reply x y a b p q once = a ∙ sym b

-- one reply, and one that is shown for it
pub one_turn : (held after then_held : Held) (call : Call) (reply other x y : Reply) → IsTurn held call reply after → IsShown held call reply x → IsTurn held call other then_held → IsShown held call other y → IsSettled x → IsSettled y
    → ((text : List ℕ) → x ≡ replies.Line text → IsChosenFor held call text) → ((text : List ℕ) → y ≡ replies.Line text → IsChosenFor held call text) → (reply ≡ other) × (x ≡ y)
one_turn held after then_held call reply other x y t a u b p q chosen chose =
    let same = one_reply held after then_held call reply other (settled_reply held call reply x a p) (settled_reply held call other y b q) t u in
    (same, shown_same held call reply x y a (subst (λ (r : Reply). IsShown held call r y) (sym same) b) p q (λ text line e f. one_for held call text line (chosen text e) (chose line f)))

-- a line that was not read shows that memory was wanting
pub was_read : (held after : Held) (call : Call) (reply shown : Reply) → IsTurn held call reply after → IsShown held call reply shown → IsSettled shown → call ≢ calls.Unread
was_read held after calls.Unread reply shown (fate, t) is s e = s.memory (is ∙ t.1)
was_read held after call reply shown t is s e = absurd cc
