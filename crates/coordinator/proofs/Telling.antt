-- What a turn's reply tells of what is held then, and what is shown for it.
use Rattle.std.proofs.Common.{◌≡◌, inl, inr, ℕ, ◌+◌, ◌≤◌, List, Option, Some, None, Bool, true, false, refl, sym, ap, subst, ◌∙◌, arith}
use Rattle.std.specs.Prelude.{◌⊎◌, ⊤, slice_get}
use Rattle.report_line.specs.declared.report.ReportKind.{ReportKind}
use Rattle.report_line.specs.declared.report.ReportKind.TheVariants.{Check, Present, Fork, Retire, Absorb}
use Rattle.report_line.specs.declared.report.NumberedReport.{NumberedReport}
use Rattle.report_line.specs.declared.report.Report.{Report}
use Rattle.report_line.specs.declared.report.Report.TheVariants.{Begin, Numbered}
use Rattle.report_line.specs.declared.marked.MarkedReport.{MarkedReport}
use Rattle.report_line.specs.declared.call.Call.{Call}
use Rattle.report_line.specs.declared.call.Call.TheVariants as calls
use Rattle.report_line.specs.declared.reply.Outcome.TheVariants.{Before, Unknown, Stopped}
use Rattle.report_line.specs.declared.reply.Reply.{Reply}
use Rattle.report_line.specs.declared.reply.Reply.TheVariants.{Accepted, Old, No, Bad, Fail, Line, State, Settled, Bye, Taken}
use Rattle.chains.specs.Processes.{Name, known, target_of}
use Rattle.chains.specs.Held.{Held}
use Rattle.chains.specs.Admission.{Decides, FitsOrNot, IsBeginReply, IsActionReply, IsStampReply, IsWaitingReply, IsStandingReply, IsReportReply, held_after}
use Rattle.chains.specs.Turns.{Fate, fine, memory, before, unknown, no_memory, IsLineReply, IsGarbageReply, IsStateReply, state_by, IsQuestionTurn, IsReported, IsSettling, LeavesSettled, IsSettleAnswered, IsTurn}
use Rattle.chains.proofs.Unfailing.{no_line}
use Rattle.reasons.specs.Shown.{IsLineShown, IsShown}
use Rattle.desk.specs.Lawful.{unstopped}
use Rattle.desk.specs.Records.{IsOpened}
use Rattle.desk.proofs.Recording.{settles_so}
use Rattle.coordinator.specs.Passes.{front_of, epoch_of, IsShownOver, MayShow}
use Rattle.coordinator.specs.working.Parts.{first_shown}

-- ---- the replies of admission

abbrev pub IsNo : Reply → Type 0
IsNo (No code name value) = ⊤
IsNo _ = ⊥

-- a refusal, OLD with the front, or OK with the next one
abbrev pub Kinds : Held → Reply → Type 0
Kinds held x = IsNo x ⊎ ((x ≡ Old held.front) ⊎ (x ≡ Accepted (held.front + 1)))

decided : (held : Held) (P : Type 0) (reply x : Reply) (L : Type 0) → Kinds held reply → (L → Kinds held x) → Decides P reply x L → Kinds held x
decided held P reply x L here later (inl (p, e)) = subst (Kinds held) (sym e) here
decided held P reply x L here later (inr (p, l)) = later l

module _ (held : Held) (x : Reply) where
  fits : (r : Report) → FitsOrNot held r x → Kinds held x
  fits r = decided held _ _ x _ (inl tt) (decided held _ _ x _ (inl tt) (λ e. inr (inr e)))

  action : (r : NumberedReport) (act : ReportKind) → IsActionReply held r act x → Kinds held x
  action r Check = fits (Numbered r)
  action r Present = fits (Numbered r)
  action r (Fork f) = decided held _ _ x _ (inl tt) (decided held _ _ x _ (inl tt) (fits (Numbered r)))
  action r (Retire target) = decided held _ _ x _ (inl tt) (fits (Numbered r))
  action r (Absorb retired) = decided held _ _ x _ (inl tt) (fits (Numbered r))

  stamped : (r : NumberedReport) (act : ReportKind) → IsStampReply held r act x → Kinds held x
  stamped r act = decided held _ _ x _ (inl tt) (decided held _ _ x _ (inl tt) (action r act))

  waiting : (r : NumberedReport) (act : ReportKind) → IsWaitingReply held r act x → Kinds held x
  waiting r Check = stamped r Check
  waiting r Present = stamped r Present
  waiting r (Fork f) = stamped r (Fork f)
  waiting r (Retire target) = stamped r (Retire target)
  waiting r (Absorb retired) = decided held _ _ x _ (inl tt) (stamped r (Absorb retired))

  standing : (target : Option Name) (r : NumberedReport) → IsStandingReply target held r x → Kinds held x
  standing (Some target) r = λ e. subst (Kinds held) (sym e) (inl tt)
  standing None r = decided held _ _ x _ (inl tt) (waiting r r.action)

  begun : (root : Option Name) (epoch : ℕ) (p : Name) → IsBeginReply root held epoch p x → Kinds held x
  begun None epoch p = decided held _ _ x _ (inl tt) (fits (Begin p))
  begun (Some root) epoch p = decided held _ _ x _ (inl tt) (λ e. inr (inl e))

  pub admitted : (epoch : ℕ) (r : Report) → IsReportReply held epoch r x → Kinds held x
  admitted epoch (Begin p) = begun (slice_get (known held.accepted) 0) epoch p
  admitted epoch (Numbered r) =
      decided held _ _ x _ (inl tt)
      (decided held _ _ x _ (inl tt) (decided held _ _ x _ (inr (inl refl)) (decided held _ _ x _ (inl tt) (standing (target_of r.process held.accepted) r))))

-- ---- what is told

-- the front that a reply tells is the one then, which never falls, and so is the epoch that it tells
abbrev pub Tells : Held → Reply → Held → Type 0
Tells held reply after =
    ((n : ℕ) → front_of reply ≡ Some n → after.front ≡ n) × (held.front ≤ after.front) × ((e : ℕ) → epoch_of reply ≡ Some e → after.epoch ≡ e)

-- what tells no front tells no epoch
no_epoch : (said : Reply) → front_of said ≡ None → (e : ℕ) → epoch_of said ≡ Some e → ⊥
no_epoch (Settled epoch front) none e is = cc
no_epoch _ none e is = cc

silent : (held after : Held) (reply said : Reply) → front_of said ≡ None → reply ≡ said → after.front ≡ held.front → Tells held reply after
silent held after reply said none e same =
    ((λ n is. let told : front_of said ≡ Some n = ap front_of (sym e) ∙ is in absurd (cc (none, told))), omega (arith, same), λ k is. absurd (no_epoch said none k (ap epoch_of (sym e) ∙ is)))

still : (held after : Held) (reply said : Reply) → front_of said ≡ None → reply ≡ said → after ≡ held → Tells held reply after
still held after reply said none e same = silent held after reply said none e (ap (λ (h : Held). h.front) same)

tells_no : (held : Held) (m : MarkedReport) (reply : Reply) → IsNo reply → Tells held reply (held_after held m reply)
tells_no held m (No code name value) refused = silent held held (No code name value) (No code name value) refl refl refl
tells_no held m (Accepted f) never = absurd never
tells_no held m (Old f) never = absurd never
tells_no held m (Bad n) never = absurd never
tells_no held m (Fail o) never = absurd never
tells_no held m (Line t) never = absurd never
tells_no held m (State q k l b i) never = absurd never
tells_no held m (Settled k f) never = absurd never
tells_no held m Bye never = absurd never
tells_no held m (Taken f) never = absurd never

tells_kind : (held : Held) (m : MarkedReport) (reply : Reply) → Kinds held reply → Tells held reply (held_after held m reply)
tells_kind held m reply (inl refused) = tells_no held m reply refused
tells_kind held m reply (inr (inl e)) = rw e ((λ n is. cc is), omega arith, λ k is. cc is)
tells_kind held m reply (inr (inr e)) = rw e ((λ n is. cc is), omega arith, λ k is. cc is)

tells_reported : (b : Bool) (fate : Fate) (held after : Held) (m : MarkedReport) (reply : Reply) → IsReported b fate held m reply after → Tells held reply after
tells_reported true fate held after m reply step = still held after reply (Fail Stopped) refl step.1 step.2
tells_reported false fine held after m reply step =
    subst (λ (h : Held). Tells held reply h) (sym step.1) (tells_kind held m reply (admitted held reply m.epoch m.report step.0))
tells_reported false memory held after m reply step = still held after reply no_memory refl step.3 step.4
tells_reported false before held after m reply step = silent held after reply (Fail Before) refl step.1 (ap (λ (h : Held). h.front) step.2)
tells_reported false unknown held after m reply step = silent held after reply (Fail Unknown) refl step.1 (ap (λ (h : Held). h.front) step.2)

tells_settled : (held after : Held) (front : ℕ) (names : List Name) (reply : Reply) → IsSettling held front names reply → LeavesSettled reply held names after → Tells held reply after
tells_settled held after front names (Settled k f) settling left =
    let is = settles_so held front names (Settled k f) (λ code name value e. cc) settling in
    let there = ap (λ (h : Held). h.front) left.2.is_kept in
    let told : f ≡ held.front + 1 = cc is in
    let then_epoch = ap (λ (h : Held). h.epoch) left.2.is_kept in
    let told_epoch : k ≡ held.epoch + 1 = cc is in (
      (λ n e. let same : f ≡ n = cc e in omega (arith, there, told, same)),
      omega (arith, there),
      λ n e. let same : k ≡ n = cc e in omega (arith, then_epoch, told_epoch, same),
    )
tells_settled held after front names (No code name value) settling left = still held after (No code name value) (No code name value) refl refl left
tells_settled held after front names (Accepted f) settling left = absurd (let e = settles_so held front names (Accepted f) (λ code name value e. cc) settling in cc)
tells_settled held after front names (Old f) settling left = absurd (let e = settles_so held front names (Old f) (λ code name value e. cc) settling in cc)
tells_settled held after front names (Taken f) settling left = absurd (let e = settles_so held front names (Taken f) (λ code name value e. cc) settling in cc)
tells_settled held after front names (Bad n) settling left = still held after (Bad n) (Bad n) refl refl left
tells_settled held after front names (Fail o) settling left = still held after (Fail o) (Fail o) refl refl left
tells_settled held after front names (Line t) settling left = still held after (Line t) (Line t) refl refl left
tells_settled held after front names (State q k l b i) settling left = still held after (State q k l b i) (State q k l b i) refl refl left
tells_settled held after front names Bye settling left = still held after Bye Bye refl refl left

tells_settlement : (b : Bool) (fate : Fate) (held after : Held) (front : ℕ) (names : List Name) (reply : Reply) → IsSettleAnswered b fate held front names reply after → Tells held reply after
tells_settlement true fate held after front names reply step = still held after reply (Fail Stopped) refl step.1 step.2
tells_settlement false fine held after front names reply step = tells_settled held after front names reply step.0 step.1
tells_settlement false memory held after front names reply step = still held after reply no_memory refl step.3 step.4
tells_settlement false before held after front names reply step = silent held after reply (Fail Before) refl step.1 (ap (λ (h : Held). h.front) step.2)
tells_settlement false unknown held after front names reply step = silent held after reply (Fail Unknown) refl step.1 (ap (λ (h : Held). h.front) step.2)

tells_line : (held : Held) (names : List Name) (reply : Reply) → IsLineReply held names reply → Tells held reply held
tells_line held names reply (inl (q, e)) = silent held held reply _ refl e refl
tells_line held names reply (inr (q, inl (name, first, e))) = silent held held reply _ refl e refl
tells_line held names reply (inr (q, inr (all, e))) = rw e ((λ n is. cc is), omega arith, λ k is. cc is)

tells_garbage : (held : Held) (reply : Reply) → IsGarbageReply held reply → Tells held reply held
tells_garbage held reply (inl (q, e)) = silent held held reply _ refl e refl
tells_garbage held reply (inr (q, e)) = rw e ((λ n is. cc is), omega arith, λ k is. cc is)

tells_told : (held : Held) (p : Name) (target : Option Name) (reply : Reply) → reply ≡ state_by target held.accepted p → Tells held reply held
tells_told held p None reply e = silent held held reply _ refl e refl
tells_told held p (Some t) reply e = silent held held reply _ refl e refl

tells_state : (held : Held) (p : Name) (reply : Reply) → IsStateReply held.accepted p reply → Tells held reply held
tells_state held p reply (inl (q, e)) = silent held held reply _ refl e refl
tells_state held p reply (inr (q, inl (t, e))) = silent held held reply _ refl e refl
tells_state held p reply (inr (q, inr (t, e))) = tells_told held p (target_of p held.accepted) reply e

tells_asked : (b : Bool) (fate : Fate) (held after : Held) (Answers : Reply → Type 0) (reply : Reply) → (Answers reply → Tells held reply held)
    → IsQuestionTurn b fate held Answers reply after → Tells held reply after
tells_asked true fate held after Answers reply told step = still held after reply (Fail Stopped) refl step.1 step.2
tells_asked false fate held after Answers reply told step = subst (λ (h : Held). Tells held reply h) (sym step.2) (told step.1)

-- what one turn tells
pub tells : (held after : Held) (call : Call) (reply : Reply) → IsTurn held call reply after → Tells held reply after
tells held after (calls.Bad n) reply (fate, step) = still held after reply _ refl step.1 step.2
tells held after calls.Unread reply (fate, step) = still held after reply _ refl step.1 step.2
tells held after calls.Bye reply (fate, step) = still held after reply _ refl step.1 step.2
tells held after (calls.Report m) reply (fate, step) = tells_reported held.stopped fate held after m reply step
tells held after (calls.Settle front names) reply (fate, step) = tells_settlement held.stopped fate held after front names reply step
tells held after (calls.Line names) reply (fate, step) =
    tells_asked held.stopped fate held after (IsLineReply held names) reply (tells_line held names reply) step
tells held after calls.Garbage reply (fate, step) = tells_asked held.stopped fate held after (IsGarbageReply held) reply (tells_garbage held reply) step
tells held after (calls.State p) reply (fate, step) =
    tells_asked held.stopped fate held after (IsStateReply held.accepted p) reply (tells_state held p reply) step

-- ---- a line is taken for a question for a line alone

shows_said : (reply said : Reply) → first_shown said ≡ said → reply ≡ said → first_shown reply ≡ reply
shows_said reply said shows e = rw e shows

shows_no : (reply : Reply) → IsNo reply → first_shown reply ≡ reply
shows_no (No code name value) refused = refl
shows_no (Accepted f) never = absurd never
shows_no (Old f) never = absurd never
shows_no (Bad n) never = absurd never
shows_no (Fail o) never = absurd never
shows_no (Line t) never = absurd never
shows_no (State m k l b i) never = absurd never
shows_no (Settled k f) never = absurd never
shows_no Bye never = absurd never
shows_no (Taken f) never = absurd never

shows_kind : (held : Held) (reply : Reply) → Kinds held reply → first_shown reply ≡ reply
shows_kind held reply (inl refused) = shows_no reply refused
shows_kind held reply (inr (inl e)) = shows_said reply _ refl e
shows_kind held reply (inr (inr e)) = shows_said reply _ refl e

shows_reported : (b : Bool) (fate : Fate) (held after : Held) (m : MarkedReport) (reply : Reply) → IsReported b fate held m reply after → first_shown reply ≡ reply
shows_reported true fate held after m reply step = shows_said reply _ refl step.1
shows_reported false fine held after m reply step = shows_kind held reply (admitted held reply m.epoch m.report step.0)
shows_reported false memory held after m reply step = shows_said reply _ refl step.3
shows_reported false before held after m reply step = shows_said reply _ refl step.1
shows_reported false unknown held after m reply step = shows_said reply _ refl step.1

shows_settled : (held : Held) (front : ℕ) (names : List Name) (reply : Reply) → IsSettling held front names reply → first_shown reply ≡ reply
shows_settled held front names (Taken f) settling = absurd (let e = settles_so held front names (Taken f) (λ code name value e. cc) settling in cc)
shows_settled held front names (Accepted f) settling = refl
shows_settled held front names (Old f) settling = refl
shows_settled held front names (No code name value) settling = refl
shows_settled held front names (Bad n) settling = refl
shows_settled held front names (Fail o) settling = refl
shows_settled held front names (Line t) settling = refl
shows_settled held front names (State q k l b i) settling = refl
shows_settled held front names (Settled k f) settling = refl
shows_settled held front names Bye settling = refl

shows_settlement : (b : Bool) (fate : Fate) (held after : Held) (front : ℕ) (names : List Name) (reply : Reply) → IsSettleAnswered b fate held front names reply after → first_shown reply ≡ reply
shows_settlement true fate held after front names reply step = shows_said reply _ refl step.1
shows_settlement false fine held after front names reply step = shows_settled held front names reply step.0
shows_settlement false memory held after front names reply step = shows_said reply _ refl step.3
shows_settlement false before held after front names reply step = shows_said reply _ refl step.1
shows_settlement false unknown held after front names reply step = shows_said reply _ refl step.1

shows_told : (held : Held) (p : Name) (target : Option Name) (reply : Reply) → reply ≡ state_by target held.accepted p → first_shown reply ≡ reply
shows_told held p None reply e = shows_said reply _ refl e
shows_told held p (Some t) reply e = shows_said reply _ refl e

shows_state : (held : Held) (p : Name) (reply : Reply) → IsStateReply held.accepted p reply → first_shown reply ≡ reply
shows_state held p reply (inl (q, e)) = shows_said reply _ refl e
shows_state held p reply (inr (q, inl (t, e))) = shows_said reply _ refl e
shows_state held p reply (inr (q, inr (t, e))) = shows_told held p (target_of p held.accepted) reply e

shows_asked : (b : Bool) (fate : Fate) (held after : Held) (p : Name) (reply : Reply)
    → IsQuestionTurn b fate held (IsStateReply held.accepted p) reply after → first_shown reply ≡ reply
shows_asked true fate held after p reply step = shows_said reply _ refl step.1
shows_asked false fate held after p reply step = shows_state held p reply step.1

line_first : (over : Held) (names : List Name) (reply : Reply) → IsLineShown over names reply (first_shown reply)
line_first over names (Accepted front) = refl
line_first over names (Old front) = refl
line_first over names (No code name value) = refl
line_first over names (Bad n) = refl
line_first over names (Fail outcome) = refl
line_first over names (Line text) = refl
line_first over names (State name reports elements live id) = refl
line_first over names (Settled epoch front) = refl
line_first over names Bye = refl
line_first over names (Taken front) = inr refl

shows_first : (held after over : Held) (call : Call) (reply : Reply) → IsTurn held call reply after → IsShown over call reply (first_shown reply)
shows_first held after over (calls.Line names) reply t = line_first over names reply
shows_first held after over calls.Garbage reply t = line_first over (known over.accepted) reply
shows_first held after over (calls.Report m) reply (fate, step) = shows_reported held.stopped fate held after m reply step
shows_first held after over (calls.Settle front names) reply (fate, step) = shows_settlement held.stopped fate held after front names reply step
shows_first held after over (calls.State p) reply (fate, step) = shows_asked held.stopped fate held after p reply step
shows_first held after over calls.Bye reply (fate, step) = shows_said reply _ refl step.1
shows_first held after over (calls.Bad n) reply (fate, step) = shows_said reply _ refl step.1
shows_first held after over calls.Unread reply (fate, step) = shows_said reply _ refl step.1

-- ---- no turn replies with a line

first_line : (reply : Reply) (text : List ℕ) → first_shown reply ≡ Line text → reply ≡ Line text
first_line (Accepted front) text e = e
first_line (Old front) text e = e
first_line (No code name value) text e = e
first_line (Bad n) text e = e
first_line (Fail outcome) text e = e
first_line (Line t) text e = e
first_line (State name reports elements live id) text e = e
first_line (Settled epoch front) text e = e
first_line Bye text e = e
first_line (Taken front) text e = absurd cc

never_first : (held after : Held) (call : Call) (reply : Reply) (text : List ℕ) → IsTurn held call reply after → first_shown reply ≡ Line text → ⊥
never_first held after call reply text t e = no_line held after call text (subst (λ (x : Reply). IsTurn held call x after) (first_line reply text e) t)

-- what is shown first for a turn
pub shown_first : (held after : Held) (call : Call) (reply : Reply) → IsOpened (unstopped after) → IsTurn held call reply after → IsShownOver after call reply (first_shown reply)
shown_first held after call reply opened t = record {
  opened = opened;
  front = (tells held after call reply t).0;
  epoch = (tells held after call reply t).2;
  shows = shows_first held after after call reply t;
  right = λ text e. absurd (never_first held after call reply text t e);
  chosen = λ text e. absurd (never_first held after call reply text t e);
}

-- what is shown first may be shown
pub may_show_first : (reply : Reply) → MayShow reply (first_shown reply)
may_show_first (Accepted front) = refl
may_show_first (Old front) = refl
may_show_first (No code name value) = refl
may_show_first (Bad n) = refl
may_show_first (Fail outcome) = refl
may_show_first (Line text) = refl
may_show_first (State name reports elements live id) = refl
may_show_first (Settled epoch front) = refl
may_show_first Bye = refl
may_show_first (Taken front) = inl refl

-- ---- where a line was taken the store goes on

no_taken : (reply : Reply) (front : ℕ) → first_shown reply ≡ reply → reply ≡ Taken front → ⊥
no_taken reply front shows is = absurd (let e : no_memory ≡ Taken front = subst (λ (r : Reply). first_shown r ≡ r) is shows in cc)

goes_by : (b : Bool) (fate : Fate) (held after : Held) (Answers : Reply → Type 0) (reply : Reply) (front : ℕ) → held.stopped ≡ b → IsQuestionTurn b fate held Answers reply after → reply ≡ Taken front
    → after.stopped ≡ false
goes_by true fate held after Answers reply front stopped step is = absurd (no_taken reply front (shows_said reply _ refl step.1) is)
goes_by false fate held after Answers reply front goes step is = ap (λ (h : Held). h.stopped) step.2 ∙ goes

pub taken_goes : (held after : Held) (call : Call) (reply : Reply) (front : ℕ) → IsTurn held call reply after → reply ≡ Taken front → after.stopped ≡ false
taken_goes held after (calls.Line names) reply front (fate, step) is = goes_by held.stopped fate held after (IsLineReply held names) reply front refl step is
taken_goes held after calls.Garbage reply front (fate, step) is = goes_by held.stopped fate held after (IsGarbageReply held) reply front refl step is
taken_goes held after (calls.Report m) reply front (fate, step) is = absurd (no_taken reply front (shows_reported held.stopped fate held after m reply step) is)
taken_goes held after (calls.Settle n names) reply front (fate, step) is = absurd (no_taken reply front (shows_settlement held.stopped fate held after n names reply step) is)
taken_goes held after (calls.State p) reply front (fate, step) is = absurd (no_taken reply front (shows_asked held.stopped fate held after p reply step) is)
taken_goes held after calls.Bye reply front (fate, step) is = absurd (no_taken reply front (shows_said reply _ refl step.1) is)
taken_goes held after (calls.Bad n) reply front (fate, step) is = absurd (no_taken reply front (shows_said reply _ refl step.1) is)
taken_goes held after calls.Unread reply front (fate, step) is = absurd (no_taken reply front (shows_said reply _ refl step.1) is)
