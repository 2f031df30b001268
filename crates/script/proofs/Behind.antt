-- What is held behind printed lines: one thing, reached by turns, whose front counts no more lines than there are.
use Rattle.std.proofs.Common.{◌≡◌, ◌≤◌, ◌+◌, ℕ, Bool, true, false, List, [], ◌∷◌, ◌++◌, length, refl, sym, ap, subst, ◌∙◌, arith}
use Rattle.std.proofs.lemmas.List.{length-append}
use Rattle.std.proofs.lemmas.List.Elements.{All-nil}
use Rattle.report_line.specs.declared.call.Call.{Call}
use Rattle.report_line.specs.declared.call.Call.TheVariants as calls
use Rattle.report_line.specs.declared.marked.MarkedReport.{MarkedReport}
use Rattle.report_line.specs.declared.reply.Outcome.TheVariants.{Before, Unknown}
use Rattle.report_line.specs.declared.reply.Reply.{Reply}
use Rattle.report_line.specs.declared.reply.Reply.TheVariants.{Accepted, Settled, Fail}
use Rattle.chains.specs.Admission.{held_after}
use Rattle.chains.specs.Folded.{nothing_folded, IsReached}
use Rattle.chains.specs.Held.{Held, counting, with_report}
use Rattle.chains.specs.Processes.{Name}
use Rattle.chains.specs.Settled.{IsSettled}
use Rattle.chains.specs.Turns.{fine, LeavesSettled, IsSettleAnswered, IsTurnWith}
use Rattle.chains.proofs.Turning.{unchanged, after_report_turn, turn_reached}
use Rattle.script.specs.Printed.{IsHeldBehind, nothing, one_more}
use Rattle.script.proofs.OneTurn.{turn_once}

-- ---- the last line

head_of : (x y : Call) (xs ys : List Call) → x ∷ xs ≡ y ∷ ys → x ≡ y
head_of x y xs ys is = cc

rest_of : (x y : Call) (xs ys : List Call) → x ∷ xs ≡ y ∷ ys → xs ≡ ys
rest_of x y xs ys is = cc

none_pushed : {X : Type 0} (xs : List Call) (x : Call) → [] ≡ xs ++ x ∷ [] → X
none_pushed [] x is = absurd (cc)
none_pushed (y ∷ xs) x is = absurd (cc)

-- lists with one more element are equal part by part
same_parts : (xs ys : List Call) (x y : Call) → xs ++ x ∷ [] ≡ ys ++ y ∷ [] → (xs ≡ ys) × (x ≡ y)
same_parts [] [] x y is = (refl, head_of x y [] [] is)
same_parts [] (z ∷ ys) x y is = none_pushed ys y (rest_of x z [] (ys ++ y ∷ []) is)
same_parts (z ∷ xs) [] x y is = none_pushed xs x (sym (rest_of z y (xs ++ x ∷ []) [] is))
same_parts (z ∷ xs) (w ∷ ys) x y is =
    let later = same_parts xs ys x y (rest_of z w (xs ++ x ∷ []) (ys ++ y ∷ []) is) in
    (ap (λ (c : Call). c ∷ xs) (head_of z w (xs ++ x ∷ []) (ys ++ y ∷ []) is) ∙ ap (λ (l : List Call). w ∷ l) later.0, later.1)

-- the turn of the last line
pub record LastTurn (told : List Call) (line : Call) (after : Held) : Type 0 where
  pub held : Held
  pub reply : Reply
  pub behind : IsHeldBehind told held
  pub turn : IsTurnWith fine held line reply after

by_last : {all : List Call} {after : Held} → IsHeldBehind all after → (told : List Call) (line : Call) → all ≡ told ++ line ∷ [] → LastTurn told line after
by_last nothing told line is = none_pushed told line is
by_last {after = after} (one_more {lines = before} last reply {held = held} behind turn) told line is =
    let same = same_parts before told last line is in
    record {
      held = held;
      reply = reply;
      behind = subst (λ (l : List Call). IsHeldBehind l held) same.0 behind;
      turn = subst (λ (c : Call). IsTurnWith fine held c reply after) same.1 turn;
    }

pub last_turn : (told : List Call) (line : Call) (after : Held) → IsHeldBehind (told ++ line ∷ []) after → LastTurn told line after
last_turn told line after behind = by_last behind told line refl

pushed_none : {X : Type 0} (xs : List Call) (x : Call) → xs ++ x ∷ [] ≡ [] → X
pushed_none xs x is = none_pushed xs x (sym is)

by_none : {all : List Call} {held : Held} → IsHeldBehind all held → all ≡ [] → held ≡ counting []
by_none nothing is = refl
by_none (one_more {lines = before} last reply behind turn) is = pushed_none before last is

pub behind_nothing : (held : Held) → IsHeldBehind [] held → held ≡ counting []
behind_nothing held behind = by_none behind refl

-- ---- one thing is held

once_by : {told : List Call} {a : Held} → IsHeldBehind told a → (b : Held) → IsHeldBehind told b → a ≡ b
once_by nothing b other = sym (behind_nothing b other)
once_by {a = a} (one_more {lines = before} line reply {held = held} behind turn) b other =
    let last = last_turn before line b other in
    let same : held ≡ last.held = once_by behind last.held last.behind in
    turn_once last.held a b line reply last.reply (subst (λ (h : Held). IsTurnWith fine h line reply a) same turn) last.turn

pub behind_once : (told : List Call) (a b : Held) → IsHeldBehind told a → IsHeldBehind told b → a ≡ b
behind_once told a b first second = once_by first b second

-- ---- it is reached

first_reached : IsReached (counting [])
first_reached = record { folded = nothing_folded; marked = refl; past = All-nil _; counted = omega arith }

pub behind_reached : {told : List Call} {held : Held} → IsHeldBehind told held → IsReached held
behind_reached nothing = first_reached
behind_reached {held = after} (one_more line reply {held = held} behind turn) = turn_reached held after line reply (behind_reached behind) (fine, turn)

-- ---- what a turn adds to the front

same_front : (held after : Held) → after ≡ held → after.front ≡ held.front
same_front held after is = ap (λ (h : Held). h.front) is

-- either one line more is accepted, and this is so, or the front stays
data Moves (held after : Held) (P : Type 0) : Type 0 where
  moved : P → after.front ≡ held.front + 1 → Moves held after P
  stayed : after.front ≡ held.front → Moves held after P

report_moves : (reply : Reply) (held after : Held) (m : MarkedReport) → after ≡ held_after held m reply → Moves held after (after ≡ with_report held m)
report_moves (Accepted front) held after m is = moved is (ap (λ (h : Held). h.front) is)
report_moves (Fail Before) held after m is = stayed (ap (λ (h : Held). h.front) is)
report_moves (Fail Unknown) held after m is = stayed (ap (λ (h : Held). h.front) is)
report_moves _ held after m is = stayed (same_front held after is)

left_moves : (reply : Reply) (held after : Held) (names : List Name) → LeavesSettled reply held names after → Moves held after (IsSettled held names after)
left_moves (Settled epoch front) held after names left = moved left (ap (λ (h : Held). h.front) left.2.is_kept)
left_moves _ held after names left = stayed (same_front held after left)

settle_moves : (stopped : Bool) (reply : Reply) (held after : Held) (front : ℕ) (names : List Name) → IsSettleAnswered stopped fine held front names reply after → Moves held after (IsSettled held names after)
settle_moves true reply held after front names t = stayed (same_front held after t.2)
settle_moves false reply held after front names t = left_moves reply held after names t.1

few_by : {P : Type 0} (held after : Held) → Moves held after P → after.front ≤ held.front + 1
few_by held after (moved is front) = omega arith
few_by held after (stayed front) = omega arith

few_same : (held after : Held) → after ≡ held → after.front ≤ held.front + 1
few_same held after is = (let front = same_front held after is in omega arith)

turn_few : (held after : Held) (call : Call) (reply : Reply) → IsTurnWith fine held call reply after → after.front ≤ held.front + 1
turn_few held after (calls.Report m) reply t = few_by held after (report_moves reply held after m (after_report_turn held.stopped fine held m reply after t))
turn_few held after (calls.Settle front names) reply t = few_by held after (settle_moves held.stopped reply held after front names t)
turn_few held after (calls.Line names) reply t = few_same held after (unchanged held.stopped fine held _ reply after t)
turn_few held after calls.Garbage reply t = few_same held after (unchanged held.stopped fine held _ reply after t)
turn_few held after (calls.State p) reply t = few_same held after (unchanged held.stopped fine held _ reply after t)
turn_few held after calls.Bye reply t = few_same held after t.2
turn_few held after (calls.Bad n) reply t = few_same held after t.2
turn_few held after calls.Unread reply t = few_same held after t.2

few_lines : {told : List Call} {held : Held} → IsHeldBehind told held → held.front ≤ length told
few_lines nothing = omega arith
few_lines {held = after} (one_more {lines = before} line reply {held = held} behind turn) =
    let before_few : held.front ≤ length before = few_lines behind in
    let more : after.front ≤ held.front + 1 = turn_few held after line reply turn in
    omega (arith, before_few, more, length-append before (line ∷ []))

moves_so : {P : Type 0} (held after : Held) (n : ℕ) → Moves held after P → held.front ≤ n → after.front ≡ n + 1 → P × (held.front ≡ n)
moves_so held after n (moved is front) few all = (is, omega arith)
moves_so held after n (stayed front) few all = absurd (omega arith)

-- ---- where the front counts all lines, the last one is accepted, and so were those before it

pub last_report : (told : List Call) (m : MarkedReport) (after : Held) → IsHeldBehind (told ++ calls.Report m ∷ []) after → after.front ≡ length (told ++ calls.Report m ∷ [])
    → (held : Held) × IsHeldBehind told held × (held.front ≡ length told) × (after ≡ with_report held m)
last_report told m after behind all =
    let last = last_turn told (calls.Report m) after behind in
    let held : Held = last.held in
    let counted : after.front ≡ length told + 1 = all ∙ length-append told (calls.Report m ∷ []) in
    let so = moves_so held after (length told) (report_moves last.reply held after m (after_report_turn held.stopped fine held m last.reply after last.turn)) (few_lines last.behind) counted in
    (held, last.behind, so.1, so.0)

pub last_settlement : (told : List Call) (front : ℕ) (names : List Name) (after : Held) → IsHeldBehind (told ++ calls.Settle front names ∷ []) after
    → after.front ≡ length (told ++ calls.Settle front names ∷ []) → (held : Held) × IsHeldBehind told held × (held.front ≡ length told) × IsSettled held names after
last_settlement told front names after behind all =
    let last = last_turn told (calls.Settle front names) after behind in
    let held : Held = last.held in
    let counted : after.front ≡ length told + 1 = all ∙ length-append told (calls.Settle front names ∷ []) in
    let so = moves_so held after (length told) (settle_moves held.stopped last.reply held after front names last.turn) (few_lines last.behind) counted in
    (held, last.behind, so.1, so.0)
