-- Lines that are tested in a replay.
use Rattle.std.proofs.Common.{◌≡◌, ◌≢◌, ℕ, zero, suc, ◌+◌, ◌-◌, ◌<◌, ◌≤◌, Bool, true, false, List, [], ◌∷◌, ◌++◌, length, take, drop, get_or, refl, sym, ap, ◌∙◌, subst, inl, inr, arith}
use Rattle.std.proofs.lemmas.Bool.{cases_eq}
use Rattle.std.proofs.lemmas.List.{take_more}
use Rattle.std.proofs.lemmas.Option.{get_or_from_slice_get, slice_get_within}
use Rattle.report_line.specs.declared.report.Report.{Report}
use Rattle.report_line.specs.declared.marked.MarkedReport.{MarkedReport}
use Rattle.report_line.specs.declared.call.Call.{Call}
use Rattle.report_line.specs.declared.call.Call.TheVariants as calls
use Rattle.report_line.specs.declared.reply.Reply.{Reply}
use Rattle.report_line.specs.declared.reply.Reply.TheVariants.{Accepted, Old, No, Bad, Fail, Line, State, Settled, Bye, Taken}
use Rattle.report_line.specs.declared.reply.Outcome.TheVariants.{Before, Unknown, Stopped}
use Rattle.chains.specs.Processes.{Name}
use Rattle.chains.specs.Kept.{Kept}
use Rattle.chains.specs.Held.{Held, held_of, with_report}
use Rattle.chains.specs.Admission.{held_after}
use Rattle.chains.specs.Settled.{IsSettled}
use Rattle.chains.specs.Turns.{Fate, fine, memory, before, unknown, LeavesSettled, IsSettleAnswered, IsTurn}
use Rattle.chains.proofs.Turning.{after_report_turn, unchanged}
use Rattle.reasons.specs.Shown.{IsLineText}
use Rattle.desk.specs.declared.turn.Turn.{Turn}
use Rattle.desk.specs.Lawful.{unstopped}
use Rattle.desk.proofs.Running.{is_unstopped}
use Rattle.propagate.proofs.Outcomes.{one_outcome}
use Rattle.desk.specs.Replays.{ReplaysFrom, Replays}
use Rattle.desk.proofs.Turning.{replays_more}
use Rattle.coordinator.specs.declared.marking.Owner.{Owner}
use Rattle.coordinator.specs.declared.fault.CloseFault.{CloseFault}
use Rattle.coordinator.specs.declared.fault.CloseFault.TheVariants.{Stranger, Missing, Memory}
use Rattle.line_answer.specs.Asking.{AsksForLine}
use Rattle.line_answer.specs.Questions.{IsLineFor}
use Rattle.coordinator.specs.Passes.{PassEntry, PassState}
use Rattle.coordinator.specs.Closing.{IsCause, ShowsRightly}
use Rattle.coordinator.specs.working.Marks.{owner_at}
use Rattle.coordinator.specs.working.Checks.{HaveSame, RightOver, IsEntryOf, IsCheckedOver, IsWrongOver, AreCheckedTo, IsWrongThere}

-- ---- neither the epochs nor whether the store is stopped matter for a line

abbrev with_rest : List Report → ℕ → List ℕ → ℕ → Bool → Held
with_rest accepted front epochs epoch stopped = record { accepted = accepted; epochs = epochs; front = front; epoch = epoch; stopped = stopped }

module _ (accepted : List Report) (front : ℕ) (es fs : List ℕ) (k l : ℕ) (s t : Bool) where
  text_over : (names : List Name) (text : List ℕ) → IsLineText (with_rest accepted front es k s) names text → IsLineText (with_rest accepted front fs l t) names text
  text_over names text x = record {
    certificate = x.certificate;
    for_names = x.for_names;
    certifies = record {
      front = x.certifies.front;
      failed = x.certifies.failed;
      known_failed = x.certifies.known_failed;
      in_order = x.certifies.in_order;
      cut = x.certifies.cut;
      consistent = x.certifies.consistent;
      reasons = x.certifies.reasons;
    };
    text_is = x.text_is;
  }

  asks_over : (call : Call) (names : List Name) → AsksForLine (with_rest accepted front es k s) call names → AsksForLine (with_rest accepted front fs l t) call names
  asks_over (calls.Line listed) names a = a
  asks_over calls.Garbage names a = a
  asks_over (calls.Report m) names a = a
  asks_over (calls.Settle n listed) names a = a
  asks_over (calls.State p) names a = a
  asks_over calls.Bye names a = a
  asks_over (calls.Bad n) names a = a
  asks_over calls.Unread names a = a

  line_over : (call : Call) (text : List ℕ) → IsLineFor (with_rest accepted front es k s) call text → IsLineFor (with_rest accepted front fs l t) call text
  line_over call text (names, asks, fits) = (names, asks_over call names asks, text_over names text fits)

-- over what has the same list and front
line_same : (a b : Held) (call : Call) (text : List ℕ) → a.accepted ≡ b.accepted → a.front ≡ b.front → IsLineFor a call text → IsLineFor b call text
line_same a b call text list front fits =
    subst (λ (n : ℕ). IsLineFor (with_rest b.accepted n b.epochs b.epoch b.stopped) call text) front
    (subst (λ (xs : List Report). IsLineFor (with_rest xs a.front b.epochs b.epoch b.stopped) call text) list
    (line_over a.accepted a.front a.epochs b.epochs a.epoch b.epoch a.stopped b.stopped call text fits))

-- ---- one turn

-- where a report is not accepted, all stays but whether the store is stopped
kept_after : (held : Held) (m : MarkedReport) (reply : Reply) → ((n : ℕ) → reply ≢ Accepted n) → unstopped (held_after held m reply) ≡ unstopped held
kept_after held m (Accepted n) other = absurd (other n refl)
kept_after held m (Old n) other = refl
kept_after held m (No code name value) other = refl
kept_after held m (Bad n) other = refl
kept_after held m (Fail Before) other = refl
kept_after held m (Fail Unknown) other = refl
kept_after held m (Fail Stopped) other = refl
kept_after held m (Line text) other = refl
kept_after held m (State name reports elements live id) other = refl
kept_after held m (Settled epoch front) other = refl
kept_after held m Bye other = refl
kept_after held m (Taken n) other = refl

same_by : (k : Kept) (held after : Held) → HaveSame k held → after ≡ held → HaveSame k after
same_by k held after same e = same ∙ sym (ap unstopped e)

-- a turn of a report that is not accepted
pub same_without : (k : Kept) (held after : Held) (call : Call) (reply : Reply) (m : MarkedReport) → call ≡ calls.Report m → ((n : ℕ) → reply ≢ Accepted n) → HaveSame k held → IsTurn held call reply after → HaveSame k after
same_without k held after call reply m is other same t =
    let t' : IsTurn held (calls.Report m) reply after = subst (λ (c : Call). IsTurn held c reply after) is t in
    same ∙ sym (ap unstopped (after_report_turn held.stopped t'.0 held m reply after t'.1) ∙ kept_after held m reply other)

left_without : (k : Kept) (held : Held) (names : List Name) (reply : Reply) (after : Held) → ((e n : ℕ) → reply ≢ Settled e n) → HaveSame k held → LeavesSettled reply held names after → HaveSame k after
left_without k held names (Settled e n) after other same left = absurd (other e n refl)
left_without k held names _ after other same left = same_by k held after same left

settlement_without : (stopped : Bool) (fate : Fate) (k : Kept) (held after : Held) (front : ℕ) (names : List Name) (reply : Reply) → ((e n : ℕ) → reply ≢ Settled e n) → HaveSame k held
    → IsSettleAnswered stopped fate held front names reply after → HaveSame k after
settlement_without true fate k held after front names reply other same t = same_by k held after same t.2
settlement_without false fine k held after front names reply other same t = left_without k held names reply after other same t.1
settlement_without false memory k held after front names reply other same t = same_by k held after same t.4
settlement_without false before k held after front names reply other same t = same ∙ sym (ap unstopped t.2)
settlement_without false unknown k held after front names reply other same t = same ∙ sym (ap unstopped t.2)

-- a turn of a settlement that is not accepted
pub same_unsettled : (k : Kept) (held after : Held) (call : Call) (reply : Reply) (front : ℕ) (names : List Name) → call ≡ calls.Settle front names → ((e n : ℕ) → reply ≢ Settled e n) → HaveSame k held → IsTurn held call reply after → HaveSame k after
same_unsettled k held after call reply front names is other same t =
    let t' : IsTurn held (calls.Settle front names) reply after = subst (λ (c : Call). IsTurn held c reply after) is t in
    settlement_without held.stopped t'.0 k held after front names reply other same t'.1

-- a turn of another call
pub same_other : (k : Kept) (held after : Held) (call : Call) (reply : Reply) → ((m : MarkedReport) → call ≢ calls.Report m) → ((front : ℕ) (names : List Name) → call ≢ calls.Settle front names) → HaveSame k held
    → IsTurn held call reply after → HaveSame k after
same_other k held after (calls.Report m) reply other unsettled same t = absurd (other m refl)
same_other k held after (calls.Line names) reply other unsettled same (fate, t) = same_by k held after same (unchanged held.stopped fate held _ reply after t)
same_other k held after calls.Garbage reply other unsettled same (fate, t) = same_by k held after same (unchanged held.stopped fate held _ reply after t)
same_other k held after (calls.Settle front names) reply other unsettled same t = absurd (unsettled front names refl)
same_other k held after (calls.State p) reply other unsettled same (fate, t) = same_by k held after same (unchanged held.stopped fate held _ reply after t)
same_other k held after calls.Bye reply other unsettled same (fate, t) = same_by k held after same t.2
same_other k held after (calls.Bad n) reply other unsettled same (fate, t) = same_by k held after same t.2
same_other k held after calls.Unread reply other unsettled same (fate, t) = same_by k held after same t.2

-- a turn that accepts a report
pub same_with : (k new : Kept) (held after : Held) (call : Call) (reply : Reply) (m : MarkedReport) (n : ℕ) → call ≡ calls.Report m → reply ≡ Accepted n → held_of new ≡ with_report (held_of k) m → HaveSame k held
    → IsTurn held call reply after → HaveSame new after
same_with k new held after call reply m n is says more same t =
    let t' : IsTurn held (calls.Report m) (Accepted n) after = subst (λ (x : Reply). IsTurn held (calls.Report m) x after) says (subst (λ (c : Call). IsTurn held c reply after) is t) in
    more ∙ ap (λ (h : Held). with_report h m) same ∙ sym (ap unstopped (after_report_turn held.stopped t'.0 held m (Accepted n) after t'.1))

settlement_with : (stopped : Bool) (fate : Fate) (k new : Kept) (held after : Held) (front : ℕ) (names : List Name) (e n : ℕ) → held.stopped ≡ stopped → IsSettled (held_of k) names (held_of new) → HaveSame k held
    → IsSettleAnswered stopped fate held front names (Settled e n) after → HaveSame new after
settlement_with true fate k new held after front names e n is settled same t = absurd (let d = t.1 in cc)
settlement_with false fine k new held after front names e n is settled same t =
    let there = subst (λ (h : Held). IsSettled h names after) (is_unstopped held is ∙ sym same) t.1 in
    one_outcome (held_of k) names (held_of new) after settled there ∙ is_unstopped after (ap (λ (h : Held). h.stopped) t.1.2.is_kept ∙ is)
settlement_with false memory k new held after front names e n is settled same t = absurd (let d = t.3 in cc)
settlement_with false before k new held after front names e n is settled same t = absurd (let d = t.1 in cc)
settlement_with false unknown k new held after front names e n is settled same t = absurd (let d = t.1 in cc)

-- a turn that returned all processes to a line
pub same_settled : (k new : Kept) (held after : Held) (call : Call) (reply : Reply) (front : ℕ) (names : List Name) (e n : ℕ) → call ≡ calls.Settle front names → reply ≡ Settled e n → IsSettled (held_of k) names (held_of new) → HaveSame k held
    → IsTurn held call reply after → HaveSame new after
same_settled k new held after call reply front names e n is says settled same t =
    let t' : IsTurn held (calls.Settle front names) (Settled e n) after =
    subst (λ (x : Reply). IsTurn held (calls.Settle front names) x after) says (subst (λ (c : Call). IsTurn held c reply after) is t) in
    settlement_with held.stopped t'.0 k new held after front names e n refl settled same t'.1

-- the same where memory may be wanting
-- ---- the replay

-- after so many turns the chains have what these replay to, and the others replay on
abbrev pub IsReplayed : Held → List Turn → Kept → ℕ → Type 0
IsReplayed opening ts k i =
    (held : Held) × Replays opening (take i ts) held × HaveSame k held × ((end : Held) × ReplaysFrom i held (drop i ts) end)

pub replayed_none : (opening : Held) (ts : List Turn) (k : Kept) → held_of k ≡ opening → ((end : Held) × Replays opening ts end) → IsReplayed opening ts k 0
replayed_none opening ts k is all = (opening, refl, is ∙ is_unstopped opening (sym (ap (λ (h : Held). h.stopped) is)), all)

drop_one : (ts : List Turn) (i : ℕ) (d : Turn) → i < length ts → drop i ts ≡ get_or ts i d ∷ drop (i + 1) ts
drop_one [] i d lt = absurd (omega (arith, lt))
drop_one (t ∷ ts) zero d lt = refl
drop_one (t ∷ ts) (suc i) d lt = let up : suc i + 1 ≡ suc (i + 1) = omega arith in rw up (drop_one ts i d (omega (arith, lt)))

long_take : (ts : List Turn) (i : ℕ) → i ≤ length ts → length (take i ts) ≡ i
long_take [] zero le = refl
long_take [] (suc i) le = absurd (omega (arith, le))
long_take (t ∷ ts) zero le = refl
long_take (t ∷ ts) (suc i) le = let rest = long_take ts i (omega (arith, le)) in omega (arith, rest)

pub replayed_more : (opening : Held) (ts : List Turn) (k new : Kept) (i : ℕ) (t : Turn) → i < length ts → t ≡ get_or ts i t
    → ((held after : Held) → HaveSame k held → IsTurn held t.call t.receipt.reply after → HaveSame new after) → IsReplayed opening ts k i → IsReplayed opening ts new (i + 1)
replayed_more opening ts k new i t lt is step (held, so_far, same, (end, rest)) =
    let next : drop i ts ≡ t ∷ drop (i + 1) ts = drop_one ts i t lt ∙ ap (λ (x : Turn). x ∷ drop (i + 1) ts) (sym is) in
    let on : ReplaysFrom i held (t ∷ drop (i + 1) ts) end = subst (λ (xs : List Turn). ReplaysFrom i held xs end) next rest in
    let front : take (i + 1) ts ≡ take i ts ++ t ∷ [] = take_more ts i t lt ∙ ap (λ (x : Turn). take i ts ++ x ∷ []) (sym is) in
    let number : t.receipt.turn ≡ (0 + length (take i ts)) + 1 = omega (arith, on.0, long_take ts i (omega (arith, lt))) in (
      on.1.0,
      subst (λ (xs : List Turn). Replays opening xs on.1.0) (sym front) (replays_more 0 opening held on.1.0 (take i ts) t so_far number on.1.1),
      step held on.1.0 same on.1.1,
      (end, on.1.2),
    )

-- ---- the tests

right_there : (opening : Held) (ts : List Turn) (k : Kept) (i : ℕ) (e : PassEntry) → IsReplayed opening ts k i → e.receipt.turn ≡ i + 1 → RightOver (held_of k) e → ShowsRightly opening ts e
right_there opening ts k i e (held, so_far, same, rest) is right text shows =
    let at : i ≡ e.receipt.turn - 1 = omega (arith, is) in
    (held, subst (λ (n : ℕ). Replays opening (take n ts) held) at so_far, line_same (held_of k) held e.call text (ap (λ (h : Held). h.accepted) same) (ap (λ (h : Held). h.front) same) (right text shows))

pub checked_none : (opening : Held) (ts : List Turn) (passes : List PassState) (owners : List Owner) → AreCheckedTo opening ts passes owners 0
checked_none opening ts passes owners i p e lt entry = absurd (omega (arith, lt))

pub checked_more : (opening : Held) (ts : List Turn) (passes : List PassState) (owners : List Owner) (k : Kept) (i : ℕ) (o : Owner) → o ≡ owner_at owners i → IsReplayed opening ts k i
    → IsCheckedOver (held_of k) passes o (i + 1) → AreCheckedTo opening ts passes owners i → AreCheckedTo opening ts passes owners (i + 1)
checked_more opening ts passes owners k i o is replayed here so_far j p e lt entry = elim (cases_eq j i) [
  | inl same ↦
      let there : IsEntryOf passes (owner_at owners i) (i + 1) p e = subst (λ (n : ℕ). IsEntryOf passes (owner_at owners n) (n + 1) p e) same entry in
      right_there opening ts k i e replayed there.2 (here p e (subst (λ (x : Owner). IsEntryOf passes x (i + 1) p e) (sym is) there))
  | inr apart ↦ so_far j p e (omega (arith, lt, apart)) entry
]

pub wrong_there : (opening : Held) (ts : List Turn) (passes : List PassState) (o : Owner) (k : Kept) (i : ℕ) (fault : CloseFault) → IsReplayed opening ts k i
    → IsWrongOver (held_of k) passes o (i + 1) fault → IsWrongThere opening ts passes fault
wrong_there opening ts passes o k i (Stranger number) (held, so_far, same, rest) (p, e, entry, is, positive, (text, shows, wrong)) =
    let at : i ≡ e.receipt.turn - 1 = omega (arith, entry.2) in (
      o,
      p,
      e,
      (entry.0, entry.1, refl),
      is,
      positive,
      (text, shows, (held, subst (λ (n : ℕ). Replays opening (take n ts) held) at so_far, λ fits. wrong (line_same held (held_of k) e.call text (sym (ap (λ (h : Held). h.accepted) same)) (sym (ap (λ (h : Held). h.front) same)) fits))),
    )
wrong_there opening ts passes o k i (Missing shares turns) replayed never = absurd never
wrong_there opening ts passes o k i Memory replayed wrong = tt

-- an entry that is wrong is a cause
pub wrong_cause : (opening : Held) (ts : List Turn) (passes : List PassState) (fault : CloseFault) → IsWrongThere opening ts passes fault → IsCause opening ts passes fault
wrong_cause opening ts passes (Stranger number) (o, p, e, entry, is, positive, wrong) = record {
  place = o.pass;
  pass = p;
  entry = e;
  stands = entry.0;
  number_is = is;
  positive = positive;
  has = (o.entry, slice_get_within p.entries o.entry e entry.1, get_or_from_slice_get p.entries o.entry e e entry.1);
  strange = inr (inr wrong);
}
wrong_cause opening ts passes (Missing shares turns) never = absurd never
wrong_cause opening ts passes Memory wrong = tt
