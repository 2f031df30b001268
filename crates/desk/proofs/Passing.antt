-- What the tests of a settlement tell where they let it pass, and its turn.
use Rattle.std.proofs.Common.{◌≡◌, ◌≢◌, ◌∙◌, inl, inr, ℕ, ◌+◌, ◌-◌, ◌<◌, ◌≤◌, ◌^◌, Bool, true, false, List, [], ◌∷◌, length, All, refl, sym, ap, subst, arith}
use Rattle.report_line.specs.Spelling.{AreNames, HasSpelling}
use Rattle.report_line.specs.declared.report.Report.{Report}
use Rattle.report_line.specs.declared.call.Call.TheVariants as calls
use Rattle.report_line.specs.declared.reply.Outcome.TheVariants.{Before, Unknown}
use Rattle.report_line.specs.declared.reply.Reply.{Reply}
use Rattle.report_line.specs.declared.reply.Reply.TheVariants.{Settled, Fail}
use Rattle.chains.specs.Processes.{Name, IsKnown}
use Rattle.chains.specs.Kept.{Kept}
use Rattle.chains.specs.Held.{Held, held_of, held_with, with_stop}
use Rattle.chains.specs.Admission.{report_limit}
use Rattle.chains.specs.Settled.{IsSettled}
use Rattle.chains.specs.Turns.{Fate, fine, memory, before, unknown, no_memory, PassesSettle, LeavesSettled, IsSettling, IsSettleTurn}
use Rattle.chains.proofs.Certain.{sure_number}
use Rattle.desk.specs.Records.{said_settled, settlement_recorded}
use Rattle.desk.specs.working.Parts.{IsFollowed}

-- ---- what was tested

-- the processes are known, the front is the present one, and there is room; something has begun
pub record AreTested (held : Held) (front : ℕ) (names : List Name) : Type 0 where
  pub begun : held.accepted ≢ []
  pub all_known : All (IsKnown held.accepted) names
  pub present : front ≡ held.front
  pub room : held.front < report_limit

pub tested : (held : Held) (front : ℕ) (names : List Name) → PassesSettle held front names → AreTested held front names
tested held front names (inl h) = absurd (let e = h.1 in cc)
tested held front names (inr (begun, inl first)) = absurd (let e = first.2 in cc)
tested held front names (inr (begun, inr (all, inl h))) = absurd (let e = h.1 in cc)
tested held front names (inr (begun, inr (all, inr (same, inl h)))) = absurd (let e = h.1 in cc)
tested held front names (inr (begun, inr (all, inr (same, inr (room, is))))) = record {
  begun = begun;
  all_known = all;
  present = sure_number front held.front same;
  room = omega (arith, room);
}

some_length : (accepted : List Report) → accepted ≢ [] → 1 ≤ length accepted
some_length [] some = absurd (some refl)
some_length (r ∷ rs) some = omega arith

-- so its line has one spelling
pub settle_spelled : (held : Held) (front : ℕ) (names others : List Name) → PassesSettle held front names → length held.accepted + held.epoch ≤ held.front → front < 2 ^ 32 → others ≡ names → AreNames others
    → HasSpelling (calls.Settle front names)
settle_spelled held front names others passes counted fits same are =
    let t = tested held front names passes in
    ((omega (arith, t.present, some_length held.accepted t.begun, counted), fits), subst AreNames same are)

-- ---- the turn

stops_true : (b : Bool) → (b ≡ false → ⊥) → b ≡ true
stops_true true stops = refl
stops_true false stops = absurd (stops refl)

beside_stop : (k : Kept) (b : Bool) → (b ≡ false → ⊥) → held_with k b ≡ with_stop (held_of k)
beside_stop k b stops = ap (held_with k) (stops_true b stops)

pub turn_before : (k : Kept) (b : Bool) (front : ℕ) (names : List Name) (reply : Reply) → PassesSettle (held_of k) front names → reply ≡ Fail Before → (b ≡ false → ⊥) → (fate : Fate) × IsSettleTurn fate (held_of k) front names reply (held_with k b)
turn_before k b front names reply passes says stops = (before, (passes, says, beside_stop k b stops))

pub turn_unknown : (k : Kept) (b : Bool) (front : ℕ) (names : List Name) (reply : Reply) → PassesSettle (held_of k) front names → reply ≡ Fail Unknown → (b ≡ false → ⊥) → (fate : Fate) × IsSettleTurn fate (held_of k) front names reply (held_with k b)
turn_unknown k b front names reply passes says stops = (unknown, (passes, says, beside_stop k b stops))

pub turn_unread : (k : Kept) (b : Bool) (front : ℕ) (names : List Name) (reply : Reply) → PassesSettle (held_of k) front names → reply ≡ no_memory → b ≡ false → (fate : Fate) × IsSettleTurn fate (held_of k) front names reply (held_with k b)
turn_unread k b front names reply passes says runs = (memory, (Settled (k.epoch + 1) (k.front + 1), passes, tt, says, ap (held_with k) runs))

-- what the chains tell behind it
told_so : (k after : Kept) (names : List Name) (epoch front : ℕ) → IsSettled (held_of k) names (held_of after) → epoch ≡ after.epoch → front ≡ after.front → Settled epoch front ≡ Settled (k.epoch + 1) (k.front + 1)
told_so k after names epoch front settled e f =
    let is = settled.2.is_kept in
    let one : epoch ≡ k.epoch + 1 = e ∙ ap (λ (h : Held). h.epoch) is in
    let two : front ≡ k.front + 1 = f ∙ ap (λ (h : Held). h.front) is in
    ap (λ (n : ℕ). Settled n front) one ∙ ap (Settled (k.epoch + 1)) two

pub turn_done : (k after : Kept) (b : Bool) (front : ℕ) (names : List Name) (epoch now : ℕ) (reply : Reply) → PassesSettle (held_of k) front names → IsSettled (held_of k) names (held_of after) → epoch ≡ after.epoch → now ≡ after.front
    → reply ≡ Settled epoch now → b ≡ false → (fate : Fate) × IsSettleTurn fate (held_of k) front names reply (held_with after b)
turn_done k after b front names epoch now reply passes settled e f says runs =
    let is = says ∙ told_so k after names epoch now settled e f in (
      fine,
      subst (λ (x : Reply). IsSettling (held_of k) front names x × LeavesSettled x (held_of k) names (held_with after b)) (sym is)
          (passes, subst (λ (h : Held). IsSettled (held_of k) names h) (sym (ap (held_with after) runs)) settled),
    )

-- and its record, by the epoch before the one that the reply tells
pub recorded_settled : (k after : Kept) (front : ℕ) (names : List Name) (epoch now : ℕ) (reply : Reply) → IsSettled (held_of k) names (held_of after) → epoch ≡ after.epoch → reply ≡ Settled epoch now
    → settlement_recorded front names reply ≡ said_settled k.epoch front names ∷ []
recorded_settled k after front names epoch now reply settled e says =
    let here : epoch - 1 ≡ k.epoch = omega (arith, e, ap (λ (h : Held). h.epoch) settled.2.is_kept) in
    ap (settlement_recorded front names) says ∙ ap (λ (n : ℕ). said_settled n front names ∷ []) here

-- ---- its record may follow

pub follows : (k after : Kept) (front : ℕ) (names : List Name) (reply : Reply) → HasSpelling (calls.Settle front names) → PassesSettle (held_of k) front names → IsSettled (held_of k) names (held_of after)
    → reply ≡ Fail Unknown → IsFollowed (held_of k) (said_settled k.epoch front names) reply
follows k after front names reply spelled passes settled says =
    subst (λ (x : Reply). IsFollowed (held_of k) (said_settled k.epoch front names) x) (sym says)
    (held_of after, record { call = calls.Settle front names; is_line = record { spelled = spelled; recorded = tt; line = refl }; admits = (refl, passes, settled) })
