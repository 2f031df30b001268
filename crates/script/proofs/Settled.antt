-- What the turn of a settlement on the chains tells.
use Rattle.std.proofs.Common.{◌≢◌, inl, inr, ℕ, ◌<◌, List, All, refl, arith}
use Rattle.std.specs.Prelude.{Result, Ok, Err, OnOk}
use Rattle.report_line.specs.declared.code.Code.TheVariants.{OutOfMemory}
use Rattle.report_line.specs.declared.reply.Reply.{Reply}
use Rattle.report_line.specs.declared.reply.Reply.TheVariants as replies
use Rattle.chains.specs.declared.refusal.No.{No}
use Rattle.chains.specs.Admission.{report_limit}
use Rattle.chains.specs.Answers.{IsSettleRefusal}
use Rattle.chains.specs.Held.{Held}
use Rattle.chains.specs.Processes.{Name, IsKnown}
use Rattle.chains.specs.Turns.{PassesSettle, IsSettling, LeavesSettled}

pub known_then : (held : Held) (front : ℕ) (names : List Name) → PassesSettle held front names → All (IsKnown held.accepted) names
known_then held front names (inl h) = absurd (let e = h.1 in cc)
known_then held front names (inr (begun, inl first)) = absurd (let e = first.2 in cc)
known_then held front names (inr (begun, inr (all, later))) = all

pub room_then : (held : Held) (front : ℕ) (names : List Name) → PassesSettle held front names → held.front < report_limit
room_then held front names (inl h) = absurd (let e = h.1 in cc)
room_then held front names (inr (begun, inl first)) = absurd (let e = first.2 in cc)
room_then held front names (inr (begun, inr (all, inl h))) = absurd (let e = h.1 in cc)
room_then held front names (inr (begun, inr (all, inr (same, inl h)))) = absurd (let e = h.1 in cc)
room_then held front names (inr (begun, inr (all, inr (same, inr (room, is))))) = omega (arith, room)

-- a refusal but for want of memory is the reply of the tests
pub passed_over : {E : Type 0} (held : Held) (front : ℕ) (names : List Name) (refusal : No) (r : Result (Unit {0}) E) → OnOk r (refusal.code ≢ OutOfMemory) → IsSettleRefusal held front names refusal
    → OnOk r ((reply : Reply) × (IsSettling held front names reply × LeavesSettled reply held names held))
passed_over held front names refusal (Ok u) other (inl h) = (replies.No refusal.code refusal.name refusal.value, (h, refl))
passed_over held front names refusal (Ok u) other (inr h) = absurd (other h.3)
passed_over held front names refusal (Err e) other h = tt
