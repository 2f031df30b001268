-- What a turn tells by its reply.
use Rattle.std.proofs.Common.{◌≡◌, ◌≢◌, ℕ, Bool, true, false, List, [], inl, inr, refl, ap}
use Rattle.report_line.specs.declared.marked.MarkedReport.{MarkedReport}
use Rattle.report_line.specs.declared.reply.Outcome.TheVariants.{Before, Unknown}
use Rattle.report_line.specs.declared.reply.Reply.{Reply}
use Rattle.report_line.specs.declared.reply.Reply.TheVariants.{Accepted, Settled, Fail}
use Rattle.chains.specs.Processes.{Name}
use Rattle.chains.specs.Held.{Held, with_report, with_stop}
use Rattle.chains.specs.Admission.{IsAdmission, held_after}
use Rattle.chains.specs.Settled.{IsSettled}
use Rattle.chains.specs.Turns.{Fate, fine, memory, before, unknown, IsReported, IsSettling, LeavesSettled, IsSettleAnswered}

-- ---- what is accepted, and what is settled

-- a report that is accepted passed the tests, and is held
pub accepted_so : (stopped : Bool) (fate : Fate) (held : Held) (m : MarkedReport) (front : ℕ) (next : Held) → IsReported stopped fate held m (Accepted front) next
    → IsAdmission held m (Accepted front) × (next ≡ with_report held m)
accepted_so true fate held m front next t = absurd (let e = t.1 in cc)
accepted_so false fine held m front next t = t
accepted_so false memory held m front next t = absurd (let e = t.3 in cc)
accepted_so false before held m front next t = absurd (let e = t.1 in cc)
accepted_so false unknown held m front next t = absurd (let e = t.1 in cc)

begun : (held : Held) (front : ℕ) (names : List Name) (epoch now : ℕ) → IsSettling held front names (Settled epoch now) → held.accepted ≢ []
begun held front names epoch now (inl h) = absurd (let e = h.1 in cc)
begun held front names epoch now (inr h) = h.0

-- a settlement that is made comes behind BEGIN, and returns all
pub settled_so : (stopped : Bool) (fate : Fate) (held : Held) (front : ℕ) (names : List Name) (epoch now : ℕ) (next : Held)
    → IsSettleAnswered stopped fate held front names (Settled epoch now) next → (held.accepted ≢ []) × IsSettled held names next
settled_so true fate held front names epoch now next t = absurd (let e = t.1 in cc)
settled_so false fine held front names epoch now next t = (begun held front names epoch now t.0, t.1)
settled_so false memory held front names epoch now next t = absurd (let e = t.3 in cc)
settled_so false before held front names epoch now next t = absurd (let e = t.1 in cc)
settled_so false unknown held front names epoch now next t = absurd (let e = t.1 in cc)

-- ---- what every other turn leaves

-- the accepted list and the epoch are what they were
abbrev pub Keeps : Held → Held → Type 0
Keeps held next = (next.accepted ≡ held.accepted) × (next.epoch ≡ held.epoch)

pub same_keeps : (held next : Held) → next ≡ held → Keeps held next
same_keeps held next is = (ap (λ (h : Held). h.accepted) is, ap (λ (h : Held). h.epoch) is)

stop_keeps : (held next : Held) → next ≡ with_stop held → Keeps held next
stop_keeps held next is = (ap (λ (h : Held). h.accepted) is, ap (λ (h : Held). h.epoch) is)

pub report_keeps : (reply : Reply) (held : Held) (m : MarkedReport) (next : Held) → ((front : ℕ) → reply ≢ Accepted front) → next ≡ held_after held m reply → Keeps held next
report_keeps (Accepted front) held m next other is = absurd (other front refl)
report_keeps (Fail Before) held m next other is = stop_keeps held next is
report_keeps (Fail Unknown) held m next other is = stop_keeps held next is
report_keeps _ held m next other is = same_keeps held next is

left_keeps : (reply : Reply) (held : Held) (names : List Name) (next : Held) → ((epoch now : ℕ) → reply ≢ Settled epoch now) → LeavesSettled reply held names next → Keeps held next
left_keeps (Settled epoch now) held names next other left = absurd (other epoch now refl)
left_keeps _ held names next other left = same_keeps held next left

pub settlement_keeps : (stopped : Bool) (fate : Fate) (held : Held) (front : ℕ) (names : List Name) (reply : Reply) (next : Held) → ((epoch now : ℕ) → reply ≢ Settled epoch now)
    → IsSettleAnswered stopped fate held front names reply next → Keeps held next
settlement_keeps true fate held front names reply next other t = same_keeps held next t.2
settlement_keeps false fine held front names reply next other t = left_keeps reply held names next other t.1
settlement_keeps false memory held front names reply next other t = same_keeps held next t.4
settlement_keeps false before held front names reply next other t = stop_keeps held next t.2
settlement_keeps false unknown held front names reply next other t = stop_keeps held next t.2
