-- What the chains' answers tell of turns.
use Rattle.std.proofs.Common.{◌≡◌, ◌⊎◌, inl, inr, ℕ, Ok, Bool, true, false, List, refl, sym, ◌∙◌, ap, subst}
use Rattle.std.proofs.lemmas.Bool.{true≢false}
use Rattle.report_line.specs.declared.marked.MarkedReport.{MarkedReport}
use Rattle.report_line.specs.declared.reply.Reply.{Reply}
use Rattle.report_line.specs.declared.reply.Reply.TheVariants as replies
use Rattle.chains.specs.declared.refusal.No.{No}
use Rattle.chains.specs.declared.refusal.Admitted.{Admitted}
use Rattle.chains.specs.declared.refusal.Admitted.TheVariants.{Accepted}
use Rattle.chains.specs.Kept.{Kept}
use Rattle.chains.specs.Processes.{Name}
use Rattle.chains.specs.Held.{Held, held_of, held_with, with_report}
use Rattle.chains.specs.Admission.{Passes, TakesMemory}
use Rattle.chains.specs.Answers.{IsRefusal, IsSettleRefusal, reply_of}
use Rattle.chains.specs.Turns.{Fate, fine, memory, before, unknown, IsDeviceFree, no_memory, IsReportTurn, IsSettling, LeavesSettled, IsSettleTurn, IsSettleAnswered}
use Rattle.chains.proofs.Turning.{refused_turn}
use Rattle.desk.specs.Files.{UsesDevice}
use Rattle.desk.proofs.Running.{passes}

accepted_by : (fate : Fate) (held after : Held) (m : MarkedReport) (front : ℕ) → IsDeviceFree fate → IsReportTurn fate held m (replies.Accepted front) after → Passes held m × (after ≡ with_report held m)
accepted_by fine held after m front free t = (passes held m front t.0, t.1)
accepted_by memory held after m front free t = absurd (let e = t.3 in cc)
accepted_by before held after m front free t = absurd free
accepted_by unknown held after m front free t = absurd free

-- what was accepted passed all tests
pub accepted_turn : (held after : Held) (m : MarkedReport) (a : Admitted) (front : ℕ) → a ≡ Accepted front
    → ((fate : Fate) × IsDeviceFree fate × IsReportTurn fate held m (reply_of (Ok a)) after) → Passes held m × (after ≡ with_report held m)
accepted_turn held after m a front is turn =
    let told = subst (λ (x : Admitted). (fate : Fate) × IsDeviceFree fate × IsReportTurn fate held m (reply_of (Ok x)) after) is turn in
    accepted_by told.0 held after m front told.1 told.2

-- a refusal is a turn, also where memory was wanting for its value
pub refused_by_turn : (held after : Held) (m : MarkedReport) (refusal : No) (reply : Reply) → IsRefusal held m refusal → after ≡ held
    → ((reply ≡ replies.No refusal.code refusal.name refusal.value) ⊎ (TakesMemory (replies.No refusal.code refusal.name refusal.value) × (reply ≡ no_memory)))
    → (fate : Fate) × IsReportTurn fate held m reply after
refused_by_turn held after m refusal reply refused same (inl is) =
    let t = refused_turn held after m refusal refused same in
    (t.0, subst (λ (x : Reply). IsReportTurn t.0 held m x after) (sym is) t.2)
refused_by_turn held after m refusal reply (inl h) same (inr (takes, is)) = (memory, (replies.No refusal.code refusal.name refusal.value, h, takes, is, same))
refused_by_turn held after m refusal reply (inr (answer, h, takes_too, code, name, value)) same (inr (takes, is)) = (memory, (answer, h, takes_too, is, same))

-- what chains hold beside a store that is not stopped
pub held_beside : (k old : Kept) (stopped : Bool) → stopped ≡ false → held_of k ≡ held_of old → held_with k stopped ≡ held_of old
held_beside k old stopped runs same = ap (held_with k) runs ∙ same

-- and so it is with the refusal of a settlement
pub refused_settlement : (held after : Held) (front : ℕ) (names : List Name) (refusal : No) (reply : Reply) → IsSettleRefusal held front names refusal → after ≡ held
    → ((reply ≡ replies.No refusal.code refusal.name refusal.value) ⊎ (TakesMemory (replies.No refusal.code refusal.name refusal.value) × (reply ≡ no_memory)))
    → (fate : Fate) × IsSettleTurn fate held front names reply after
refused_settlement held after front names refusal reply (inl h) same (inl is) =
    (fine, subst (λ (x : Reply). IsSettling held front names x × LeavesSettled x held names after) (sym is) (h, same))
refused_settlement held after front names refusal reply (inl h) same (inr (takes, is)) = (memory, (replies.No refusal.code refusal.name refusal.value, h, takes, is, same))
refused_settlement held after front names refusal reply (inr (answer, h, takes, code, name, value)) same (inl is) =
    (memory, (answer, h, takes, is ∙ rw (code, name, value) refl, same))
refused_settlement held after front names refusal reply (inr (answer, h, takes, code, name, value)) same (inr (other, is)) = (memory, (answer, h, takes, is, same))

pub refused_settlement_beside : (k : Kept) (stopped : Bool) (front : ℕ) (names : List Name) (refusal : No) (reply : Reply) → stopped ≡ false → IsSettleRefusal (held_of k) front names refusal
    → ((reply ≡ replies.No refusal.code refusal.name refusal.value) ⊎ (TakesMemory (replies.No refusal.code refusal.name refusal.value) × (reply ≡ no_memory)))
    → (fate : Fate) × IsSettleAnswered stopped fate (held_with k stopped) front names reply (held_with k stopped)
refused_settlement_beside k true front names refusal reply runs refused told = absurd (true≢false runs)
refused_settlement_beside k false front names refusal reply runs refused told = refused_settlement (held_of k) (held_of k) front names refusal reply refused refl told

-- a refusal calls no device
pub refusal_quiet : (refusal : No) (reply : Reply)
    → ((reply ≡ replies.No refusal.code refusal.name refusal.value) ⊎ (TakesMemory (replies.No refusal.code refusal.name refusal.value) × (reply ≡ no_memory)))
    → ¬ UsesDevice reply
refusal_quiet refusal reply (inl is) uses = subst UsesDevice is uses
refusal_quiet refusal reply (inr (takes, is)) uses = subst UsesDevice is uses
