-- What turns reply to the reports of a lawful history, handed over in order.
use Rattle.std.proofs.Common.{◌≡◌, ◌+◌, ◌⊎◌, Bool, false, List, [], ◌∷◌, ◌++◌, length, All, sym, ◌∙◌, ap, subst, inl, inr, append-nil, append_assoc, arith}
use Rattle.std.proofs.lemmas.List.Elements.{All-head, All-tail}
use Rattle.report_line.specs.declared.report.Report.{Report}
use Rattle.report_line.specs.declared.reply.Reply.{Reply}
use Rattle.report_line.specs.declared.reply.Reply.TheVariants.{Accepted}
use Rattle.report_line.specs.histories.History.{Name, History}
use Rattle.chains.specs.Held.{Held, present, with_report}
use Rattle.chains.specs.Admission.{FitsOrNot, held_after}
use Rattle.chains.specs.Turns.{Fate, fine, memory, before, unknown, IsReportTurn, IsReported}
use Rattle.law_admission.specs.HandedOver.{handed_over, IsTargetBorn, IsReportable}
use Rattle.law_admission.specs.Accepting.{IsRoomTurn, IsRefusalForRoom, AreTurns, AreAcceptedUpToRefusal}
use Rattle.law_admission.specs.FirstRefusal.{IsTaken}
use Rattle.law_admission.specs.Laws.{TurnsRefuseForRoomAlone, AllAreAcceptedInOrder}
use Rattle.law_admission.proofs.Next.{only_room_is_tested}

-- ---- one turn

fits : (held after : Held) (r : Report) (reply : Reply) → FitsOrNot held r reply → after ≡ held_after held (present held r) reply → IsRoomTurn fine held r reply after
fits held after r reply (inl w) is = inr (inl w.0, (_, w.1), is ∙ ap (held_after held (present held r)) w.1)
fits held after r reply (inr (few, inl w)) is = inr (inr w.0, (_, w.1), is ∙ ap (held_after held (present held r)) w.1)
fits held after r reply (inr (few, inr (free, w))) is = inl (elim [ inl full ↦ few full | inr full ↦ free full ], w, is ∙ ap (held_after held (present held r)) w)

by_fate : (held after : Held) (r : Report) (reply : Reply) (fate : Fate)
    → ((IsReportTurn fine held (present held r) reply after) → FitsOrNot held r reply) → IsReportTurn fate held (present held r) reply after → IsRoomTurn fate held r reply after
by_fate held after r reply fine tested turn = fits held after r reply (tested turn) turn.1
by_fate held after r reply memory tested turn = (turn.3, turn.4)
by_fate held after r reply before tested turn = (turn.1, turn.2)
by_fate held after r reply unknown tested turn = (turn.1, turn.2)

pub turns_refuse_for_room_alone : TurnsRefuseForRoomAlone
turns_refuse_for_room_alone root h held after r reply fate w following born running turn =
    by_fate held after r reply fate (λ t. (only_room_is_tested root h held r reply w following born).0 t.0)
    (subst (λ (stopped : Bool). IsReported stopped fate held (present held r) reply after) running turn)

-- ---- one turn behind the other

pub accepted_or_refused : (held between : Held) (r : Report) (reply : Reply) (fate : Fate) → IsRoomTurn fate held r reply between
    → ((reply ≡ Accepted (held.front + 1)) × (between ≡ with_report held (present held r))) ⊎ IsRefusalForRoom held r reply
accepted_or_refused held between r reply fine (inl w) = inl (w.1, w.2)
accepted_or_refused held between r reply fine (inr w) = inr (inl (w.0, w.1))
accepted_or_refused held between r reply memory w = inr (inr (inl w.0))
accepted_or_refused held between r reply before w = inr (inr (inr (inl w.0)))
accepted_or_refused held between r reply unknown w = inr (inr (inr (inr w.0)))

pub up_to_refusal : (root : Name) (h : History) (held : Held) (rs rest : List Report) (replies : List Reply) (after : Held)
    → IsReportable root h → held.stopped ≡ false → handed_over root h ≡ held.accepted ++ (rs ++ rest) → All (IsTargetBorn root h) rs → AreTurns held rs replies after → AreAcceptedUpToRefusal held rs replies after
up_to_refusal root h held [] rest [] after w running parts born turns = turns
up_to_refusal root h held [] rest (reply ∷ replies) after w running parts born turns = absurd turns
up_to_refusal root h held (r ∷ rs) rest [] after w running parts born turns = absurd turns
up_to_refusal root h held (r ∷ rs) rest (reply ∷ replies) after w running parts born (between, (fate, turn), turns) =
    elim (accepted_or_refused held between r reply fate (turns_refuse_for_room_alone root h held between r reply fate w (rs ++ rest, parts) (All-head (IsTargetBorn root h) r rs born) running turn)) [
      | inl accepted ↦ inl (
        accepted.0,
        up_to_refusal root h (with_report held (present held r)) rs rest replies after w running (parts ∙ sym (append_assoc held.accepted (r ∷ []) (rs ++ rest)))
            (All-tail (IsTargetBorn root h) r rs born) (subst (λ (k : Held). AreTurns k rs replies after) accepted.1 turns),
      )
      | inr refused ↦ inr refused
    ]

pub all_are_accepted_in_order : AllAreAcceptedInOrder
all_are_accepted_in_order root h held after reports rest replies w running parts born turns = up_to_refusal root h held reports rest replies after w running parts born turns

-- ---- where none is refused

not_for_room : (held : Held) (r : Report) (reply : Reply) → IsRefusalForRoom held r reply → ¬ IsTaken reply
not_for_room held r reply (inl w) taken = subst IsTaken w.1.1 taken
not_for_room held r reply (inr (inl is)) taken = subst IsTaken is taken
not_for_room held r reply (inr (inr (inl is))) taken = subst IsTaken is taken
not_for_room held r reply (inr (inr (inr is))) taken = subst IsTaken is taken

-- what is held then: all these reports behind those before
pub record HasAccepted (held : Held) (rs : List Report) (after : Held) : Type 0 where
  pub accepted : after.accepted ≡ held.accepted ++ rs
  pub front : after.front ≡ held.front + length rs
  pub running : after.stopped ≡ held.stopped

pub all_accepted : (held : Held) (rs : List Report) (replies : List Reply) (after : Held) → AreAcceptedUpToRefusal held rs replies after → All IsTaken replies → HasAccepted held rs after
all_accepted held [] [] after is taken = record {
  accepted = ap (λ (k : Held). k.accepted) is ∙ sym (append-nil held.accepted);
  front = (let same = ap (λ (k : Held). k.front) is in omega arith);
  running = ap (λ (k : Held). k.stopped) is;
}
all_accepted held [] (reply ∷ replies) after is taken = absurd is
all_accepted held (r ∷ rs) [] after is taken = absurd is
all_accepted held (r ∷ rs) (reply ∷ replies) after (inl w) taken =
    let more = all_accepted (with_report held (present held r)) rs replies after w.1 (All-tail IsTaken reply replies taken) in
    record {
      accepted = more.accepted ∙ append_assoc held.accepted (r ∷ []) rs;
      front = (let same = more.front in omega arith);
      running = more.running;
    }
all_accepted held (r ∷ rs) (reply ∷ replies) after (inr refused) taken = absurd (not_for_room held r reply refused (All-head IsTaken reply replies taken))
