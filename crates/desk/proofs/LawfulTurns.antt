-- Turns of the reports of lawful histories.
use Rattle.std.proofs.Common.{◌≡◌, ◌≢◌, ◌⊎◌, ◌+◌, ℕ, Bool, false, if◌then◌else◌, List, [], ◌∷◌, ◌++◌, map, All, sym, ◌∙◌, ap, subst, inl, inr, append_assoc, eq-eqb, ne_eqb}
use Rattle.std.proofs.lemmas.Bool.{cases_eq}
use Rattle.std.proofs.lemmas.List.Elements.{All-head, All-tail}
use Rattle.report_line.specs.declared.report.Report.{Report}
use Rattle.report_line.specs.declared.marked.MarkedReport.{MarkedReport}
use Rattle.report_line.specs.declared.call.Call.{Call}
use Rattle.report_line.specs.declared.call.Call.TheVariants as calls
use Rattle.report_line.specs.declared.reply.Reply.{Reply}
use Rattle.report_line.specs.declared.reply.Reply.TheVariants.{Accepted}
use Rattle.report_line.specs.histories.History.{Name, History}
use Rattle.chains.specs.Held.{Held, present, with_report}
use Rattle.chains.specs.Turns.{Fate, IsTurnWith, IsTurn}
use Rattle.law_admission.specs.HandedOver.{handed_over, IsTargetBorn, IsReportable}
use Rattle.law_admission.specs.Accepting.{IsRoomTurn, IsRefusalForRoom}
use Rattle.law_admission.proofs.Going.{turns_refuse_for_room_alone, accepted_or_refused}
use Rattle.desk.specs.Replays.{ReplaysFrom, Replays}
use Rattle.desk.specs.OfHistories.{IsTurnOfHistories, of_epoch, AreAcceptedAmongOthers, AreTurnsOfHistories}
use Rattle.desk.specs.declared.turn.Turn.{Turn}
use Rattle.law_admission.proofs.OtherEpochs.{other_epoch_unmoved}

abbrev bearing : ℕ → Report → MarkedReport
bearing epoch r = record { epoch = epoch; report = r }

-- a report of the present epoch
of_present : (held after : Held) (m : MarkedReport) (reply : Reply) (fate : Fate) → held.epoch ≡ m.epoch
    → (IsTurnWith fate held (calls.Report (present held m.report)) reply after → IsRoomTurn fate held m.report reply after) → IsTurnWith fate held (calls.Report m) reply after
    → ((reply ≡ Accepted (held.front + 1)) × (after ≡ with_report held m)) ⊎ IsRefusalForRoom held m.report reply
of_present held after m reply fate now told turn =
    let found = accepted_or_refused held after m.report reply fate (told (subst (λ (k : ℕ). IsTurnWith fate held (calls.Report (bearing k m.report)) reply after) (sym now) turn)) in
    subst (λ (k : ℕ). ((reply ≡ Accepted (held.front + 1)) × (after ≡ with_report held (bearing k m.report))) ⊎ IsRefusalForRoom held m.report reply) now found

pub turn_of_histories : (held after : Held) (call : Call) (reply : Reply) → IsTurn held call reply after → IsTurnOfHistories held call reply after
turn_of_histories held after (calls.Report m) reply (fate, turn) =
    λ root h w following born now running. of_present held after m reply fate (sym now) (λ t. turns_refuse_for_room_alone root h held after m.report reply fate w following born running t) turn
turn_of_histories held after (calls.Line names) reply turn = tt
turn_of_histories held after calls.Garbage reply turn = tt
turn_of_histories held after (calls.Settle front names) reply turn = tt
turn_of_histories held after (calls.State p) reply turn = tt
turn_of_histories held after calls.Bye reply turn = tt
turn_of_histories held after (calls.Bad n) reply turn = tt
turn_of_histories held after calls.Unread reply turn = tt

same_head : (c d : Call) (cs ds : List Call) → c ∷ cs ≡ d ∷ ds → c ≡ d
same_head c d cs ds is = cc

same_tail : (c d : Call) (cs ds : List Call) → c ∷ cs ≡ d ∷ ds → cs ≡ ds
same_tail c d cs ds is = cc

-- ---- turn by turn

same : (epoch : ℕ) (m : MarkedReport) (ms : List MarkedReport) → m.epoch ≡ epoch → of_epoch epoch (m ∷ ms) ≡ m.report ∷ of_epoch epoch ms
same epoch m ms now = ap (λ (b : Bool). if b then m.report ∷ of_epoch epoch ms else of_epoch epoch ms) (eq-eqb m.epoch epoch now)

other : (epoch : ℕ) (m : MarkedReport) (ms : List MarkedReport) → m.epoch ≢ epoch → of_epoch epoch (m ∷ ms) ≡ of_epoch epoch ms
other epoch m ms differs = ap (λ (b : Bool). if b then m.report ∷ of_epoch epoch ms else of_epoch epoch ms) (ne_eqb m.epoch epoch differs)

module _ (root : Name) (h : History) (reportable : IsReportable root h) (held : Held) where
  up_to_refusal : (made : ℕ) (from : Held) (turns : List Turn) (marked : List MarkedReport) (rest : List Report) → from.stopped ≡ false
      → handed_over root h ≡ from.accepted ++ (of_epoch from.epoch marked ++ rest) → All (IsTargetBorn root h) (of_epoch from.epoch marked)
      → ReplaysFrom made from turns held → map (λ t. t.call) turns ≡ map (λ m. calls.Report m) marked
      → AreAcceptedAmongOthers from marked (map (λ t. t.receipt.reply) turns) held
  up_to_refusal made from [] [] rest goes parts born replays is = replays
  up_to_refusal made from [] (m ∷ ms) rest goes parts born replays is = absurd (cc)
  up_to_refusal made from (t ∷ turns) [] rest goes parts born replays is = absurd (cc)
  up_to_refusal made from (t ∷ turns) (m ∷ ms) rest goes parts born (number, (between, step, more)) is =
      let turn = subst (λ (c : Call). IsTurn from c t.receipt.reply between) (same_head _ _ _ _ is) step in
      elim (cases_eq m.epoch from.epoch) [
        | inl now ↦
            (let all = same from.epoch m ms now in
            let targets = subst (All (IsTargetBorn root h)) all born in
            let whole = parts ∙ ap (λ (l : List Report). from.accepted ++ (l ++ rest)) all in
            inr (
              now,
              elim (turn_of_histories from between (calls.Report m) t.receipt.reply turn root h reportable (of_epoch from.epoch ms ++ rest, whole) (All-head (IsTargetBorn root h) m.report (of_epoch from.epoch ms) targets) now goes) [
                | inl taken ↦ inl (
                  taken.0,
                  up_to_refusal (made + 1) (with_report from m) turns ms rest goes (whole ∙ sym (append_assoc from.accepted (m.report ∷ []) (of_epoch from.epoch ms ++ rest)))
                      (All-tail (IsTargetBorn root h) m.report (of_epoch from.epoch ms) targets) (subst (λ (k : Held). ReplaysFrom (made + 1) k turns held) taken.1 more) (same_tail _ _ _ _ is),
                )
                | inr refused ↦ inr refused
              ],
            ))
        | inr differs ↦
            (let all = other from.epoch m ms differs in
            inl (
              differs,
              up_to_refusal (made + 1) from turns ms rest goes (parts ∙ ap (λ (l : List Report). from.accepted ++ (l ++ rest)) all) (subst (All (IsTargetBorn root h)) all born)
                  (subst (λ (k : Held). ReplaysFrom (made + 1) k turns held) (other_epoch_unmoved from between m t.receipt.reply differs turn) more) (same_tail _ _ _ _ is),
            ))
      ]

pub turns_of_histories : (opening held : Held) (turns : List Turn) → opening.stopped ≡ false → Replays opening turns held → AreTurnsOfHistories opening turns held
turns_of_histories opening held turns goes replays root h marked rest w parts born calls_are = up_to_refusal root h w held 0 opening turns marked rest goes parts born replays calls_are
