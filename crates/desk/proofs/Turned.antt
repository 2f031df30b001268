-- What a desk keeps, after one turn more.
use Rattle.std.proofs.Common.{◌≡◌, ℕ, ◌+◌, ◌<◌, List, [], ◌∷◌, ◌++◌, length, Bool, true, false, refl, sym, ◌∙◌, ap, subst}
use Rattle.std.proofs.lemmas.Bool.{true≢false}
use Rattle.line_disk.specs.Disk.{View}
use Rattle.line_disk.specs.declared.disk.Disk.{Ghosts}
use Rattle.record_file.specs.File.{Said}
use Rattle.record_file.specs.Store.{disk_of, found_records, is_stopped, HasRecords}
use Rattle.record_file.specs.declared.store.Store.{Store}
use Rattle.record_file.proofs.Appending.{at_rest_stands}
use Rattle.report_line.specs.declared.call.Call.{Call}
use Rattle.report_line.specs.declared.call.Call.TheVariants as calls
use Rattle.report_line.specs.declared.marked.MarkedReport.{MarkedReport}
use Rattle.report_line.specs.declared.reply.Reply.{Reply}
use Rattle.chains.specs.Processes.{Name}
use Rattle.chains.specs.Kept.{Kept}
use Rattle.chains.specs.Held.{Held, held_of, held_with}
use Rattle.chains.specs.Turns.{Fate, IsReported, IsSettleAnswered, IsTurn}
use Rattle.desk.specs.Desks.{DeskState, records_of}
use Rattle.desk.specs.Lawful.{IsLawfulDesk, turn_limit}
use Rattle.desk.specs.Records.{IsRecordOf, IsRecordedCall, recorded_by, recorded}
use Rattle.desk.specs.Files.{UsesDevice}
use Rattle.desk.specs.working.Parts.{IsFollowed, WritesBy}
use Rattle.desk.specs.Placed.{IsPlaced, IsPlacedBy}
use Rattle.desk.specs.declared.turn.Turn.{Turn}
use Rattle.desk.proofs.Recording.{acknowledges}
use Rattle.desk.proofs.Turning.{records_more, followed, lawful_more}

abbrev pub state : {D : Type 0} {g : Ghosts D} → Kept → Held → Store D g → List Turn → DeskState D
state chains opening store turns = record { held = held_with chains (is_stopped store); opening = opening; found = found_records store; turns = turns; disk = disk_of store }

-- a store that is not stopped was not before
ran_before : (b c : Bool) → (b ≡ true → c ≡ true) → c ≡ false → b ≡ false
ran_before true c stays runs = absurd (true≢false (sym (stays refl) ∙ runs))
ran_before false c stays runs = refl

module _ {D : Type 0} {g : Ghosts D} (keeps : D → Type 0) (view : D → View) (failed : D → ℕ) (chains after : Kept) (opening : Held) (store new : Store D g) (turns : List Turn) (t : Turn)
    (lawful : IsLawfulDesk keeps view (state chains opening store turns))
    (rest : is_stopped store ≡ false → keeps (disk_of store) → HasRecords view store (records_of (state chains opening store turns)))
    (fewer : length turns < turn_limit) (number : t.receipt.turn ≡ length turns + 1)
    (step : IsTurn (held_with chains (is_stopped store)) t.call t.receipt.reply (held_with after (is_stopped new)))
    (spelled : UsesDevice t.receipt.reply → IsRecordedCall t.call)
    (follows : is_stopped store ≡ false → (one : Said) → IsRecordOf chains.epoch t.call one → IsFollowed (held_of chains) one t.receipt.reply)
    (writes : WritesBy keeps view failed store new chains.epoch t.call t.receipt.reply) (stays : is_stopped store ≡ true → new ≡ store) where
  before : is_stopped new ≡ false → is_stopped store ≡ false
  before runs = ran_before (is_stopped store) (is_stopped new) (λ down. ap (λ (s : Store D g). is_stopped s) (stays down) ∙ down) runs

  old : List Said
  old = found_records store ++ recorded turns

  at_rest : is_stopped new ≡ false → keeps (disk_of new) → HasRecords view new ((found_records store ++ recorded turns) ++ recorded_by t.call t.receipt.reply)
  at_rest runs here = let kept = writes.premise.0 here in writes.records (found_records store ++ recorded turns) kept (rest (before runs) kept) runs

  pub rests : is_stopped new ≡ false → keeps (disk_of new) → HasRecords view new (records_of (state after opening new (turns ++ t ∷ [])))
  rests runs here =
      subst (λ (found : List Said). HasRecords view new (found ++ recorded (turns ++ t ∷ []))) (sym writes.found)
      (subst (λ (s : List Said). HasRecords view new s) (sym (records_more (found_records store) turns t)) (at_rest runs here))

  pub lawful_then : IsLawfulDesk keeps view (state after opening new (turns ++ t ∷ []))
  lawful_then =
      subst (λ (found : List Said). IsLawfulDesk keeps view (record { held = held_with after (is_stopped new); opening = opening; found = found; turns = turns ++ t ∷ []; disk = disk_of new })) (sym writes.found)
      (lawful_more keeps view (state chains opening store turns) lawful (held_with after (is_stopped new)) (disk_of new) t fewer number step
      (acknowledges (held_with chains (is_stopped store)) (held_with after (is_stopped new)) t.call t.receipt.reply step spelled) writes.premise.0
      (λ one runs is says. followed (held_of chains) one t.receipt.reply says (follows runs one is))
      (λ runs here. at_rest_stands _ _ _ _ (at_rest runs here))
      (λ runs here c left. writes.left (found_records store ++ recorded turns) here (rest runs here) c left)
      (λ down. ap (λ (s : Store D g). disk_of s) (stays down)))

-- ---- how far the record came

stopped_report : (stopped : Bool) (fate : Fate) (held after : Held) (m : MarkedReport) (reply : Reply) (said : List Said) (one : Said) (a b : View) → stopped ≡ true → IsReported stopped fate held m reply after → IsPlaced reply said one a b
stopped_report true fate held after m reply said one a b down t = subst (λ (x : Reply). IsPlaced x said one a b) (sym t.1) tt
stopped_report false fate held after m reply said one a b down t = absurd (true≢false (sym down))

stopped_settlement : (stopped : Bool) (fate : Fate) (held after : Held) (front : ℕ) (names : List Name) (reply : Reply) (said : List Said) (one : Said) (a b : View) → stopped ≡ true → IsSettleAnswered stopped fate held front names reply after
    → IsPlaced reply said one a b
stopped_settlement true fate held after front names reply said one a b down t = subst (λ (x : Reply). IsPlaced x said one a b) (sym t.1) tt
stopped_settlement false fate held after front names reply said one a b down t = absurd (true≢false (sym down))

-- over a stopped store no record comes
stopped_placed : (held after : Held) (epoch : ℕ) (call : Call) (reply : Reply) (said : List Said) (a b : View) → held.stopped ≡ true → IsTurn held call reply after → IsPlacedBy reply said epoch call a b
stopped_placed held after epoch (calls.Report m) reply said a b down (fate, t) one is = stopped_report held.stopped fate held after m reply said one a b down t
stopped_placed held after epoch (calls.Settle front names) reply said a b down (fate, t) one is = stopped_settlement held.stopped fate held after front names reply said one a b down t
stopped_placed held after epoch _ reply said a b down turn one is = absurd is

pub placed_then : (stopped : Bool) (held after : Held) (call : Call) (reply : Reply) (said : List Said) (a b : View) → held.stopped ≡ stopped → IsTurn held call reply after → (stopped ≡ false → IsPlacedBy reply said held.epoch call a b)
    → IsPlacedBy reply said held.epoch call a b
placed_then true held after call reply said a b is turn placed = stopped_placed held after held.epoch call reply said a b is turn
placed_then false held after call reply said a b is turn placed = placed refl
