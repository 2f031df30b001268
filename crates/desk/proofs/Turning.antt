-- A desk after one turn more.
use Rattle.std.proofs.Common.{◌≡◌, inl, inr, ℕ, ◌+◌, ◌<◌, List, [], ◌∷◌, ◌++◌, length, Bool, true, false, refl, sym, ◌∙◌, ap, subst, arith, rules, length-append, append-nil, append_assoc}
use Rattle.std.specs.Prelude.{◌⊎◌, Contains}
use Rattle.std.proofs.lemmas.Grind.{flat_map-append}
use Rattle.std.proofs.lemmas.List.Elements.{Contains-append_left, Contains-append_right, Contains-append_cases}
use Rattle.line_disk.specs.Disk.{View, Leaves, LeavesAlways}
use Rattle.record_file.specs.File.{Said, Stands}
use Rattle.record_file.proofs.Moments.{starts}
use Rattle.std.proofs.lemmas.Bool.{true≢false}
use Rattle.report_line.specs.declared.call.Call.{Call}
use Rattle.report_line.specs.declared.call.Call.TheVariants as calls
use Rattle.report_line.specs.declared.reply.Outcome.TheVariants.{Unknown}
use Rattle.report_line.specs.declared.reply.Reply.{Reply}
use Rattle.report_line.specs.declared.reply.Reply.TheVariants.{Fail}
use Rattle.chains.specs.Kept.{Kept}
use Rattle.chains.specs.Held.{Held, held_of, held_with, with_stop}
use Rattle.chains.specs.Turns.{IsTurn}
use Rattle.desk.specs.Desks.{DeskState, records_of}
use Rattle.desk.specs.Lawful.{IsLawfulDesk, turn_limit, unstopped}
use Rattle.desk.specs.Records.{said_settled, IsRecordOf, Admits, Opens, recorded_by, recorded}
use Rattle.desk.specs.Files.{IsPending, MayStandFor, StandsWhile}
use Rattle.desk.specs.working.Parts.{IsFollowed, StandsBy, MayBeLeftBy}
use Rattle.desk.specs.Placed.{IsPlacedBy}
use Rattle.desk.specs.Replays.{ReplaysFrom, Replays}
use Rattle.desk.specs.declared.turn.Turn.{Turn}
use Rattle.chains.proofs.Unfailing.{stays_stopped}
use Rattle.desk.proofs.Writing.{always_weaker}
use Rattle.desk.proofs.Deciding.{unknown_stops}
use Rattle.desk.proofs.Recording.{Acknowledges, opens_more, stopped_records, failed_records}
use Rattle.desk.proofs.Running.{is_unstopped}

-- ---- one turn more

pub step_same : (held after : Held) (call : Call) (x y : Reply) → x ≡ y → IsTurn held call x after → IsTurn held call y after
step_same held after call x y same step = subst (λ (z : Reply). IsTurn held call z after) same step

pub placed_same : (said : List Said) (epoch : ℕ) (call : Call) (a b : View) (x y : Reply) → x ≡ y → IsPlacedBy x said epoch call a b → IsPlacedBy y said epoch call a b
placed_same said epoch call a b x y same placed = subst (λ (z : Reply). IsPlacedBy z said epoch call a b) same placed

pub replays_more : (made : ℕ) (from middle after : Held) (turns : List Turn) (t : Turn) → ReplaysFrom made from turns middle → t.receipt.turn ≡ (made + length turns) + 1
    → IsTurn middle t.call t.receipt.reply after → ReplaysFrom made from (turns ++ t ∷ []) after
replays_more made from middle after [] t so_far number step =
    (omega (arith, number), (after, subst (λ (k : Held). IsTurn k t.call t.receipt.reply after) so_far step, refl))
replays_more made from middle after (u ∷ turns) t so_far number step =
    (so_far.0, (so_far.1.0, so_far.1.1, replays_more (made + 1) so_far.1.0 middle after turns t so_far.1.2 (omega (arith, number)) step))

-- the records of one turn more
pub records_more : (found : List Said) (turns : List Turn) (t : Turn) → found ++ recorded (turns ++ t ∷ []) ≡ (found ++ recorded turns) ++ recorded_by t.call t.receipt.reply
records_more found turns t =
    ap (λ (more : List Said). found ++ more) (flat_map-append (λ (u : Turn). recorded_by u.call u.receipt.reply) turns (t ∷ []) ∙ ap (λ (last : List Said). recorded turns ++ last) (append-nil (recorded_by t.call t.receipt.reply)))
    ∙ sym (append_assoc found (recorded turns) (recorded_by t.call t.receipt.reply))

pending_still : (epoch : ℕ) (turns : List Turn) (t : Turn) (one : Said) → IsPending epoch turns one → IsPending epoch (turns ++ t ∷ []) one
pending_still epoch turns t one p = (p.0, Contains-append_left turns (t ∷ []) p.0 p.1, p.2, p.3)

-- a record that is pending after one turn more was so before, or is that turn's
pending_in : (epoch : ℕ) (turns : List Turn) (t : Turn) (one : Said) → IsPending epoch (turns ++ t ∷ []) one → IsPending epoch turns one ⊎ (IsRecordOf epoch t.call one × (t.receipt.reply ≡ Fail Unknown))
pending_in epoch turns t one (u, among, call, reply) = elim (Contains-append_cases turns (t ∷ []) u among) [
  | inl old ↦ inl (u, old, call, reply)
  | inr new ↦ let is : u ≡ t = search (rules) in inr (subst (λ (v : Turn). IsRecordOf epoch v.call one) is call, subst (λ (v : Turn). v.receipt.reply ≡ Fail Unknown) is reply)
]

-- what has a record over one epoch has one over each
of_epoch : (epoch other : ℕ) (call : Call) (one : Said) → IsRecordOf epoch call one → (same : Said) × IsRecordOf other call same
of_epoch epoch other (calls.Report m) one is = (one, is)
of_epoch epoch other (calls.Settle front names) one is = (said_settled other front names, refl)
of_epoch epoch other _ one is = absurd is

none_pending : (epoch : ℕ) (turns : List Turn) (one : Said) → turns ≡ [] → IsPending epoch turns one → ⊥
none_pending epoch turns one none (u, among, call, reply) = let nothing : Contains [] u = subst (λ (ts : List Turn). Contains ts u) none among in search (rules)

still_stands : (said : List Said) (epoch : ℕ) (turns : List Turn) (t : Turn) (c : List ℕ) → MayStandFor said epoch turns c → MayStandFor said epoch (turns ++ t ∷ []) c
still_stands said epoch turns t c (inl stands) = inl stands
still_stands said epoch turns t c (inr (one, pending, stands)) = inr (one, pending_still epoch turns t one pending, stands)

-- what chains and their copy hold, beside a store that is not stopped
pub same_held : (chains opening : Kept) (stopped : Bool) → held_of opening ≡ held_of chains → stopped ≡ false → held_with chains stopped ≡ held_of opening
same_held chains opening stopped same goes = subst (λ (b : Bool). held_with chains b ≡ held_of opening) (sym goes) (sym same)

pub none_recorded : (found : List Said) (turns : List Turn) → turns ≡ [] → found ++ recorded turns ≡ found
none_recorded found turns none = ap (λ (ts : List Turn). found ++ recorded ts) none ∙ append-nil found

-- a desk that was opened
pub lawful_open : {D : Type 0} (keeps : D → Type 0) (view : D → View) (desk : DeskState D) → desk.held ≡ desk.opening → desk.opening.stopped ≡ false → desk.turns ≡ []
    → Opens desk.found desk.opening → (keeps desk.disk → (c : List ℕ) → Leaves (view desk.disk) c → Stands desk.found c) → IsLawfulDesk keeps view desk
lawful_open keeps view desk same goes none opened stands =
    let all : records_of desk ≡ desk.found = none_recorded desk.found desk.turns none in
    record {
      replays = subst (λ (ts : List Turn). Replays desk.opening ts desk.held) (sym none) same;
      goes = goes;
      opened = opened;
      few = omega (arith, ap length none);
      admitted = subst (λ (s : List Said). Opens s (unstopped desk.held)) (sym all) (subst (λ (h : Held). Opens desk.found h) (is_unstopped desk.opening goes ∙ ap unstopped (sym same)) opened);
      pending = λ one p. absurd (none_pending desk.held.epoch desk.turns one none p);
      running = λ _ here c left. subst (λ (s : List Said). Stands s c) (sym all) (stands here c left);
      left = λ here c left. inl (subst (λ (s : List Said). Stands s c) (sym all) (stands here c left));
    }

-- what is left where the disk is the desk's
pub left_same : {D : Type 0} (keeps : D → Type 0) (view : D → View) (desk : DeskState D) → IsLawfulDesk keeps view desk → (disk : D) → disk ≡ desk.disk
    → keeps disk → (c : List ℕ) → Leaves (view disk) c → MayStandFor (records_of desk) desk.held.epoch desk.turns c
left_same keeps view desk lawful disk same here c left =
    lawful.left (subst keeps same here) c (subst (λ d. Leaves (view d) c) same left)

pub followed : (held : Held) (one : Said) (reply : Reply) → reply ≡ Fail Unknown → IsFollowed held one reply → (after : Held) × Admits held one after
followed held one reply says next = subst (λ (x : Reply). IsFollowed held one x) says next

module _ {D : Type 0} (keeps : D → Type 0) (view : D → View) (desk : DeskState D) (lawful : IsLawfulDesk keeps view desk) where
  pub always_still : (call : Call) → keeps desk.disk → LeavesAlways (StandsWhile (records_of desk) desk.held.epoch desk.turns call) (view desk.disk) (view desk.disk)
  always_still call here = starts (StandsWhile (records_of desk) desk.held.epoch desk.turns call) (view desk.disk) (λ c left. inl (lawful.left here c left))

  by_call : (call : Call) (c : List ℕ) → StandsBy (records_of desk) desk.held.epoch call c → StandsWhile (records_of desk) desk.held.epoch desk.turns call c
  by_call call c (inl stands) = inl (inl stands)
  by_call call c (inr way) = inr way

  module _ (call : Call) (disk : D) (runs : desk.held.stopped ≡ false → LeavesAlways (StandsBy (records_of desk) desk.held.epoch call) (view desk.disk) (view disk)) (stays : desk.held.stopped ≡ true → disk ≡ desk.disk) (here : keeps desk.disk) where
    always_cases : (b : Bool) → desk.held.stopped ≡ b → LeavesAlways (StandsWhile (records_of desk) desk.held.epoch desk.turns call) (view desk.disk) (view disk)
    always_cases true is = subst (λ (d : D). LeavesAlways (StandsWhile (records_of desk) desk.held.epoch desk.turns call) (view desk.disk) (view d)) (sym (stays is)) (always_still call here)
    always_cases false is = always_weaker (StandsBy (records_of desk) desk.held.epoch call) (StandsWhile (records_of desk) desk.held.epoch desk.turns call) (view desk.disk) (view disk) (by_call call) (runs is)

    pub always_by : LeavesAlways (StandsWhile (records_of desk) desk.held.epoch desk.turns call) (view desk.disk) (view disk)
    always_by = always_cases desk.held.stopped refl

  module _ (held : Held) (disk : D) (t : Turn) (fewer : length desk.turns < turn_limit) (number : t.receipt.turn ≡ length desk.turns + 1)
      (step : IsTurn desk.held t.call t.receipt.reply held) (tells : Acknowledges desk.held t.call t.receipt.reply held) (kept : keeps disk → keeps desk.disk)
      (follows : (one : Said) → desk.held.stopped ≡ false → IsRecordOf desk.held.epoch t.call one → t.receipt.reply ≡ Fail Unknown → (after : Held) × Admits (unstopped desk.held) one after)
      (running : held.stopped ≡ false → keeps disk → (c : List ℕ) → Leaves (view disk) c → Stands (records_of desk ++ recorded_by t.call t.receipt.reply) c)
      (left : desk.held.stopped ≡ false → keeps desk.disk → (c : List ℕ) → Leaves (view disk) c → MayBeLeftBy t.receipt.reply (records_of desk) desk.held.epoch t.call c)
      (stays : desk.held.stopped ≡ true → disk ≡ desk.disk) where
    more : desk.found ++ recorded (desk.turns ++ t ∷ []) ≡ records_of desk ++ recorded_by t.call t.receipt.reply
    more = records_more desk.found desk.turns t

    -- where nothing is acknowledged the records are those before
    none_more : recorded_by t.call t.receipt.reply ≡ [] → records_of desk ≡ desk.found ++ recorded (desk.turns ++ t ∷ [])
    none_more none = sym (more ∙ ap (λ (ms : List Said). records_of desk ++ ms) none ∙ append-nil (records_of desk))

    same_after : desk.held.stopped ≡ true → held ≡ desk.held
    same_after down = stays_stopped desk.held held t.call t.receipt.reply down step

    unknown_after : t.receipt.reply ≡ Fail Unknown → (desk.held.stopped ≡ false) × (held ≡ with_stop desk.held)
    unknown_after says = unknown_stops desk.held held t.call t.receipt.reply says step

    left_stands : (c : List ℕ) → MayBeLeftBy t.receipt.reply (records_of desk) desk.held.epoch t.call c → MayStandFor (desk.found ++ recorded (desk.turns ++ t ∷ [])) held.epoch (desk.turns ++ t ∷ []) c
    left_stands c (inl stands) = inl (subst (λ (s : List Said). Stands s c) (sym more) stands)
    left_stands c (inr (one, call, says, stands)) =
        let epoch = ap (λ (h : Held). h.epoch) (unknown_after says).1 in
        let none = ap (recorded_by t.call) says ∙ failed_records t.call Unknown in
        inr (
          one,
          (t, Contains-append_right desk.turns (t ∷ []) t (search (rules)), subst (λ (e : ℕ). IsRecordOf e t.call one) (sym epoch) call, says),
          subst (λ (s : List Said). Stands (s ++ one ∷ []) c) (none_more none) stands,
        )

    left_cases : (b : Bool) → desk.held.stopped ≡ b → keeps disk → (c : List ℕ) → Leaves (view disk) c → MayStandFor (desk.found ++ recorded (desk.turns ++ t ∷ [])) held.epoch (desk.turns ++ t ∷ []) c
    left_cases true is here c leaves =
        let old = lawful.left (kept here) c (subst (λ (d : D). Leaves (view d) c) (stays is) leaves) in
        let still = still_stands (records_of desk) desk.held.epoch desk.turns t c old in
        subst (λ (e : ℕ). MayStandFor (desk.found ++ recorded (desk.turns ++ t ∷ [])) e (desk.turns ++ t ∷ []) c) (sym (ap (λ (h : Held). h.epoch) (same_after is)))
        (subst (λ (s : List Said). MayStandFor s desk.held.epoch (desk.turns ++ t ∷ []) c) (none_more (stopped_records desk.held held t.call t.receipt.reply is step)) still)
    left_cases false is here c leaves = left_stands c (left is (kept here) c leaves)

    pends_now : (one : Said) → IsRecordOf held.epoch t.call one → t.receipt.reply ≡ Fail Unknown → (held.stopped ≡ true) × ((after : Held) × Admits (unstopped held) one after)
    pends_now one call says =
        let found = unknown_after says in
        let next = follows one found.0 (subst (λ (e : ℕ). IsRecordOf e t.call one) (ap (λ (h : Held). h.epoch) found.1) call) says in
        (ap (λ (h : Held). h.stopped) found.1, subst (λ (h : Held). (after : Held) × Admits h one after) (sym (ap unstopped found.1)) next)

    pends_still : (one : Said) → IsPending held.epoch desk.turns one → (held.stopped ≡ true) × ((after : Held) × Admits (unstopped held) one after)
    pends_still one p = still_cases desk.held.stopped refl
      where
        still_cases : (b : Bool) → desk.held.stopped ≡ b → (held.stopped ≡ true) × ((after : Held) × Admits (unstopped held) one after)
        still_cases true is =
            let same = same_after is in
            let before = lawful.pending one (subst (λ (h : Held). IsPending h.epoch desk.turns one) same p) in
            subst (λ (h : Held). (h.stopped ≡ true) × ((after : Held) × Admits (unstopped h) one after)) (sym same) before
        still_cases false is =
            let old = of_epoch held.epoch desk.held.epoch p.0.call one p.2 in
            absurd (true≢false (sym (lawful.pending old.0 (p.0, p.1, old.1, p.3)).0 ∙ is))

    pub lawful_more : IsLawfulDesk keeps view (record { held = held; opening = desk.opening; found = desk.found; turns = desk.turns ++ t ∷ []; disk = disk })
    lawful_more = record {
      replays = replays_more 0 desk.opening desk.held held desk.turns t lawful.replays (omega (arith, number)) step;
      goes = lawful.goes;
      opened = lawful.opened;
      few = omega (arith, fewer, length-append desk.turns (t ∷ []));
      admitted = subst (λ (s : List Said). Opens s (unstopped held)) (sym more) (opens_more (records_of desk) desk.held held t.call t.receipt.reply lawful.admitted tells);
      pending = λ one p. elim (pending_in held.epoch desk.turns t one p) [ inl old ↦ pends_still one old | inr new ↦ pends_now one new.0 new.1 ];
      running = λ runs here c leaves. subst (λ (s : List Said). Stands s c) (sym more) (running runs here c leaves);
      left = left_cases desk.held.stopped refl;
    }
