-- What a call does under the lock.
use Rattle.std.specs.Prelude.{◌≡◌, ◌+◌, ◌<◌, ◌⊎◌, [], ◌∷◌, ◌++◌, length, Option, IfSome, ⊤}
use Rattle.report_line.specs.declared.call.Call.{Call}
use Rattle.report_line.specs.declared.reply.Reply.TheVariants.{Taken}
use Rattle.chains.specs.Kept.{Kept}
use Rattle.chains.specs.Held.{held_of}
use Rattle.chains.specs.Turns.{IsTurn}
use Rattle.desk.specs.declared.turn.Receipt.{Receipt}
use Rattle.desk.specs.Desks.{DeskState}
use Rattle.desk.specs.Lawful.{turn_limit, unstopped}
use Rattle.coordinator.specs.declared.fault.CallFault.{CallFault}
use Rattle.coordinator.specs.declared.fault.CallFault.TheVariants.{Foreign, Worn, Memory}
use Rattle.coordinator.specs.Passes.{PassState, PassEntry, IsOneEntry, IsShownOver, last_turn}

-- the desk made just this turn
pub record IsOneTurn {D : Type 0} (before : DeskState D) (call : Call) (receipt : Receipt) (after : DeskState D) : Type 0 where
  pub step : IsTurn before.held call receipt.reply after.held
  pub turns : after.turns ≡ before.turns ++ record { call = call; receipt = receipt } ∷ []
  pub number : receipt.turn ≡ length before.turns + 1
  pub opening : after.opening ≡ before.opening
  pub found : after.found ≡ before.found

-- the desk has made one turn more, and the pass has one entry more for it
pub record IsTurnFor {D : Type 0} (before after : DeskState D) (old : PassState) (call : Call) (new : PassState) : Type 0 where
  pub entry : PassEntry
  pub one : IsOneEntry old call entry new
  pub turn : IsOneTurn before call entry.receipt after
  pub shows : IsShownOver after.held call entry.receipt.reply entry.shown

-- the same, with what was held at that turn where a line was taken
pub record IsTakenFor {D : Type 0} (before after : DeskState D) (old : PassState) (call : Call) (snapshot : Option Kept) (new : PassState) : Type 0 where
  pub made : IsTurnFor before after old call new
  pub snapshot_is : IfSome snapshot (λ k. (held_of k ≡ unstopped after.held) × (made.entry.receipt.reply ≡ Taken k.front))

-- why a fault was answered
abbrev pub IsDue : {D : Type 0} → DeskState D → PassState → CallFault → Type 0
IsDue desk pass (Foreign front seen turns last) =
    (front ≡ desk.held.front) × (seen ≡ pass.front) × (turns ≡ length desk.turns) × (last ≡ last_turn pass.entries)
    × ((front < seen) ⊎ (turns < last))
IsDue desk pass Worn = length desk.turns ≡ turn_limit
IsDue desk pass Memory = ⊤

-- a foreign pass has seen a longer front, or a later turn
abbrev pub IsForeignOnly : PassState → CallFault → Type 0
IsForeignOnly pass (Foreign front seen turns last) =
    (seen ≡ pass.front) × (last ≡ last_turn pass.entries) × ((front < seen) ⊎ (turns < last))
IsForeignOnly pass Worn = ⊤
IsForeignOnly pass Memory = ⊤
