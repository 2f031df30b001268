-- What a turn of a desk does, and what it leaves.
use Rattle.std.specs.Prelude.{◌≡◌, ◌↔◌, ℕ, ◌+◌, List, [], ◌∷◌, ◌++◌, length, true, Result, Err, IfOk, IfErr}
use Rattle.line_disk.specs.Disk.{View, Leaves, LeavesAlways}
use Rattle.record_file.specs.File.{Stands}
use Rattle.report_line.specs.declared.call.Call.{Call}
use Rattle.report_line.specs.declared.reply.Outcome.TheVariants as outcomes
use Rattle.report_line.specs.declared.reply.Reply.TheVariants.{Fail}
use Rattle.chains.specs.Turns.{IsTurn}
use Rattle.desk.specs.declared.turn.Receipt.{Receipt}
use Rattle.desk.specs.declared.turn.TurnFault.{TurnFault}
use Rattle.desk.specs.declared.turn.TurnFault.TheVariants as faults
use Rattle.desk.specs.Desks.{DeskState, records_of}
use Rattle.desk.specs.Files.{StandsWhile, MayWantMemory, UsesDevice, CountsReply}
use Rattle.desk.specs.Lawful.{turn_limit}
use Rattle.desk.specs.OfHistories.{IsTurnOfHistories}
use Rattle.desk.specs.Placed.{IsPlacedBy}

-- The desk was asked for the turn of this call, and this is the result: the receipt of the turn, or why it was not made.
pub record IsDeskTurn {D : Type 0} (keeps : D → Type 0) (view : D → View) (failed : D → ℕ) (old : DeskState D) (call : Call) (new : DeskState D) (result : Result Receipt TurnFault) : Type 0 where
  pub step : IfOk result (λ receipt. IsTurn old.held call receipt.reply new.held)
  pub turns : IfOk result (λ receipt. new.turns ≡ old.turns ++ record { call = call; receipt = receipt } ∷ [])
  pub number : IfOk result (λ receipt. receipt.turn ≡ length old.turns + 1)
  pub opening : new.opening ≡ old.opening
  pub found : new.found ≡ old.found
  pub worn : length old.turns ≡ turn_limit → result ≡ Err faults.Worn
  pub err : IfErr result (λ fault. new ≡ old)
  pub cause_err : result ≡ Err faults.Worn → length old.turns ≡ turn_limit
  pub memory : result ≡ Err faults.Memory → MayWantMemory old.held call
  -- The next report of a lawful history is refused only for room or for memory, if no device fails.
  pub of_histories : IfOk result (λ receipt. IsTurnOfHistories old.held call receipt.reply new.held)
  -- What a crash may leave at any moment of the call. `Desk::recall_lawful` says what it leaves after the call.
  pub any_moment : keeps old.disk → LeavesAlways (StandsWhile (records_of old) old.held.epoch old.turns call) (view old.disk) (view new.disk)
  pub before : IfOk result (λ receipt. receipt.reply ≡ Fail outcomes.Before → keeps old.disk → (c : List ℕ) → Leaves (view new.disk) c → Stands (records_of old) c)
  -- The record of just this call was written. If the device failed: how far the record came.
  pub placed : keeps old.disk → IfOk result (λ receipt. IsPlacedBy receipt.reply (records_of old) old.held.epoch call (view old.disk) (view new.disk))
  -- Every other reply comes without a call of the device, and a stopped store makes none.
  pub unmoved : IfOk result (λ receipt. ¬ UsesDevice receipt.reply → new.disk ≡ old.disk)
  pub stopped_only : IfOk result (λ receipt. receipt.reply ≡ Fail outcomes.Stopped → old.held.stopped ≡ true)
  pub stopped : old.held.stopped ≡ true → (new.disk ≡ old.disk) × (new.held ≡ old.held)
  pub cause : IfOk result (λ receipt. CountsReply receipt.reply (failed old.disk) (failed new.disk))
  pub premise : keeps new.disk ↔ keeps old.disk
