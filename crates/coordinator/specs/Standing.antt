-- What stands in the file behind a call.
use Rattle.std.specs.Prelude.{◌≡◌, ℕ, List, [], ◌∷◌, ◌++◌, Option, IfSome, ⊤}
use Rattle.line_disk.specs.Disk.{View, Leaves}
use Rattle.record_file.specs.File.{Said, Stands}
use Rattle.report_line.specs.declared.call.Call.{Call}
use Rattle.report_line.specs.declared.reply.Reply.{Reply}
use Rattle.report_line.specs.declared.reply.Reply.TheVariants.{Accepted, Settled, Taken}
use Rattle.chains.specs.Kept.{Kept}
use Rattle.chains.specs.Held.{held_of}
use Rattle.desk.specs.Desks.{DeskState, records_of}
use Rattle.desk.specs.Lawful.{IsLawfulDesk, unstopped}
use Rattle.desk.specs.Records.{recorded_by}
use Rattle.coordinator.specs.Passes.{PassEntry, PassState, IsOneEntry, IsShownOver}
use Rattle.coordinator.specs.Calls.{IsOneTurn}

-- the replies that acknowledge a call: OK and SETTLED
abbrev pub IsAcknowledgement : Reply → Type 0
IsAcknowledgement (Accepted front) = ⊤
IsAcknowledgement (Settled epoch front) = ⊤
IsAcknowledgement _ = ⊥

-- Behind its turn the record of the call stands last, behind all earlier ones, and each file that a crash leaves then stands for them all.
pub record StandsInEachFile {D : Type 0} (keeps : D → Type 0) (view : D → View) (before after : DeskState D) (call : Call) (reply : Reply) : Type 0 where
  pub one : Said
  pub is_its : recorded_by call reply ≡ one ∷ []
  pub last : records_of after ≡ records_of before ++ one ∷ []
  pub stands : keeps after.disk → (c : List ℕ) → Leaves (view after.disk) c → Stands (records_of after) c

-- A lawful desk made the turn of the call, as its last one, and the pass has one entry more, with the receipt of that turn. What the
-- entry shows is shown over what this desk held right after the turn. After OK and SETTLED the record of the call stands in each file
-- that a crash leaves.
pub record IsStandingTurn {D : Type 0} (keeps : D → Type 0) (view : D → View) (old : PassState) (call : Call) (new : PassState) : Type 0 where
  pub before : DeskState D
  pub after : DeskState D
  pub was_lawful : IsLawfulDesk keeps view before
  pub lawful : IsLawfulDesk keeps view after
  pub entry : PassEntry
  pub one : IsOneEntry old call entry new
  pub turn : IsOneTurn before call entry.receipt after
  pub shows : IsShownOver after.held call entry.receipt.reply entry.shown
  pub stands : IsAcknowledgement entry.receipt.reply → StandsInEachFile keeps view before after call entry.receipt.reply

-- the same, with what that desk held, if a line was taken
pub record IsMadeWith {D : Type 0} (keeps : D → Type 0) (view : D → View) (old : PassState) (call : Call) (snapshot : Option Kept) (new : PassState) : Type 0 where
  pub made : IsStandingTurn keeps view old call new
  pub snapshot_is : IfSome snapshot (λ k. (held_of k ≡ unstopped made.after.held) × (made.entry.receipt.reply ≡ Taken k.front))
