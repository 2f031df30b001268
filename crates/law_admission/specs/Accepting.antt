-- What is replied to reports that are tested for room alone.
use Rattle.std.specs.Prelude.{◌≡◌, ◌≢◌, ◌⊎◌, ℕ, ◌+◌, ◌≤◌, List, [], ◌∷◌, Option, None, length}
use Rattle.report_line.specs.declared.code.Code.TheVariants.{Full}
use Rattle.report_line.specs.declared.report.Report.{Report}
use Rattle.report_line.specs.declared.call.Call.TheVariants as calls
use Rattle.report_line.specs.declared.reply.Outcome.TheVariants as outcomes
use Rattle.report_line.specs.declared.reply.Reply.{Reply}
use Rattle.report_line.specs.declared.reply.Reply.TheVariants.{Accepted, No, Fail}
use Rattle.chains.specs.Processes.{newborn, known}
use Rattle.chains.specs.Held.{Held, present, with_report, with_stop}
use Rattle.chains.specs.Admission.{report_limit, process_limit}
use Rattle.chains.specs.Turns.{Fate, fine, memory, before, unknown, no_memory, IsTurn}

-- as many reports are accepted as may be, or the report makes a child and as many processes are known
abbrev pub IsFull : Held → Report → Type 0
IsFull held r = (report_limit ≤ held.front) ⊎ ((newborn r ≢ None) × (process_limit ≤ length (known held.accepted)))

-- this reply refuses for want of room
abbrev pub SaysFull : Reply → Type 0
SaysFull reply = (limit : Option (List ℕ)) × (reply ≡ No Full None limit)

-- The reply to a report with this fate, and what is held then, where nothing but room decides: it is accepted, or refused where
-- there is no room for it, or memory or the device failed.
abbrev pub IsRoomTurn : Fate → Held → Report → Reply → Held → Type 0
IsRoomTurn fine held r reply after =
    ((¬ IsFull held r) × (reply ≡ Accepted (held.front + 1)) × (after ≡ with_report held (present held r)))
    ⊎ (IsFull held r × SaysFull reply × (after ≡ held))
IsRoomTurn memory held r reply after = (reply ≡ no_memory) × (after ≡ held)
IsRoomTurn before held r reply after = (reply ≡ Fail outcomes.Before) × (after ≡ with_stop held)
IsRoomTurn unknown held r reply after = (reply ≡ Fail outcomes.Unknown) × (after ≡ with_stop held)

-- the reports are handed over one by one, each in a turn and with the present epoch, with these replies, and this is held then
abbrev pub AreTurns : Held → List Report → List Reply → Held → Type 0
AreTurns held [] [] after = after ≡ held
AreTurns held (r ∷ rs) (reply ∷ replies) after =
    (between : Held) × IsTurn held (calls.Report (present held r)) reply between × AreTurns between rs replies after
AreTurns held _ _ after = ⊥

-- this reply refuses the report for want of room or of memory, or says that the device failed
abbrev pub IsRefusalForRoom : Held → Report → Reply → Type 0
IsRefusalForRoom held r reply =
    (IsFull held r × SaysFull reply) ⊎ ((reply ≡ no_memory) ⊎ ((reply ≡ Fail outcomes.Before) ⊎ (reply ≡ Fail outcomes.Unknown)))

-- The reports are accepted with these replies, up to the first that is not, which is refused for room; what is replied behind
-- that is open.
abbrev pub AreAcceptedUpToRefusal : Held → List Report → List Reply → Held → Type 0
AreAcceptedUpToRefusal held [] [] after = after ≡ held
AreAcceptedUpToRefusal held (r ∷ rs) (reply ∷ replies) after =
    ((reply ≡ Accepted (held.front + 1)) × AreAcceptedUpToRefusal (with_report held (present held r)) rs replies after) ⊎ IsRefusalForRoom held r reply
AreAcceptedUpToRefusal held _ _ after = ⊥
