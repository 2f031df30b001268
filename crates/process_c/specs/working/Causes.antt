-- Why a text is not read, and why a process does not return.
use Rattle.std.specs.Prelude.{ℕ, List, ⊤}
use Rattle.report_line.specs.declared.fault.LineFault.{LineFault}
use Rattle.report_line.specs.declared.fault.LineFault.TheVariants as lines
use Rattle.process.specs.declared.fault.ProcessFault.{ProcessFault}
use Rattle.process.specs.declared.fault.ProcessFault.TheVariants as refusals
use Rattle.process.specs.Faults.{RefusesReturn}
use Rattle.process.specs.declared.process.Process.{Process}
use Rattle.process_c.specs.declared.fault.Fault.{Fault}
use Rattle.process_c.specs.declared.fault.Fault.TheVariants as faults
use Rattle.process_c.specs.Texts.{IsStateOf}

-- the fault of a text outside the grammar is this one
abbrev pub unread : Fault → LineFault → Fault
unread outside lines.Grammar = outside
unread outside lines.Memory = faults.Refused refusals.Memory

-- the text is that of no process, or memory was wanting
abbrev pub IsUnreadState : List ℕ → Fault → Type 0
IsUnreadState text faults.State = (p : Process) → ¬ IsStateOf p text
IsUnreadState text (faults.Refused refusals.Memory) = ⊤
IsUnreadState text _ = ⊥

-- the text is that of nothing of this kind, or memory was wanting
abbrev pub IsUnreadText : {H : Type 0} → (H → List ℕ → Type 0) → List ℕ → Fault → Type 0
IsUnreadText {H} is text faults.Text = (h : H) → ¬ is h text
IsUnreadText is text (faults.Refused refusals.Memory) = ⊤
IsUnreadText is text _ = ⊥

-- the process does not return to what was kept, or memory was wanting
abbrev pub IsUnreturned : Process → ℕ → ProcessFault → Process → Type 0
IsUnreturned kept epoch refusals.Memory p = ⊤
IsUnreturned kept epoch fault p = RefusesReturn fault p kept epoch
