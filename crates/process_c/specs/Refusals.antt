-- Why each call is refused: of the faults that apply the first of their list is told, and memory may be wanting for any.
use Rattle.std.specs.Prelude.{◌≡◌, ◌≤◌, ℕ, List, false, IsTrue, ⊤}
use Rattle.report_line.specs.Names.{is_name}
use Rattle.process.specs.declared.fault.ProcessFault.{ProcessFault}
use Rattle.process.specs.declared.fault.ProcessFault.TheVariants as refusals
use Rattle.process.specs.declared.process.Process.{Process}
use Rattle.process.specs.declared.handed.Start.{Start}
use Rattle.process_c.specs.declared.fault.Fault.{Fault}
use Rattle.process_c.specs.declared.fault.Fault.TheVariants as faults
use Rattle.process_c.specs.Texts.{IsStateOf, IsStartOf}

-- ---- by the process that the state is the text of

abbrev pub ByProcess : (ProcessFault → Process → Type 0) → Process → Fault → Type 0
ByProcess refused p (faults.Refused fault) = refused fault p
ByProcess refused p _ = ⊥

-- where a name was handed over, too
abbrev pub ByName : (ProcessFault → Process → Type 0) → List ℕ → Process → Fault → Type 0
ByName refused name p faults.Name = is_name name ≡ false
ByName refused name p (faults.Refused refusals.Memory) = ⊤
ByName refused name p (faults.Refused fault) = IsTrue (is_name name) × refused fault p
ByName refused name p _ = ⊥

-- where the text of a message or a retirement was handed over, too
abbrev pub ByText : {H : Type 0} → (H → List ℕ → Type 0) → (H → ProcessFault → Process → Type 0) → List ℕ → Process → Fault → Type 0
ByText {H} is refused text p faults.Text = (h : H) → ¬ is h text
ByText is refused text p (faults.Refused refusals.Memory) = ⊤
ByText {H} is refused text p (faults.Refused fault) = (h : H) × is h text × refused h fault p
ByText is refused text p _ = ⊥

-- ---- each call

-- a call that takes a state
abbrev pub Refuses : (Process → Fault → Type 0) → List ℕ → Fault → Type 0
Refuses refused state faults.State = (p : Process) → ¬ IsStateOf p state
Refuses refused state (faults.Refused refusals.Memory) = ⊤
Refuses refused state fault = (p : Process) × IsStateOf p state × refused p fault

-- a root
abbrev pub RefusesRoot : List ℕ → Fault → Type 0
RefusesRoot name faults.Name = is_name name ≡ false
RefusesRoot name (faults.Refused refusals.Memory) = ⊤
RefusesRoot name _ = ⊥

-- a child
abbrev pub RefusesChild : List ℕ → Fault → Type 0
RefusesChild start faults.Text = (s : Start) → ¬ IsStartOf s start
RefusesChild start (faults.Refused refusals.Memory) = ⊤
RefusesChild start _ = ⊥

-- a return of what was kept of a process that was lost
abbrev pub RefusesReturned : ℕ → ProcessFault → Process → Type 0
RefusesReturned epoch refusals.Older p = epoch ≤ p.epoch
RefusesReturned epoch refusals.Memory p = ⊤
RefusesReturned epoch _ p = ⊥
