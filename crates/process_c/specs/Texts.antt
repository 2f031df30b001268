-- What is read of the texts that a caller hands over.
use Rattle.std.specs.Prelude.{◌≡◌, ℕ, List, IsTrue}
use Rattle.report_line.specs.histories.History.{Name}
use Rattle.report_line.specs.Names.{is_name}
use Rattle.process.specs.declared.process.Process.{Process}
use Rattle.process.specs.declared.handed.Message.{Message}
use Rattle.process.specs.declared.handed.Start.{Start}
use Rattle.process.specs.declared.handed.Retirement.{Retirement}
use Rattle.process.specs.Texts.{IsProcess, IsMessage, IsStart, IsRetirement, process_text, message_text, start_text, retirement_text}

abbrev pub IsStateOf : Process → List ℕ → Type 0
IsStateOf p text = IsProcess p × (text ≡ process_text p)

abbrev pub IsMessageOf : Message → List ℕ → Type 0
IsMessageOf m text = IsMessage m × (text ≡ message_text m)

abbrev pub IsStartOf : Start → List ℕ → Type 0
IsStartOf s text = IsStart s × (text ≡ start_text s)

abbrev pub IsRetirementOf : Retirement → List ℕ → Type 0
IsRetirementOf r text = IsRetirement r × (text ≡ retirement_text r)

abbrev pub IsNameOf : Name → List ℕ → Type 0
IsNameOf n text = IsTrue (is_name n) × (text ≡ n)
