-- What each call gives: texts, by a step of the process that the state is the text of.
use Rattle.std.specs.Prelude.{◌≡◌, ◌≤◌, ◌<◌, ℕ, List, [], ◌∷◌}
use Rattle.id_tree.specs.IdTree.{One}
use Rattle.event_tree.specs.EventTree.{Leaf}
use Rattle.report_line.specs.histories.History.{Name}
use Rattle.report_line.specs.declared.report.ReportKind.{ReportKind}
use Rattle.report_line.specs.declared.report.Report.TheVariants.{Begin}
use Rattle.process.specs.declared.process.Process.{Process}
use Rattle.process.specs.declared.handed.Message.{Message}
use Rattle.process.specs.declared.handed.Start.{Start}
use Rattle.process.specs.declared.handed.Retirement.{Retirement}
use Rattle.process.specs.Leaves.{IsLeafAt, IsFromDeepest}
use Rattle.process.specs.Steps.{Works, Sends, HandsOver, Tells, Receives, Forks, Retires, Absorbs, Returns, Halves, IsLineOf}
use Rattle.process.specs.Texts.{IsProcess, IsMessage, IsStart, IsRetirement, process_text, message_text, start_text, retirement_text}
use Rattle.process_c.specs.Answers.{lines_of}
use Rattle.process_c.specs.Texts.{IsStateOf, IsStartOf}

-- the text of what a process becomes, and behind it other texts
abbrev pub state_and : Process → List (List ℕ) → List ℕ
state_and p texts = lines_of (process_text p ∷ texts)

-- ---- what a step gives beside the new state

abbrev pub IsWork : Process → Process → List (List ℕ) → Type 0
IsWork p q texts = Works p q × (texts ≡ [])

abbrev pub IsTelling : ReportKind → Process → Process → List (List ℕ) → Type 0
IsTelling action p q texts = (line : List ℕ) × Tells p q action line × (texts ≡ line ∷ [])

abbrev pub IsSending : Process → Process → List (List ℕ) → Type 0
IsSending p q texts = (m : Message) × Sends p q m × IsMessage m × (texts ≡ message_text m ∷ [])

-- of a message that is handed over once more: the process stays as it is
abbrev pub IsHandingOver : Message → Process → Process → List (List ℕ) → Type 0
IsHandingOver m p q texts = (again : Message) × HandsOver p m again × (q ≡ p) × IsMessage again × (texts ≡ message_text again ∷ [])

abbrev pub IsReceipt : Message → Process → Process → List (List ℕ) → Type 0
IsReceipt m p q texts = Receives p m q × (texts ≡ [])

-- by halves
abbrev pub IsHalving : Name → Process → Process → List (List ℕ) → Type 0
IsHalving child p q texts =
    (s : Start) × (line : List ℕ)
    × (s.child ≡ child) × Forks p q s line × Halves p.stamp.id q.stamp.id s.stamp.id × IsStart s × (texts ≡ line ∷ (start_text s ∷ []))

-- a leaf of this depth is given away, of the deepest one that is no deeper
abbrev pub IsCarving : Name → ℕ → Process → Process → List (List ℕ) → Type 0
IsCarving child depth p q texts =
    (s : Start) × (line : List ℕ)
    × (s.child ≡ child) × Forks p q s line × IsLeafAt depth s.stamp.id × IsFromDeepest p.stamp.id depth s.stamp.id × IsStart s × (texts ≡ line ∷ (start_text s ∷ []))

abbrev pub IsAbsorption : Retirement → Process → Process → List (List ℕ) → Type 0
IsAbsorption r p q texts = (line : List ℕ) × Absorbs p r q line × (r.epoch ≡ p.epoch) × (texts ≡ line ∷ [])

-- of a retirement that settlements kept
abbrev pub IsKeptAbsorption : Retirement → Process → Process → List (List ℕ) → Type 0
IsKeptAbsorption r p q texts = (line : List ℕ) × Absorbs p r q line × (r.epoch ≤ p.epoch) × (texts ≡ line ∷ [])

-- of a process that is there, to what was kept of it
abbrev pub IsReturn : ℕ → Process → Process → Process → List (List ℕ) → Type 0
IsReturn epoch kept p q texts = Returns kept q epoch × (kept.name ≡ p.name) × (p.epoch < epoch) × (texts ≡ [])

-- of one that was lost, to what it is here
abbrev pub IsReturned : ℕ → Process → Process → List (List ℕ) → Type 0
IsReturned epoch p q texts = Returns p q epoch × (texts ≡ [])

-- ---- what each call gives

-- The step leads to this process, whose text stands in front of the texts that it gives.
abbrev pub Becomes : (Process → List (List ℕ) → Type 0) → List ℕ → Type 0
Becomes step bytes = (q : Process) × (texts : List (List ℕ)) × step q texts × IsProcess q × (bytes ≡ state_and q texts)

-- a step in which what was handed over as a text takes part
abbrev pub Handed : {H : Type 0} → (H → List ℕ → Type 0) → (H → Process → Process → List (List ℕ) → Type 0) → List ℕ → Process → Process → List (List ℕ) → Type 0
Handed {H} is step text p q texts = (h : H) × is h text × step h p q texts

-- the same by a step of the process that the state is the text of
abbrev pub Gives : (Process → Process → List (List ℕ) → Type 0) → List ℕ → List ℕ → Type 0
Gives step state bytes = (p : Process) × IsStateOf p state × Becomes (step p) bytes

-- the root of this name, and the line by which it begins
abbrev pub GivesRoot : List ℕ → List ℕ → Type 0
GivesRoot name bytes =
    Becomes (λ q texts. (line : List ℕ) × (q ≡ record { name = name; epoch = 0; reports = 0; stamp = record { id = One; events = Leaf 0 } }) × IsLineOf 0 (Begin name) line × (texts ≡ line ∷ [])) bytes

-- the child that the start is for
abbrev pub GivesChild : List ℕ → List ℕ → Type 0
GivesChild start bytes =
    (s : Start) × IsStartOf s start × Becomes (λ q texts. (q ≡ record { name = s.child; epoch = s.epoch; reports = 0; stamp = s.stamp }) × (texts ≡ [])) bytes

-- The line of its retirement and the text of that. There is no state any more.
abbrev pub IsEnd : Name → Process → List ℕ → Type 0
IsEnd target p bytes = (r : Retirement) × (line : List ℕ) × Retires p target r line × IsRetirement r × (bytes ≡ lines_of (line ∷ (retirement_text r ∷ [])))

abbrev pub GivesRetirement : Name → List ℕ → List ℕ → Type 0
GivesRetirement target state bytes = (p : Process) × IsStateOf p state × IsEnd target p bytes
