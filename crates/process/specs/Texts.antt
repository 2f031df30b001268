-- The texts of processes and of what they hand to others: one line each, without LF.
use Rattle.std.specs.Prelude.{ℕ, ◌<◌, ◌^◌, List, [], ◌∷◌, IsTrue, codes}
use Rattle.std.specs.List.{join_with_byte}
use Rattle.std.specs.Fmt.{decimal}
use Rattle.event_tree.specs.NormalForm.{IsEvents}
use Rattle.event_tree.specs.Spelling as events
use Rattle.stamp.specs.Stamps.{IsStamp, stamp_text}
use Rattle.report_line.specs.Names.{is_name}
use Rattle.process.specs.declared.process.Process.{Process}
use Rattle.process.specs.declared.handed.Message.{Message}
use Rattle.process.specs.declared.handed.Start.{Start}
use Rattle.process.specs.declared.handed.Retirement.{Retirement}

-- a number of 32 bits
abbrev pub IsNumber : ℕ → Type 0
IsNumber n = n < 2 ^ 32

-- ---- what holds of each

pub record IsProcess (p : Process) : Type 0 where
  pub name : IsTrue (is_name p.name)
  pub epoch : IsNumber p.epoch
  pub reports : IsNumber p.reports
  pub stamp : IsStamp p.stamp

pub record IsMessage (m : Message) : Type 0 where
  pub epoch : IsNumber m.epoch
  pub events : IsEvents m.events

pub record IsStart (s : Start) : Type 0 where
  pub child : IsTrue (is_name s.child)
  pub epoch : IsNumber s.epoch
  pub stamp : IsStamp s.stamp

pub record IsRetirement (r : Retirement) : Type 0 where
  pub process : IsTrue (is_name r.process)
  pub epoch : IsNumber r.epoch
  pub target : IsTrue (is_name r.target)
  pub stamp : IsStamp r.stamp

-- ---- their texts: words, parted by one space

abbrev pub process_words : Process → List (List ℕ)
process_words p = codes "process" ∷ p.name ∷ decimal p.epoch ∷ decimal p.reports ∷ stamp_text p.stamp ∷ []

abbrev pub process_text : Process → List ℕ
process_text p = join_with_byte 32 (process_words p)

abbrev pub message_words : Message → List (List ℕ)
message_words m = codes "message" ∷ decimal m.epoch ∷ events.spelling m.events ∷ []

abbrev pub message_text : Message → List ℕ
message_text m = join_with_byte 32 (message_words m)

abbrev pub start_words : Start → List (List ℕ)
start_words s = codes "start" ∷ s.child ∷ decimal s.epoch ∷ stamp_text s.stamp ∷ []

abbrev pub start_text : Start → List ℕ
start_text s = join_with_byte 32 (start_words s)

abbrev pub retirement_words : Retirement → List (List ℕ)
retirement_words r = codes "retirement" ∷ r.process ∷ decimal r.epoch ∷ r.target ∷ stamp_text r.stamp ∷ []

abbrev pub retirement_text : Retirement → List ℕ
retirement_text r = join_with_byte 32 (retirement_words r)
