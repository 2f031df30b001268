-- Working definitions: how the answers on both trees become the answer on the stamp.
use Rattle.std.specs.Prelude.{◌≡◌, ℕ, ◌==◌, not, List, IsTrue, Result, Ok, Err}
use Rattle.std.specs.List.{list_all}
use Rattle.id_tree.specs.IdTree.{IdTree}
use Rattle.id_tree.specs.NormalForm.{IsId}
use Rattle.id_tree.specs.Spelling as ids
use Rattle.id_tree.specs.Faults as ids_faults
use Rattle.id_tree.specs.declared.fault.IdFault.{IdFault}
use Rattle.id_tree.specs.declared.fault.IdFault.TheVariants as id_fault
use Rattle.event_tree.specs.EventTree.{EventTree}
use Rattle.event_tree.specs.NormalForm.{IsEvents}
use Rattle.event_tree.specs.Spelling as events
use Rattle.event_tree.specs.Faults as events_faults
use Rattle.event_tree.specs.declared.fault.EventsFault.{EventsFault}
use Rattle.event_tree.specs.declared.fault.EventsFault.TheVariants as events_fault
use Rattle.stamp.specs.declared.stamp.Stamp.{Stamp}
use Rattle.stamp.specs.declared.fault.StampTextFault.{StampTextFault}
use Rattle.stamp.specs.declared.fault.StampTextFault.TheVariants.{Syntax, NotNormal, TooDeep, TooLarge, Memory}
use Rattle.stamp.specs.Stamps.{IsStamp, stamp_text}
use Rattle.stamp.specs.Faults.{IsFaultOfStamp}

-- no byte is a semicolon
abbrev pub IsFree : List ℕ → Type 0
IsFree text = IsTrue (list_all (λ b. not (b == 59)) text)

-- what an answer tells of the text that was read
abbrev pub IdTold : Result IdTree IdFault → List ℕ → Type 0
IdTold (Ok i) text = IsId i × (text ≡ ids.spelling i)
IdTold (Err fault) text = ids_faults.IsFaultOfId fault text

abbrev pub EventsTold : Result EventTree EventsFault → List ℕ → Type 0
EventsTold (Ok e) text = IsEvents e × (text ≡ events.spelling e)
EventsTold (Err fault) text = events_faults.IsFaultOfEvents fault text

abbrev pub StampTold : Result Stamp StampTextFault → List ℕ → Type 0
StampTold (Ok s) text = IsStamp s × (text ≡ stamp_text s)
StampTold (Err fault) text = IsFaultOfStamp fault text

-- the stamp, or the first fault of the order
abbrev pub answer_of : Result IdTree IdFault → Result EventTree EventsFault → Result Stamp StampTextFault
answer_of (Ok i) (Ok e) = Ok (record { id = i; events = e })
answer_of (Err id_fault.Memory) _ = Err Memory
answer_of _ (Err events_fault.Memory) = Err Memory
answer_of (Err id_fault.Syntax) _ = Err Syntax
answer_of _ (Err events_fault.Syntax) = Err Syntax
answer_of (Err id_fault.NotNormal) _ = Err NotNormal
answer_of _ (Err events_fault.NotNormal) = Err NotNormal
answer_of (Err id_fault.TooDeep) _ = Err TooDeep
answer_of _ (Err events_fault.TooDeep) = Err TooDeep
answer_of _ (Err events_fault.TooLarge) = Err TooLarge
