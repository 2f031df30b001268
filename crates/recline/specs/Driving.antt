-- What the program answers when a script was driven.
use Rattle.std.specs.Prelude.{◌≡◌, ◌≤◌, ◌⊎◌, ℕ, List, [], ◌∷◌, ◌++◌, codes, Result, Ok, Err}
use Rattle.std.specs.Fmt.{decimal}
use Rattle.std.specs.Io.KnownBytes.{Appends, Consumes, IsAtEnd}
use Rattle.report_line.specs.Cutting.{ended}
use Rattle.client_link.specs.declared.link.LinkFault.{LinkFault}
use Rattle.client_link.specs.Links.{up, LinkState, IsSound, IsFault}
use Rattle.session.specs.SessionText.{most_reads}
use Rattle.script.specs.declared.end.End.{End}
use Rattle.script.specs.declared.end.End.TheVariants.{Done, Refused, Memory}
use Rattle.script.specs.Causes.{cause_words}
use Rattle.script.specs.Driven.{AreLinesOf, IsDriven}
use Rattle.recline.specs.Outcome.{Tells}
use Rattle.recline.specs.Commented.{passed_on, number_in}
use Rattle.recline.specs.declared.commented.ScriptForm.{ScriptForm}
use Rattle.recline.specs.declared.commented.ScriptForm.TheVariants as forms

-- The status of the process: each step was taken, or one was refused, or a device or memory failed.
abbrev pub script_status : Result End LinkFault → ℕ
script_status (Ok Done) = 0
script_status (Ok (Refused step cause)) = 2
script_status (Ok Memory) = 3
script_status (Err fault) = 3

-- the fault line; a script whose steps were all taken has none
abbrev pub script_fault : Result End LinkFault → List ℕ
script_fault (Ok Done) = []
script_fault (Ok (Refused step cause)) = ended (codes "recline: step " ++ decimal step ++ 32 ∷ cause_words cause)
script_fault (Ok Memory) = ended (codes "recline: memory")
script_fault (Err fault) = ended (codes "recline: device")

-- by then no more reads were made than a script or a certificate takes at most
abbrev pub HasFewReads : LinkState → LinkState → Type 0
HasFewReads old new = new.reads ≤ up most_reads old.reads

-- these bytes were read, and nothing was written
pub record OnlyReads (old new : LinkState) (bytes : List ℕ) : Type 0 where
  pub consumed : Consumes old.left new.left bytes
  pub few : HasFewReads old new
  pub held : new.held ≡ old.held
  pub waiting : new.waiting ≡ old.waiting

-- one read failed; or as many as a script takes at most did not bring its end
abbrev pub ReadsInVain : LinkState → LinkState → Type 0
ReadsInVain old new =
    ((new.failures ≡ up 1 old.failures) × (new.stalls ≡ old.stalls))
    ⊎ (IsSound old new × (new.reads ≡ up most_reads old.reads))

-- how a script ended, where what is driven of it ended so: a step has the number of its line
abbrev pub numbered_by : (ℕ → ℕ) → End → End
numbered_by number Done = Done
numbered_by number (Refused step cause) = Refused (number step) cause
numbered_by number Memory = Memory

-- driving what is passed on of a script with comments ended so, with this text: a step has the number of its line among all of them
pub record IsDrivenCommented (script text : List ℕ) (end : End) : Type 0 where
  pub lines : List (List ℕ)
  pub lines_are : AreLinesOf script lines
  pub passed_end : End
  pub driven : IsDriven (passed_on lines) text passed_end
  pub end_is : end ≡ numbered_by (number_in lines) passed_end

-- driving a script that is written in this form ended so, with this text
abbrev pub IsDrivenIn : ScriptForm → List ℕ → List ℕ → End → Type 0
IsDrivenIn forms.Plain script text end = IsDriven script text end
IsDrivenIn forms.Commented script text end = IsDrivenCommented script text end

-- these bytes are all that there was to read, and driving the script that they are, in this form, ended so, with this text
pub record IsScript (form : ScriptForm) (old new : LinkState) (text : List ℕ) (end : End) : Type 0 where
  pub script : List ℕ
  pub consumed : Consumes old.left new.left script
  pub at_end : IsAtEnd new.left
  pub few : HasFewReads old new
  pub driven : IsDrivenIn form script text end

-- all of the text was written and handed on
pub record WritesAll (old new : LinkState) (text : List ℕ) : Type 0 where
  pub written : Appends old.held new.held text
  pub nothing_waits : new.waiting ≡ []
  pub sound : IsSound old new

-- a part of the text was written, be it all but the flush, and a call failed
pub record WritesPart (old new : LinkState) (text : List ℕ) : Type 0 where
  pub part : List ℕ
  pub more : List ℕ
  pub text_is : text ≡ part ++ more
  pub written : Appends old.held new.held part
  pub fault : IsFault old new

-- What was done over a link: a script was read to its end and driven, and what it printed was written; or memory did not
-- suffice to read it. On a fault what it printed was not written; or a read failed, or the script had no end.
abbrev pub IsDrivenOver : ScriptForm → LinkState → LinkState → Result End LinkFault → Type 0
IsDrivenOver form old new (Ok end) =
    ((text : List ℕ) × IsScript form old new text end × WritesAll old new text)
    ⊎ ((bytes : List ℕ) × (end ≡ Memory) × OnlyReads old new bytes × IsSound old new)
IsDrivenOver form old new (Err fault) =
    ((text : List ℕ) × (end : End) × IsScript form old new text end × WritesPart old new text)
    ⊎ ((bytes : List ℕ) × OnlyReads old new bytes × ReadsInVain old new)

-- A script in this form was driven over the client's link; the status and the fault line say how it ended.
pub record Drives {K F : Type 0} (client_told : K → LinkState) (faults_told : F → LinkState) (form : ScriptForm) (client client_after : K) (faults faults_after : F) (status : ℕ) : Type 0 where
  pub end : Result End LinkFault
  pub driven : IsDrivenOver form (client_told client) (client_told client_after) end
  pub status_is : status ≡ script_status end
  pub faults_are : Tells (faults_told faults) (faults_told faults_after) (script_fault end)
