-- Parts of what the command `drive` answers.
use Rattle.std.specs.Prelude.{◌≡◌, ℕ, List, Result, Ok, Err, ⊤}
use Rattle.std.specs.Io.KnownBytes.{IsAtEnd}
use Rattle.client_link.specs.declared.link.LinkFault.{LinkFault}
use Rattle.client_link.specs.Links.{LinkState, IsSound}
use Rattle.recline.specs.Commented.{passed_on, number_in}
use Rattle.recline.specs.working.Commented.{lines_of}
use Rattle.recline.specs.declared.commented.ScriptForm.{ScriptForm}
use Rattle.recline.specs.declared.commented.ScriptForm.TheVariants as forms
use Rattle.recline.specs.declared.driving.ReadScript.{ReadScript}
use Rattle.recline.specs.declared.driving.ReadScript.TheVariants as scripts
use Rattle.recline.specs.declared.driving.Unread.{Unread}
use Rattle.recline.specs.declared.driving.Unread.TheVariants as unread
use Rattle.recline.specs.Driving.{OnlyReads, ReadsInVain, WritesAll, WritesPart}

-- these bytes are all that there was to read; or why they are not
abbrev pub UnreadBy : LinkState → LinkState → Unread → Type 0
UnreadBy old new unread.Memory = IsSound old new
UnreadBy old new unread.Device = ReadsInVain old new

pub record ReadsAll (old new : LinkState) (bytes : List ℕ) : Type 0 where
  pub only : OnlyReads old new bytes
  pub at_end : IsAtEnd new.left
  pub sound : IsSound old new

pub record ReadsSome (old new : LinkState) (why : Unread) : Type 0 where
  pub bytes : List ℕ
  pub only : OnlyReads old new bytes
  pub why_not_all : UnreadBy old new why

-- what was written of a text, where nothing was read
abbrev pub Writes : LinkState → LinkState → Result (Unit {0}) LinkFault → List ℕ → Type 0
Writes old new (Ok u) text = WritesAll old new text
Writes old new (Err fault) text = WritesPart old new text

-- the script that was read
abbrev pub script_of : ReadScript → List ℕ
script_of (scripts.Plain script) = script.items
script_of (scripts.Commented script steps) = script.items

-- what of it is driven
abbrev pub steps_of : ReadScript → List ℕ
steps_of (scripts.Plain script) = script.items
steps_of (scripts.Commented script steps) = steps.items

-- the number of the line of a step of it
abbrev pub line_in : ReadScript → ℕ → ℕ
line_in (scripts.Plain script) step = step
line_in (scripts.Commented script steps) step = number_in (lines_of script.items) step

-- it is written in this form
abbrev pub IsIn : ScriptForm → ReadScript → Type 0
IsIn forms.Plain (scripts.Plain script) = ⊤
IsIn forms.Plain (scripts.Commented script steps) = ⊥
IsIn forms.Commented (scripts.Plain script) = ⊥
IsIn forms.Commented (scripts.Commented script steps) = steps.items ≡ passed_on (lines_of script.items)
