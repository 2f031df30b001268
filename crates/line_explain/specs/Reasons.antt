-- Which word of a line is wrong, and why.
use Rattle.std.specs.Prelude.{◌≡◌, ◌≢◌, ℕ, ◌+◌, List, [], ◌∷◌, ◌++◌, length}
use Rattle.id_tree.specs.Faults as ids
use Rattle.id_tree.specs.declared.fault.IdFault.TheVariants as id_fault
use Rattle.stamp.specs.Faults as stamps
use Rattle.stamp.specs.declared.fault.StampTextFault.TheVariants as stamp_fault
use Rattle.report_line.specs.Cuts.{Lacks}
use Rattle.line_explain.specs.declared.wanted.Wanted.{Wanted}
use Rattle.line_explain.specs.declared.wanted.Wanted.TheVariants as wanted
use Rattle.line_explain.specs.declared.fault.TreeFault.{TreeFault}
use Rattle.line_explain.specs.declared.fault.TreeFault.TheVariants.{NoText, NotNormal, TooDeep}
use Rattle.line_explain.specs.declared.fault.Why.{Why}
use Rattle.line_explain.specs.declared.fault.Why.TheVariants as why
use Rattle.line_explain.specs.Begun.{AreOfCall, IsBegun, MayFollow}
use Rattle.line_explain.specs.Wanting.{Wants}

-- an `@` stands behind the first word of a call, and something behind it
pub record IsMarked (word : List ℕ) : Type 0 where
  pub bare : List ℕ
  pub mark : List ℕ
  pub parts : word ≡ bare ++ 64 ∷ mark
  pub lacks : Lacks 64 bare
  pub begun : IsBegun (bare ∷ [])

-- why the text of a stamp, or of an id, is none; of several faults the first of this order is told
abbrev pub IsStampFault : TreeFault → List ℕ → Type 0
IsStampFault NoText word = stamps.IsFaultOfStamp stamp_fault.Syntax word
IsStampFault NotNormal word = stamps.IsFaultOfStamp stamp_fault.NotNormal word
IsStampFault TooDeep word = stamps.IsFaultOfStamp stamp_fault.TooDeep word

abbrev pub IsIdFault : TreeFault → List ℕ → Type 0
IsIdFault NoText word = ids.IsFaultOfId id_fault.Syntax word
IsIdFault NotNormal word = ids.IsFaultOfId id_fault.NotNormal word
IsIdFault TooDeep word = ids.IsFaultOfId id_fault.TooDeep word

-- what each reason says of a word that may not follow the words in front of it; only an empty word is told to be empty
abbrev pub Says : Why → List (List ℕ) → List ℕ → Type 0
Says (why.Missing kind) front word = ⊥
Says why.Empty front word = word ≡ []
Says why.Kind front word = (word ≢ []) × (front ≡ []) × (¬ IsMarked word)
Says why.Mark front word = (word ≢ []) × (front ≡ []) × IsMarked word
Says why.Extra front word = (word ≢ []) × AreOfCall front
Says why.Name front word = (word ≢ []) × Wants front wanted.Name
Says why.Number front word = (word ≢ []) × Wants front wanted.Number
Says why.Names front word = (word ≢ []) × Wants front wanted.Names
Says (why.Stamp fault) front word = (word ≢ []) × Wants front wanted.Stamp × IsStampFault fault word
Says why.TooLarge front word = (word ≢ []) × Wants front wanted.Stamp × stamps.IsFaultOfStamp stamp_fault.TooLarge word
Says (why.Id fault) front word = (word ≢ []) × Wants front wanted.Id × IsIdFault fault word

-- The word of this number is the first that is wrong: a call begins with the words in front of it, and none with these and it.
pub record IsFirstWrong (words : List (List ℕ)) (number : ℕ) (reason : Why) : Type 0 where
  pub front : List (List ℕ)
  pub word : List ℕ
  pub behind : List (List ℕ)
  pub parts : words ≡ front ++ word ∷ behind
  pub number_is : number ≡ length front + 1
  pub begun : IsBegun front
  pub wrong : ¬ MayFollow front word
  pub says : Says reason front word

-- A call begins with the words, and they are not those of one: the word of this number is missing, and this is wanted there.
pub record IsMissing (words : List (List ℕ)) (number : ℕ) (kind : Wanted) : Type 0 where
  pub number_is : number ≡ length words + 1
  pub begun : IsBegun words
  pub no_call : ¬ AreOfCall words
  pub wants : Wants words kind

-- the words are those of no call, for this reason at the word of this number
abbrev pub IsWrongAt : List (List ℕ) → ℕ → Why → Type 0
IsWrongAt words number (why.Missing kind) = IsMissing words number kind
IsWrongAt words number reason = IsFirstWrong words number reason
