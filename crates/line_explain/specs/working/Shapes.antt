-- The calls by what stands behind their first word.
use Rattle.std.specs.Prelude.{◌≡◌, ◌⊎◌, ℕ, ◌+◌, List, [], ◌∷◌, Option, Some, None, Result, Ok, Err, alloc_error, codes, ⊤}
use Rattle.std.specs.declared.alloc.AllocError.{AllocError}
use Rattle.id_tree.specs.declared.fault.IdFault.{IdFault}
use Rattle.id_tree.specs.declared.fault.IdFault.TheVariants as id_fault
use Rattle.stamp.specs.Faults as stamps
use Rattle.stamp.specs.declared.fault.StampTextFault.{StampTextFault}
use Rattle.stamp.specs.declared.fault.StampTextFault.TheVariants as stamp_fault
use Rattle.report_line.specs.Reading.{IsMarkedWord}
use Rattle.line_explain.specs.declared.wanted.Wanted.{Wanted}
use Rattle.line_explain.specs.declared.wanted.Wanted.TheVariants as wanted
use Rattle.line_explain.specs.declared.fault.TreeFault.TheVariants.{NoText, NotNormal, TooDeep}
use Rattle.line_explain.specs.declared.fault.Why.{Why}
use Rattle.line_explain.specs.declared.fault.Why.TheVariants as why
use Rattle.line_explain.specs.declared.fault.WrongWord.{WrongWord}
use Rattle.line_explain.specs.declared.kind.Shape.{Shape}
use Rattle.line_explain.specs.declared.kind.Shape.TheVariants.{Bare, Named, Failed, Settling, Reported, Handing, Forking}
use Rattle.line_explain.specs.Begun.{AreOfCall}
use Rattle.line_explain.specs.Wanting.{Fits}
use Rattle.line_explain.specs.Reasons.{IsMarked, IsStampFault, IsIdFault, IsWrongAt}

-- what is wanted behind the first word
abbrev pub wanted_in : Shape → List Wanted
wanted_in Bare = []
wanted_in Named = wanted.Name ∷ []
wanted_in Failed = wanted.Names ∷ []
wanted_in Settling = wanted.Number ∷ wanted.Names ∷ []
wanted_in Reported = wanted.Name ∷ wanted.Number ∷ wanted.Stamp ∷ []
wanted_in Handing = wanted.Name ∷ wanted.Number ∷ wanted.Stamp ∷ wanted.Name ∷ []
wanted_in Forking = wanted.Name ∷ wanted.Number ∷ wanted.Stamp ∷ wanted.Id ∷ wanted.Name ∷ wanted.Id ∷ []

-- the first words that bear no mark
abbrev pub IsUnmarked : Shape → List ℕ → Type 0
IsUnmarked Bare word = (word ≡ codes "GARBAGE") ⊎ (word ≡ codes "BYE")
IsUnmarked Named word = (word ≡ codes "BEGIN") ⊎ (word ≡ codes "STATE")
IsUnmarked Failed word = word ≡ codes "LINE"
IsUnmarked Settling word = word ≡ codes "SETTLE"
IsUnmarked _ word = ⊥

-- those that may bear one
abbrev pub IsMarkable : Shape → List ℕ → Type 0
IsMarkable Reported word = (word ≡ codes "CHECK") ⊎ (word ≡ codes "PRESENT")
IsMarkable Handing word = (word ≡ codes "RETIRE") ⊎ (word ≡ codes "ABSORB")
IsMarkable Forking word = word ≡ codes "FORK"
IsMarkable _ word = ⊥

-- a word that may bear a mark, with that of an epoch
pub record IsMarkedKind (shape : Shape) (kind : List ℕ) : Type 0 where
  pub word : List ℕ
  pub epoch : ℕ
  pub markable : IsMarkable shape word
  pub marked : IsMarkedWord kind word epoch

-- the first word of calls of this shape
abbrev pub IsKindOf : Shape → List ℕ → Type 0
IsKindOf shape kind = IsUnmarked shape kind ⊎ IsMarkedKind shape kind

-- words as they are wanted, one for one
abbrev pub FitAll : List Wanted → List (List ℕ) → Type 0
FitAll [] [] = ⊤
FitAll (kind ∷ kinds) (word ∷ words) = Fits kind word × FitAll kinds words
FitAll _ _ = ⊥

-- an empty word is told to be empty, whatever else is wrong with it
abbrev pub told : List ℕ → Why → Why
told [] reason = why.Empty
told (b ∷ bs) reason = reason

-- why a word is not what is wanted
abbrev pub IsStampCause : List ℕ → Why → Type 0
IsStampCause word (why.Stamp fault) = IsStampFault fault word
IsStampCause word why.TooLarge = stamps.IsFaultOfStamp stamp_fault.TooLarge word
IsStampCause word _ = ⊥

abbrev pub IsIdCause : List ℕ → Why → Type 0
IsIdCause word (why.Id fault) = IsIdFault fault word
IsIdCause word _ = ⊥

abbrev pub IsCause : Wanted → List ℕ → Why → Type 0
IsCause wanted.Name word reason = reason ≡ why.Name
IsCause wanted.Number word reason = reason ≡ why.Number
IsCause wanted.Names word reason = reason ≡ why.Names
IsCause wanted.Stamp word reason = IsStampCause word reason
IsCause wanted.Id word reason = IsIdCause word reason

-- the word is what is wanted; or it is not, for this cause
abbrev pub TellsFit : Wanted → List ℕ → Option Why → Type 0
TellsFit kind word None = Fits kind word
TellsFit kind word (Some reason) = (¬ Fits kind word) × IsCause kind word reason

-- the answer to each fault of a text
abbrev pub stamp_answer : StampTextFault → Result (Option Why) AllocError
stamp_answer stamp_fault.Syntax = Ok (Some (why.Stamp NoText))
stamp_answer stamp_fault.NotNormal = Ok (Some (why.Stamp NotNormal))
stamp_answer stamp_fault.TooDeep = Ok (Some (why.Stamp TooDeep))
stamp_answer stamp_fault.TooLarge = Ok (Some why.TooLarge)
stamp_answer stamp_fault.Memory = Err alloc_error

abbrev pub id_answer : IdFault → Result (Option Why) AllocError
id_answer id_fault.Syntax = Ok (Some (why.Id NoText))
id_answer id_fault.NotNormal = Ok (Some (why.Id NotNormal))
id_answer id_fault.TooDeep = Ok (Some (why.Id TooDeep))
id_answer id_fault.Memory = Err alloc_error

-- why a first word is that of no call
abbrev pub IsNoKind : List ℕ → Why → Type 0
IsNoKind word reason = (IsMarked word × (reason ≡ told word why.Mark)) ⊎ ((¬ IsMarked word) × (reason ≡ told word why.Kind))

-- the words, of which the first has the number `first`, are as wanted up to the one of this number, which is not
abbrev pub Stops : List Wanted → List (List ℕ) → ℕ → ℕ → Why → Type 0
Stops [] [] first number reason = ⊥
Stops [] (word ∷ words) first number reason = (number ≡ first) × (reason ≡ told word why.Extra)
Stops (kind ∷ kinds) [] first number reason = (number ≡ first) × (reason ≡ why.Missing kind)
Stops (kind ∷ kinds) (word ∷ words) first number reason =
    (Fits kind word × Stops kinds words (first + 1) number reason)
    ⊎ ((number ≡ first) × (¬ Fits kind word) × ((cause : Why) × IsCause kind word cause × (reason ≡ told word cause)))

-- whether the words are as wanted, and where they stop to be
abbrev pub TellsOf : List Wanted → List (List ℕ) → ℕ → Option WrongWord → Type 0
TellsOf kinds words first None = FitAll kinds words
TellsOf kinds words first (Some found) = Stops kinds words first found.number found.why

-- whether the words are those of a call, and why they are not
abbrev pub IsFirstWrongWord : List (List ℕ) → Option WrongWord → Type 0
IsFirstWrongWord words None = AreOfCall words
IsFirstWrongWord words (Some found) = IsWrongAt words found.number found.why
