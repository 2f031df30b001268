-- The lines of a stream, each explained.
use Rattle.std.specs.Prelude.{◌≡◌, ◌+◌, ℕ, Bool, true, false, List, [], ◌∷◌, ◌++◌, length, Some, None, codes, ⊤}
use Rattle.std.specs.List.{list_all}
use Rattle.std.specs.Fmt.{decimal}
use Rattle.report_line.specs.Cutting.{Stand, ended, cut_of}
use Rattle.line_explain.specs.declared.explained.Explained.{Explained}
use Rattle.line_explain.specs.declared.explained.Explained.TheVariants.{Is, TooLong, Wrong}
use Rattle.line_explain.specs.declared.stream.Explanations.{Explanations}
use Rattle.line_explain.specs.Answers.{IsExplained}
use Rattle.line_explain.specs.Words.{explained_text}

-- an explanation for each line, in order
abbrev pub AreExplained : List (List ℕ) → List Explained → Type 0
AreExplained [] [] = ⊤
AreExplained (line ∷ lines) (told ∷ others) = IsExplained line told × AreExplained lines others
AreExplained _ _ = ⊥

-- the same, and where too many bytes without LF have come behind the last line, that the next one is too long
abbrev pub AreTold : List (List ℕ) × Stand → List Explained → Type 0
AreTold (lines, Some rest) told = AreExplained lines told
AreTold (lines, None) told = (of_lines : List Explained) × AreExplained lines of_lines × (told ≡ of_lines ++ TooLong ∷ [])

-- behind its last line more bytes came without LF than a line may have
abbrev pub IsTooLong : List ℕ → Type 0
IsTooLong stream = (cut_of stream).1 ≡ None

-- they are the explanations of a stream: of its whole lines, and of a line that is too long
abbrev pub Explain : List ℕ → List Explained → Type 0
Explain stream told = AreTold (cut_of stream) told

-- a line each, with its number in front
abbrev pub told_line : ℕ → Explained → List ℕ
told_line number told = decimal number ++ (codes ": " ++ ended (explained_text told))

abbrev pub told_lines : ℕ → List Explained → List ℕ
told_lines number [] = []
told_lines number (told ∷ others) = told_line number told ++ told_lines (number + 1) others

-- whether each line is a call
abbrev pub is_call : Explained → Bool
is_call (Is call) = true
is_call TooLong = false
is_call (Wrong found) = false

abbrev pub are_calls : List Explained → Bool
are_calls told = list_all is_call told

-- these are what explaining the stream has come to
pub record IsAfter (stream : List ℕ) (told : List Explained) (now : Explanations) : Type 0 where
  pub explain : Explain stream told
  pub stand : now.feed ≡ (cut_of stream).1
  pub number : now.told ≡ length told
  pub calls : now.calls ≡ are_calls told

-- So many lines more are told of the stream with this piece behind it, and this is their text.
pub record Goes (stream : List ℕ) (told : List Explained) (piece : List ℕ) (now : Explanations) (text : List ℕ) : Type 0 where
  pub more : List Explained
  pub after : IsAfter (stream ++ piece) (told ++ more) now
  pub text_is : text ≡ told_lines (length told + 1) more
