-- A stream of bytes as lines that end with LF.
use Rattle.std.specs.Prelude.{◌≡◌, ◌≢◌, ◌≤◌, ◌+◌, ℕ, ◌++◌, ◌==◌, nat_lt, if◌then◌else◌, List, [], ◌∷◌, length, Option, Some, None}
use Rattle.std.specs.List.{flat_map, AllByRecursion}

-- Where the stream stands behind its last line: the bytes there, or None where one byte more than a line may have has come without LF, and
-- nothing more is handed out.
abbrev pub Stand : Type 0
Stand = Option (List ℕ)

-- how many bytes a line has at most
abbrev pub line_limit : ℕ
line_limit = 8192

-- a line with its LF
abbrev pub ended : List ℕ → List ℕ
ended line = line ++ 10 ∷ []

abbrev pub NoBreak : List ℕ → Type 0
NoBreak bytes = AllByRecursion (λ b. b ≢ 10) bytes

-- no more bytes than a line may have, and no LF
pub record IsLine (line : List ℕ) : Type 0 where
  pub short : length line ≤ line_limit
  pub one : NoBreak line

-- these bytes behind the last line stand so
abbrev pub Stands : List ℕ → Stand → Type 0
Stands bytes (Some rest) = (bytes ≡ rest) × IsLine rest
Stands bytes None = (long more : List ℕ) × (bytes ≡ long ++ more) × (length long ≡ line_limit + 1) × NoBreak long

-- the stream is these lines, each with its LF, and then bytes that stand so
abbrev pub IsLineSplit : List ℕ → List (List ℕ) → Stand → Type 0
IsLineSplit stream lines stand = (bytes : List ℕ) × AllByRecursion IsLine lines × (stream ≡ flat_map ended lines ++ bytes) × Stands bytes stand

-- these lines, and then those of the cut
abbrev pub onto : List (List ℕ) → List (List ℕ) × Stand → List (List ℕ) × Stand
onto lines cut = (lines ++ cut.0, cut.1)

-- the lines that these bytes complete from where the stream stands, and where it stands then
unfoldable pub cut_from : Stand → List ℕ → List (List ℕ) × Stand
cut_from None bytes = ([], None)
cut_from (Some rest) [] = ([], Some rest)
cut_from (Some rest) (b ∷ bs) = if b == 10 then onto (rest ∷ []) (cut_from (Some []) bs) else if nat_lt (length rest) line_limit then cut_from (Some (rest ++ b ∷ [])) bs else ([], None)

-- the cut of a whole stream: the only one (see IsLineSplit)
abbrev pub cut_of : List ℕ → List (List ℕ) × Stand
cut_of stream = cut_from (Some []) stream

-- the same, piece by piece
abbrev pub fed : Stand → List (List ℕ) → List (List ℕ) × Stand
fed stand [] = ([], stand)
fed stand (piece ∷ pieces) = onto (cut_from stand piece).0 (fed (cut_from stand piece).1 pieces)
