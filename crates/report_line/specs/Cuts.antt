-- A line as the words that its spaces part.
use Rattle.std.specs.Prelude.{◌≡◌, ◌⊎◌, ℕ, ◌==◌, false, List, [], ◌∷◌, ◌++◌, Option, Some, None}
use Rattle.std.specs.List.{AllByRecursion, slice_split}
use Rattle.std.specs.Borrow.{Bor}

-- no byte of the word is c
abbrev pub Lacks : ℕ → List ℕ → Type 0
Lacks c word = AllByRecursion (λ b. (b == c) ≡ false) word

-- the words of a line, parted by single spaces
unfoldable pub words_in : List ℕ → List (List ℕ)
words_in bytes = slice_split (λ b. b == 32) bytes

-- the words that are left, where the bytes behind the last space are left, or nothing
abbrev pub words_left : Option (Bor (List ℕ)) → List (List ℕ)
words_left None = []
words_left (Some rest) = words_in rest.now

-- the words, each with a space in front of it
abbrev pub spaced : List (List ℕ) → List ℕ
spaced [] = []
spaced (word ∷ words) = 32 ∷ (word ++ spaced words)

-- one word was taken, if one was left
abbrev pub IsOneTaken : List (List ℕ) → List (List ℕ) → Type 0
IsOneTaken old new = ((old ≡ []) × (new ≡ [])) ⊎ ((word : List ℕ) × (old ≡ word ∷ new))
