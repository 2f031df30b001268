-- What a call answers: a number, and what it writes into the caller's buffer.
use Rattle.std.specs.Prelude.{◌≡◌, ℕ, ℤ, pos, ◌<◌, ◌≤◌, ◌⊎◌, List, [], ◌∷◌, ◌++◌, length, drop}
use Rattle.std.specs.List.{flat_map}
use Rattle.process_c.specs.declared.fault.Fault.{Fault}
use Rattle.process_c.specs.Numbers.{number_of}

-- texts as lines, each ended by LF
abbrev pub lines_of : List (List ℕ) → List ℕ
lines_of texts = flat_map (λ text. text ++ 10 ∷ []) texts

-- The bytes are given: the answer is their number, and they stand at the front of the buffer, whose rest is as it was. A buffer that has no
-- room for all of them is as it was.
pub record IsGiven (bytes : List ℕ) (answer : ℤ) (old new : List ℕ) : Type 0 where
  pub number : answer ≡ pos (length bytes)
  pub all : length bytes ≤ length old → new ≡ bytes ++ drop (length bytes) old
  pub none : length old < length bytes → new ≡ old

-- The fault is told by its number, and the buffer is as it was.
pub record IsFaultAnswer (fault : Fault) (answer : ℤ) (old new : List ℕ) : Type 0 where
  pub number : answer ≡ number_of fault
  pub none : new ≡ old

-- what a call answers that gives such bytes, and is refused by such faults
abbrev pub IsAnswer : (List ℕ → Type 0) → (Fault → Type 0) → ℤ → List ℕ → List ℕ → Type 0
IsAnswer gives refuses answer old new =
    ((bytes : List ℕ) × gives bytes × IsGiven bytes answer old new) ⊎ ((fault : Fault) × refuses fault × IsFaultAnswer fault answer old new)
