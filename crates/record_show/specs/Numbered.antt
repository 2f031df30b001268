-- Texts of things in a row that are counted.
use Rattle.std.specs.Prelude.{ℕ, zero, suc, ◌+◌, List, [], ◌∷◌, ◌++◌}

-- the texts of all, where the first has this number
abbrev pub numbered : {X : Type 0} → (ℕ → X → List ℕ) → ℕ → List X → List ℕ
numbered text n [] = []
numbered text n (x ∷ xs) = text n x ++ numbered text (n + 1) xs

-- what stands in front of the thing of this number in a list: nothing in front of the first
abbrev pub comma_before : ℕ → List ℕ
comma_before zero = []
comma_before (suc n) = 44 ∷ []
