-- Names of processes.
use Rattle.std.specs.Prelude.{ℕ, Bool, false, IsTrue, ◌&&◌, ◌||◌, ◌==◌, nat_le, List, [], ◌∷◌, length, Option, Some, None, if◌then◌else◌}
use Rattle.std.specs.List.{list_all, slice_split, AllByRecursion}

-- `a` to `z`
unfoldable pub is_letter : ℕ → Bool
is_letter b = nat_le 97 b && nat_le b 122

-- `a` to `z`, `0` to `9`, `_`, `-`
unfoldable pub is_name_byte : ℕ → Bool
is_name_byte b = is_letter b || (nat_le 48 b && nat_le b 57) || b == 95 || b == 45

-- 1 to 32 of these bytes, the first a letter
unfoldable pub is_name : List ℕ → Bool
is_name [] = false
is_name (b ∷ bs) = is_letter b && nat_le (length bs) 31 && list_all is_name_byte bs

-- each is a name
abbrev pub AreNames : List (List ℕ) → Type 0
AreNames ns = AllByRecursion (λ n. IsTrue (is_name n)) ns

-- the parts of a list, with commas between them
unfoldable pub parts_in : List ℕ → List (List ℕ)
parts_in list = slice_split (λ b. b == 44) list

-- the first that is no name
abbrev pub first_wrong : List (List ℕ) → Option (List ℕ)
first_wrong [] = None
first_wrong (n ∷ ns) = if is_name n then first_wrong ns else Some n

-- the first part of a list that is no name
abbrev pub wrong_part : List ℕ → Option (List ℕ)
wrong_part list = first_wrong (parts_in list)
