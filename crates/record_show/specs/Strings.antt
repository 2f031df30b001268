-- Strings of JSON.
use Rattle.std.specs.Prelude.{ℕ, ◌+◌, ◌/◌, ◌%◌, Bool, ◌&&◌, not, ◌==◌, nat_le, nat_lt, if◌then◌else◌, List, [], ◌∷◌, ◌++◌}
use Rattle.std.specs.List.{flat_map}

-- whether the byte stands for itself: printable, and neither `"` nor `\`
unfoldable pub is_plain : ℕ → Bool
is_plain b = nat_le 32 b && nat_le b 126 && not (b == 34) && not (b == 92)

-- the digit of base 16 for this number
unfoldable pub hex_digit : ℕ → ℕ
hex_digit n = if nat_lt n 10 then n + 48 else n + 87

-- A byte in a string: itself, or `\u00` and its two digits. Bytes above 127 are taken for the characters of these numbers.
abbrev pub escaped : ℕ → List ℕ
escaped b = if is_plain b then b ∷ [] else 92 ∷ 117 ∷ 48 ∷ 48 ∷ hex_digit (b / 16) ∷ hex_digit (b % 16) ∷ []

-- between double quotes
abbrev pub string : List ℕ → List ℕ
string text = 34 ∷ (flat_map escaped text ++ 34 ∷ [])
