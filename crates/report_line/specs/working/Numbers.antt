-- The number that a word says, as it is read from left to right.
use Rattle.std.specs.Prelude.{ℕ, ◌+◌, ◌-◌, ◌*◌, ◌^◌, ◌&&◌, ◌==◌, nat_lt, if◌then◌else◌, List, [], ◌∷◌, length, Option, Some, None}
use Rattle.std.specs.Char.{is_ascii_digit}

-- the number that the digits say behind n, if there are digits alone and it stays below 2 ^ 32
unfoldable pub digits_from : ℕ → List ℕ → Option ℕ
digits_from n [] = Some n
digits_from n (b ∷ bs) = if is_ascii_digit b && nat_lt (n * 10 + (b - 48)) (2 ^ 32) then digits_from (n * 10 + (b - 48)) bs else None

-- the number that digits without leading zeros say
unfoldable pub number : List ℕ → Option ℕ
number [] = None
number (b ∷ bs) = if b == 48 && nat_lt 0 (length bs) then None else digits_from 0 (b ∷ bs)
