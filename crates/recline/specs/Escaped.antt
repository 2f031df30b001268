-- A name in a fault line, as a string of JSON has it.
use Rattle.std.specs.Prelude.{ℕ, ◌+◌, ◌-◌, ◌/◌, ◌%◌, Bool, ◌&&◌, not, ◌==◌, nat_le, nat_lt, if◌then◌else◌, List, [], ◌∷◌, ◌++◌, length, codes}
use Rattle.std.specs.Str.{chars}

-- whether the byte stands for itself: printable, and neither `"` nor `\`
unfoldable pub is_plain : ℕ → Bool
is_plain b = nat_le 32 b && nat_le b 126 && not (b == 34) && not (b == 92)

-- the digit of base 16 for this number
unfoldable pub hex_digit : ℕ → ℕ
hex_digit n = if nat_lt n 10 then n + 48 else n + 87

-- `\u` and the four digits of a unit of UTF-16
abbrev pub unit : ℕ → List ℕ
unit n = 92 ∷ 117 ∷ hex_digit (n / 4096) ∷ hex_digit (n / 256 % 16) ∷ hex_digit (n / 16 % 16) ∷ hex_digit (n % 16) ∷ []

-- the two units of a character that is behind the first 65,536
abbrev pub pair : ℕ → List ℕ
pair c = unit (55296 + (c - 65536) / 1024) ++ unit (56320 + (c - 65536) % 1024)

-- A character: itself if it is printable ASCII, and neither `"` nor `\`; else its unit of UTF-16, or its two units.
abbrev pub escaped : ℕ → List ℕ
escaped c =
    if is_plain c then c ∷ []
    else if nat_lt c 65536 then unit c
    else pair c

-- how many bytes of a name are shown at most
abbrev pub most_shown : ℕ
most_shown = 64

-- these characters in this room, and two dots behind the last one that has room if not all have it
unfoldable pub shown_in : ℕ → List ℕ → List ℕ
shown_in room [] = []
shown_in room (c ∷ cs) = if nat_le (length (escaped c)) room then escaped c ++ shown_in (room - length (escaped c)) cs else codes ".."

-- the name of these bytes of UTF-8
abbrev pub shown_name : List ℕ → List ℕ
shown_name name = shown_in most_shown (chars name)
