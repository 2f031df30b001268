-- The text of a tree, written entry by entry. Which halves are being written is one number: it has a binary digit for
-- each node that is open, the innermost last, and 1 in its second half.
use Rattle.std.specs.Prelude.{◌≡◌, ℕ, zero, suc, ◌+◌, ◌*◌, ◌/◌, ◌%◌, ◌^◌, ◌<◌, nat_le, cond, ⊤, List, [], ◌∷◌, ◌++◌, length, take}
use Rattle.std.specs.Fmt.{decimal}
use Rattle.event_tree.specs.declared.layout.entries.Entry.{Entry}

-- the first of two for the digit 0, and the other for 1
abbrev pub by_digit : {A : Type 0} → ℕ → A → A → A
by_digit zero x y = x
by_digit (suc n) x y = y

-- where a half ends, a bracket for each node whose second half it ends; of so many nodes at most
abbrev pub closing_of : ℕ → ℕ → List ℕ
closing_of zero halves = []
closing_of (suc n) halves = by_digit (halves % 2) [] (41 ∷ closing_of n (halves / 2))

-- behind it the second half of the innermost node that is left begins
abbrev pub turned_of : ℕ → ℕ → ℕ
turned_of zero halves = halves + 1
turned_of (suc n) halves = by_digit (halves % 2) (halves + 1) (turned_of n (halves / 2))

abbrev pub closing : ℕ → List ℕ
closing halves = closing_of halves halves

abbrev pub turned : ℕ → ℕ
turned halves = turned_of halves halves

-- what an entry adds
abbrev pub piece : Entry → ℕ → List ℕ
piece e halves = cond (nat_le e.size 1) (decimal e.value ++ closing halves) (40 ∷ decimal e.value)

-- where the walk stands behind it
abbrev pub behind : Entry → ℕ → ℕ
behind e halves = cond (nat_le e.size 1) (turned halves) (halves * 2)

-- the text of these entries, with a comma in front of each
abbrev pub pieces : ℕ → List Entry → List ℕ
pieces halves [] = []
pieces halves (e ∷ es) = 44 ∷ (piece e halves ++ pieces (behind e halves) es)

-- at each of these entries there is room in 64 binary digits for one more
abbrev pub AreKept : ℕ → List Entry → Type 0
AreKept halves [] = ⊤
AreKept halves (e ∷ es) = (halves < 2 ^ 63) × AreKept (behind e halves) es

-- a text is written into a list of bytes, from one place up to another, and what stands in front of it stays
pub record IsPut (old new : List ℕ) (start stop : ℕ) (text : List ℕ) : Type 0 where
  pub as_long : length new ≡ length old
  pub next : stop ≡ start + length text
  pub are : take stop new ≡ take start old ++ text

-- so far on the way a text is written but for what is left of it, up to this place
pub record IsPutBut (old new : List ℕ) (start stop : ℕ) (text left : List ℕ) : Type 0 where
  pub as_long : length new ≡ length old
  pub next : stop + length left ≡ start + length text
  pub are : take stop new ++ left ≡ take start old ++ text
