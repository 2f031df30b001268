-- A script with comments: which of its lines are passed on, and which line a step is.
use Rattle.std.specs.Prelude.{◌≡◌, ℕ, ◌+◌, ◌-◌, ◌==◌, nat_le, not, Bool, false, IsTrue, if◌then◌else◌, List, [], ◌∷◌, ◌++◌, length}
use Rattle.std.specs.List.{filter, flat_map}
use Rattle.report_line.specs.Cutting.{ended}

-- A line that is passed on. A comment, which is a line that begins with `#`, and a line with no byte are passed over.
abbrev pub is_passed_on : List ℕ → Bool
is_passed_on [] = false
is_passed_on (b ∷ bs) = not (b == 35)

-- what is passed on of these lines, each with its LF
abbrev pub passed_on : List (List ℕ) → List ℕ
passed_on lines = flat_map ended (filter is_passed_on lines)

-- Which of these lines, counted from 1, is that of this step: step 1 is the first line that is passed on, step 2 the second one, and
-- so on (see NumbersSteps). Where fewer are passed on it is the last line.
unfoldable pub number_in : List (List ℕ) → ℕ → ℕ
number_in [] step = 0
number_in (line ∷ lines) step = (if is_passed_on line then (if nat_le step 1 then 0 else number_in lines (step - 1)) else number_in lines step) + 1

-- wherever a line that is passed on stands, it is that of its step
abbrev pub NumbersSteps : Type 0
NumbersSteps =
    (front : List (List ℕ)) (line : List ℕ) (more : List (List ℕ)) → IsTrue (is_passed_on line)
    → number_in (front ++ line ∷ more) (length (filter is_passed_on front) + 1) ≡ length front + 1
