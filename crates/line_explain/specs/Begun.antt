-- Words that a line may begin with, by the grammar itself.
use Rattle.std.specs.Prelude.{ℕ, List, [], ◌∷◌, ◌++◌}
use Rattle.report_line.specs.declared.call.Call.{Call}
use Rattle.report_line.specs.Reading.{IsCallOf}

-- they are the words of a call
abbrev pub AreOfCall : List (List ℕ) → Type 0
AreOfCall words = (c : Call) × IsCallOf words c

-- a call begins with them
abbrev pub IsBegun : List (List ℕ) → Type 0
IsBegun words = (behind : List (List ℕ)) × AreOfCall (words ++ behind)

-- a call begins with the words in front, and this one behind them
abbrev pub MayFollow : List (List ℕ) → List ℕ → Type 0
MayFollow front word = IsBegun (front ++ word ∷ [])
