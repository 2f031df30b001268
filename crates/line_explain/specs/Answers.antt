-- What a line is explained by.
use Rattle.std.specs.Prelude.{ℕ, ◌<◌, ◌≤◌, List, length}
use Rattle.report_line.specs.Cutting.{line_limit}
use Rattle.report_line.specs.Cuts.{words_in}
use Rattle.report_line.specs.Reading.{Spells}
use Rattle.line_explain.specs.declared.explained.Explained.{Explained}
use Rattle.line_explain.specs.declared.explained.Explained.TheVariants.{Is, TooLong, Wrong}
use Rattle.line_explain.specs.Reasons.{IsWrongAt}

-- a line has at most so many bytes
abbrev pub longest : ℕ
longest = line_limit

-- The line is that of this call; or it is too long, which is told before all words; or it is that of no call, for this reason.
abbrev pub IsExplained : List ℕ → Explained → Type 0
IsExplained line (Is call) = (length line ≤ longest) × Spells call line
IsExplained line TooLong = longest < length line
IsExplained line (Wrong found) = (length line ≤ longest) × IsWrongAt (words_in line) found.number found.why
