-- The text of the line for these names.
use Rattle.std.specs.Prelude.{ℕ, List}
use Rattle.chains.specs.Processes.{Name}
use Rattle.chains.specs.Held.{Held}
use Rattle.reasons.specs.Shown.{IsLineText}
use Rattle.line_answer.specs.Questions.{IsChosenText}

-- the same for these names
pub record IsTextFor (held : Held) (names : List Name) (text : List ℕ) : Type 0 where
  pub line : IsLineText held names text
  pub chosen : IsChosenText held names text
