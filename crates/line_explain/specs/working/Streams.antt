-- What is said of some lines.
use Rattle.std.specs.Prelude.{◌≡◌, ◌+◌, ℕ, Bool, true, false, List, ◌++◌, length, None}
use Rattle.line_explain.specs.declared.explained.Explained.{Explained}
use Rattle.line_explain.specs.declared.stream.Said.{Said}
use Rattle.line_explain.specs.Answers.{IsExplained}
use Rattle.line_explain.specs.Streams.{AreExplained, AreTold, are_calls, is_call, told_line, told_lines}

-- of these lines, and of one that is too long, if there is one
abbrev pub AreToldBy : List (List ℕ) → Bool → List Explained → Type 0
AreToldBy lines false told = AreExplained lines told
AreToldBy lines true told = AreTold (lines, None) told

pub record IsSaid (lines : List (List ℕ)) (too_long : Bool) (first : ℕ) (said : Said) : Type 0 where
  pub told : List Explained
  pub are : AreToldBy lines too_long told
  pub text_is : said.text.items ≡ told_lines first told
  pub number : said.number ≡ length told
  pub calls : said.calls ≡ are_calls told

pub record IsLineSaid (line : List ℕ) (number : ℕ) (old new : List ℕ) (call : Bool) : Type 0 where
  pub told : Explained
  pub explained : IsExplained line told
  pub text_is : new ≡ old ++ told_line number told
  pub call_is : call ≡ is_call told
