-- Words of a line and the line.
use Rattle.std.proofs.Common.{◌≡◌, ℕ, List, sym, ap, ◌∙◌}
use Rattle.std.specs.List.{join_with_byte}
use Rattle.report_line.specs.declared.call.Call.{Call}
use Rattle.report_line.specs.Cuts.{words_in}
use Rattle.report_line.specs.Spelling.{spelling}
use Rattle.report_line.specs.Reading.{Spells}
use Rattle.report_line.proofs.Parting.{words_joined}
use Rattle.line_explain.specs.Begun.{AreOfCall}

-- the words of no call are those of a line that is none
pub no_words : (line : List ℕ) (words : List (List ℕ)) → ((c : Call) → ¬ Spells c line) → words ≡ words_in line → ¬ AreOfCall words
unfolding spelling
no_words line words none is of_call = none of_call.0 (of_call.1.0, sym (words_joined line) ∙ ap (join_with_byte 32) (sym is ∙ of_call.1.1))
