use Rattle.std.proofs.Common.{◌∙◌, sym}
use Rattle.report_line.proofs.Parting.{some_word}
use Rattle.line_explain.proofs.Lines.{no_words}
use Rattle.line_explain.proofs.explaining.outside.Goals as goal

pub wrong_word-requires : goal.wrong_word-requires
wrong_word-requires c = λ none. some_word c.args.line.now (sym c.of-words.ensures ∙ none)

pub unreachable-requires : goal.unreachable-requires
unreachable-requires c = no_words c.args.line.now c.of-words.result c.requires.no_call c.of-words.ensures (rw c.in-None.is at c.in_ok-found.ensures)
