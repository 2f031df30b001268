use Rattle.std.proofs.Common.{sym, ap, length, arith}
use Rattle.report_line.proofs.Rows.{named_text}
use Rattle.report_line.proofs.row.word_of.Goals as goal

pub returns-in_default : goal.returns-in_default
returns-in_default c = sym (named_text c.args.text.now (λ none. omega (arith, c.in_default.len_at_least, ap length none)))
