use Rattle.std.proofs.Common.{◌+◌, ℕ, sym, ap, ◌∙◌, length, arith}
use Rattle.report_line.proofs.Rows.{named_count}
use Rattle.report_line.proofs.row.count_in.Goals as goal

pub returns-in_default : goal.returns-in_default
returns-in_default c = ap (λ (n : ℕ). n + 1) c.commas_in.ensures.count ∙ sym (named_count c.args.text.now (λ none. omega (arith, c.in_default.len_at_least, ap length none)))
