use Rattle.std.proofs.Common.{arith}
use Rattle.std.specs.Prelude.{option_copied}
use Rattle.chains.proofs.Counting.{one_present, counted}
use Rattle.chains.proofs.chains.Chains.element_count.Goals as goal

pub overflow_add-result : goal.overflow_add-result
overflow_add-result c = omega (arith, c.stable_count.ensures.at_most, c.present_count.ensures, one_present (option_copied c.last_report.result))

pub returns-clause-count : goal.returns-clause-count
returns-clause-count c = λ p at. counted c.args.self.now.accepted p c.stable_count.result c.present_count.result (option_copied c.last_report.result) (c.stable_count.ensures.count p at) (c.last_report.ensures p at) c.present_count.ensures

pub returns-clause-at_most : goal.returns-clause-at_most
returns-clause-at_most c = omega (arith, c.stable_count.ensures.at_most, c.present_count.ensures, one_present (option_copied c.last_report.result))
