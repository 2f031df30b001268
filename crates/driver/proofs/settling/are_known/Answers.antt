use Rattle.driver.specs.working.Seen.{chronicle_in}
use Rattle.driver.proofs.Unknown.{all_known, unknown_failed, unknown_in_line}
use Rattle.driver.proofs.settling.are_known.Goals as goal

pub returns-then-are_born-clause-known : goal.returns-then-are_born-clause-known
returns-then-are_born-clause-known c = λ holds. all_known (chronicle_in c.args.tables.now) c.args.failed.now c.args.line.now (c.are_born.ensures.all c.if-are_born.true) (c.has_born.ensures.all holds)

pub returns-then-are_born-clause-unknown : goal.returns-then-are_born-clause-unknown
returns-then-are_born-clause-unknown c = λ fails. unknown_in_line (chronicle_in c.args.tables.now) c.args.failed.now c.args.line.now (c.has_born.ensures.one fails)

pub returns-else-are_born-clause-unknown : goal.returns-else-are_born-clause-unknown
returns-else-are_born-clause-unknown c = λ fails. unknown_failed (chronicle_in c.args.tables.now) c.args.failed.now c.args.line.now (c.are_born.ensures.one c.if-are_born.false)
