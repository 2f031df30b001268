use Rattle.std.proofs.Common.{arith}
use Rattle.std.specs.Prelude.{option_copied}
use Rattle.chains.proofs.Making.{maker_stable, maker_present, maker_none}
use Rattle.chains.proofs.chains.Chains.maker.Goals as goal

pub returns-then-k-stable : goal.returns-then-k-stable
returns-then-k-stable c p at = maker_stable p c.args.self.now.accepted c.args.k c.stable_report.result.now (c.stable_report.ensures.among p at)

pub returns-then-k-stable-2 : goal.returns-then-k-stable-2
returns-then-k-stable-2 c p at =
    maker_present p c.args.self.now.accepted c.args.k c.stable_count-stable.result (option_copied c.last_report.result) (option_copied c.if_present.result) (c.stable_count-stable.ensures.count p at) c.if-k-stable-2.true
    (c.last_report.ensures p at) c.if_present.ensures

pub returns-else-k-stable-2 : goal.returns-else-k-stable-2
returns-else-k-stable-2 c p at = maker_none p c.args.self.now.accepted c.args.k c.stable_count-stable.result (c.stable_count-stable.ensures.count p at) (omega (arith, c.if-k-stable.false, c.if-k-stable-2.false))
