use Rattle.std.proofs.Common.{arith}
use Rattle.std.specs.Prelude.{option_copied}
use Rattle.std.specs.Option.{option_map}
use Rattle.chains.specs.Stamps.{stamp_of}
use Rattle.chains.proofs.Keeps.{named}
use Rattle.chains.proofs.Showing.{shows_stable, shows_present, shows_none}
use Rattle.chains.proofs.chains.Chains.element.Goals as goal

pub returns-then-k-stable : goal.returns-then-k-stable
returns-then-k-stable c =
    let there = named c.args.self.now.accepted c.args.process c.requires in
    shows_stable c.args.self.now.accepted c.args.process c.args.k c.stable_count-stable.result there.0 c.stable_report.result.now (stamp_of c.element_made.result) there.1
    (c.stable_count-stable.ensures.count there.0 there.1) c.if-k-stable.true (c.stable_report.ensures.makes there.0 there.1) (c.element_made.ensures there.0)

pub returns-then-k-stable-2 : goal.returns-then-k-stable-2
returns-then-k-stable-2 c =
    let there = named c.args.self.now.accepted c.args.process c.requires in
    shows_present c.args.self.now.accepted c.args.process c.args.k c.stable_count-stable.result there.0 (option_copied c.last_report.result) (option_map stamp_of c.element_present.result) there.1
    (c.stable_count-stable.ensures.count there.0 there.1) c.if-k-stable-2.true (c.last_report.ensures there.0 there.1) c.element_present.ensures

pub returns-else-k-stable-2 : goal.returns-else-k-stable-2
returns-else-k-stable-2 c =
    let there = named c.args.self.now.accepted c.args.process c.requires in
    shows_none c.args.self.now.accepted c.args.process c.args.k c.stable_count-stable.result there.0 there.1 (c.stable_count-stable.ensures.count there.0 there.1) (omega (arith, c.if-k-stable.false, c.if-k-stable-2.false))
