use Rattle.std.proofs.Common.{arith}
use Rattle.chains.proofs.Keeps.{named}
use Rattle.chains.proofs.Same.{got}
use Rattle.chains.proofs.Counting.{stable_there}
use Rattle.chains.proofs.Showing.{stable_at, source_within, source_makes, source_among}
use Rattle.chains.proofs.chains.Chains.stable_report.Goals as goal

pub index-index-requires : goal.index-index-requires
index-index-requires c =
    let a = c.self.inside in
    let there = named a.reports.items c.args.process (rw (← c.self.view_is) at c.requires.process) in
    let stable = rw (← c.self.view_is) at c.requires.within in
    omega (arith, stable there.0 there.1, c.index.result.now.stable.ok.0, stable_there a.reports.items a.processes.items c.args.process there.0 c.index.result.now c.self.invariant.fields.kept there.1 c.index.ensures)

pub index-requires-2 : goal.index-requires-2
index-requires-2 c =
    let a = c.self.inside in
    let there = named a.reports.items c.args.process (rw (← c.self.view_is) at c.requires.process) in
    let stable = rw (← c.self.view_is) at c.requires.within in
    let made = stable_at a.reports.items a.processes.items c.args.process c.args.k c.index-index.result.now there.0 c.index.result.now c.self.invariant.fields.kept there.1 c.index.ensures (stable there.0 there.1) c.index-index.ensures in
    omega (arith, a.reports.ok.0, source_within there.0 a.reports.items c.args.k c.index-index.result.now made)

pub returns-clause-makes : goal.returns-clause-makes
returns-clause-makes c =
    let a = c.self.inside in
    let stable = rw (← c.self.view_is) at c.requires.within in
    let at_index = got a.reports.items c.index-index.result.now c.deref.result.now c.index-2.result.now c.deref.ensures c.index-2.ensures in
    rw (← c.self.view_is) (λ p at. source_makes p a.reports.items c.args.k c.index-index.result.now c.deref.result.now
    (stable_at a.reports.items a.processes.items c.args.process c.args.k c.index-index.result.now p c.index.result.now c.self.invariant.fields.kept at c.index.ensures (stable p at) c.index-index.ensures) at_index)

pub returns-clause-among : goal.returns-clause-among
returns-clause-among c =
    let a = c.self.inside in
    let stable = rw (← c.self.view_is) at c.requires.within in
    let at_index = got a.reports.items c.index-index.result.now c.deref.result.now c.index-2.result.now c.deref.ensures c.index-2.ensures in
    rw (← c.self.view_is) (λ p at. source_among p a.reports.items c.args.k c.index-index.result.now c.deref.result.now
    (stable_at a.reports.items a.processes.items c.args.process c.args.k c.index-index.result.now p c.index.result.now c.self.invariant.fields.kept at c.index.ensures (stable p at) c.index-index.ensures) at_index)
