use Rattle.std.proofs.Common.{arith}
use Rattle.chains.proofs.Keeps.{named, last_within, last_none, last_some}
use Rattle.chains.proofs.Same.{got}
use Rattle.chains.proofs.chains.Chains.last_report.Goals as goal

pub index-requires-in-Some : goal.index-requires-in-Some
index-requires-in-Some c =
    let a = c.self.inside in
    let there = named a.reports.items c.args.process (rw (← c.self.view_is) at c.requires) in
    omega (arith, last_within a.reports.items a.processes.items c.args.process c.in-Some.index there.0 c.index.result.now c.self.invariant.fields.kept there.1 c.index.ensures c.in-Some.is, a.reports.ok.0)

pub returns-in-None : goal.returns-in-None
returns-in-None c =
    rw (← c.self.view_is) (λ p at. last_none c.self.inside.reports.items c.self.inside.processes.items c.args.process p c.index.result.now c.self.invariant.fields.kept at c.index.ensures c.in-None.is)

pub returns-in-Some : goal.returns-in-Some
returns-in-Some c =
    let a = c.self.inside in
    let at_index = got a.reports.items c.in-Some.index c.deref.result.now c.index-in-Some.result.now c.deref.ensures c.index-in-Some.ensures in
    rw (← c.self.view_is) (λ p at. last_some a.reports.items a.processes.items c.args.process c.in-Some.index p c.index.result.now c.deref.result.now c.self.invariant.fields.kept at c.index.ensures c.in-Some.is at_index)
