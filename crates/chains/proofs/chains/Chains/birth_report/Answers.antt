use Rattle.std.proofs.Common.{arith}
use Rattle.chains.proofs.Keeps.{named, birth_within, birth_is}
use Rattle.chains.proofs.Same.{got}
use Rattle.chains.proofs.chains.Chains.birth_report.Goals as goal

pub index-requires-2 : goal.index-requires-2
index-requires-2 c =
    let a = c.self.inside in
    let there = named a.reports.items c.args.process (rw (← c.self.view_is) at c.requires) in
    omega (arith, birth_within a.reports.items a.processes.items c.args.process there.0 c.index.result.now c.self.invariant.fields.kept there.1 c.index.ensures, a.reports.ok.0)

pub returns : goal.returns
returns c =
    let a = c.self.inside in
    let at_index = got a.reports.items c.index.result.now.birth c.deref.result.now c.index-2.result.now c.deref.ensures c.index-2.ensures in
    rw (← c.self.view_is) (λ p at. birth_is a.reports.items a.processes.items c.args.process p c.index.result.now c.deref.result.now c.self.invariant.fields.kept at c.index.ensures at_index)
