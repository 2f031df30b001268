use Rattle.std.proofs.Common.{ap}
use Rattle.chains.specs.working.Keeping.{KeptProcess}
use Rattle.chains.proofs.Keeps.{looked_up}
use Rattle.chains.proofs.chains.Chains.is_absorbed.Goals as goal

pub returns : goal.returns
returns c =
    let a = c.self.inside in
    rw (← c.self.view_is) (λ p at. ap (λ (v : KeptProcess). v.absorbed) (looked_up a.reports.items a.processes.items c.args.process p c.index.result.now c.self.invariant.fields.kept at c.index.ensures))
