use Rattle.std.proofs.Common.{◌≡◌, length, ◌∙◌, arith}
use Rattle.chains.proofs.Keeps.{named}
use Rattle.chains.proofs.Counting.{stable_there, few_stable}
use Rattle.chains.proofs.chains.Chains.stable_count.Goals as goal

pub overflow_cast-result : goal.overflow_cast-result
overflow_cast-result c =
    let a = c.self.inside in
    let there = named a.reports.items c.args.process (rw (← c.self.view_is) at c.requires) in
    omega (arith, c.len.ensures, c.index.result.now.stable.ok.0, few_stable a.reports.items a.processes.items c.args.process there.0 c.index.result.now c.self.invariant.fields.few c.self.invariant.fields.kept there.1 c.index.ensures)

pub returns-clause-count : goal.returns-clause-count
returns-clause-count c =
    let a = c.self.inside in
    let all : c.len.result ≡ length c.index.result.now.stable.items = c.len.ensures ∙ c.index.result.now.stable.ok.0 in
    rw (← c.self.view_is) (λ p at. all ∙ stable_there a.reports.items a.processes.items c.args.process p c.index.result.now c.self.invariant.fields.kept at c.index.ensures)

pub returns-clause-at_most : goal.returns-clause-at_most
returns-clause-at_most c =
    let a = c.self.inside in
    let there = named a.reports.items c.args.process (rw (← c.self.view_is) at c.requires) in
    omega (arith, c.len.ensures, c.index.result.now.stable.ok.0, few_stable a.reports.items a.processes.items c.args.process there.0 c.index.result.now c.self.invariant.fields.few c.self.invariant.fields.kept there.1 c.index.ensures)
