use Rattle.std.proofs.Common.{ℕ, List, ap, ◌∙◌}
use Rattle.std.specs.Prelude.{slice_get}
use Rattle.chains.proofs.Keeps.{no_epoch, some_epoch}
use Rattle.chains.proofs.chains.Chains.last_epoch.Goals as goal

pub returns-in-None : goal.returns-in-None
returns-in-None c =
    let a = c.self.inside in
    rw (← c.self.view_is) (λ p at. no_epoch a.reports.items a.epochs.items a.processes.items c.args.process p c.index.result.now c.self.invariant.fields.kept at c.index.ensures c.in-None.is)

pub returns-in-Some : goal.returns-in-Some
returns-in-Some c =
    let a = c.self.inside in
    rw (← c.self.view_is) (λ p at. c.number_at.ensures ∙ ap (λ (xs : List ℕ). slice_get xs c.in-Some.index) c.deref.ensures.value ∙ some_epoch a.reports.items a.epochs.items a.processes.items c.args.process c.in-Some.index p c.index.result.now c.self.invariant.fields.kept at c.index.ensures c.in-Some.is)
