use Rattle.std.proofs.Common.{◌∙◌, ap, List, ℕ}
use Rattle.propagate.specs.working.Stages.{chains_at, needed_chains}
use Rattle.propagate.proofs.Reached.{cut_reached}
use Rattle.propagate.proofs.cut.cut_by.Goals as goal

pub returns : goal.returns
returns c =
    let accepted = c.args.chains.now.accepted in
    let r = c.in_ok-surviving_ranks.field-0 in
    cut_reached accepted c.args.failed.now r c.recall_lawful.ensures.folded c.in_ok-surviving_ranks.ensures c.in_ok-reasons.reasons
    (c.in_ok-reasons.ensures ∙ ap (λ (xs : List ℕ). needed_chains xs r.last.stage.cut.items (chains_at r.last.arena r.last.stage.chain_ends.items)) (c.deref.ensures.value))
