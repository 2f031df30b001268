use Rattle.event_tree.proofs.Raises.{fill_raises}
use Rattle.event_tree.proofs.fill_raises_only_what_is_owned.Goals as goal

pub returns : goal.returns
returns c = record { unchanged = λ i e. (fill_raises i e).same; above = λ i e. (fill_raises i e).above; within = λ i e. (fill_raises i e).within }
