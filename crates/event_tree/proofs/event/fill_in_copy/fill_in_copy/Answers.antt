use Rattle.event_tree.proofs.Places.{if_ok}
use Rattle.event_tree.proofs.Filling.{made_in_copy}
use Rattle.event_tree.proofs.event.fill_in_copy.fill_in_copy.Goals as goal

pub returns : goal.returns
returns c = if_ok c.filled_into.result (λ stop is. made_in_copy _ _ c.args.out.now.items _ _ _ stop c.as_mut_slice.ensures.value is) c.filled_into.ensures
