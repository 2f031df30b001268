use Rattle.event_tree.proofs.Places.{if_ok}
use Rattle.event_tree.proofs.Filling.{closed_in_copy}
use Rattle.event_tree.proofs.event.fill_in_copy.close_in_copy.Goals as goal

pub close_filled-requires : goal.close_filled-requires
close_filled-requires c = rw c.as_mut_slice.ensures.value c.requires

pub returns : goal.returns
returns c = if_ok c.close_filled.result (λ stop is h. closed_in_copy _ _ _ _ stop c.args.out.now.items _ _ c.as_mut_slice.ensures.value is h) c.close_filled.ensures
