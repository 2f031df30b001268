use Rattle.std.proofs.Common.{◌∙◌, ap, length, refl, arith}
use Rattle.event_tree.proofs.Places.{whole_slice, cut_at_end}
use Rattle.event_tree.proofs.layout.node_entry.raise_at_end.Goals as goal

pub returns : goal.returns
returns c = λ l r front e a b first second h m f are.
    let items = c.args.out.now.items in
    let there = c.raise_owned.ensures.raised l r front e a b (length items) first second h m c.requires.within (omega (arith, ap length c.as_mut_slice.ensures.value)) f (whole_slice items _ _ _ c.as_mut_slice.ensures.value refl are) in
    cut_at_end items _ _ (length items) (length items) c.as_mut_slice.ensures.value refl c.raise_owned.ensures.as_long (omega arith) ∙ there
