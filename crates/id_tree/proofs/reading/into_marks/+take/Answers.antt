use Rattle.std.proofs.Common.{refl, arith, ◌∷◌}
use Rattle.id_tree.proofs.Takes.{pair_taken, no_left, no_comma, no_right, no_end}
use Rattle.id_tree.proofs.reading.into_marks.+take.Goals as goal

pub take_pair-returns-in-Err-clause-err : goal.take_pair-returns-in-Err-clause-err
take_pair-returns-in-Err-clause-err t c = no_left c.in-Err.halt c.args.inside.now c.in-Err.ensures.err

pub take_pair-returns-in-None-clause-err : goal.take_pair-returns-in-None-clause-err
take_pair-returns-in-None-clause-err t c = no_comma _ c.args.inside.now _ _ c.in-Ok-take_id.left c.in-Ok-take_id.ensures.ok c.in-None.ensures

pub take_pair-returns-in-Err-take_id-clause-err : goal.take_pair-returns-in-Err-take_id-clause-err
take_pair-returns-in-Err-take_id-clause-err t c = no_right c.in-Err-take_id.halt _ c.args.inside.now c.in-Some.second.now _ _ c.in-Ok-take_id.left c.in-Ok-take_id.ensures.ok c.in-Some.ensures c.in-Err-take_id.ensures.err

pub take_pair-returns-in-None-behind-clause-err : goal.take_pair-returns-in-None-behind-clause-err
take_pair-returns-in-None-behind-clause-err t c =
    no_end _ c.args.inside.now c.in-Some.second.now _ _ _ c.in-Ok-take_id.left c.in-Ok-take_id-2.right c.in-Ok-take_id.ensures.ok c.in-Some.ensures c.in-Ok-take_id-2.ensures.ok c.in-None-behind.ensures

pub take_pair-returns-clause-ok : goal.take_pair-returns-clause-ok
take_pair-returns-clause-ok t c =
    pair_taken c.args.levels _ (40 ∷ c.args.inside.now) c.args.out.now.items _ c.in-Ok-take_id.left c.in-Ok-take_id-2.right _ (record {
      inside = c.args.inside.now;
      right_text = c.in-Some.second.now;
      opened = c.put.new.out.items;
      halfway = c.take_id.new.out.items;
      one = c.in-Ok-take_id.ensures.ok;
      other = c.in-Ok-take_id-2.ensures.ok;
      bracket = refl;
      comma = c.in-Some.ensures;
      end_bracket = c.in-Some-behind.ensures;
      opened_is = c.in-Ok.ensures.ok;
      level = omega arith;
      told = c.pair_form.ensures;
    })
