use Rattle.std.proofs.Common.{◌≡◌, ◌%◌, [], ◌∷◌, sym, ◌∙◌, arith}
use Rattle.event_tree.proofs.Digits.{closing_odd, turned_odd}
use Rattle.event_tree.proofs.Puts.{more_put}
use Rattle.event_tree.proofs.writing.put_closing.Goals as goal

pub loop-left-preserved : goal.loop-left-preserved
loop-left-preserved c =
    let odd : c.loop-left.left % 2 ≡ 1 = omega (arith, c.loop-left-test.true) in
    record {
      put = more_put c.args.out.now c.loop-left.out c.put_byte-next.new.out c.args.at c.loop-left.next _ _ (41 ∷ []) _ _ c.loop-left.invariant.put c.put_byte-next.ensures (closing_odd c.loop-left.left odd);
      turned = sym (turned_odd c.loop-left.left odd) ∙ c.loop-left.invariant.turned;
    }
