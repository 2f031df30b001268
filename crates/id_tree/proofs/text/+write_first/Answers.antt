use Rattle.std.proofs.Common.{◌<◌, ℕ, length, length-append, ap, arith}
use Rattle.id_tree.proofs.Preorder.{inside_pair, one_of_two, second_half, has_marks, behind_halves}
use Rattle.id_tree.proofs.Lengths.{halves_length, second_length}
use Rattle.id_tree.proofs.text.+write_first.Goals as goal

pub write_first-right-requires : goal.write_first-right-requires
write_first-right-requires t c =
    let all : 0 < length c.args.marks.now = has_marks 1 _ (omega arith) c.requires.whole in (
      omega arith,
      (
        one_of_two _ (inside_pair _ _ c.split_at.ensures.back all c.in-Pair.is c.requires.whole),
        omega (arith, halves_length _ _ c.split_at.ensures.back all c.in-Pair.is),
      ),
    )

pub write_first-behind-requires : goal.write_first-behind-requires
write_first-behind-requires t c =
    let all : 0 < length c.args.marks.now = has_marks 1 _ (omega arith) c.requires.whole in
    let right = c.write_first-right.ensures.behind in (
      omega (arith, right.shorter),
      (
        second_half _ _ (inside_pair _ _ c.split_at.ensures.back all c.in-Pair.is c.requires.whole) right,
        omega (
          arith,
          halves_length _ _ c.split_at.ensures.back all c.in-Pair.is,
          second_length _ _ right,
          ap length c.write_first-right.ensures.text,
          length-append {A = ℕ},
        ),
      ),
    )

pub returns-in-Pair-clause-behind : goal.returns-in-Pair-clause-behind
returns-in-Pair-clause-behind t c =
    let all : 0 < length c.args.marks.now = has_marks 1 _ (omega arith) c.requires.whole in
    behind_halves _ _ _ _ c.split_at.ensures.back all c.in-Pair.is c.write_first-right.ensures.behind c.write_first-behind.ensures.behind
