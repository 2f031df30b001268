-- Trees that own what others own, one after the other.
use Rattle.std.proofs.Common.{◌≡◌, ◌≢◌, Bool, true, false, List, [], ◌∷◌, length, drop, get_or, refl, sym, arith}
use Rattle.std.specs.Prelude.{◌↔◌, IsTrue}
use Rattle.id_tree.specs.IdTree.{IdTree, Zero, One, Pair}
use Rattle.id_tree.specs.Points.{Covers}
use Rattle.id_tree.specs.working.Marks.{first, later, trees_of, AreMarksOf}
use Rattle.id_tree.specs.working.Tests.{covers, all_covered}
use Rattle.id_tree.specs.declared.marks.Mark.{Mark}
use Rattle.id_tree.specs.declared.marks.Mark.TheVariants as marks
use Rattle.id_tree.proofs.Apart.{both_true, regroup, and_true}
use Rattle.id_tree.proofs.Preorder.{one_id}
use Rattle.id_tree.proofs.Points.{covers_iff, uncovered_iff, IsUncovered}

nothing : (i : IdTree) → covers i Zero ≡ true
nothing Zero = refl
nothing One = refl
nothing (Pair a b) = refl

none : (is : List IdTree) → true ≡ all_covered is []
none [] = refl
none (i ∷ is) = refl

pub none_right : (ms ns : List Mark) → length ns ≡ 0 → true ≡ all_covered (trees_of ms) (trees_of ns)
none_right ms [] e = none (trees_of ms)
none_right ms (n ∷ ns) e = absurd (omega arith)

-- marks that begin with a known one
begins : (ms rest : List Mark) (m : Mark) → rest ≡ drop 1 ms → m ≡ get_or ms 0 marks.Zero → m ≢ marks.Zero → ms ≡ m ∷ rest
begins [] rest m e h n = absurd (n h)
begins (x ∷ ms) rest m e h n = rw (h, e) refl

-- two pairs
halves : (is js : List IdTree) → all_covered is js ≡ all_covered (Pair (first is) (first (later is)) ∷ later (later is)) (Pair (first js) (first (later js)) ∷ later (later js))
halves [] [] = refl
halves [] (j ∷ []) = both_true (covers Zero j)
halves [] (j ∷ l ∷ js) = regroup (covers Zero j) (covers Zero l) (all_covered [] js)
halves (i ∷ []) [] = rw (nothing i) refl
halves (i ∷ []) (j ∷ []) = both_true (covers i j)
halves (i ∷ []) (j ∷ l ∷ js) = regroup (covers i j) (covers Zero l) (all_covered [] js)
halves (i ∷ k ∷ is) [] = rw (nothing i, nothing k) (none is)
halves (i ∷ k ∷ is) (j ∷ []) = rw (nothing k, sym (none is)) (both_true (covers i j))
halves (i ∷ k ∷ is) (j ∷ l ∷ js) = regroup (covers i j) (covers k l) (all_covered is js)

pub both_pairs : (ls rs li ri : List Mark) → li ≡ drop 1 ls → marks.Pair ≡ get_or ls 0 marks.Zero → ri ≡ drop 1 rs → marks.Pair ≡ get_or rs 0 marks.Zero → all_covered (trees_of li) (trees_of ri) ≡ all_covered (trees_of ls) (trees_of rs)
both_pairs ls rs li ri e g f k =
    let is : ls ≡ marks.Pair ∷ li = begins ls li marks.Pair e g (λ w. cc) in
    let both : rs ≡ marks.Pair ∷ ri = begins rs ri marks.Pair f k (λ w. cc) in
    rw (is, both) (halves (trees_of li) (trees_of ri))

-- ---- of two ids

one_pair : (i j : IdTree) (ms ns : List Mark) → AreMarksOf i ms → AreMarksOf j ns → all_covered (trees_of ms) (trees_of ns) ≡ covers i j
one_pair i j ms ns h k = rw (one_id i ms h, one_id j ns k) (and_true (covers i j))

pub answers_covering : (b : Bool) (i j : IdTree) (ms ns : List Mark) → AreMarksOf i ms → AreMarksOf j ns → b ≡ all_covered (trees_of ms) (trees_of ns) → IsTrue b ↔ Covers i j
answers_covering b i j ms ns h k e = rw (e, one_pair i j ms ns h k) (covers_iff i j h.id.normal k.id.normal)

pub answers_uncovered : (b : Bool) (i j : IdTree) (ms ns : List Mark) → AreMarksOf i ms → AreMarksOf j ns → b ≡ all_covered (trees_of ms) (trees_of ns) → (b ≡ false) ↔ IsUncovered i j
answers_uncovered b i j ms ns h k e = rw (e, one_pair i j ms ns h k) (uncovered_iff i j h.id.normal k.id.normal)
