-- Trees that own no point both, one after the other.
use Rattle.std.proofs.Common.{◌≡◌, ◌≢◌, ◌⊎◌, inl, inr, ◌<◌, Bool, true, false, List, [], ◌∷◌, length, drop, get_or, refl, sym, arith}
use Rattle.std.specs.Prelude.{◌&&◌, ◌↔◌, IsTrue}
use Rattle.id_tree.specs.IdTree.{IdTree, Zero, One, Pair}
use Rattle.id_tree.specs.Points.{AreDisjoint, Overlap}
use Rattle.id_tree.specs.working.Marks.{first, later, trees_of, AreMarksOf}
use Rattle.id_tree.specs.working.Tests.{are_disjoint, all_disjoint}
use Rattle.id_tree.specs.declared.marks.Mark.{Mark}
use Rattle.id_tree.specs.declared.marks.Mark.TheVariants as marks
use Rattle.id_tree.proofs.Preorder.{starts, one_id}
use Rattle.id_tree.proofs.Points.{disjoint_iff, overlap_iff}

pub none_left : (ms ns : List Mark) → length ms ≡ 0 → true ≡ all_disjoint (trees_of ms) (trees_of ns)
none_left [] ns e = refl
none_left (m ∷ ms) ns e = absurd (omega arith)

none : (is : List IdTree) → true ≡ all_disjoint is []
none [] = refl
none (i ∷ is) = refl

pub none_right : (ms ns : List Mark) → length ns ≡ 0 → true ≡ all_disjoint (trees_of ms) (trees_of ns)
none_right ms [] e = none (trees_of ms)
none_right ms (n ∷ ns) e = absurd (omega arith)

with_nothing : (i : IdTree) → are_disjoint i Zero ≡ true
with_nothing Zero = refl
with_nothing One = refl
with_nothing (Pair l r) = refl

pub both_true : (b : Bool) → (b && true) ≡ ((b && true) && true)
both_true true = refl
both_true false = refl

pub regroup : (a b c : Bool) → (a && (b && c)) ≡ ((a && b) && c)
regroup true b c = refl
regroup false b c = refl

pub and_true : (b : Bool) → (b && true) ≡ b
and_true true = refl
and_true false = refl

halves : (is js : List IdTree) → all_disjoint is js ≡ all_disjoint (Pair (first is) (first (later is)) ∷ later (later is)) (Pair (first js) (first (later js)) ∷ later (later js))
halves [] js = refl
halves (i ∷ []) [] = rw (with_nothing i) refl
halves (i ∷ []) (j ∷ js) = both_true (are_disjoint i j)
halves (i ∷ k ∷ is) [] = rw (with_nothing i, with_nothing k) (none is)
halves (i ∷ k ∷ is) (j ∷ []) = rw (with_nothing k, sym (none is)) (both_true (are_disjoint i j))
halves (i ∷ k ∷ is) (j ∷ l ∷ js) = regroup (are_disjoint i j) (are_disjoint k l) (all_disjoint is js)

pub both_pairs : (ls rs li ri : List Mark) → li ≡ drop 1 ls → 0 < length ls → get_or ls 0 marks.Zero ≡ marks.Pair → ri ≡ drop 1 rs → 0 < length rs → get_or rs 0 marks.Zero ≡ marks.Pair → all_disjoint (trees_of li) (trees_of ri) ≡ all_disjoint (trees_of ls) (trees_of rs)
both_pairs ls rs li ri e h g f k j =
    let is : ls ≡ marks.Pair ∷ li = starts ls li marks.Pair e h g in
    let both : rs ≡ marks.Pair ∷ ri = starts rs ri marks.Pair f k j in
    rw (is, both) (halves (trees_of li) (trees_of ri))

-- marks that both begin with something owned, and not both with a pair
pub shared : (ls rs : List Mark) → 0 < length ls → 0 < length rs → get_or ls 0 marks.Zero ≢ marks.Zero → get_or rs 0 marks.Zero ≢ marks.Zero → (get_or ls 0 marks.Zero ≡ marks.One) ⊎ (get_or rs 0 marks.Zero ≡ marks.One) → false ≡ all_disjoint (trees_of ls) (trees_of rs)
shared [] rs h k n m o = absurd (omega arith)
shared (x ∷ ls) [] h k n m o = absurd (omega arith)
shared (marks.Zero ∷ ls) rs h k n m o = absurd (n refl)
shared (x ∷ ls) (marks.Zero ∷ rs) h k n m o = absurd (m refl)
shared (marks.One ∷ ls) (marks.One ∷ rs) h k n m o = refl
shared (marks.One ∷ ls) (marks.Pair ∷ rs) h k n m o = refl
shared (marks.Pair ∷ ls) (marks.One ∷ rs) h k n m o = refl
shared (marks.Pair ∷ ls) (marks.Pair ∷ rs) h k n m (inl o) = absurd (cc)
shared (marks.Pair ∷ ls) (marks.Pair ∷ rs) h k n m (inr o) = absurd (cc)

-- ---- of two ids

one_pair : (i j : IdTree) (ms ns : List Mark) → AreMarksOf i ms → AreMarksOf j ns → all_disjoint (trees_of ms) (trees_of ns) ≡ are_disjoint i j
one_pair i j ms ns h k = rw (one_id i ms h, one_id j ns k) (and_true (are_disjoint i j))

pub answers_disjoint : (b : Bool) (i j : IdTree) (ms ns : List Mark) → AreMarksOf i ms → AreMarksOf j ns → b ≡ all_disjoint (trees_of ms) (trees_of ns) → IsTrue b ↔ AreDisjoint i j
answers_disjoint b i j ms ns h k e = rw (e, one_pair i j ms ns h k) (disjoint_iff i j h.id.normal k.id.normal)

pub answers_overlap : (b : Bool) (i j : IdTree) (ms ns : List Mark) → AreMarksOf i ms → AreMarksOf j ns → b ≡ all_disjoint (trees_of ms) (trees_of ns) → (b ≡ false) ↔ Overlap i j
answers_overlap b i j ms ns h k e = rw (e, one_pair i j ms ns h k) (overlap_iff i j h.id.normal k.id.normal)
