-- What the marks of an id that owns one part alone stand for.
use Rattle.std.proofs.Common.{◌≡◌, ◌≢◌, List, [], ◌∷◌, ◌++◌, true, false, refl, sym, ap, ◌∙◌, append_assoc, append-nil}
use Rattle.std.proofs.lemmas.Bool.{true≢false}
use Rattle.std.specs.Prelude.{⊤}
use Rattle.id_tree.specs.IdTree.{IdTree, Zero, Pair}
use Rattle.id_tree.specs.working.Marks.{preorder, first, later, trees_of, tree_of, AreMarksOf}
use Rattle.id_tree.specs.Points.{Point}
use Rattle.id_tree.specs.OneWay.{id_of_way}
use Rattle.id_tree.specs.working.WayOfMarks.{turns_of, are_nothing, is_only_way}
use Rattle.id_tree.specs.declared.marks.Mark.{Mark}
use Rattle.id_tree.specs.declared.marks.Mark.TheVariants as marks
use Rattle.id_tree.proofs.Preorder.{tree_of_preorder}

-- each tree is nothing
abbrev AreAllNothing : List IdTree → Type 0
AreAllNothing [] = ⊤
AreAllNothing (t ∷ ts) = (t ≡ Zero) × AreAllNothing ts

all_nothing : (ms : List Mark) → are_nothing ms ≡ true → AreAllNothing (trees_of ms)
all_nothing [] e = tt
all_nothing (marks.Zero ∷ ms) e = (refl, all_nothing ms e)
all_nothing (marks.One ∷ ms) e = absurd (true≢false (sym e))
all_nothing (marks.Pair ∷ ms) e = absurd (true≢false (sym e))

first_nothing : (ts : List IdTree) → AreAllNothing ts → first ts ≡ Zero
first_nothing [] h = refl
first_nothing (t ∷ ts) h = h.0

later_nothing : (ts : List IdTree) → AreAllNothing ts → AreAllNothing (later ts)
later_nothing [] h = tt
later_nothing (t ∷ ts) h = h.1

-- the first tree is that of the way, and behind it stands nothing
record IsAlone (ms : List Mark) : Type 0 where
  tree : tree_of ms ≡ id_of_way (turns_of ms)
  behind : AreAllNothing (later (trees_of ms))

left_alone : (ms : List Mark) → IsAlone ms → turns_of (marks.Pair ∷ ms) ≡ false ∷ turns_of ms → IsAlone (marks.Pair ∷ ms)
left_alone ms h e = record {
  tree = rw (e, h.tree, first_nothing (later (trees_of ms)) h.behind) refl;
  behind = later_nothing (later (trees_of ms)) h.behind;
}

alone : (ms : List Mark) → is_only_way ms ≡ true → IsAlone ms
alone [] e = absurd (true≢false (sym e))
alone (marks.Zero ∷ ms) e = absurd (true≢false (sym e))
alone (marks.One ∷ ms) e = record { tree = refl; behind = all_nothing ms e }
alone (marks.Pair ∷ []) e = absurd (true≢false (sym e))
alone (marks.Pair ∷ marks.Zero ∷ ms) e =
    let h = alone ms e in
    record { tree = ap (Pair Zero) h.tree; behind = h.behind }
alone (marks.Pair ∷ marks.One ∷ ms) e = left_alone (marks.One ∷ ms) (alone (marks.One ∷ ms) e) refl
alone (marks.Pair ∷ marks.Pair ∷ ms) e = left_alone (marks.Pair ∷ ms) (alone (marks.Pair ∷ ms) e) refl

-- ---- and of the marks of any way

-- the marks of a way do not begin with nothing, so a pair in front of them turns left
turned_left : (p : Point) (ms : List Mark) → is_only_way (marks.Pair ∷ (preorder (id_of_way p) ++ ms)) ≡ is_only_way (preorder (id_of_way p) ++ ms)
turned_left [] ms = refl
turned_left (false ∷ p) ms = refl
turned_left (true ∷ p) ms = refl

way_passed : (p : Point) (ms : List Mark) → is_only_way (preorder (id_of_way p) ++ ms) ≡ are_nothing ms
way_passed [] ms = refl
way_passed (false ∷ p) ms =
    ap (λ (ns : List Mark). is_only_way (marks.Pair ∷ ns)) (append_assoc (preorder (id_of_way p)) (marks.Zero ∷ []) ms)
    ∙ turned_left p (marks.Zero ∷ ms) ∙ way_passed p (marks.Zero ∷ ms)
way_passed (true ∷ p) ms = way_passed p ms

-- ---- what the scan of an id's marks tells

pub only_way : (i : IdTree) (ms : List Mark) → AreMarksOf i ms → is_only_way ms ≡ true → i ≡ id_of_way (turns_of ms)
only_way i ms h e = sym (tree_of_preorder i ms h.are) ∙ (alone ms e).tree

pub no_way : (i : IdTree) (ms : List Mark) → AreMarksOf i ms → is_only_way ms ≡ false → (p : Point) → i ≢ id_of_way p
no_way i ms h e p is =
    let whole : ms ≡ preorder (id_of_way p) ++ [] = h.are ∙ ap preorder is ∙ sym (append-nil (preorder (id_of_way p))) in
    true≢false (sym (way_passed p []) ∙ ap is_only_way (sym whole) ∙ e)
