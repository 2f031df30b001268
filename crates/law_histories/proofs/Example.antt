-- The history with every kind of step is lawful.
use Rattle.std.proofs.Common.{◌≡◌, ◌≢◌, ℕ, ◌+◌, ◌<◌, ◌≤◌, max, true, false, [], ◌∷◌, refl, sym, ◌∙◌, ap, arith}
use Rattle.id_tree.specs.IdTree.{IdTree, One}
use Rattle.id_tree.specs.Points.{Point, owns, OwnsSome, AreDisjoint, AreTogether}
use Rattle.event_tree.specs.EventTree.{EventTree, Leaf}
use Rattle.event_tree.specs.Values.{value_at}
use Rattle.event_tree.specs.Grown.{IsGrown}
use Rattle.event_tree.specs.Join.{IsJoin}
use Rattle.report_line.specs.declared.step.Step.{Step}
use Rattle.report_line.specs.histories.History.{Event, status, sending}
use Rattle.report_line.specs.histories.Lawful.{IsOwnWork, IsLawful, start, next}
use Rattle.law_histories.specs.Example.{a, left, right, halves, every_step}

-- the values in the two halves
pub record Has (e : EventTree) (x y : ℕ) : Type 0 where
  pub at_root : value_at e [] ≡ x
  pub at_left : (t : Point) → value_at e (false ∷ t) ≡ x
  pub at_right : (t : Point) → value_at e (true ∷ t) ≡ y

pub leaf : (n : ℕ) → Has (Leaf n) n n
leaf n = record { at_root = refl; at_left = λ t. refl; at_right = λ t. refl }

pub has : (n x y : ℕ) → Has (halves n x y) (n + x) (n + y)
has n x y = record { at_root = refl; at_left = λ t. refl; at_right = λ t. refl }

left_grows : (e f : EventTree) (x y z : ℕ) → Has e x y → Has f z y → x < z → IsGrown left e f
left_grows e f x y z of_e of_f less = record {
  same = elim [
    | [] ↦ λ free. absurd (cc)
    | true ∷ t ↦ λ free. of_f.at_right t ∙ sym (of_e.at_right t)
    | false ∷ t ↦ λ free. absurd (cc)
  ];
  above = elim [
    | [] ↦ λ owned. omega (arith, of_e.at_root, of_f.at_root)
    | true ∷ t ↦ λ owned. omega (arith, of_e.at_right t, of_f.at_right t)
    | false ∷ t ↦ λ owned. omega (arith, of_e.at_left t, of_f.at_left t)
  ];
  greater = ([], refl, omega (arith, of_e.at_root, of_f.at_root));
}

right_grows : (e f : EventTree) (x y z : ℕ) → Has e x y → Has f x z → y < z → IsGrown right e f
right_grows e f x y z of_e of_f less = record {
  same = elim [
    | [] ↦ λ free. of_f.at_root ∙ sym of_e.at_root
    | true ∷ t ↦ λ free. absurd (cc)
    | false ∷ t ↦ λ free. of_f.at_left t ∙ sym (of_e.at_left t)
  ];
  above = elim [
    | [] ↦ λ owned. omega (arith, of_e.at_root, of_f.at_root)
    | true ∷ t ↦ λ owned. omega (arith, of_e.at_right t, of_f.at_right t)
    | false ∷ t ↦ λ owned. omega (arith, of_e.at_left t, of_f.at_left t)
  ];
  greater = (true ∷ [], refl, omega (arith, of_e.at_right [], of_f.at_right []));
}

all_grows : (e f : EventTree) (x y z w : ℕ) → Has e x y → Has f z w → x < z → y ≤ w → IsGrown One e f
all_grows e f x y z w of_e of_f less no_less = record {
  same = λ t free. absurd (cc);
  above = elim [
    | [] ↦ λ owned. omega (arith, of_e.at_root, of_f.at_root)
    | true ∷ t ↦ λ owned. omega (arith, of_e.at_right t, of_f.at_right t)
    | false ∷ t ↦ λ owned. omega (arith, of_e.at_left t, of_f.at_left t)
  ];
  greater = ([], refl, omega (arith, of_e.at_root, of_f.at_root));
}

joins : (e f g : EventTree) (x y z w : ℕ) → Has e x y → Has f z w → Has g (max x z) (max y w) → IsJoin e f g
joins e f g x y z w of_e of_f of_g = elim [
  | [] ↦ omega (arith, of_e.at_root, of_f.at_root, of_g.at_root)
  | true ∷ t ↦ omega (arith, of_e.at_right t, of_f.at_right t, of_g.at_right t)
  | false ∷ t ↦ omega (arith, of_e.at_left t, of_f.at_left t, of_g.at_left t)
]

pub apart : AreDisjoint left right
apart = elim [ [] ↦ λ o. refl | true ∷ t ↦ λ o. absurd (cc) | false ∷ t ↦ λ o. refl ]

pub both : AreTogether left right One
both = elim [ [] ↦ refl | true ∷ t ↦ refl | false ∷ t ↦ refl ]

pub some_left : OwnsSome left
some_left = ([], refl)

pub some_right : OwnsSome right
some_right = (true ∷ [], refl)

works : (e : Event) (from : EventTree) (s : Step) → s.stamp.id ≡ e.id → IsGrown e.id from s.stamp.events → IsOwnWork e from s
works e from s same grown = record { same_id = λ t. ap (λ (i : IdTree). owns i t) same; grown = grown }

heads : (x y : ℕ) → x ∷ [] ≡ y ∷ [] → x ≡ y
heads x y e = cc

pub above : (x y : ℕ) → y < x → x ∷ [] ≢ y ∷ []
above x y less e = (let h : x ≡ y = heads x y e in omega arith)

pub below : (x y : ℕ) → x < y → x ∷ [] ≢ y ∷ []
below x y less e = (let h : x ≡ y = heads x y e in omega arith)

pub every_step_is_lawful : IsLawful a every_step
unfolding status sending
every_step_is_lawful =
    next (next (next (next (next (next (next (next (next (next (next (next (next start refl
    (record {
      grown = all_grows _ _ 0 0 1 1 (leaf 0) (leaf 1) (omega arith) (omega arith);
      new_name = refl;
      not_root = above 98 97 (omega arith);
      disjoint = apart;
      not_empty = some_left;
      child_not_empty = some_right;
      together = both;
    }))
    refl (works _ _ _ refl (right_grows _ _ 1 1 2 (leaf 1) (has 1 0 1) (omega arith))))
    refl (works _ _ _ refl (right_grows _ _ 1 2 3 (has 1 0 1) (has 1 0 2) (omega arith)), refl))
    refl (record { sent = _; is_sent = refl; joined = halves 1 0 2; is_join = joins _ _ _ 1 1 1 3 (leaf 1) (has 1 0 2) (has 1 0 2); own = works _ _ _ refl (left_grows _ _ 1 3 2 (has 1 0 2) (has 2 0 1) (omega arith)) }))
    refl (record { sent = _; is_sent = refl; joined = halves 2 0 1; is_join = joins _ _ _ 2 3 1 3 (has 2 0 1) (has 1 0 2) (has 2 0 1); own = works _ _ _ refl (left_grows _ _ 2 3 3 (has 2 0 1) (leaf 3) (omega arith)) }))
    refl (works _ _ _ refl (left_grows _ _ 3 3 4 (leaf 3) (has 3 1 0) (omega arith))))
    refl (works _ _ _ refl (left_grows _ _ 4 3 5 (has 3 1 0) (has 3 2 0) (omega arith))))
    refl (works _ _ _ refl (right_grows _ _ 1 3 4 (has 1 0 2) (has 1 0 3) (omega arith)), refl))
    refl (works _ _ _ refl (right_grows _ _ 1 4 5 (has 1 0 3) (has 1 0 4) (omega arith)), below 97 98 (omega arith)))
    refl (record {
      retirement = _;
      into_this = refl;
      between = halves 3 3 0;
      grown = left_grows _ _ 5 3 6 (has 3 2 0) (has 3 3 0) (omega arith);
      joined = joins _ _ _ 6 3 1 5 (has 3 3 0) (has 1 0 4) (has 5 1 0);
      disjoint = apart;
      together = both;
    }))
    refl (record {
      grown = all_grows _ _ 6 5 7 7 (has 5 1 0) (leaf 7) (omega arith) (omega arith);
      new_name = refl;
      not_root = above 99 97 (omega arith);
      disjoint = apart;
      not_empty = some_left;
      child_not_empty = some_right;
      together = both;
    }))
    refl (works _ _ _ refl (left_grows _ _ 7 7 8 (leaf 7) (has 7 1 0) (omega arith))))
    refl (works _ _ _ refl (right_grows _ _ 7 7 8 (leaf 7) (has 7 0 1) (omega arith)), above 100 99 (omega arith))
