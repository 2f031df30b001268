-- What is refuted to be false holds, of what a test decides.
use Rattle.std.proofs.Common.{◌≡◌, ◌≢◌, ◌⊎◌, inl, inr, ℕ, Bool, true, false, List, [], ◌∷◌, Option, Some, None, refl, ap, sym, ◌∙◌, arith}
use Rattle.std.specs.Prelude.{◌||◌}
use Rattle.std.specs.Str.{bytes_eq}
use Rattle.std.specs.List.{list_any}
use Rattle.std.specs.Cmp.Lexicographic.{nat_list_eq_equiv}
use Rattle.std.proofs.lemmas.Bool.{true≢false, false_from_ne_true, cases_Bool, cases_eq, cases_lt}
use Rattle.std.proofs.lemmas.Map.Views.{list_any-from_Contains, Contains-from_any}
use Rattle.std.proofs.lemmas.Slice.Eq.{bytes_eq-Decides}
use Rattle.id_tree.specs.IdTree.{IdTree, Zero, One, Pair}
use Rattle.id_tree.specs.Points.{Point, owns, OwnsSome}
use Rattle.id_tree.specs.Split.{IsSplit}
use Rattle.event_tree.specs.EventTree.{EventTree}
use Rattle.event_tree.specs.Values.{value_at, IsAtOrBelow, ExceedsOn}
use Rattle.event_tree.specs.working.Tests.{exceeds_from}
use Rattle.event_tree.proofs.Orders.{exceeding_is_pointwise}
use Rattle.report_line.specs.declared.report.Report.{Report}
use Rattle.chains.specs.Processes.{Name, known, IsKnown, target_of, is_absorbed, Waits}
use Rattle.chains.specs.Admission.{AreGrown}
use Rattle.chains.proofs.Stepping.{same_or_other, some_name}

-- ---- what is refuted to be false holds

pub known_or_not : (accepted : List Report) (p : Name) → IsKnown accepted p ⊎ (¬ IsKnown accepted p)
known_or_not accepted p = elim (cases_Bool (list_any (bytes_eq p) (known accepted))) [
  | inl e ↦ inl (Contains-from_any (λ x y h. (bytes_eq-Decides x y).0 h) p (known accepted) e)
  | inr e ↦ inr (λ there. true≢false (sym (list_any-from_Contains nat_list_eq_equiv p (known accepted) there) ∙ e))
]

pub sure_known : (accepted : List Report) (p : Name) → ¬ (¬ IsKnown accepted p) → IsKnown accepted p
sure_known accepted p n = elim (known_or_not accepted p) [ inl there ↦ there | inr absent ↦ absurd (n absent) ]

sure_bool : (a b : Bool) → ¬ (a ≢ b) → a ≡ b
sure_bool true true n = refl
sure_bool false false n = refl
sure_bool true false n = absurd (n (λ e. true≢false e))
sure_bool false true n = absurd (n (λ e. true≢false (sym e)))

left_of : (a b c d : IdTree) → Pair a b ≡ Pair c d → a ≡ c
left_of a b c d e = cc

right_of : (a b c d : IdTree) → Pair a b ≡ Pair c d → b ≡ d
right_of a b c d e = cc

pub sure_id : (i j : IdTree) → ¬ (i ≢ j) → i ≡ j
sure_id Zero Zero n = refl
sure_id One One n = refl
sure_id (Pair a b) (Pair c d) n =
    let l = sure_id a c (λ m. n (λ e. m (left_of a b c d e))) in
    let r = sure_id b d (λ m. n (λ e. m (right_of a b c d e))) in
    cc
sure_id Zero One n = absurd (n (λ e. cc))
sure_id Zero (Pair c d) n = absurd (n (λ e. cc))
sure_id One Zero n = absurd (n (λ e. cc))
sure_id One (Pair c d) n = absurd (n (λ e. cc))
sure_id (Pair a b) Zero n = absurd (n (λ e. cc))
sure_id (Pair a b) One n = absurd (n (λ e. cc))

pub sure_number : (m n : ℕ) → ¬ (m ≢ n) → m ≡ n
sure_number m n refuted = elim (cases_eq m n) [ inl same ↦ same | inr other ↦ absurd (refuted other) ]

pub sure_below : (e f : EventTree) → ¬ (¬ IsAtOrBelow e f) → IsAtOrBelow e f
sure_below e f n point = elim (cases_lt (value_at f point) (value_at e point)) [
  | inl lt ↦ absurd (n (λ below. let le = below point in omega arith))
  | inr le ↦ le
]

sure_exceeds : (i : IdTree) (e f : EventTree) → ¬ (¬ ExceedsOn i e f) → ExceedsOn i e f
sure_exceeds i e f n = elim (cases_Bool (exceeds_from i 0 e 0 f)) [
  | inl is ↦ (exceeding_is_pointwise i e f).0 is
  | inr is ↦ absurd (n (λ there. true≢false (sym ((exceeding_is_pointwise i e f).1 there) ∙ is)))
]

pub sure_grown : (last : EventTree) (id : IdTree) (events : EventTree) → ¬ (¬ AreGrown last id events) → AreGrown last id events
sure_grown last id events n = (sure_below last events (λ m. n (λ grown. m grown.0)), sure_exceeds id events last (λ m. n (λ grown. m grown.1)))

none_in_halves : (l r : IdTree) → ((point : Point) → owns l point ≡ false) → ((point : Point) → owns r point ≡ false) → (point : Point) → owns (Pair l r) point ≡ false
none_in_halves l r h k [] = h []
none_in_halves l r h k (false ∷ point) = h point
none_in_halves l r h k (true ∷ point) = k point

-- an id owns something or nothing
some_or_none : (i : IdTree) → OwnsSome i ⊎ ((point : Point) → owns i point ≡ false)
some_or_none Zero = inr (λ point. refl)
some_or_none One = inl ([], refl)
some_or_none (Pair l r) = elim (some_or_none l) [
  | inl some ↦ inl (false ∷ some.0, some.1)
  | inr none ↦ elim (some_or_none r) [
    | inl some ↦ inl (true ∷ some.0, some.1)
    | inr none' ↦ inr (none_in_halves l r none none')
  ]
]

sure_some : (i : IdTree) → ¬ (¬ OwnsSome i) → OwnsSome i
sure_some i n = elim (some_or_none i) [ inl some ↦ some | inr none ↦ absurd (n (λ some. true≢false (sym some.1 ∙ none some.0))) ]

pub sure_split : (i l r : IdTree) → ¬ (¬ IsSplit i l r) → IsSplit i l r
sure_split i l r n = record {
  left = sure_some l (λ m. n (λ split. m split.left));
  right = sure_some r (λ m. n (λ split. m split.right));
  disjoint = λ point h. false_from_ne_true (owns r point) (λ e. n (λ split. true≢false (sym e ∙ split.disjoint point h)));
  together = λ point. sure_bool (owns i point) (owns l point || owns r point) (λ m. n (λ split. m (split.together point)));
}

sure_name : (o : Option Name) (q : Name) → ¬ (o ≢ Some q) → o ≡ Some q
sure_name None q n = absurd (n (λ e. cc))
sure_name (Some p) q n = elim (same_or_other p q) [ inl e ↦ ap (λ (x : Name). Some x) e | inr m ↦ absurd (n (λ e. m (some_name p q e))) ]

pub sure_waits : (accepted : List Report) (r q : Name) → ¬ (¬ Waits accepted r q) → Waits accepted r q
sure_waits accepted r q n = (
  sure_name (target_of r accepted) q (λ m. n (λ waits. m waits.0)),
  sure_bool (is_absorbed r accepted) false (λ m. n (λ waits. m waits.1)),
)
