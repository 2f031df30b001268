-- What passes thresholds, and rows of them.
use Rattle.std.proofs.Common.{◌≡◌, ◌≢◌, ◌⊎◌, inl, inr, ℕ, zero, suc, ◌+◌, ◌-◌, ◌≤◌, ◌<◌, ◌↔◌, Bool, IsTrue, List, [], ◌∷◌, ◌++◌, length, get_or, Option, Some, None, refl, sym, ap, ◌∙◌, subst, arith}
use Rattle.std.specs.Prelude.{slice_index, slice_get, Contains, All}
use Rattle.std.specs.Option.{option_map, option_map_or}
use Rattle.std.specs.List.Sorted.{IsStrictlyIncreasing}
use Rattle.std.proofs.lemmas.Bool.{true≢false, cases_lt, cases_eq}
use Rattle.std.proofs.lemmas.List.{get_or_append_left, get_or_default, get_or_push, length_push}
use Rattle.std.proofs.lemmas.List.Elements.{All-get_or}
use Rattle.std.proofs.lemmas.Option.{same_Some, slice_get_within}
use Rattle.id_tree.specs.IdTree.{IdTree, Zero}
use Rattle.event_tree.specs.EventTree.{EventTree, Leaf}
use Rattle.event_tree.specs.Values.{IsAtOrBelow, ExceedsOn}
use Rattle.event_tree.specs.NormalForm.{greatest, value_limit}
use Rattle.stamp.specs.declared.stamp.Stamp.{Stamp}
use Rattle.report_line.specs.declared.report.Report.{Report}
use Rattle.chains.specs.declared.position.Place.{Place}
use Rattle.chains.specs.declared.position.Position.{Position}
use Rattle.chains.specs.Folded.{IsFolded}
use Rattle.chains.specs.Processes.{Name, last_events}
use Rattle.chains.specs.Elements.{elements, element, elements_of, name_of}
use Rattle.chains.specs.LastRun.{same_id_from}
use Rattle.chains.specs.Positions.{place_at, last_rank}
use Rattle.chains.specs.Knowledge.{events_at}
use Rattle.knows_row.specs.working.Beyond.{element_number, IsBeyondAt, AreRising, AddsNothing}
use Rattle.knows_row.specs.Knowing.{KnowsRank, AreLawfulPlaces}
use Rattle.knows_row.proofs.Rising.{Rise, nothing_below, below_later, elements_rise}
use Rattle.knows_row.proofs.Laws.{at_element}
use Rattle.knows_row.proofs.Repeated.{beyond_earlier}
use Rattle.knows_row.proofs.Looking.{at_from_beyond, beyond_from_at}
use Rattle.knows_row.specs.Looks.{IsFirstKnown, KnowsOne, IsLoweredFrom}
use Rattle.knows_row.specs.Thresholds.{Passes, IsBeyondOne, IsThreshold, tree_in, AreThresholds, PassesTwo, IsHalved, AreRows, PassesOne, IsFirstPassed}
use Rattle.knows_row.proofs.Listed.{AreUnknownTo, is_first_known, there}

-- ---- rows

-- each number is twice another one, or one more
half_of : (j : ℕ) → (i : ℕ) × ((j ≡ i + i) ⊎ (j ≡ i + i + 1))
half_of zero = (0, inl refl)
half_of (suc j) = let h = half_of j in elim h.1 [
  | inl e ↦ (h.0, inr (omega (arith, e)))
  | inr e ↦ (h.0 + 1, inl (omega (arith, e)))
]

-- what passes a tree of the longer row passes the one above it
passes_above : (v : EventTree) (row half : List EventTree) → IsHalved row half → (j : ℕ) → j < length row → Passes v (tree_in row j)
    → (i : ℕ) × (i < length half) × ((j ≡ i + i) ⊎ (j ≡ i + i + 1)) × Passes v (tree_in half i)
passes_above v row half h j lt passes = at (half_of j)
  where
    at : (i : ℕ) × ((j ≡ i + i) ⊎ (j ≡ i + i + 1)) → (i : ℕ) × (i < length half) × ((j ≡ i + i) ⊎ (j ≡ i + i + 1)) × Passes v (tree_in half i)
    at (i, inl e) =
        let within : i < length half = omega (arith, e, lt, h.enough) in
        (i, within, inl e, (h.each i within v).1 (inl (subst (λ (k : ℕ). Passes v (tree_in row k)) e passes)))
    at (i, inr e) =
        let within : i < length half = omega (arith, e, lt, h.enough) in
        (i, within, inr e, (h.each i within v).1 (inr (omega (arith, e, lt), subst (λ (k : ℕ). Passes v (tree_in row k)) e passes)))

module _ (v : EventTree) (row half : List EventTree) (h : IsHalved row half) (a : ℕ) (f : IsFirstPassed v half a) where
  -- none before the two that stand below the first one
  none_before : (j : ℕ) → j < a + a → ¬ Passes v (tree_in row j)
  none_before j lt passes =
      let above = passes_above v row half h j (omega (arith, lt, h.few, f.within)) passes in
      f.first above.0 (less above.0 above.2) above.3
    where
      less : (i : ℕ) → (j ≡ i + i) ⊎ (j ≡ i + i + 1) → i < a
      less i (inl e) = omega (arith, e, lt)
      less i (inr e) = omega (arith, e, lt)

  pub left_first : Passes v (tree_in row (a + a)) → IsFirstPassed v row (a + a)
  left_first passes = record { within = omega (arith, h.few, f.within); passes = passes; first = none_before }

  pub left_only : ¬ (a + a + 1 < length row) → IsFirstPassed v row (a + a)
  left_only alone = at ((h.each a f.within v).0 f.passes)
    where
      at : PassesTwo v row (a + a) → IsFirstPassed v row (a + a)
      at (inl passes) = left_first passes
      at (inr right) = absurd (alone right.0)

  pub right_first : ¬ Passes v (tree_in row (a + a)) → IsFirstPassed v row (a + a + 1)
  right_first none = at ((h.each a f.within v).0 f.passes)
    where
      at : PassesTwo v row (a + a) → IsFirstPassed v row (a + a + 1)
      at (inl passes) = absurd (none passes)
      at (inr right) = record {
        within = right.0;
        passes = right.1;
        first = λ j lt passes. elim (cases_eq j (a + a)) [
          | inl e ↦ none (subst (λ (k : ℕ). Passes v (tree_in row k)) e passes)
          | inr ne ↦ none_before j (omega (arith, lt, ne)) passes
        ];
      }

-- the events pass no tree of the row
abbrev pub PassesNone : EventTree → List EventTree → Type 0
PassesNone v row = (i : ℕ) → i < length row → ¬ Passes v (tree_in row i)

none_down : (v : EventTree) (row half : List EventTree) → IsHalved row half → PassesNone v half → PassesNone v row
none_down v row half h none j lt passes = let above = passes_above v row half h j lt passes in none above.0 above.1 above.3

-- where they pass none of one row, they pass none of the first
pub none_first : (v : EventTree) (rows : List (List EventTree)) → AreRows rows → (r : ℕ) → r < length rows → PassesNone v (get_or rows r []) → PassesNone v (get_or rows 0 [])
none_first v rows h zero lt none = none
none_first v rows h (suc r) lt none =
    let e : r + 1 ≡ suc r = omega arith in
    let half : IsHalved (get_or rows r []) (get_or rows (suc r) []) = subst (λ (k : ℕ). IsHalved (get_or rows r []) (get_or rows k [])) e (h.halved r (omega (arith, lt))) in
    none_first v rows h r (omega (arith, lt)) (none_down v (get_or rows r []) (get_or rows (suc r) []) half none)

-- where they pass one of one row, they pass one of the first
one_down : (v : EventTree) (row half : List EventTree) → IsHalved row half → PassesOne v half → PassesOne v row
one_down v row half h one = at ((h.each one.0 one.1 v).0 one.2)
  where
    at : PassesTwo v row (one.0 + one.0) → PassesOne v row
    at (inl passes) = (one.0 + one.0, omega (arith, one.1, h.few), passes)
    at (inr right) = (one.0 + one.0 + 1, right.0, right.1)

pub one_first : (v : EventTree) (rows : List (List EventTree)) → AreRows rows → (r : ℕ) → r < length rows → PassesOne v (get_or rows r []) → PassesOne v (get_or rows 0 [])
one_first v rows h zero lt one = one
one_first v rows h (suc r) lt one =
    let e : r + 1 ≡ suc r = omega arith in
    let half : IsHalved (get_or rows r []) (get_or rows (suc r) []) = subst (λ (k : ℕ). IsHalved (get_or rows r []) (get_or rows k [])) e (h.halved r (omega (arith, lt))) in
    one_first v rows h r (omega (arith, lt)) (one_down v (get_or rows r []) (get_or rows (suc r) []) half one)

-- the last row, as it is read
pub root_at : (rows : List (List EventTree)) → AreRows rows → (root : List EventTree) → root ≡ get_or rows (length rows - 1) root → root ≡ get_or rows (length rows - 1) []
root_at rows h root is = let some = h.some in is ∙ get_or_default rows (length rows - 1) root [] (omega (arith, some))

pub root_few : (rows : List (List EventTree)) → AreRows rows → (root : List EventTree) → root ≡ get_or rows (length rows - 1) root → length root ≤ 1
root_few rows h root is = let some = h.some in omega (arith, ap (λ (row : List EventTree). length row) (root_at rows h root is), h.narrow (length rows - 1) (omega (arith, some)))

-- a row of one tree
pub root_none : (v : EventTree) (row : List EventTree) → length row ≤ 1 → (0 < length row → ¬ Passes v (tree_in row 0)) → PassesNone v row
root_none v row few none i lt = subst (λ (k : ℕ). ¬ Passes v (tree_in row k)) (omega (arith, few, lt)) (none (omega (arith, lt)))

pub root_first : (v : EventTree) (row : List EventTree) → 0 < length row → Passes v (tree_in row 0) → IsFirstPassed v row 0
root_first v row some passes = record { within = some; passes = passes; first = λ j lt. absurd (omega (arith, lt)) }

-- ---- making rows

-- what passes the meet of two trees that stand behind each other
pub two_more : (v t : EventTree) (row : List EventTree) (i : ℕ) (one other : EventTree) → one ≡ tree_in row i → other ≡ tree_in row (i + 1) → i + 1 < length row
    → Passes v t ↔ (Passes v one ⊎ Passes v other) → Passes v t ↔ PassesTwo v row i
two_more v t row i one other first second lt h = (λ passes. to (h.0 passes), λ two. h.1 (from two))
  where
    to : Passes v one ⊎ Passes v other → PassesTwo v row i
    to (inl passes) = inl (subst (Passes v) first passes)
    to (inr passes) = inr (lt, subst (Passes v) second passes)

    from : PassesTwo v row i → Passes v one ⊎ Passes v other
    from (inl passes) = inl (subst (Passes v) (sym first) passes)
    from (inr right) = inr (subst (Passes v) (sym second) right.1)

-- the trees of the shorter row so far, each for two
pub record IsHalvedTo (row half : List EventTree) (i : ℕ) : Type 0 where
  pub twice : i ≡ length half + length half
  pub few : i ≤ length row + 1
  pub each : (j : ℕ) → j < length half → (v : EventTree) → Passes v (tree_in half j) ↔ PassesTwo v row (j + j)

pub halved_none : (row : List EventTree) → IsHalvedTo row [] 0
halved_none row = record { twice = refl; few = omega arith; each = λ j lt. absurd (omega (arith, lt)) }

pub halved_more : (row half : List EventTree) (i : ℕ) (t : EventTree) → i < length row → IsHalvedTo row half i → ((v : EventTree) → Passes v t ↔ PassesTwo v row i) → IsHalvedTo row (half ++ t ∷ []) (i + 2)
halved_more row half i t lt h made = record {
  twice = omega (arith, h.twice, length_push half t);
  few = omega (arith, lt);
  each = λ j within v. elim (cases_lt j (length half)) [
    | inl before ↦ subst (λ (u : EventTree). Passes v u ↔ PassesTwo v row (j + j)) (sym (get_or_append_left half (t ∷ []) (Leaf 0) j before)) (h.each j before v)
    | inr past ↦
        let e : j ≡ length half = omega (arith, within, past, length_push half t) in
        let twice : i ≡ j + j = omega (arith, h.twice, e) in
        subst (λ (u : EventTree). Passes v u ↔ PassesTwo v row (j + j)) (sym (get_or_push half t (Leaf 0) j (sym e)))
        (subst (λ (k : ℕ). Passes v t ↔ PassesTwo v row k) twice (made v))
  ];
}

pub halved_all : (row half : List EventTree) (i : ℕ) → length row ≤ i → IsHalvedTo row half i → IsHalved row half
halved_all row half i le h = record { enough = omega (arith, le, h.twice); few = omega (arith, h.twice, h.few); each = h.each }

-- rows of which the last one may still be wide
pub record AreRowsTo (rows : List (List EventTree)) (first : List EventTree) (width : ℕ) : Type 0 where
  pub some : 0 < length rows
  pub first_is : get_or rows 0 [] ≡ first
  pub halved : (r : ℕ) → r + 1 < length rows → IsHalved (get_or rows r []) (get_or rows (r + 1) [])
  pub wide : (r : ℕ) → r + 1 ≡ length rows → length (get_or rows r []) ≡ width

pub rows_one : (row : List EventTree) → AreRowsTo (row ∷ []) row (length row)
rows_one row = record {
  some = omega arith;
  first_is = refl;
  halved = λ r lt. absurd (omega (arith, lt));
  wide = λ r e. let at : r ≡ 0 = omega (arith, e) in subst (λ (k : ℕ). length (get_or (row ∷ []) k []) ≡ length row) (sym at) refl;
}

pub rows_more : (rows : List (List EventTree)) (first last next : List EventTree) (width r : ℕ) → AreRowsTo rows first width → r + 1 ≡ length rows → last ≡ get_or rows r [] → IsHalved last next → AreRowsTo (rows ++ next ∷ []) first (length next)
rows_more rows first last next width r h at is half = record {
  some = omega (arith, length_push rows next);
  first_is = get_or_append_left rows (next ∷ []) [] 0 h.some ∙ h.first_is;
  halved = λ k lt. elim (cases_lt (k + 1) (length rows)) [
    | inl before ↦
        rw (get_or_append_left rows (next ∷ []) [] k (omega (arith, before)), get_or_append_left rows (next ∷ []) [] (k + 1) before) (h.halved k before)
    | inr past ↦
        let e : k + 1 ≡ length rows = omega (arith, lt, past, length_push rows next) in
        let same : r ≡ k = omega (arith, at, e) in
        rw (get_or_append_left rows (next ∷ []) [] k (omega (arith, e)), get_or_push rows next [] (k + 1) (sym e))
        (subst (λ (l : List EventTree). IsHalved l next) (is ∙ ap (λ (j : ℕ). get_or rows j []) same) half)
  ];
  wide = λ k e. let last_one : k ≡ length rows = omega (arith, e, length_push rows next) in ap (λ (l : List EventTree). length l) (get_or_push rows next [] k (sym last_one));
}

pub rows_all : (rows : List (List EventTree)) (first : List EventTree) (width : ℕ) → width ≤ 1 → AreRowsTo rows first width → AreRows rows
rows_all rows first width few h = record { some = h.some; halved = h.halved; narrow = λ r e. omega (arith, few, h.wide r e) }

-- ---- thresholds

pub bound_of_nothing : (v t : EventTree) → Passes v t ↔ ExceedsOn Zero v (Leaf 0) → ¬ Passes v t
bound_of_nothing v t h passes = let exceeds = h.0 passes in true≢false (sym exceeds.1)

module _ (accepted : List Report) (q from : ℕ) where
  -- no elements
  pub threshold_none : (t : EventTree) → ((v : EventTree) → greatest v ≤ value_limit → ¬ Passes v t) → IsThreshold accepted q from from t
  threshold_none t none v small = (λ passes. absurd (none v small passes), λ beyond. absurd (omega (arith, beyond.1, beyond.2)))

  -- one more
  pub threshold_more : (k : ℕ) (bound t : EventTree) → from ≤ k → IsThreshold accepted q from k bound
      → ((v : EventTree) → greatest v ≤ value_limit → Passes v t ↔ (Passes v bound ⊎ IsBeyondAt v (elements accepted q) k)) → IsThreshold accepted q from (k + 1) t
  threshold_more k bound t le h made v small = (λ passes. to ((made v small).0 passes), from_one)
    where
      to : Passes v bound ⊎ IsBeyondAt v (elements accepted q) k → IsBeyondOne accepted q from (k + 1) v
      to (inl passes) = let beyond = (h v small).0 passes in (beyond.0, beyond.1, omega (arith, beyond.2), beyond.3)
      to (inr beyond) = (k, le, omega arith, beyond)

      from_one : IsBeyondOne accepted q from (k + 1) v → Passes v t
      from_one beyond = elim (cases_lt beyond.0 k) [
        | inl below ↦ (made v small).1 (inl ((h v small).1 (beyond.0, beyond.1, below, beyond.3)))
        | inr past ↦
            let e : beyond.0 ≡ k = omega (arith, past, beyond.2) in
            (made v small).1 (inr (subst (IsBeyondAt v (elements accepted q)) e beyond.3))
      ]

  -- of one element
  pub threshold_one : (to : ℕ) (t : EventTree) → to ≡ from + 1 → ((v : EventTree) → greatest v ≤ value_limit → Passes v t ↔ IsBeyondAt v (elements accepted q) from) → IsThreshold accepted q from to t
  threshold_one to t one made v small = (λ passes. (from, omega arith, omega (arith, one), (made v small).0 passes), back)
    where
      back : IsBeyondOne accepted q from to v → Passes v t
      back beyond = let e : beyond.0 ≡ from = omega (arith, one, beyond.1, beyond.2) in (made v small).1 (subst (IsBeyondAt v (elements accepted q)) e beyond.3)

-- what is lowered by an element's restriction
pub lowered_more : (v own bound t events : EventTree) (i : IdTree) → Passes v own ↔ ExceedsOn i v events → Passes v t ↔ (Passes v bound ⊎ Passes v own) → Passes v t ↔ (Passes v bound ⊎ ExceedsOn i v events)
lowered_more v own bound t events i h k = (λ passes. to (k.0 passes), λ one. k.1 (from one))
  where
    to : Passes v bound ⊎ Passes v own → Passes v bound ⊎ ExceedsOn i v events
    to (inl passes) = inl passes
    to (inr passes) = inr (h.0 passes)

    from : Passes v bound ⊎ ExceedsOn i v events → Passes v bound ⊎ Passes v own
    from (inl passes) = inl passes
    from (inr exceeds) = inr (h.1 exceeds)

-- what is beyond one of them is beyond one below k, where element k adds nothing
pub threshold_same : (accepted : List Report) (q from k : ℕ) (bound : EventTree) → from < k → AddsNothing (elements accepted q) k → IsThreshold accepted q from k bound → IsThreshold accepted q from (k + 1) bound
threshold_same accepted q from k bound lt adds h v small = (λ passes. more ((h v small).0 passes), λ beyond. (h v small).1 (less beyond))
  where
    more : IsBeyondOne accepted q from k v → IsBeyondOne accepted q from (k + 1) v
    more beyond = (beyond.0, beyond.1, omega (arith, beyond.2), beyond.3)

    less : IsBeyondOne accepted q from (k + 1) v → IsBeyondOne accepted q from k v
    less beyond = elim (cases_lt beyond.0 k) [
      | inl below ↦ (beyond.0, beyond.1, below, beyond.3)
      | inr past ↦
          let e : beyond.0 ≡ k = omega (arith, past, beyond.2) in
          (k - 1, omega (arith, lt), omega (arith, lt), adds v (subst (IsBeyondAt v (elements accepted q)) e beyond.3))
    ]

-- nothing behind the first of the last run adds to them
pub threshold_run : (accepted : List Report) (q from k to : ℕ) (bound : EventTree) → AreRising (elements accepted q) → from < k → k ≤ to → (k < to → same_id_from (elements accepted q) + 2 ≤ k) → IsThreshold accepted q from k bound
    → IsThreshold accepted q from to bound
threshold_run accepted q from k to bound rising lt le run h v small = (λ passes. more ((h v small).0 passes), λ beyond. (h v small).1 (less beyond))
  where
    more : IsBeyondOne accepted q from k v → IsBeyondOne accepted q from to v
    more beyond = (beyond.0, beyond.1, omega (arith, beyond.2, le), beyond.3)

    less : IsBeyondOne accepted q from to v → IsBeyondOne accepted q from k v
    less beyond = elim (cases_lt beyond.0 k) [
      | inl below ↦ (beyond.0, beyond.1, below, beyond.3)
      | inr past ↦
          let behind = run (omega (arith, past, beyond.2)) in
          (k - 1, omega (arith, lt), omega (arith, lt), beyond_earlier v (elements accepted q) (k - 1) beyond.0 rising (omega (arith, behind)) (omega (arith, past)) beyond.3)
    ]

-- where there is no such element, nothing is added
pub absent_more : (v bound : EventTree) (stamps : List Stamp) (k : ℕ) → element_number stamps k ≡ None → Passes v bound ↔ (Passes v bound ⊎ IsBeyondAt v stamps k)
absent_more v bound stamps k none = (λ passes. inl passes, from)
  where
    from : Passes v bound ⊎ IsBeyondAt v stamps k → Passes v bound
    from (inl passes) = passes
    from (inr beyond) = absurd (let e = sym none ∙ beyond.is_element in cc)

-- so what nothing passes bounds it
pub absent_alone : (v t : EventTree) (stamps : List Stamp) (k : ℕ) → element_number stamps k ≡ None → ¬ Passes v t → Passes v t ↔ IsBeyondAt v stamps k
absent_alone v t stamps k none passed_by_none = (λ passes. absurd (passed_by_none passes), λ beyond. absurd (let e = sym none ∙ beyond.is_element in cc))

-- and where there is one, what exceeds it
pub element_more : (v bound t : EventTree) (stamps : List Stamp) (k : ℕ) (s : Stamp) → element_number stamps k ≡ Some s → Passes v t ↔ (Passes v bound ⊎ ExceedsOn s.id v s.events) → Passes v t ↔ (Passes v bound ⊎ IsBeyondAt v stamps k)
element_more v bound t stamps k s is h = (λ passes. to (h.0 passes), λ one. h.1 (from one))
  where
    to : Passes v bound ⊎ ExceedsOn s.id v s.events → Passes v bound ⊎ IsBeyondAt v stamps k
    to (inl passes) = inl passes
    to (inr exceeds) = inr (record { stamp = s; is_element = is; exceeds = exceeds })

    from : Passes v bound ⊎ IsBeyondAt v stamps k → Passes v bound ⊎ ExceedsOn s.id v s.events
    from (inl passes) = inl passes
    from (inr beyond) = inr (subst (λ (y : Stamp). ExceedsOn y.id v y.events) (same_Some beyond.stamp s (sym beyond.is_element ∙ is)) beyond.exceeds)

pub element_alone : (v t : EventTree) (stamps : List Stamp) (k : ℕ) (s : Stamp) → element_number stamps k ≡ Some s → Passes v t ↔ ExceedsOn s.id v s.events → Passes v t ↔ IsBeyondAt v stamps k
element_alone v t stamps k s is h =
    (λ passes. record { stamp = s; is_element = is; exceeds = h.0 passes }, λ beyond. h.1 (subst (λ (y : Stamp). ExceedsOn y.id v y.events) (same_Some beyond.stamp s (sym beyond.is_element ∙ is)) beyond.exceeds))

pub numbered_of : (stamps : List Stamp) (k : ℕ) (s : Stamp) → 0 < k → Some s ≡ slice_get stamps (k - 1) → element_number stamps k ≡ Some s
numbered_of stamps zero s some is = absurd (omega (arith, some))
numbered_of stamps (suc k) s some is = let e : suc k - 1 ≡ k = omega arith in sym (subst (λ (j : ℕ). Some s ≡ slice_get stamps j) e is)

pub all_contained : (xs : List ℕ) (n : ℕ) → All (λ q. q < n) xs → (q : ℕ) → Contains xs q → q < n
all_contained xs n all q contains =
    let at = there xs q contains in
    let lt : slice_index xs at.0 < n = All-get_or (λ (i : ℕ). i < n) xs at.0 0 at.1 all in
    omega (arith, lt, at.2)

-- ---- of a place

rise_named : (accepted : List Report) (o : Option Name) → IsFolded accepted
    → Rise (Leaf 0) (option_map_or (λ name. elements_of name accepted) o []) (option_map_or (λ name. last_events name accepted) o (Leaf 0))
rise_named accepted None folded = nothing_below (Leaf 0)
rise_named accepted (Some p) folded = elements_rise p accepted folded

-- the elements of a process rise
pub elements_are_rising : (accepted : List Report) (p : ℕ) → IsFolded accepted → AreRising (elements accepted p)
elements_are_rising accepted p folded i j earlier later le is_earlier is_later =
    below_later (Leaf 0) (elements accepted p) (option_map_or (λ name. last_events name accepted) (name_of accepted p) (Leaf 0)) i j earlier later
    (rise_named accepted (name_of accepted p) folded) le is_earlier is_later

no_exceeding : (i : IdTree) (e f : EventTree) → IsAtOrBelow e f → ¬ ExceedsOn i e f
no_exceeding i e f le h = let a = le h.0 in let b = h.2 in omega arith

-- the events of an element are beyond no later one of its process, nor itself
own_later : (accepted : List Report) (p x k : ℕ) (v : EventTree) → IsFolded accepted → x ≤ k → k ≤ length (elements accepted p) → option_map (λ (s : Stamp). s.events) (element accepted p x) ≡ Some v
    → ¬ IsBeyondAt v (elements accepted p) k
own_later accepted p zero k v folded le within is h = absurd cc
own_later accepted p (suc i) zero v folded le within is h = omega (arith, le)
own_later accepted p (suc i) (suc j) v folded le within is h = at (slice_get (elements accepted p) i) refl is
  where
    at : (o : Option Stamp) → slice_get (elements accepted p) i ≡ o → option_map (λ (s : Stamp). s.events) o ≡ Some v → ⊥
    at None e same = absurd cc
    at (Some t) e same =
        let low : IsAtOrBelow t.events h.stamp.events = elements_are_rising accepted p folded i j t h.stamp (omega (arith, le)) e h.is_element in
        no_exceeding h.stamp.id t.events h.stamp.events low (subst (λ (u : EventTree). ExceedsOn h.stamp.id u h.stamp.events) (sym (same_Some t.events v same)) h.exceeds)

beyond_within : (v : EventTree) (stamps : List Stamp) (k : ℕ) → IsBeyondAt v stamps k → k ≤ length stamps
beyond_within v stamps zero h = omega arith
beyond_within v stamps (suc k) h = let lt = slice_get_within stamps k h.stamp h.is_element in omega arith

own_none : (accepted : List Report) (p x k : ℕ) (v : EventTree) → IsFolded accepted → x ≤ k → events_at accepted (place_at accepted p x) ≡ Some v → ¬ IsBeyondAt v (elements accepted p) k
own_none accepted p x k v folded le is h =
    let within = beyond_within v (elements accepted p) k h in
    own_later accepted p x k v folded le within
    (sym (ap (λ (j : Position). events_at accepted (record { process = p; position = j })) (at_element accepted p x (omega (arith, le, within)))) ∙ is) h

module _ (accepted : List Report) (cut before : List ℕ) (laws : AreLawfulPlaces accepted) (folded : IsFolded accepted) (low : IsLoweredFrom accepted before cut) (p x : ℕ) (v : EventTree)
    (pin : p < length cut) (le : x ≤ slice_index cut p) (top : slice_index cut p ≤ last_rank accepted p) (is : events_at accepted (place_at accepted p x) ≡ Some v) where
  -- what is beyond one of the elements of q that came behind its rank knows q
  from_one : (q : ℕ) → IsBeyondOne accepted q (slice_index cut q) (slice_index before q) v → KnowsRank accepted p x q (slice_index cut q)
  from_one q beyond =
      laws.from_element p x q (slice_index cut q) beyond.0 beyond.1 (at_from_beyond accepted (place_at accepted p x) q beyond.0 v other is beyond.3)
    where
      other : q ≢ p
      other e = own_none accepted p x beyond.0 v folded (omega (arith, le, beyond.1, ap (λ (j : ℕ). slice_index cut j) e)) is (subst (λ (j : ℕ). IsBeyondAt v (elements accepted j) beyond.0) e beyond.3)

  -- and the other way round
  to_one : (q : ℕ) → q < length cut → KnowsRank accepted p x q (slice_index cut q) → IsBeyondOne accepted q (slice_index cut q) (slice_index before q) v
  to_one q qin knows =
      let at = laws.by_element p x q (slice_index cut q) knows in
      elim (cases_lt at.0 (slice_index before q)) [
        | inl below ↦ (at.0, at.1, below, beyond_from_at accepted (place_at accepted p x) q at.0 v is at.2)
        | inr past ↦ absurd (low.unknown p q pin qin (laws.later p x (slice_index cut p) q (slice_index before q) le top (laws.from_element p x q (slice_index before q) at.0 past at.2)))
      ]

  module _ (fell : List ℕ) (row : List EventTree) (small : greatest v ≤ value_limit) (h : AreThresholds accepted cut before fell row) where
    pub none_known : ((q : ℕ) → Contains fell q → q < length cut) → PassesNone v row → (q : ℕ) → Contains fell q → ¬ KnowsRank accepted p x q (slice_index cut q)
    none_known within none q contains knows =
        let at = there fell q contains in
        let e : slice_index fell at.0 ≡ q = at.2 in
        let one : IsBeyondOne accepted (slice_index fell at.0) (slice_index cut (slice_index fell at.0)) (slice_index before (slice_index fell at.0)) v
        = subst (λ (j : ℕ). IsBeyondOne accepted j (slice_index cut j) (slice_index before j) v) (sym e) (to_one q (within q contains) knows) in
        none at.0 (omega (arith, at.1, h.complete)) ((h.each at.0 at.1 v small).1 one)

    pub one_known : ((q : ℕ) → Contains fell q → q < length cut) → PassesOne v row ↔ KnowsOne accepted fell cut p x
    one_known within = (
      λ one.
          let iin : one.0 < length fell = omega (arith, one.1, h.complete) in
          (slice_index fell one.0, (one.0, iin, get_or_default fell one.0 (slice_index fell one.0) 0 iin), from_one (slice_index fell one.0) ((h.each one.0 iin v small).0 one.2)),
      λ knows.
          let at = there fell knows.0 knows.1 in
          let e : slice_index fell at.0 ≡ knows.0 = at.2 in (
            at.0,
            omega (arith, at.1, h.complete),
            (h.each at.0 at.1 v small).1 (subst (λ (j : ℕ). IsBeyondOne accepted j (slice_index cut j) (slice_index before j) v) (sym e) (to_one knows.0 (within knows.0 knows.1) knows.2)),
          ),
    )

    pub first_known_of : ((i : ℕ) → i < length fell → slice_index fell i < length cut) → IsStrictlyIncreasing fell → (i : ℕ) → IsFirstPassed v row i → IsFirstKnown accepted fell cut p x (slice_index fell i)
    first_known_of within rises i f =
        let iin : i < length fell = omega (arith, f.within, h.complete) in
        is_first_known accepted cut fell p x i iin rises unknown (from_one (slice_index fell i) ((h.each i iin v small).0 f.passes))
      where
        unknown : AreUnknownTo accepted cut fell p x i
        unknown j lt knows =
            let jin : j < length fell = omega (arith, lt, f.within, h.complete) in
            f.first j lt ((h.each j jin v small).1 (to_one (slice_index fell j) (within j jin) knows))

pub events_of : (accepted : List Report) (p x : ℕ) (place : Place) (v : EventTree) → place ≡ place_at accepted p x → Some v ≡ events_at accepted place → events_at accepted (place_at accepted p x) ≡ Some v
events_of accepted p x place v at is = subst (λ (y : Place). events_at accepted y ≡ Some v) at (sym is)

-- both ways of a test
pub tested : (b : Bool) (A B : Type 0) → IsTrue b ↔ A → A ↔ B → IsTrue b ↔ B
tested b A B h k = (λ t. k.0 (h.0 t), λ x. h.1 (k.1 x))

-- a place without events knows nothing
pub nothing_there : (accepted : List Report) (p x q k : ℕ) → AreLawfulPlaces accepted → events_at accepted (place_at accepted p x) ≡ None → ¬ KnowsRank accepted p x q k
nothing_there accepted p x q k laws none knows =
    let at = laws.by_element p x q k knows in
    let e = sym none ∙ at.2.beyond.there in absurd cc

-- the thresholds of the first of these processes
pub record AreThresholdsTo (accepted : List Report) (cut before fell : List ℕ) (n : ℕ) (row : List EventTree) : Type 0 where
  pub complete : length row ≡ n
  pub each : (i : ℕ) → i < n → let q : ℕ = slice_index fell i in IsThreshold accepted q (slice_index cut q) (slice_index before q) (tree_in row i)

module _ (accepted : List Report) (cut before fell : List ℕ) where
  pub thresholds_none : AreThresholdsTo accepted cut before fell 0 []
  thresholds_none = record { complete = refl; each = λ i lt. absurd (omega (arith, lt)) }

  pub thresholds_more : (n q : ℕ) (row : List EventTree) (t : EventTree) → AreThresholdsTo accepted cut before fell n row → q ≡ slice_index fell n → IsThreshold accepted q (slice_index cut q) (slice_index before q) t
      → AreThresholdsTo accepted cut before fell (n + 1) (row ++ t ∷ [])
  thresholds_more n q row t h is one = record {
    complete = omega (arith, length_push row t, h.complete);
    each = λ i lt. elim (cases_lt i n) [
      | inl below ↦
          let j = slice_index fell i in
          subst (IsThreshold accepted j (slice_index cut j) (slice_index before j)) (sym (get_or_append_left row (t ∷ []) (Leaf 0) i (omega (arith, below, h.complete)))) (h.each i below)
      | inr past ↦
          let at : i ≡ n = omega (arith, lt, past) in
          let same : q ≡ slice_index fell i = is ∙ ap (λ (k : ℕ). slice_index fell k) (sym at) in
          subst (λ (j : ℕ). IsThreshold accepted j (slice_index cut j) (slice_index before j) (tree_in (row ++ t ∷ []) i)) same
          (subst (IsThreshold accepted q (slice_index cut q) (slice_index before q)) (sym (get_or_push row t (Leaf 0) i (h.complete ∙ sym at))) one)
    ];
  }

  pub thresholds_all : (n : ℕ) (row : List EventTree) → n ≡ length fell → AreThresholdsTo accepted cut before fell n row → AreThresholds accepted cut before fell row
  thresholds_all n row all h = record { complete = h.complete ∙ all; each = λ i lt. h.each i (omega (arith, lt, all)) }
