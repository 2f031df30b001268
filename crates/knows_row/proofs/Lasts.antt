-- The last places of all processes.
use Rattle.std.proofs.Common.{◌≡◌, ℕ, zero, suc, ◌+◌, ◌≤◌, ◌<◌, Bool, true, false, cond, List, [], ◌∷◌, ◌++◌, length, map, Option, Some, None, refl, sym, ap, subst, ◌∙◌, arith}
use Rattle.std.specs.Prelude.{slice_index, Contains, All}
use Rattle.std.specs.List.{range_with_len}
use Rattle.std.specs.List.Sorted.{IsStrictlyIncreasing}
use Rattle.std.specs.Option.{option_map}
use Rattle.std.proofs.lemmas.List.Elements.{All-weaker, All-contains_itself}
use Rattle.std.proofs.lemmas.List.FromFn.{length-range_with_len, get_or-range_with_len, length-map-range_with_len, get_or-map-range_with_len, map-range_with_len_more}
use Rattle.event_tree.specs.EventTree.{EventTree}
use Rattle.report_line.specs.declared.report.Report.{Report}
use Rattle.chains.specs.declared.position.Place.{Place}
use Rattle.chains.specs.Processes.{known, last_events}
use Rattle.chains.specs.Elements.{elements, name_of}
use Rattle.chains.specs.Positions.{is_retired, last_rank, place_at}
use Rattle.chains.specs.Knowledge.{retired_events}
use Rattle.knows_row.specs.Knowing.{KnowsAt, KnowsRank, AreLawfulPlaces}
use Rattle.knows_row.specs.Looks.{IsFirstKnown, IsLoweredFrom, AreBoundsOf, all_known, last_ranks, ranks_past_all}
use Rattle.knows_row.specs.Needs.{AreUnknown, IsUnknownAtLast, IsUnknownCount}
use Rattle.knows_row.specs.Thresholds.{AreThresholdsOf}
use Rattle.knows_row.proofs.Laws.{retired_top}
use Rattle.knows_row.proofs.Listed.{there}

module _ (accepted : List Report) (p : ℕ) where
  last_or : (b : Bool) (e : ℕ) → (e ≤ cond b (e + 1) e) × (cond b (e + 1) e ≤ e + 1)
  last_or true e = (omega arith, omega arith)
  last_or false e = (omega arith, omega arith)

  pub last_above : length (elements accepted p) ≤ last_rank accepted p
  last_above = (last_or (is_retired accepted p) (length (elements accepted p))).0

  pub last_below : last_rank accepted p ≤ length (elements accepted p) + 1
  last_below = (last_or (is_retired accepted p) (length (elements accepted p))).1

  -- the last place is that of the retirement, where there is one
  pub last_some : (v : EventTree) → Some v ≡ retired_events accepted p → last_rank accepted p ≡ length (elements accepted p) + 1
  last_some v is = at (is_retired accepted p) refl
    where
      at : (b : Bool) → is_retired accepted p ≡ b → last_rank accepted p ≡ length (elements accepted p) + 1
      at true e = ap (λ (b : Bool). cond b (length (elements accepted p) + 1) (length (elements accepted p))) e
      at false e =
          let none : retired_events accepted p ≡ None = ap (λ (b : Bool). cond b (option_map (λ name. last_events name accepted) (name_of accepted p)) None) e in
          absurd (let same = is ∙ none in cc)

  pub last_none : let o : Option EventTree = None in o ≡ retired_events accepted p → last_rank accepted p ≡ length (elements accepted p)
  last_none is = at (is_retired accepted p) refl
    where
      at : (b : Bool) → is_retired accepted p ≡ b → last_rank accepted p ≡ length (elements accepted p)
      at true e = let top = retired_top accepted p e in absurd (let same = is ∙ top in cc)
      at false e = ap (λ (b : Bool). cond b (length (elements accepted p) + 1) (length (elements accepted p))) e

-- ---- lists of all processes

range_more : (a n : ℕ) → range_with_len a n ++ (a + n) ∷ [] ≡ range_with_len a (suc n)
range_more a zero = ap (λ (k : ℕ). k ∷ []) (omega arith)
range_more a (suc n) =
    let e : a + suc n ≡ (a + 1) + n = omega arith in
    ap (λ (k : ℕ). a ∷ (range_with_len (a + 1) n ++ k ∷ [])) e ∙ ap (λ (xs : List ℕ). a ∷ xs) (range_more (a + 1) n)

pub all_more : (xs : List ℕ) (i : ℕ) → xs ≡ range_with_len 0 i → xs ++ i ∷ [] ≡ range_with_len 0 (i + 1)
all_more xs i h =
    let at : 0 + i ≡ i = omega arith in
    let next : suc i ≡ i + 1 = omega arith in
    ap (λ (ys : List ℕ). ys ++ i ∷ []) h ∙ ap (λ (k : ℕ). range_with_len 0 i ++ k ∷ []) (sym at) ∙ range_more 0 i ∙ ap (range_with_len 0) next

pub one_more : (f : ℕ → ℕ) (xs : List ℕ) (i x : ℕ) → xs ≡ map f (range_with_len 0 i) → x ≡ f i → xs ++ x ∷ [] ≡ map f (range_with_len 0 (i + 1))
one_more f xs i x h e =
    ap (λ (ys : List ℕ). ys ++ x ∷ []) h ∙ ap (λ (y : ℕ). map f (range_with_len 0 i) ++ y ∷ []) e ∙ sym (map-range_with_len_more f 0 i i (omega arith))

module _ (accepted : List Report) where
  pub all_len : length (all_known accepted) ≡ length (known accepted)
  all_len = length-range_with_len 0 (length (known accepted))

  pub lasts_len : length (last_ranks accepted) ≡ length (known accepted)
  lasts_len = length-map-range_with_len (last_rank accepted) 0 (length (known accepted))

  pub last_at : (p : ℕ) → p < length (known accepted) → slice_index (last_ranks accepted) p ≡ last_rank accepted p
  last_at p lt = get_or-map-range_with_len (last_rank accepted) 0 (length (known accepted)) p p 0 lt (omega arith)

  past_len : length (ranks_past_all accepted) ≡ length (known accepted)
  past_len = length-map-range_with_len (λ (q : ℕ). length (elements accepted q) + 1) 0 (length (known accepted))

  past_at : (p : ℕ) → p < length (known accepted) → slice_index (ranks_past_all accepted) p ≡ length (elements accepted p) + 1
  past_at p lt = get_or-map-range_with_len (λ (q : ℕ). length (elements accepted q) + 1) 0 (length (known accepted)) p p 0 lt (omega arith)

  pub in_all : (q : ℕ) → Contains (all_known accepted) q → q < length (known accepted)
  in_all q contains =
      let at = there (all_known accepted) q contains in
      let lt : at.0 < length (known accepted) = omega (arith, at.1, all_len) in
      omega (arith, at.2, lt, get_or-range_with_len 0 (length (known accepted)) at.0 0 lt)

  pub all_has : (q : ℕ) → q < length (known accepted) → Contains (all_known accepted) q
  all_has q lt = (q, omega (arith, lt, all_len), (let at = get_or-range_with_len 0 (length (known accepted)) q q lt in omega arith))

  pub all_in_order : IsStrictlyIncreasing (all_known accepted)
  all_in_order k lt =
      let n = length (known accepted) in
      let a = get_or-range_with_len 0 n k 0 (omega (arith, lt, all_len)) in
      let b = get_or-range_with_len 0 n (k + 1) 0 (omega (arith, lt, all_len)) in
      omega arith

  pub all_below : (n : ℕ) → n ≡ length (known accepted) → All (λ (q : ℕ). q < n) (all_known accepted)
  all_below n e = All-weaker (Contains (all_known accepted)) (λ (q : ℕ). q < n) (λ q contains. omega (arith, in_all q contains, e)) (all_known accepted) (All-contains_itself (all_known accepted))

  -- a cut within the last ranks may be made of the ranks behind all elements
  pub first_lowered : AreLawfulPlaces accepted → (surviving_ranks : List ℕ) → length surviving_ranks ≡ length (known accepted) → ((p : ℕ) → p < length surviving_ranks → slice_index surviving_ranks p ≤ last_rank accepted p)
      → IsLoweredFrom accepted (ranks_past_all accepted) surviving_ranks
  first_lowered laws surviving_ranks complete within = record {
    complete = past_len ∙ sym complete;
    falls = λ q lt. omega (arith, within q lt, last_below accepted q, past_at q (omega (arith, lt, complete)));
    unknown = λ p q pin qin. laws.ended p (slice_index surviving_ranks p) q (slice_index (ranks_past_all accepted) q) (omega (arith, past_at q (omega (arith, qin, complete))));
  }

  -- and so are the last ranks themselves
  pub falls_from_past : (lasts before : List ℕ) → lasts ≡ last_ranks accepted → before ≡ ranks_past_all accepted → (q : ℕ) → q < length lasts → slice_index lasts q ≤ slice_index before q
  falls_from_past lasts before are_lasts are_past q lt =
      let qin : q < length (known accepted) = omega (arith, lt, ap length are_lasts, lasts_len) in
      let a : slice_index lasts q ≡ last_rank accepted q = ap (λ (xs : List ℕ). slice_index xs q) are_lasts ∙ last_at q qin in
      let b : slice_index before q ≡ length (elements accepted q) + 1 = ap (λ (xs : List ℕ). slice_index xs q) are_past ∙ past_at q qin in
      omega (arith, a, b, last_below accepted q)

  pub bounds_at_last : AreLawfulPlaces accepted → (rows : List (List EventTree)) → AreThresholdsOf accepted (last_ranks accepted) (ranks_past_all accepted) (all_known accepted) rows
      → AreBoundsOf accepted (last_ranks accepted) (all_known accepted) rows
  bounds_at_last laws rows h = record {
    within = within;
    in_order = all_in_order;
    fallen = all_below (length (last_ranks accepted)) lasts_len;
    before = ranks_past_all accepted;
    lowered = first_lowered laws (last_ranks accepted) lasts_len within;
    thresholds = h;
  }
    where
      within : (p : ℕ) → p < length (last_ranks accepted) → slice_index (last_ranks accepted) p ≤ last_rank accepted p
      within p lt = omega (arith, last_at p (omega (arith, lt, lasts_len)))

  -- the same of lists that are these
  pub bounds_of : AreLawfulPlaces accepted → (lasts before all : List ℕ) (rows : List (List EventTree)) → lasts ≡ last_ranks accepted → before ≡ ranks_past_all accepted → all ≡ all_known accepted
      → AreThresholdsOf accepted lasts before all rows → AreBoundsOf accepted (last_ranks accepted) (all_known accepted) rows
  bounds_of laws lasts before all rows are_lasts are_past are_all h =
      bounds_at_last laws rows
      (subst (λ (xs : List ℕ). AreThresholdsOf accepted (last_ranks accepted) (ranks_past_all accepted) xs rows) are_all
      (subst (λ (xs : List ℕ). AreThresholdsOf accepted (last_ranks accepted) xs all rows) are_past
      (subst (λ (xs : List ℕ). AreThresholdsOf accepted xs before all rows) are_lasts h)))

  -- ---- what a last place knows

  module _ (p rank : ℕ) (lasts all : List ℕ) (pin : p < length (known accepted)) (are_lasts : lasts ≡ last_ranks accepted) (are_all : all ≡ all_known accepted) (is : rank ≡ slice_index lasts p) where
    rank_is : rank ≡ last_rank accepted p
    rank_is = is ∙ ap (λ (xs : List ℕ). slice_index xs p) are_lasts ∙ last_at p pin

    known_so : (q : ℕ) → q < length (known accepted) → KnowsRank accepted p (last_rank accepted p) q (last_rank accepted q) → KnowsRank accepted p rank q (slice_index lasts q)
    known_so q qin knows =
        subst (λ (k : ℕ). KnowsRank accepted p rank q k) (sym (ap (λ (xs : List ℕ). slice_index xs q) are_lasts ∙ last_at q qin))
        (subst (λ (x : ℕ). KnowsRank accepted p x q (last_rank accepted q)) (sym rank_is) knows)

    has : (q : ℕ) → q < length (known accepted) → Contains all q
    has q qin = subst (λ (xs : List ℕ). Contains xs q) (sym are_all) (all_has q qin)

    pub none_at_last : ((q : ℕ) → Contains all q → ¬ KnowsRank accepted p rank q (slice_index lasts q)) → (q : ℕ) → q < length (known accepted) → IsUnknownAtLast accepted p q
    none_at_last none q qin knows = none q (has q qin) (known_so q qin knows)

    pub before_first : (f : ℕ) → IsFirstKnown accepted all lasts p rank f → (q : ℕ) → q < f → q < length (known accepted) → IsUnknownAtLast accepted p q
    before_first f first q below qin knows = let le = first.first q (has q qin) (known_so q qin knows) in omega arith

    pub count_none : (n : ℕ) → n ≡ length (known accepted) → ((q : ℕ) → Contains all q → ¬ KnowsRank accepted p rank q (slice_index lasts q)) → IsUnknownCount accepted p n
    count_none n e none = record { none = λ q below qin. none_at_last none q qin; next = λ lt. absurd (omega (arith, e, lt)) }

    pub count_first : (f : ℕ) → IsFirstKnown accepted all lasts p rank f → IsUnknownCount accepted p f
    count_first f first = record {
      none = before_first f first;
      next = λ fin un. un (
          subst (λ (k : ℕ). KnowsRank accepted p (last_rank accepted p) f k) (ap (λ (xs : List ℕ). slice_index xs f) are_lasts ∙ last_at f fin)
          (subst (λ (x : ℕ). KnowsRank accepted p x f (slice_index lasts f)) rank_is first.known)
          );
    }

  -- what the last place does not know after the last place, it knows at no element from there on
  pub unknown_from : AreLawfulPlaces accepted → (p q : ℕ) → IsUnknownAtLast accepted p q → (k : ℕ) → last_rank accepted q ≤ k → ¬ KnowsAt accepted (place_at accepted p (last_rank accepted p)) q k
  unknown_from laws p q unknown k le known = unknown (laws.from_element p (last_rank accepted p) q (last_rank accepted q) k le known)

  -- what a table says of a place, in one step
  pub unknown_at : AreLawfulPlaces accepted → (p rank bound q : ℕ) (place : Place) (lasts unknown : List ℕ) → p < length (known accepted) → q < length (known accepted) → lasts ≡ last_ranks accepted
      → AreUnknown accepted unknown → rank ≡ slice_index lasts p → place ≡ place_at accepted p rank → q < slice_index unknown p → bound ≡ slice_index lasts q
      → (k : ℕ) → bound ≤ k → ¬ KnowsAt accepted place q k
  unknown_at laws p rank bound q place lasts unknown pin qin are_lasts h is at below end k le known =
      let last : rank ≡ last_rank accepted p = is ∙ ap (λ (xs : List ℕ). slice_index xs p) are_lasts ∙ last_at p pin in
      let bounded : bound ≡ last_rank accepted q = end ∙ ap (λ (xs : List ℕ). slice_index xs q) are_lasts ∙ last_at q qin in
      unknown_from laws p q ((h.each p (omega (arith, pin, h.complete))).none q below qin) k (omega (arith, le, bounded))
      (subst (λ (x : Place). KnowsAt accepted x q k) (at ∙ ap (place_at accepted p) last) known)
