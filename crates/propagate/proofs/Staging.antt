-- What a round has made of the processes before the i-th, and what it leaves of the others.
use Rattle.std.proofs.Common.{◌≡◌, ◌≢◌, inl, inr, ℕ, ◌+◌, ◌≤◌, ◌<◌, Some, List, [], ◌∷◌, ◌++◌, length, get_or, Contains, refl, sym, ap, subst, ◌∙◌, arith}
use Rattle.std.specs.Prelude.{slice_index, All}
use Rattle.std.proofs.lemmas.Bool.{cases_lt}
use Rattle.std.proofs.lemmas.List.{get_or_append_left, get_or_push, length_push, length-append, get_or-map}
use Rattle.std.proofs.lemmas.List.Elements.{All-weaker, All-contains_itself}
use Rattle.report_line.specs.declared.report.Report.{Report}
use Rattle.chains.specs.declared.position.Place.{Place}
use Rattle.chains.specs.Processes.{known}
use Rattle.chains.specs.Positions.{place_at, last_rank}
use Rattle.chains.proofs.Listing.{AreListedTo, listed_none, listed_more, listed_other, listed_same}
use Rattle.knows_row.specs.Knowing.{KnowsRank, AreLawfulPlaces}
use Rattle.propagate.specs.working.Ranks.{IsNextRank, AreNextRanks, AreFallen, IsGrounded, IsCauseOf}
use Rattle.event_tree.specs.EventTree.{EventTree}
use Rattle.std.specs.List.Sorted.{IsStrictlyIncreasing}
use Rattle.knows_row.specs.Looks.{AreBoundsOf, IsLoweredFrom, all_known}
use Rattle.knows_row.specs.Thresholds.{AreThresholdsOf}
use Rattle.knows_row.proofs.Lasts.{all_in_order, all_below, all_has}
use Rattle.propagate.specs.Rounds.{AreSurvivingRanks}
use Rattle.propagate.specs.working.Stages.{IsStanding, AreGroundedBy, AreThere}
use Rattle.propagate.proofs.Rounding.{clear_but_fallen}
use Rattle.propagate.proofs.Grounding.{grounded_first, grounded_more, grounded_still, falls_everywhere}

-- the first stage: every process may be known too far
pub first_standing : (accepted : List Report) (surviving_ranks chain_ends fell : List ℕ) → length surviving_ranks ≡ length (known accepted)
    → ((p : ℕ) → p < length surviving_ranks → slice_index surviving_ranks p ≤ last_rank accepted p) → length chain_ends ≡ length surviving_ranks → fell ≡ all_known accepted
    → IsStanding accepted surviving_ranks surviving_ranks chain_ends fell
first_standing accepted surviving_ranks chain_ends fell complete within headed is = record {
  complete = complete;
  each = refl;
  within = within;
  surviving = λ p lt. omega arith;
  headed = headed;
  in_order = subst IsStrictlyIncreasing (sym is) (all_in_order accepted);
  fallen = subst (All (λ (q : ℕ). q < length surviving_ranks)) (sym is) (all_below accepted (length surviving_ranks) complete);
  clear = λ p q pin qin standing. absurd (standing (subst (λ (xs : List ℕ). Contains xs q) (sym is) (all_has accepted q (omega (arith, qin, complete)))));
}

-- no rank is past the last one
pub below_last : (accepted : List Report) (surviving_ranks cut chain_ends fell : List ℕ) → IsStanding accepted surviving_ranks cut chain_ends fell → (p : ℕ) → p < length cut → slice_index cut p ≤ last_rank accepted p
below_last accepted surviving_ranks cut chain_ends fell s p lt = omega (arith, s.within p lt, s.surviving p lt)

-- ---- lists with one more

-- what holds of each two numbers at one place
pub each_push : (P : ℕ → ℕ → ℕ → Type 0) (xs ys : List ℕ) (x y i : ℕ) → length xs ≡ i → length ys ≡ i → ((p : ℕ) → p < i → P p (slice_index xs p) (slice_index ys p)) → P i x y
    → (p : ℕ) → p < i + 1 → P p (slice_index (xs ++ x ∷ []) p) (slice_index (ys ++ y ∷ []) p)
each_push P xs ys x y i sx sy each one p lt = elim (cases_lt p i) [
  | inl below ↦
      rw (get_or_append_left xs (x ∷ []) 0 p (omega arith), get_or_append_left ys (y ∷ []) 0 p (omega arith)) (each p below)
  | inr past ↦
      let e : i ≡ p = omega arith in
      rw (get_or_push xs x 0 p (omega arith), get_or_push ys y 0 p (omega arith)) (subst (λ (j : ℕ). P j x y) e one)
]

-- ---- ranks

-- the ranks of the processes before the i-th, and which of them fell
pub record AreNextTo (accepted : List Report) (cut : List ℕ) (i : ℕ) (next fell : List ℕ) : Type 0 where
  pub complete : length next ≡ i
  pub each : (p : ℕ) → p < i → IsNextRank accepted cut p (slice_index next p)
  pub listed : AreListedTo (λ q. slice_index next q < slice_index cut q) i fell

pub next_none : (accepted : List Report) (cut : List ℕ) → AreNextTo accepted cut 0 [] []
next_none accepted cut = record {
  complete = refl;
  each = λ p lt. absurd (omega arith);
  listed = listed_none (λ q. slice_index [] q < slice_index cut q);
}

module _ (accepted : List Report) (cut : List ℕ) (i : ℕ) (next fell : List ℕ) (r : ℕ) (h : AreNextTo accepted cut i next fell) (one : IsNextRank accepted cut i r) where
  abbrev after : List ℕ
  after = next ++ r ∷ []

  listed_still : AreListedTo (λ q. slice_index after q < slice_index cut q) i fell
  listed_still = listed_same (λ q. slice_index next q < slice_index cut q) (λ q. slice_index after q < slice_index cut q) i fell
      (λ q lt. let e = get_or_append_left next (r ∷ []) 0 q (omega (arith, h.complete)) in (λ below. omega arith, λ below. omega arith)) h.listed

  next_with : (later : List ℕ) → AreListedTo (λ q. slice_index after q < slice_index cut q) (i + 1) later → AreNextTo accepted cut (i + 1) after later
  next_with later listed = record {
    complete = omega (arith, length_push next r, h.complete);
    each = each_push (λ p x y. IsNextRank accepted cut p x) next next r r i h.complete h.complete h.each one;
    listed = listed;
  }

  pub next_fallen : r < slice_index cut i → AreNextTo accepted cut (i + 1) (next ++ r ∷ []) (fell ++ i ∷ [])
  next_fallen below = next_with (fell ++ i ∷ []) (listed_more (λ q. slice_index after q < slice_index cut q) i fell listed_still (omega (arith, below, get_or_push next r 0 i h.complete)))

  pub next_stays : slice_index cut i ≤ r → AreNextTo accepted cut (i + 1) (next ++ r ∷ []) fell
  next_stays le = next_with fell (listed_other (λ q. slice_index after q < slice_index cut q) i fell listed_still (λ lt. omega (arith, lt, le, get_or_push next r 0 i h.complete)))

module _ (accepted : List Report) (cut : List ℕ) (i : ℕ) (next fell : List ℕ) (to : AreNextTo accepted cut i next fell) (all : i ≡ length cut) where
  h : AreNextTo accepted cut (length cut) next fell
  h = subst (λ (j : ℕ). AreNextTo accepted cut j next fell) all to

  pub next_ranks : AreNextRanks accepted cut next
  next_ranks = record { complete = h.complete; each = h.each }

  pub next_fell : AreFallen cut next fell
  next_fell = record { in_order = h.listed.in_order; just_these = h.listed.just_these }

  pub next_standing : (surviving_ranks chain_ends heads_before fell_before : List ℕ) → IsStanding accepted surviving_ranks cut heads_before fell_before → length chain_ends ≡ length cut → IsStanding accepted surviving_ranks next chain_ends fell
  next_standing surviving_ranks chain_ends heads_before fell_before s headed = record {
    complete = h.complete ∙ s.complete;
    each = s.each ∙ sym h.complete;
    within = λ p lt. s.within p (omega (arith, lt, h.complete));
    surviving = λ p lt. let in_cut : p < length cut = omega (arith, lt, h.complete) in omega (arith, (h.each p in_cut).before, s.surviving p in_cut);
    headed = headed ∙ sym h.complete;
    in_order = h.listed.in_order;
    fallen = All-weaker (Contains fell) (λ q. q < length next) (λ q there. omega (arith, ((h.listed.just_these q).0 there).0, h.complete)) fell (All-contains_itself fell);
    clear = clear_but_fallen accepted cut next fell next_ranks (λ q lt standing. elim (cases_lt (slice_index next q) (slice_index cut q)) [
      | inl below ↦ absurd (standing ((h.listed.just_these q).1 (lt, below)))
      | inr above ↦ omega (arith, above, (h.each q lt).before)
    ]);
  }

-- ---- the cut before, and thresholds

-- after one it is the cut that the round began with
pub next_lowered : (accepted : List Report) (cut next : List ℕ) → AreNextRanks accepted cut next → IsLoweredFrom accepted cut next
next_lowered accepted cut next h = record {
  complete = sym h.complete;
  falls = λ q lt. (h.each q (omega (arith, lt, h.complete))).before;
  unknown = λ p q pin qin. (h.each p (omega (arith, pin, h.complete))).clear q (omega (arith, qin, h.complete));
}

-- thresholds of what came behind the ranks bound every place of the cut
pub bounds_of_stage : (accepted : List Report) (surviving_ranks before cut chain_ends fell : List ℕ) (rows : List (List EventTree)) → IsStanding accepted surviving_ranks cut chain_ends fell → IsLoweredFrom accepted before cut
    → AreThresholdsOf accepted cut before fell rows → AreBoundsOf accepted cut fell rows
bounds_of_stage accepted surviving_ranks before cut chain_ends fell rows s low h = record {
  within = below_last accepted surviving_ranks cut chain_ends fell s;
  in_order = s.in_order;
  fallen = s.fallen;
  before = before;
  lowered = low;
  thresholds = h;
}

-- ---- chains

-- For each failed set with these last surviving ranks, and for each lower cut that has p at this rank, the chain is grounded.
abbrev pub IsGroundedBelow : List Report → List ℕ → List ℕ → ℕ → ℕ → List Place → Type 0
IsGroundedBelow accepted surviving_ranks cut p r chain =
    (failed next : List ℕ) → AreSurvivingRanks accepted failed surviving_ranks → length next ≡ length cut → ((q : ℕ) → q < length next → slice_index next q ≤ slice_index cut q)
    → slice_index next p ≡ r → r < slice_index surviving_ranks p → IsGrounded accepted failed next (place_at accepted p (r + 1)) chain

-- the numbers of the chains of the processes before the i-th
pub record AreHeadsTo (accepted : List Report) (surviving_ranks cut : List ℕ) (i : ℕ) (next chain_ends : List ℕ) (arena : List (List Place)) : Type 0 where
  pub complete : length chain_ends ≡ i
  pub there : (p : ℕ) → p < i → slice_index next p < slice_index surviving_ranks p → slice_index chain_ends p < length arena
  pub grounded : (p : ℕ) → p < i → IsGroundedBelow accepted surviving_ranks cut p (slice_index next p) (get_or arena (slice_index chain_ends p) [])

pub heads_none : (accepted : List Report) (surviving_ranks cut : List ℕ) (arena : List (List Place)) → AreHeadsTo accepted surviving_ranks cut 0 [] [] arena
heads_none accepted surviving_ranks cut arena = record {
  complete = refl;
  there = λ p lt. absurd (omega arith);
  grounded = λ p lt. absurd (omega arith);
}

-- the chain of a number that is there stays where more chains come
pub chain_stays : (arena more later : List (List Place)) (head : ℕ) → later ≡ arena ++ more → head < length arena → get_or later head [] ≡ get_or arena head []
chain_stays arena more later head e lt = ap (λ (xs : List (List Place)). get_or xs head []) e ∙ get_or_append_left arena more [] head lt

still_there : (arena more later : List (List Place)) (head : ℕ) → later ≡ arena ++ more → head < length arena → head < length later
still_there arena more later head e lt = rw e (omega (arith, lt, length-append arena more))

pub heads_more : (accepted : List Report) (surviving_ranks cut : List ℕ) (i : ℕ) (next chain_ends : List ℕ) (arena more later : List (List Place)) (r head : ℕ)
    → AreHeadsTo accepted surviving_ranks cut i next chain_ends arena → length next ≡ i → later ≡ arena ++ more
    → (r < slice_index surviving_ranks i → head < length later) → IsGroundedBelow accepted surviving_ranks cut i r (get_or later head [])
    → AreHeadsTo accepted surviving_ranks cut (i + 1) (next ++ r ∷ []) (chain_ends ++ head ∷ []) later
heads_more accepted surviving_ranks cut i next chain_ends arena more later r head h reached grown there grounded = record {
  complete = omega (arith, length_push chain_ends head, h.complete);
  there = each_push (λ p x y. x < slice_index surviving_ranks p → y < length later) next chain_ends r head i reached h.complete
      (λ p lt below. still_there arena more later (slice_index chain_ends p) grown (h.there p lt below)) there;
  grounded = each_push (λ p x y. IsGroundedBelow accepted surviving_ranks cut p x (get_or later y [])) next chain_ends r head i reached h.complete
      (λ p lt failed lower tops_of same falls at below. rw (chain_stays arena more later (slice_index chain_ends p) grown (h.there p lt below)) (h.grounded p lt failed lower tops_of same falls at below)) grounded;
}

pub heads_there : (accepted : List Report) (surviving_ranks cut : List ℕ) (i : ℕ) (next chain_ends : List ℕ) (arena : List (List Place)) → AreHeadsTo accepted surviving_ranks cut i next chain_ends arena
    → length next ≡ i → AreThere surviving_ranks next chain_ends arena
heads_there accepted surviving_ranks cut i next chain_ends arena h reached p lt below = h.there p (omega arith) below

pub heads_grounded : (accepted : List Report) (surviving_ranks cut : List ℕ) (i : ℕ) (next chain_ends : List ℕ) (arena : List (List Place)) → AreHeadsTo accepted surviving_ranks cut i next chain_ends arena
    → length next ≡ i → AreNextRanks accepted cut next → AreGroundedBy accepted surviving_ranks next chain_ends arena
heads_grounded accepted surviving_ranks cut i next chain_ends arena h reached ranks failed tops_of p lt below =
    rw (get_or-map (λ (head : ℕ). get_or arena head []) chain_ends p 0 [] (omega (arith, h.complete)))
    (h.grounded p (omega arith) failed next tops_of ranks.complete (λ q qin. (ranks.each q (omega (arith, ranks.complete))).before) refl below)

-- more chains change nothing of those that are there
pub there_grown : (surviving_ranks cut chain_ends : List ℕ) (arena more later : List (List Place)) → later ≡ arena ++ more → AreThere surviving_ranks cut chain_ends arena → AreThere surviving_ranks cut chain_ends later
there_grown surviving_ranks cut chain_ends arena more later grown there p lt below = still_there arena more later (slice_index chain_ends p) grown (there p lt below)

-- the chain of a process below its last surviving rank
chain_of : (accepted : List Report) (failed surviving_ranks cut chain_ends : List ℕ) (arena : List (List Place)) (p : ℕ) → AreGroundedBy accepted surviving_ranks cut chain_ends arena → AreSurvivingRanks accepted failed surviving_ranks
    → length chain_ends ≡ length cut → p < length cut → slice_index cut p < slice_index surviving_ranks p
    → IsGrounded accepted failed cut (place_at accepted p (slice_index cut p + 1)) (get_or arena (slice_index chain_ends p) [])
chain_of accepted failed surviving_ranks cut chain_ends arena p grounded h headed lt below =
    rw (sym (get_or-map (λ (head : ℕ). get_or arena head []) chain_ends p 0 [] (omega arith))) (grounded failed h p lt below)

pub grounded_grown : (accepted : List Report) (surviving_ranks cut chain_ends : List ℕ) (arena more later : List (List Place)) → later ≡ arena ++ more → length chain_ends ≡ length cut
    → AreThere surviving_ranks cut chain_ends arena → AreGroundedBy accepted surviving_ranks cut chain_ends arena → AreGroundedBy accepted surviving_ranks cut chain_ends later
grounded_grown accepted surviving_ranks cut chain_ends arena more later grown headed there grounded failed h p lt below =
    rw (get_or-map (λ (head : ℕ). get_or later head []) chain_ends p 0 [] (omega arith), chain_stays arena more later (slice_index chain_ends p) grown (there p lt below))
    (chain_of accepted failed surviving_ranks cut chain_ends arena p grounded h headed lt below)

-- ---- the chain of a process that a round leaves at rank r

module _ (accepted : List Report) (surviving_ranks cut chain_ends fell : List ℕ) (arena : List (List Place)) (p r : ℕ) (s : IsStanding accepted surviving_ranks cut chain_ends fell) (pin : p < length cut) where
  -- it stays
  pub head_stays : AreGroundedBy accepted surviving_ranks cut chain_ends arena → r ≡ slice_index cut p → IsGroundedBelow accepted surviving_ranks cut p r (get_or arena (slice_index chain_ends p) [])
  head_stays grounded stays failed next h same falls at below =
      grounded_still accepted failed cut next (place_at accepted p (r + 1)) (get_or arena (slice_index chain_ends p) [])
      (falls_everywhere cut next same (λ q lt. falls q (omega arith)))
      (subst (λ (x : ℕ). IsGrounded accepted failed cut (place_at accepted p (x + 1)) (get_or arena (slice_index chain_ends p) [])) (sym stays)
      (chain_of accepted failed surviving_ranks cut chain_ends arena p grounded h s.headed pin (omega arith)))

  -- it falls, for a process at its last surviving rank
  pub head_starts : (q : ℕ) (chain : List Place) → AreLawfulPlaces accepted → IsCauseOf accepted cut p r (Some q) → slice_index cut q ≡ slice_index surviving_ranks q
      → chain ≡ (place_at accepted q (slice_index cut q) ∷ []) ++ place_at accepted p (r + 1) ∷ [] → IsGroundedBelow accepted surviving_ranks cut p r chain
  head_starts q chain laws cause top is failed next h same falls at below =
      rw (is, top) (grounded_first accepted failed surviving_ranks cut next p (r + 1) q laws h (omega (arith, s.each, cause.1))
      (subst (KnowsRank accepted p (r + 1) q) top cause.2) (omega arith) (omega (arith, cause.0, s.surviving p pin, s.within p pin)))

  -- it falls, for a process below it
  pub head_prolongs : (q : ℕ) (chain : List Place) → AreLawfulPlaces accepted → AreGroundedBy accepted surviving_ranks cut chain_ends arena → IsCauseOf accepted cut p r (Some q) → slice_index cut q ≢ slice_index surviving_ranks q
      → chain ≡ get_or arena (slice_index chain_ends q) [] ++ place_at accepted p (r + 1) ∷ [] → IsGroundedBelow accepted surviving_ranks cut p r chain
  head_prolongs q chain laws grounded cause other is failed next h same falls at below =
      let lower : slice_index cut q < slice_index surviving_ranks q = omega (arith, other, s.surviving q cause.1) in
      rw is (grounded_more accepted failed surviving_ranks cut next p (r + 1) q (get_or arena (slice_index chain_ends q) []) laws h (sym s.each) s.surviving pin cause.1
      (chain_of accepted failed surviving_ranks cut chain_ends arena q grounded h s.headed cause.1 lower) lower cause.2 (omega arith) (omega (arith, cause.0))
      (λ j lt. falls j (omega arith)) same)

-- the chain that was added last
pub added : (arena later : List (List Place)) (chain : List Place) (head : ℕ) → head ≡ length arena → later ≡ arena ++ chain ∷ [] → get_or later head [] ≡ chain
added arena later chain head number grown = rw grown (get_or_push arena chain [] head (sym number))

pub added_there : (arena later : List (List Place)) (chain : List Place) (head : ℕ) → head ≡ length arena → later ≡ arena ++ chain ∷ [] → head < length later
added_there arena later chain head number grown = rw grown (omega (arith, number, length_push arena chain))
