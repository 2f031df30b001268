-- Reason chains while the rounds run.
use Rattle.std.proofs.Common.{◌≡◌, ◌≢◌, inl, inr, ℕ, suc, ◌+◌, ◌≤◌, ◌<◌, Bool, true, false, cond, List, [], ◌∷◌, ◌++◌, length, get_or, refl, sym, ap, subst, arith}
use Rattle.std.specs.Prelude.{slice_index, ◌↔◌, All, Contains, nat_lt, drop}
use Rattle.std.proofs.lemmas.Bool.{cases_Bool, cases_lt, ltb-true}
use Rattle.std.proofs.lemmas.List.{get_or_past}
use Rattle.std.proofs.lemmas.List.Elements.{All-nil, All-cons, All-push, All-weaker}
use Rattle.report_line.specs.declared.report.Report.{Report}
use Rattle.chains.specs.declared.position.Place.{Place}
use Rattle.chains.specs.declared.position.Position.{Position}
use Rattle.chains.specs.Positions.{position_in, position_at, place_at, last_rank, rank, is_retired, IsLastSurviving}
use Rattle.chains.specs.declared.position.Position.TheVariants.{Retired}
use Rattle.chains.specs.Elements.{elements}
use Rattle.chains.specs.Knowledge.{Knows}
use Rattle.knows_row.specs.Knowing.{KnowsRank, AreLawfulPlaces}
use Rattle.reasons.specs.Certificates.{IsReasonChain, AreReasons, HaveReasons, EndsAfter, Falls, position_below}
use Rattle.propagate.specs.working.Ranks.{IsGrounded, IsStage, positions_from}
use Rattle.propagate.specs.Rounds.{AreSurvivingRanks}
use Rattle.propagate.specs.working.Stages.{needed_chains}
use Rattle.propagate.proofs.Ranked.{rank_at, rank_at_below, position_in_positions}
use Rattle.propagate.proofs.Chained.{below_next, reason_more}
use Rattle.propagate.proofs.Fallen.{fallen_from, fallen_below, below_fallen, fallen_increasing}

-- A place that knows a process at its last surviving rank: the two make a chain.
pub grounded_first : (accepted : List Report) (failed surviving_ranks cut next : List ℕ) (p x q : ℕ) → AreLawfulPlaces accepted → AreSurvivingRanks accepted failed surviving_ranks
    → q < length surviving_ranks → KnowsRank accepted p x q (slice_index surviving_ranks q) → slice_index next p < x → x ≤ last_rank accepted p
    → IsGrounded accepted failed next (place_at accepted p x) (place_at accepted q (slice_index surviving_ranks q) ∷ place_at accepted p x ∷ [])
grounded_first accepted failed surviving_ranks cut next p x q laws h within k past le = record {
  reason = (
    elim (cases_Bool (is_retired accepted q)) [
      | inl retired ↦
          let top : length (elements accepted q) + 1 ≤ slice_index surviving_ranks q = omega (arith, (h.last q within).greatest Retired retired, rank_at_below accepted q (slice_index surviving_ranks q)) in
          absurd (laws.ended p x q (slice_index surviving_ranks q) (omega arith) k)
      | inr stays ↦ stays
    ],
    h.last q within,
    (k, tt),
    (All-nil (λ (y : Place). place_at accepted p x ≢ y), tt),
  );
  front = place_at accepted q (slice_index surviving_ranks q) ∷ [];
  ends = refl;
  past = All-cons (λ (z : Place). slice_index next z.process < rank accepted z.process z.position) (place_at accepted p x) []
      (rw (rank_at accepted p x le) past) (All-nil (λ (z : Place). slice_index next z.process < rank accepted z.process z.position));
}

-- the places of a chain are past a cut that fell
still_past : (accepted : List Report) (cut next : List ℕ) (xs : List Place) → ((r : ℕ) → slice_index next r ≤ slice_index cut r)
    → All (λ x. slice_index cut x.process < rank accepted x.process x.position) xs → All (λ x. slice_index next x.process < rank accepted x.process x.position) xs
still_past accepted cut next xs falls past =
    All-weaker (λ (x : Place). slice_index cut x.process < rank accepted x.process x.position) (λ (x : Place). slice_index next x.process < rank accepted x.process x.position)
    (λ x lt. omega (arith, lt, falls x.process)) xs past

-- a list that falls at its indexes falls everywhere
pub falls_everywhere : (cut next : List ℕ) → length next ≡ length cut → ((r : ℕ) → r < length cut → slice_index next r ≤ slice_index cut r) → (r : ℕ) → slice_index next r ≤ slice_index cut r
falls_everywhere cut next same falls r = elim (cases_lt r (length cut)) [
  | inl lt ↦ falls r lt
  | inr ge ↦ omega (arith, get_or_past next r 0 (omega arith))
]

-- A place that knows a process after its rank, which is below its last surviving one: the chain of that process, and it.
pub grounded_more : (accepted : List Report) (failed surviving_ranks cut next : List ℕ) (p x q : ℕ) (chain : List Place) → AreLawfulPlaces accepted → AreSurvivingRanks accepted failed surviving_ranks
    → length cut ≡ length surviving_ranks → ((r : ℕ) → r < length cut → slice_index cut r ≤ slice_index surviving_ranks r)
    → p < length cut → q < length cut → IsGrounded accepted failed cut (place_at accepted q (slice_index cut q + 1)) chain
    → slice_index cut q < slice_index surviving_ranks q
    → KnowsRank accepted p x q (slice_index cut q) → slice_index next p < x → x ≤ slice_index cut p
    → ((r : ℕ) → r < length cut → slice_index next r ≤ slice_index cut r) → length next ≡ length cut
    → IsGrounded accepted failed next (place_at accepted p x) (chain ++ place_at accepted p x ∷ [])
grounded_more accepted failed surviving_ranks cut next p x q [] laws h complete surviving pin qin g below k past le falls same = absurd g.reason
grounded_more accepted failed surviving_ranks cut next p x q (first ∷ xs) laws h complete surviving pin qin g below k past le falls same = record {
  reason = subst (λ (c : List Place). IsReasonChain accepted failed (c ++ new ∷ [])) (sym g.ends)
      (reason_more accepted failed g.front last new (subst (IsReasonChain accepted failed) g.ends g.reason) knows (subst (λ (c : List Place). All (λ (y : Place). y ≢ new) (drop 1 c)) g.ends apart));
  front = first ∷ xs;
  ends = refl;
  past = All-push (λ (z : Place). slice_index next z.process < rank accepted z.process z.position) xs new
      (still_past accepted cut next xs (falls_everywhere cut next same falls) g.past) (rw (rank_at accepted p x within) past);
}
  where
    new : Place
    new = place_at accepted p x

    last : Place
    last = place_at accepted q (slice_index cut q + 1)

    within : x ≤ last_rank accepted p
    within = omega (arith, le, surviving p pin, h.within p (omega arith))

    knows : Knows accepted new q (position_below accepted last)
    knows = rw (below_next accepted q (slice_index cut q) (omega (arith, below, h.within q (omega arith)))) k

    apart : All (λ (y : Place). y ≢ new) xs
    apart = All-weaker (λ (z : Place). slice_index cut z.process < rank accepted z.process z.position) (λ (y : Place). y ≢ new)
        (λ z lt e. absurd (omega (arith, lt, le, rank_at_below accepted p x, ap (λ (y : Place). slice_index cut y.process) e, ap (λ (y : Place). rank accepted y.process y.position) e))) xs g.past

-- a chain stays one where the cut falls
pub grounded_still : (accepted : List Report) (failed cut next : List ℕ) (last : Place) (chain : List Place)
    → ((r : ℕ) → slice_index next r ≤ slice_index cut r) → IsGrounded accepted failed cut last chain → IsGrounded accepted failed next last chain
grounded_still accepted failed cut next last chain falls g = record {
  reason = g.reason;
  front = g.front;
  ends = g.ends;
  past = still_past accepted cut next (drop 1 chain) falls g.past;
}

have_if : (accepted : List Report) (failed : List ℕ) (line : List Position) (b : Bool) (i : ℕ) (chain : List Place) (ps : List ℕ) (chains : List (List Place))
    → (b ≡ true → IsReasonChain accepted failed chain × EndsAfter accepted i (position_in line i) chain) → HaveReasons accepted failed line ps chains
    → HaveReasons accepted failed line (cond b (i ∷ ps) ps) (cond b (chain ∷ chains) chains)
have_if accepted failed line true i chain ps chains one rest = ((one refl).0, (one refl).1, rest)
have_if accepted failed line false i chain ps chains one rest = rest

have_from : (accepted : List Report) (failed : List ℕ) (line : List Position) (i : ℕ) (surviving_ranks cut : List ℕ) (chains : List (List Place))
    → length cut ≡ length surviving_ranks → length chains ≡ length cut
    → ((p : ℕ) → p < length cut → slice_index cut p < slice_index surviving_ranks p → IsReasonChain accepted failed (get_or chains p []) × EndsAfter accepted (i + p) (position_in line (i + p)) (get_or chains p []))
    → HaveReasons accepted failed line (fallen_from i surviving_ranks cut) (needed_chains surviving_ranks cut chains)
have_from accepted failed line i [] cut chains same kept each = tt
have_from accepted failed line i (top ∷ surviving_ranks) [] chains same kept each = tt
have_from accepted failed line i (top ∷ surviving_ranks) (r ∷ rs) [] same kept each = absurd (omega arith)
have_from accepted failed line i (top ∷ surviving_ranks) (r ∷ rs) (chain ∷ chains) same kept each =
    have_if accepted failed line (nat_lt r top) i chain (fallen_from (suc i) surviving_ranks rs) (needed_chains surviving_ranks rs chains)
    (λ below. let e : i + 0 ≡ i = omega arith in
    subst (λ (j : ℕ). IsReasonChain accepted failed chain × EndsAfter accepted j (position_in line j) chain) e (each 0 (omega arith) (ltb-true r top below)))
    (have_from accepted failed line (suc i) surviving_ranks rs chains (omega arith) (omega arith)
    (λ p lt below. let e : i + suc p ≡ suc i + p = omega arith in
    subst (λ (j : ℕ). IsReasonChain accepted failed (get_or chains p []) × EndsAfter accepted j (position_in line j) (get_or chains p [])) e (each (suc p) (omega arith) below)))

-- a process falls where its rank is below its last surviving one
falls_where : (accepted : List Report) (failed surviving_ranks cut : List ℕ) (p : ℕ) → AreSurvivingRanks accepted failed surviving_ranks → length cut ≡ length surviving_ranks → p < length cut
    → slice_index cut p ≤ slice_index surviving_ranks p → (slice_index cut p < slice_index surviving_ranks p) ↔ Falls accepted failed (positions_from accepted 0 cut) p
falls_where accepted failed surviving_ranks cut p h same lt le = (
  λ below. (
    omega (arith, h.complete),
    λ last. absurd (omega (
      arith,
      below,
      (rw (position_in_positions accepted p cut lt) at last).greatest (position_at accepted p (slice_index surviving_ranks p)) (h.last p (omega arith)).surviving,
      rank_at_below accepted p (slice_index cut p),
      rank_at accepted p (slice_index surviving_ranks p) (h.within p (omega arith)),
    )),
  ),
  λ falls. elim (cases_lt (slice_index cut p) (slice_index surviving_ranks p)) [
    | inl below ↦ below
    | inr ge ↦
        let e : slice_index surviving_ranks p ≡ slice_index cut p = omega arith in
        absurd (falls.1 (rw (position_in_positions accepted p cut lt) (subst (λ (r : ℕ). IsLastSurviving accepted failed p (position_at accepted p r)) e (h.last p (omega arith)))))
  ],
)

pub are_reasons : (accepted : List Report) (failed surviving_ranks cut : List ℕ) (chains : List (List Place)) → AreSurvivingRanks accepted failed surviving_ranks → IsStage accepted failed surviving_ranks cut chains
    → AreReasons accepted failed (positions_from accepted 0 cut) (needed_chains surviving_ranks cut chains)
are_reasons accepted failed surviving_ranks cut chains h stage = record {
  fallen = fallen_from 0 surviving_ranks cut;
  in_order = fallen_increasing 0 surviving_ranks cut;
  just_these = λ p. (
    λ there.
        let below = fallen_below 0 p surviving_ranks cut there in
        let e : below.0 ≡ p = omega (arith, below.1) in
        let lt : p < length cut = subst (λ (j : ℕ). j < length cut) e below.2 in
        (falls_where accepted failed surviving_ranks cut p h stage.complete lt (stage.surviving p lt)).0 (subst (λ (j : ℕ). slice_index cut j < slice_index surviving_ranks j) e below.3),
    λ falls.
        let lt : p < length cut = omega (arith, falls.0, h.complete, stage.complete) in
        let e : 0 + p ≡ p = omega arith in
        subst (Contains (fallen_from 0 surviving_ranks cut)) e (below_fallen 0 p surviving_ranks cut stage.complete lt ((falls_where accepted failed surviving_ranks cut p h stage.complete lt (stage.surviving p lt)).1 falls)),
  );
  each = have_from accepted failed line 0 surviving_ranks cut chains stage.complete stage.kept (λ p lt below.
      let g = stage.grounded p lt below in
      let e : p ≡ 0 + p = omega arith in
      let within : slice_index cut p + 1 ≤ last_rank accepted p = omega (arith, below, h.within p (omega (arith, stage.complete, lt))) in
      let rise : rank accepted p (position_at accepted p (slice_index cut p + 1)) ≡ rank accepted p (position_in line p) + 1 = rw (position_in_positions accepted p cut lt, rank_at accepted p (slice_index cut p + 1) within, rank_at accepted p (slice_index cut p) (omega arith)) refl in
      let ends : EndsAfter accepted p (position_in line p) (get_or chains p []) = (g.front, place_at accepted p (slice_index cut p + 1), g.ends, refl, rise) in
      (g.reason, subst (λ (j : ℕ). EndsAfter accepted j (position_in line j) (get_or chains p [])) e ends));
}
  where
    line : List Position
    line = positions_from accepted 0 cut
