-- Rounds lead down to the greatest cut.
use Rattle.std.proofs.Common.{◌≡◌, ◌≢◌, ◌⊎◌, inl, inr, ℕ, zero, suc, ◌+◌, ◌≤◌, ◌<◌, List, [], ◌∷◌, length, map, refl, sym, ap, ◌∙◌, subst, arith, add-one}
use Rattle.std.specs.Prelude.{slice_index, Contains}
use Rattle.std.proofs.lemmas.Bool.{cases_lt, cases_eq}
use Rattle.std.proofs.lemmas.List.Sums.{sum_by-cons}
use Rattle.std.specs.List.{range_with_len}
use Rattle.report_line.specs.declared.report.Report.{Report}
use Rattle.chains.specs.declared.position.Place.{Place}
use Rattle.chains.specs.declared.position.Position.{Position}
use Rattle.chains.specs.Processes.{known}
use Rattle.chains.specs.Positions.{position_in, position_at, last_rank, rank}
use Rattle.chains.specs.Knowledge.{Knows, IsStampConsistent}
use Rattle.knows_row.specs.Knowing.{KnowsRank, AreLawfulPlaces}
use Rattle.reasons.specs.Certificates.{positions_of}
use Rattle.propagate.specs.Greatest.{IsGreatestCut}
use Rattle.propagate.specs.Rounds.{AreSurvivingRanks, AreRounds, AfterRounds, IsRound, IsLowered}
use Rattle.propagate.specs.working.Ranks.{IsClearRank, IsNextRank, AreNextRanks, RanksAfter, IsClearBut, positions_from, places_from}
use Rattle.std.specs.Prelude.{sum}
use Rattle.propagate.proofs.Ranked.{rank_at, has_position, chosen_position, position_in_positions, length_positions}
use Rattle.propagate.proofs.Settling.{after_complete, after_within, after_chosen, stays_below, same_ranks}

-- the cut that a round leaves is consistent
settled_is_consistent : (accepted : List Report) (cut : List ℕ) → length cut ≡ length (known accepted) → AreNextRanks accepted cut cut → IsStampConsistent accepted (positions_from accepted 0 cut)
settled_is_consistent accepted cut complete same p q pin qin =
    rw (position_in_positions accepted p cut (omega (arith, complete, pin)), position_in_positions accepted q cut (omega (arith, complete, qin)))
    ((same.each p (omega (arith, complete, pin))).clear q (omega (arith, complete, qin)))

-- the cut that the rounds end at is the greatest
pub settled_is_greatest : (accepted : List Report) (failed surviving_ranks cut : List ℕ) (t : ℕ) → AreLawfulPlaces accepted → AreSurvivingRanks accepted failed surviving_ranks
    → RanksAfter accepted surviving_ranks t cut → AreNextRanks accepted cut cut → IsGreatestCut accepted failed (positions_from accepted 0 cut)
settled_is_greatest accepted failed surviving_ranks cut t laws h after same = record {
  is_one = record {
    is_cut = record {
      complete = length_positions accepted 0 cut ∙ complete;
      chosen = λ p lt. rw (position_in_positions accepted p cut (omega (arith, complete, lt))) (after_chosen accepted failed surviving_ranks h t cut after p (omega (arith, lt, h.complete)));
    };
    consistent = settled_is_consistent accepted cut complete same;
  };
  greatest = λ d one p lt.
      let pin : p < length surviving_ranks = omega (arith, lt, h.complete) in
      rw (position_in_positions accepted p cut (omega (arith, complete, lt)), rank_at accepted p (slice_index cut p) (after_within accepted failed surviving_ranks h t cut after p pin))
      (stays_below accepted failed surviving_ranks h laws d one t cut after p pin);
}
  where
    complete : length cut ≡ length (known accepted)
    complete = after_complete accepted failed surviving_ranks h t cut after ∙ h.complete

-- the rank that a process goes down to is of the position that it goes down to
is_lowered : (accepted : List Report) (before cut : List ℕ) (p : ℕ) → length before ≡ length (known accepted) → p < length before → slice_index before p ≤ last_rank accepted p
    → IsNextRank accepted before p (slice_index cut p) → IsLowered accepted (positions_from accepted 0 before) p (position_at accepted p (slice_index cut p))
is_lowered accepted before cut p complete lt within next = record {
  position = has_position accepted p (slice_index cut p) (omega (arith, next.before, within));
  before = rw (here, rank_at accepted p (slice_index cut p) (omega (arith, next.before, within)), rank_at accepted p (slice_index before p) within) next.before;
  clear = λ q qin. rw (position_in_positions accepted q before (omega (arith, complete, qin))) (next.clear q (omega (arith, complete, qin)));
  greatest = λ j chosen le clear.
      rw (rank_at accepted p (slice_index cut p) (omega (arith, next.before, within))) (elim (cases_lt (slice_index cut p) (rank accepted p j)) [
        | inr ge ↦ ge
        | inl past ↦
            let low : rank accepted p j ≤ slice_index before p = rw (here, rank_at accepted p (slice_index before p) within) at le in
            let still : IsClearRank accepted before p (rank accepted p j) = λ q small.
            rw (chosen_position accepted p [] j chosen) (subst (λ (k : Position). ¬ Knows accepted (record { process = p; position = j }) q k) (position_in_positions accepted q before small) (clear q (omega (arith, complete, small)))) in
            absurd (next.greatest (rank accepted p j) past low still)
      ]);
}
  where
    here : position_in (positions_from accepted 0 before) p ≡ position_at accepted p (slice_index before p)
    here = position_in_positions accepted p before lt

pub is_round : (accepted : List Report) (before cut : List ℕ) → length before ≡ length (known accepted) → ((p : ℕ) → p < length before → slice_index before p ≤ last_rank accepted p)
    → AreNextRanks accepted before cut → IsRound accepted (positions_from accepted 0 before) (positions_from accepted 0 cut)
is_round accepted before cut complete within next = record {
  complete = length_positions accepted 0 cut ∙ next.complete ∙ complete;
  each = λ p pin.
      let lt : p < length before = omega (arith, complete, pin) in
      rw (position_in_positions accepted p cut (omega (arith, next.complete, lt))) (is_lowered accepted before cut p complete lt (within p lt) (next.each p lt));
}

pub after_rounds : (accepted : List Report) (failed surviving_ranks cut : List ℕ) (t : ℕ) → AreSurvivingRanks accepted failed surviving_ranks → RanksAfter accepted surviving_ranks t cut → AfterRounds accepted failed t (positions_from accepted 0 cut)
after_rounds accepted failed surviving_ranks cut zero h after = rw after (record {
  complete = length_positions accepted 0 surviving_ranks ∙ h.complete;
  each = λ p pin. rw (position_in_positions accepted p surviving_ranks (omega (arith, h.complete, pin))) (h.last p (omega (arith, h.complete, pin)));
})
after_rounds accepted failed surviving_ranks cut (suc t) h after =
    let same = after_complete accepted failed surviving_ranks h t after.0 after.1 in
    let whole = after_complete accepted failed surviving_ranks h (suc t) cut after in (
      positions_from accepted 0 after.0,
      after_rounds accepted failed surviving_ranks after.0 t h after.1,
      is_round accepted after.0 cut (same ∙ h.complete) (λ p lt. after_within accepted failed surviving_ranks h t after.0 after.1 p (omega (arith, same, lt))) after.2,
      λ e. after.3 (same_ranks accepted after.0 cut (same ∙ sym whole) (λ p lt. after_within accepted failed surviving_ranks h t after.0 after.1 p (omega (arith, same, lt)))
          (λ p lt. after_within accepted failed surviving_ranks h (suc t) cut after p (omega (arith, whole, lt))) e),
    )

-- and the rounds by ranks are the rounds
pub are_rounds : (accepted : List Report) (failed surviving_ranks cut : List ℕ) (t : ℕ) → AreLawfulPlaces accepted → AreSurvivingRanks accepted failed surviving_ranks
    → RanksAfter accepted surviving_ranks t cut → AreNextRanks accepted cut cut → AreRounds accepted failed (t + 1) (positions_from accepted 0 cut)
are_rounds accepted failed surviving_ranks cut t laws h after same =
    let whole = after_complete accepted failed surviving_ranks h t cut after in (
      t,
      refl,
      after_rounds accepted failed surviving_ranks cut t h after,
      is_round accepted cut cut (whole ∙ h.complete) (λ p lt. after_within accepted failed surviving_ranks h t cut after p (omega (arith, whole, lt))) same,
    )

sum_below : (xs ys : List ℕ) → length xs ≡ length ys → ((p : ℕ) → p < length ys → slice_index xs p ≤ slice_index ys p) → (xs ≡ ys) ⊎ (sum xs < sum ys)
sum_below [] [] e h = inl refl
sum_below [] (y ∷ ys) e h = absurd (omega arith)
sum_below (x ∷ xs) [] e h = absurd (omega arith)
sum_below (x ∷ xs) (y ∷ ys) e h =
    let le : x ≤ y = h 0 (omega arith) in
    let sx = sum_by-cons (λ (z : ℕ). z) x xs in
    let sy = sum_by-cons (λ (z : ℕ). z) y ys in
    elim (sum_below xs ys (omega arith) (λ p l. h (suc p) (omega arith))) [
      | inl same ↦ elim (cases_eq x y) [ inl q ↦ inl (cc) | inr ne ↦ inr (omega (arith, ap sum same)) ]
      | inr lt ↦ inr (omega arith)
    ]

-- a round that changes something lowers the sum of the ranks
pub sum_falls : (accepted : List Report) (cut next : List ℕ) → AreNextRanks accepted cut next → cut ≢ next → sum next < sum cut
sum_falls accepted cut next h changed = elim (sum_below next cut h.complete (λ p lt. (h.each p lt).before)) [
  | inl same ↦ absurd (changed (sym same))
  | inr less ↦ less
]

-- the places of a line are those of all processes, in order
pub in_order_from : (accepted : List Report) (i : ℕ) (cut : List ℕ) → map (λ (x : Place). x.process) (places_from accepted i cut) ≡ range_with_len i (length cut)
in_order_from accepted i [] = refl
in_order_from accepted i (r ∷ rs) = ap (λ (ps : List ℕ). i ∷ ps) (in_order_from accepted (suc i) rs ∙ ap (λ (j : ℕ). range_with_len j (length rs)) (sym (add-one i)))

pub positions_from_places : (accepted : List Report) (i : ℕ) (cut : List ℕ) → positions_of (places_from accepted i cut) ≡ positions_from accepted i cut
positions_from_places accepted i [] = refl
positions_from_places accepted i (r ∷ rs) = ap (λ (ks : List Position). position_at accepted i r ∷ ks) (positions_from_places accepted (suc i) rs)

-- Within a round a process p went down from its rank in the cut to x. Where x is clear of the processes that fell in the
-- round before, it is clear.
pub clear_of_fallen : (accepted : List Report) (fell cut : List ℕ) (p x : ℕ) → AreLawfulPlaces accepted → IsClearBut accepted fell cut
    → p < length cut → x ≤ slice_index cut p → slice_index cut p ≤ last_rank accepted p
    → ((q : ℕ) → Contains fell q → q < length cut → ¬ KnowsRank accepted p x q (slice_index cut q)) → IsClearRank accepted cut p x
clear_of_fallen accepted fell cut p x laws but within le top h q qin knows =
    but p q within qin (λ fallen. h q fallen qin knows) (laws.later p x (slice_index cut p) q (slice_index cut q) le top knows)

-- after a round, only processes that fell in it may be known
pub clear_but_fallen : (accepted : List Report) (cut next fell : List ℕ) → AreNextRanks accepted cut next
    → ((q : ℕ) → q < length cut → ¬ Contains fell q → slice_index next q ≡ slice_index cut q) → IsClearBut accepted fell next
clear_but_fallen accepted cut next fell h same p q pin qin standing =
    let in_cut : q < length cut = omega (arith, h.complete, qin) in
    rw (same q in_cut standing) ((h.each p (omega (arith, h.complete, pin))).clear q in_cut)
