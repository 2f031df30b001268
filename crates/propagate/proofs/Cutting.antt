-- The cut that the rounds end at, its chains, and how many rounds there are.
use Rattle.std.proofs.Common.{◌≡◌, ◌≢◌, inl, inr, ℕ, suc, ◌+◌, ◌-◌, ◌^◌, ◌≤◌, ◌<◌, cond, List, [], ◌∷◌, ◌++◌, length, map, get_or, refl, sym, ap, ◌∙◌, arith}
use Rattle.std.specs.Prelude.{slice_index, nat_lt, drop, sum, All}
use Rattle.std.specs.List.{range_with_len}
use Rattle.std.proofs.Math.Seq.{drop-cons}
use Rattle.std.proofs.lemmas.Bool.{cases_lt, lt-ltb, le-ltb, cond-true, cond-false}
use Rattle.std.proofs.lemmas.List.{ext_get_or, get_or-map, length-map, append_assoc, append-nil, drop_all}
use Rattle.std.proofs.lemmas.List.Sums.{sum_by-le}
use Rattle.report_line.specs.declared.report.Report.{Report}
use Rattle.chains.specs.declared.position.Place.{Place}
use Rattle.chains.specs.Admission.{report_limit, process_limit}
use Rattle.chains.specs.Processes.{known}
use Rattle.chains.specs.Positions.{position_at}
use Rattle.reasons.specs.Certificates.{positions_of}
use Rattle.propagate.specs.working.Ranks.{AreNextRanks, AreFallen, IsStage, positions_from, places_from}
use Rattle.propagate.specs.Rounds.{AreSurvivingRanks}
use Rattle.knows_row.specs.Looks.{IsLoweredFrom}
use Rattle.propagate.specs.declared.rounds.Stage.{Stage}
use Rattle.propagate.specs.working.Stages.{IsStanding, IsNextStage, AreGroundedBy, AreThere, AreChosenBy, AreRunning, chains_at, needed_chains}
use Rattle.propagate.proofs.Ranked.{rank_at}
use Rattle.propagate.proofs.Fallen.{member_first}
use Rattle.propagate.proofs.Rounding.{sum_falls, in_order_from, positions_from_places}

-- ---- the chains that are due

-- those of the processes from the i-th on
abbrev pub due_from : List ℕ → List ℕ → List (List Place) → ℕ → List (List Place)
due_from surviving_ranks cut chains i = needed_chains (drop i surviving_ranks) (drop i cut) (drop i chains)

due_at : (surviving_ranks cut : List ℕ) (chains : List (List Place)) (i : ℕ) → i < length surviving_ranks → i < length cut → i < length chains
    → due_from surviving_ranks cut chains i ≡ cond (nat_lt (slice_index cut i) (slice_index surviving_ranks i)) (get_or chains i [] ∷ due_from surviving_ranks cut chains (suc i)) (due_from surviving_ranks cut chains (suc i))
due_at surviving_ranks cut chains i tin cin hin = rw (drop-cons surviving_ranks i 0 tin, drop-cons cut i 0 cin, drop-cons chains i [] hin) refl

-- the chains so far, where process i has one that is due
pub due_more : (surviving_ranks cut : List ℕ) (chains reasons : List (List Place)) (i : ℕ) (chain : List Place) → i < length surviving_ranks → i < length cut → i < length chains
    → slice_index cut i < slice_index surviving_ranks i → chain ≡ get_or chains i [] → reasons ++ due_from surviving_ranks cut chains i ≡ needed_chains surviving_ranks cut chains
    → (reasons ++ chain ∷ []) ++ due_from surviving_ranks cut chains (i + 1) ≡ needed_chains surviving_ranks cut chains
due_more surviving_ranks cut chains reasons i chain tin cin hin below is h =
    let up : i + 1 ≡ suc i = omega arith in
    rw (up, is) (append_assoc reasons (get_or chains i [] ∷ []) (due_from surviving_ranks cut chains (suc i))
    ∙ ap (λ (xs : List (List Place)). reasons ++ xs) (sym (due_at surviving_ranks cut chains i tin cin hin ∙ cond-true (nat_lt (slice_index cut i) (slice_index surviving_ranks i)) _ _ (lt-ltb (slice_index cut i) (slice_index surviving_ranks i) below)))
    ∙ h)

-- and where it has none
pub due_same : (surviving_ranks cut : List ℕ) (chains reasons : List (List Place)) (i : ℕ) → i < length surviving_ranks → i < length cut → i < length chains
    → slice_index surviving_ranks i ≤ slice_index cut i → reasons ++ due_from surviving_ranks cut chains i ≡ needed_chains surviving_ranks cut chains
    → reasons ++ due_from surviving_ranks cut chains (i + 1) ≡ needed_chains surviving_ranks cut chains
due_same surviving_ranks cut chains reasons i tin cin hin above h =
    let up : i + 1 ≡ suc i = omega arith in
    rw up (ap (λ (xs : List (List Place)). reasons ++ xs) (sym (due_at surviving_ranks cut chains i tin cin hin ∙ cond-false (nat_lt (slice_index cut i) (slice_index surviving_ranks i)) _ _ (le-ltb (slice_index cut i) (slice_index surviving_ranks i) above)))
    ∙ h)

-- behind the last process none is
pub due_done : (surviving_ranks cut : List ℕ) (chains reasons : List (List Place)) (i : ℕ) → length surviving_ranks ≤ i → reasons ++ due_from surviving_ranks cut chains i ≡ needed_chains surviving_ranks cut chains → reasons ≡ needed_chains surviving_ranks cut chains
due_done surviving_ranks cut chains reasons i le h = sym (append-nil reasons) ∙ ap (λ (xs : List ℕ). reasons ++ needed_chains xs (drop i cut) (drop i chains)) (sym (drop_all i surviving_ranks le)) ∙ h

pub chain_at : (arena : List (List Place)) (chain_ends : List ℕ) (i : ℕ) → i < length chain_ends → get_or (chains_at arena chain_ends) i [] ≡ get_or arena (slice_index chain_ends i) []
chain_at arena chain_ends i lt = get_or-map (λ h. get_or arena h []) chain_ends i 0 [] lt

-- ---- the rounds

-- the ranks that a round lowers are those that differ
pub has_changed : (cut next fell : List ℕ) → AreFallen cut next fell → 0 < length fell → cut ≢ next
has_changed cut next [] h some e = absurd (omega (arith, some))
has_changed cut next (q ∷ fell) h some e = absurd (omega (arith, ((h.just_these q).0 (member_first q fell)).1, ap (λ (xs : List ℕ). slice_index xs q) e))

pub has_settled : (accepted : List Report) (cut next fell : List ℕ) → AreNextRanks accepted cut next → AreFallen cut next fell → length fell ≡ 0 → cut ≡ next
has_settled accepted cut next fell ranks h none = ext_get_or 0 cut next (sym ranks.complete) (λ p lt. elim (cases_lt (slice_index next p) (slice_index cut p)) [
  | inl below ↦ absurd (omega (arith, none, ((h.just_these p).1 (lt, below)).1))
  | inr ge ↦ omega (arith, ge, (ranks.each p lt).before)
])

module _ (accepted : List Report) (surviving_ranks : List ℕ) where
  -- before the first round no process is below its last surviving rank
  pub running_first : (stage : Stage) (arena : List (List Place)) → stage.cut.items ≡ surviving_ranks → IsStanding accepted surviving_ranks stage.cut.items stage.chain_ends.items stage.fell.items
      → AreThere surviving_ranks stage.cut.items stage.chain_ends.items arena → IsLoweredFrom accepted stage.before.items stage.cut.items → AreChosenBy accepted surviving_ranks 0 stage.cut.items stage.chain_ends.items arena
      → AreRunning accepted surviving_ranks stage arena 1
  running_first stage arena first standing there from chosen = record {
    stands = record {
      standing = standing;
      grounded = λ failed h p lt below. absurd (omega (arith, below, ap (λ (xs : List ℕ). slice_index xs p) first));
      there = there;
    };
    from = from;
    rounds = (0, refl, first, chosen);
    few = omega (arith, ap sum first);
  }

  pub running_more : (stage : Stage) (arena : List (List Place)) (n : ℕ) → AreRunning accepted surviving_ranks stage arena n
      → (next : Stage) (later : List (List Place)) → IsNextStage accepted surviving_ranks stage arena next later → stage.cut.items ≢ next.cut.items
      → ((t : ℕ) → AreChosenBy accepted surviving_ranks t stage.cut.items stage.chain_ends.items arena → AreChosenBy accepted surviving_ranks (suc t) next.cut.items next.chain_ends.items later)
      → AreRunning accepted surviving_ranks next later (n + 1)
  running_more stage arena n h next later round changed chosen = record {
    stands = round.stands;
    from = round.from;
    rounds = (suc h.rounds.0, omega (arith, h.rounds.1), (stage.cut.items, h.rounds.2, round.ranks, changed), chosen h.rounds.0 h.rounds.3);
    few = omega (arith, h.few, sum_falls accepted stage.cut.items next.cut.items round.ranks changed);
  }

-- ---- the last surviving ranks

module _ (accepted : List Report) (failed a b : List ℕ) (first : AreSurvivingRanks accepted failed a) (second : AreSurvivingRanks accepted failed b) where
  not_above : (p : ℕ) → p < length a → p < length b → slice_index a p ≤ slice_index b p
  not_above p pa pb = omega (
    arith,
    (second.last p pb).greatest (position_at accepted p (slice_index a p)) (first.last p pa).surviving,
    rank_at accepted p (slice_index a p) (first.within p pa),
    rank_at accepted p (slice_index b p) (second.within p pb),
  )

-- a failed set has one list of them
pub same_tops : (accepted : List Report) (failed a b : List ℕ) → AreSurvivingRanks accepted failed a → AreSurvivingRanks accepted failed b → a ≡ b
same_tops accepted failed a b first second =
    let same : length a ≡ length b = first.complete ∙ sym second.complete in
    ext_get_or 0 a b same (λ p lt.
    let pb : p < length b = omega (arith, lt, same) in
    omega (arith, not_above accepted failed a b first second p lt pb, not_above accepted failed b a second first p pb lt))

pub few_tops : (surviving_ranks : List ℕ) → length surviving_ranks ≤ process_limit → All (λ r. r ≤ report_limit + 2) surviving_ranks → sum surviving_ranks < 2 ^ 32 - 1
few_tops surviving_ranks few each = omega (arith, few, sum_by-le (λ (x : ℕ). x) (report_limit + 2) surviving_ranks each)

-- ---- the line

pub line_in_order : (accepted : List Report) (cut : List ℕ) (line : List Place) → length cut ≡ length (known accepted) → line ≡ places_from accepted 0 cut
    → map (λ x. x.process) line ≡ range_with_len 0 (length (known accepted))
line_in_order accepted cut line complete is = ap (map (λ (x : Place). x.process)) is ∙ in_order_from accepted 0 cut ∙ ap (range_with_len 0) complete

pub line_positions : (accepted : List Report) (cut : List ℕ) (line : List Place) → line ≡ places_from accepted 0 cut → positions_of line ≡ positions_from accepted 0 cut
line_positions accepted cut line is = ap positions_of is ∙ positions_from_places accepted 0 cut

pub stage_of : (accepted : List Report) (failed surviving_ranks cut chain_ends fell : List ℕ) (arena : List (List Place)) → AreSurvivingRanks accepted failed surviving_ranks → IsStanding accepted surviving_ranks cut chain_ends fell
    → AreGroundedBy accepted surviving_ranks cut chain_ends arena → IsStage accepted failed surviving_ranks cut (chains_at arena chain_ends)
stage_of accepted failed surviving_ranks cut chain_ends fell arena h standing grounded = record {
  complete = sym standing.each;
  surviving = standing.surviving;
  kept = length-map chain_ends (λ h. get_or arena h []) ∙ standing.headed;
  grounded = grounded failed h;
}
