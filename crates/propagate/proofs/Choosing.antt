-- The chains that the rounds choose, while they run.
use Rattle.std.proofs.Common.{◌≡◌, ◌≢◌, ◌⊎◌, inl, inr, ℕ, zero, suc, ◌+◌, ◌≤◌, ◌<◌, Bool, true, false, cond, List, [], ◌∷◌, ◌++◌, length, get_or, refl, sym, ap, ◌∙◌, subst, arith}
use Rattle.std.specs.Prelude.{slice_index, nat_lt}
use Rattle.std.proofs.lemmas.Bool.{cases_lt, lt-ltb, le-ltb, ltb-true, cond-true, cond-false}
use Rattle.std.proofs.lemmas.List.{ext_get_or, length-map}
use Rattle.report_line.specs.declared.report.Report.{Report}
use Rattle.chains.specs.declared.position.Place.{Place}
use Rattle.chains.specs.declared.position.Position.{Position}
use Rattle.chains.specs.Processes.{Name, known}
use Rattle.chains.specs.Positions.{rank, position_at, position_in, place_at, IsLastSurviving}
use Rattle.chains.specs.Knowledge.{Knows}
use Rattle.reasons.specs.Certificates.{IsReasonChain}
use Rattle.propagate.specs.Choice.{place_after, GoesOn, IsNextChain, no_chains, given, ChainsAfter}
use Rattle.propagate.specs.working.Ranks.{AreNextRanks, IsStage, positions_from}
use Rattle.propagate.specs.Rounds.{AreSurvivingRanks}
use Rattle.propagate.specs.working.Stages.{IsStanding, AreThere, GoesOnAt, IsChainAt, AreChainsAt, AreChosenBy, chains_at, needed_chains, shown}
use Rattle.propagate.proofs.Ranked.{rank_at, position_in_positions}
use Rattle.propagate.proofs.Settling.{same_ranks}
use Rattle.propagate.proofs.Rounding.{after_rounds, is_round}
use Rattle.propagate.proofs.Staging.{chain_stays, each_push}
use Rattle.propagate.proofs.Cutting.{chain_at}

-- ---- the chains that are shown

pub length_shown : (surviving_ranks cut : List ℕ) (chains : List (List Place)) → length surviving_ranks ≡ length cut → length chains ≡ length cut → length (shown surviving_ranks cut chains) ≡ length cut
length_shown [] cut chains e f = omega (arith, e)
length_shown (top ∷ surviving_ranks) [] chains e f = absurd (omega (arith, e))
length_shown (top ∷ surviving_ranks) (r ∷ rs) [] e f = absurd (omega (arith, f))
length_shown (top ∷ surviving_ranks) (r ∷ rs) (chain ∷ chains) e f = omega (arith, length_shown surviving_ranks rs chains (omega (arith, e)) (omega (arith, f)))

shown_at : (surviving_ranks cut : List ℕ) (chains : List (List Place)) (p : ℕ) → p < length surviving_ranks → p < length cut → p < length chains
    → get_or (shown surviving_ranks cut chains) p [] ≡ cond (nat_lt (slice_index cut p) (slice_index surviving_ranks p)) (get_or chains p []) []
shown_at [] cut chains p t c h = absurd (omega (arith, t))
shown_at (top ∷ surviving_ranks) [] chains p t c h = absurd (omega (arith, c))
shown_at (top ∷ surviving_ranks) (r ∷ rs) [] p t c h = absurd (omega (arith, h))
shown_at (top ∷ surviving_ranks) (r ∷ rs) (chain ∷ chains) zero t c h = refl
shown_at (top ∷ surviving_ranks) (r ∷ rs) (chain ∷ chains) (suc p) t c h = shown_at surviving_ranks rs chains p (omega (arith, t)) (omega (arith, c)) (omega (arith, h))

module _ (surviving_ranks cut chain_ends : List ℕ) (arena : List (List Place)) (each : length surviving_ranks ≡ length cut) (headed : length chain_ends ≡ length cut) where
  as_many_chains : length (chains_at arena chain_ends) ≡ length cut
  as_many_chains = length-map chain_ends (λ h. get_or arena h []) ∙ headed

  pub length_all : length (shown surviving_ranks cut (chains_at arena chain_ends)) ≡ length cut
  length_all = length_shown surviving_ranks cut (chains_at arena chain_ends) each as_many_chains

  pub shown_below : (p : ℕ) → p < length cut → slice_index cut p < slice_index surviving_ranks p → get_or (shown surviving_ranks cut (chains_at arena chain_ends)) p [] ≡ get_or arena (slice_index chain_ends p) []
  shown_below p lt below =
      shown_at surviving_ranks cut (chains_at arena chain_ends) p (omega (arith, each)) lt (omega (arith, as_many_chains))
      ∙ cond-true (nat_lt (slice_index cut p) (slice_index surviving_ranks p)) _ _ (lt-ltb (slice_index cut p) (slice_index surviving_ranks p) below)
      ∙ chain_at arena chain_ends p (omega (arith, headed))

  pub shown_none : (p : ℕ) → p < length cut → slice_index surviving_ranks p ≤ slice_index cut p → get_or (shown surviving_ranks cut (chains_at arena chain_ends)) p [] ≡ []
  shown_none p lt above =
      shown_at surviving_ranks cut (chains_at arena chain_ends) p (omega (arith, each)) lt (omega (arith, as_many_chains))
      ∙ cond-false (nat_lt (slice_index cut p) (slice_index surviving_ranks p)) _ _ (le-ltb (slice_index cut p) (slice_index surviving_ranks p) above)

-- those that are due are those that are there
given_if : (b : Bool) (chain : List Place) (rest due : List (List Place)) → (b ≡ true → chain ≢ []) → due ≡ given rest → cond b (chain ∷ due) due ≡ given (cond b chain [] ∷ rest)
given_if true [] rest due some e = absurd (some refl refl)
given_if true (x ∷ xs) rest due some e = ap (λ (cs : List (List Place)). (x ∷ xs) ∷ cs) e
given_if false chain rest due some e = e

given_due : (surviving_ranks cut : List ℕ) (chains : List (List Place)) → length surviving_ranks ≡ length cut → length chains ≡ length cut
    → ((p : ℕ) → p < length cut → slice_index cut p < slice_index surviving_ranks p → get_or chains p [] ≢ []) → needed_chains surviving_ranks cut chains ≡ given (shown surviving_ranks cut chains)
given_due [] cut chains e f some = refl
given_due (top ∷ surviving_ranks) [] chains e f some = absurd (omega (arith, e))
given_due (top ∷ surviving_ranks) (r ∷ rs) [] e f some = absurd (omega (arith, f))
given_due (top ∷ surviving_ranks) (r ∷ rs) (chain ∷ chains) e f some =
    given_if (nat_lt r top) chain (shown surviving_ranks rs chains) (needed_chains surviving_ranks rs chains) (λ t. some 0 (omega arith) (ltb-true r top t))
    (given_due surviving_ranks rs chains (omega (arith, e)) (omega (arith, f)) (λ p lt below. some (suc p) (omega (arith, lt)) below))

pub given_reasons : (accepted : List Report) (failed surviving_ranks cut : List ℕ) (chains : List (List Place)) → IsStage accepted failed surviving_ranks cut chains
    → needed_chains surviving_ranks cut chains ≡ given (shown surviving_ranks cut chains)
given_reasons accepted failed surviving_ranks cut chains stage =
    given_due surviving_ranks cut chains (sym stage.complete) stage.kept (λ p lt below none. subst (IsReasonChain accepted failed) none (stage.grounded p lt below).reason)

-- ---- before the first round

none_at : (names : List Name) (p : ℕ) → get_or (no_chains names) p [] ≡ []
none_at [] p = refl
none_at (name ∷ names) zero = refl
none_at (name ∷ names) (suc p) = none_at names p

length_none : (names : List Name) → length (no_chains names) ≡ length names
length_none [] = refl
length_none (name ∷ names) = omega (arith, length_none names)

pub chosen_first : (accepted : List Report) (surviving_ranks chain_ends fell : List ℕ) (arena : List (List Place)) → IsStanding accepted surviving_ranks surviving_ranks chain_ends fell → AreChosenBy accepted surviving_ranks 0 surviving_ranks chain_ends arena
chosen_first accepted surviving_ranks chain_ends fell arena s failed h = (
  after_rounds accepted failed surviving_ranks surviving_ranks 0 h refl,
  ext_get_or [] (shown surviving_ranks surviving_ranks (chains_at arena chain_ends)) (no_chains (known accepted))
      (length_all surviving_ranks surviving_ranks chain_ends arena refl s.headed ∙ s.complete ∙ sym (length_none (known accepted)))
      (λ p lt. shown_none surviving_ranks surviving_ranks chain_ends arena refl s.headed p (omega (arith, lt, length_all surviving_ranks surviving_ranks chain_ends arena refl s.headed)) (omega arith) ∙ sym (none_at (known accepted) p)),
)

-- ---- one round more

module _ (accepted : List Report) (surviving_ranks cut next chain_ends after fell since : List ℕ) (arena later : List (List Place))
    (s : IsStanding accepted surviving_ranks cut chain_ends fell) (n : IsStanding accepted surviving_ranks next after since) (ranks : AreNextRanks accepted cut next)
    (made : AreChainsAt accepted surviving_ranks cut chain_ends arena next after later) where
  abbrev old : List (List Place)
  old = shown surviving_ranks cut (chains_at arena chain_ends)

  abbrev new : List (List Place)
  new = shown surviving_ranks next (chains_at later after)

  abbrev was : List Position
  was = positions_from accepted 0 cut

  abbrev is : List Position
  is = positions_from accepted 0 next

  in_next : (p : ℕ) → p < length cut → p < length next
  in_next p lt = omega (arith, ranks.complete)

  position_was : (p : ℕ) → p < length cut → position_in was p ≡ position_at accepted p (slice_index cut p)
  position_was p lt = position_in_positions accepted p cut lt

  position_is : (p : ℕ) → p < length cut → position_in is p ≡ position_at accepted p (slice_index next p)
  position_is p lt = position_in_positions accepted p next (in_next p lt)

  rank_was : (p : ℕ) → p < length cut → rank accepted p (position_in was p) ≡ slice_index cut p
  rank_was p lt = ap (rank accepted p) (position_was p lt) ∙ rank_at accepted p (slice_index cut p) (omega (arith, s.within p lt, s.surviving p lt))

  rank_is : (p : ℕ) → p < length cut → rank accepted p (position_in is p) ≡ slice_index next p
  rank_is p lt = ap (rank accepted p) (position_is p lt) ∙ rank_at accepted p (slice_index next p) (omega (arith, s.within p lt, s.surviving p lt, (ranks.each p lt).before))

  above : (p : ℕ) → p < length cut → place_after accepted is p ≡ place_at accepted p (slice_index next p + 1)
  above p lt = ap (λ (r : ℕ). place_at accepted p (r + 1)) (rank_is p lt)

  -- a process that stays keeps its chain
  stays_shown : (p : ℕ) → p < length cut → slice_index next p ≡ slice_index cut p → (slice_index next p < slice_index surviving_ranks p → get_or later (slice_index after p) [] ≡ get_or arena (slice_index chain_ends p) [])
      → get_or new p [] ≡ get_or old p []
  stays_shown p lt e same = elim (cases_lt (slice_index next p) (slice_index surviving_ranks p)) [
    | inl below ↦
        shown_below surviving_ranks next after later n.each n.headed p (in_next p lt) below ∙ same below
        ∙ sym (shown_below surviving_ranks cut chain_ends arena s.each s.headed p lt (omega (arith, below, e)))
    | inr top ↦
        shown_none surviving_ranks next after later n.each n.headed p (in_next p lt) top
        ∙ sym (shown_none surviving_ranks cut chain_ends arena s.each s.headed p lt (omega (arith, top, e)))
  ]

  -- where no process falls, the chains are the same
  pub chosen_still : (t : ℕ) → cut ≡ next → AreChosenBy accepted surviving_ranks t cut chain_ends arena → AreChosenBy accepted surviving_ranks t next after later
  chosen_still t same chosen failed h =
      subst (λ (z : List ℕ). ChainsAfter accepted failed t (positions_from accepted 0 z) new) same
      (subst (λ (z : List (List Place)). ChainsAfter accepted failed t was z) all (chosen failed h))
    where
      each : (p : ℕ) → p < length cut → IsChainAt accepted surviving_ranks cut chain_ends arena p (slice_index next p) (get_or later (slice_index after p) []) → get_or new p [] ≡ get_or old p []
      each p lt (inl stays) = stays_shown p lt stays.0 stays.1
      each p lt (inr falls) = absurd (omega (arith, falls.1.0, ap (λ (z : List ℕ). slice_index z p) same))

      all : old ≡ new
      all = ext_get_or [] old new (length_all surviving_ranks cut chain_ends arena s.each s.headed ∙ sym ranks.complete ∙ sym (length_all surviving_ranks next after later n.each n.headed)) (λ p lt.
          let in_cut : p < length cut = omega (arith, lt, length_all surviving_ranks cut chain_ends arena s.each s.headed) in
          sym (each p in_cut (made p (in_next p in_cut))))

  module _ (failed : List ℕ) (h : AreSurvivingRanks accepted failed surviving_ranks) where
    goes_on : (p q : ℕ) → p < length cut → q < length cut → slice_index next p < slice_index cut p → GoesOnAt accepted surviving_ranks cut chain_ends arena p (slice_index next p) q (get_or later (slice_index after p) [])
        → GoesOn accepted failed was old q (place_after accepted is p) (get_or new p [])
    goes_on p q pin qin falls (inl top) =
        inl (
          subst (IsLastSurviving accepted failed q) (sym (position_was q qin ∙ ap (position_at accepted q) top.0)) (h.last q (omega (arith, s.each))),
          shown_below surviving_ranks next after later n.each n.headed p (in_next p pin) (omega (arith, falls, s.surviving p pin)) ∙ top.1
              ∙ ap (λ (k : Position). (record { process = q; position = k }) ∷ place_at accepted p (slice_index next p + 1) ∷ []) (sym (position_was q qin))
              ∙ ap (λ (x : Place). (record { process = q; position = position_in was q }) ∷ x ∷ []) (sym (above p pin)),
        )
    goes_on p q pin qin falls (inr lower) =
        inr (
          λ last. absurd (omega (
            arith,
            lower.0,
            last.greatest (position_at accepted q (slice_index surviving_ranks q)) (h.last q (omega (arith, s.each))).surviving,
            rank_was q qin,
            rank_at accepted q (slice_index surviving_ranks q) (h.within q (omega (arith, s.each))),
          )),
          shown_below surviving_ranks next after later n.each n.headed p (in_next p pin) (omega (arith, falls, s.surviving p pin)) ∙ lower.1
              ∙ ap (λ (front : List Place). front ++ place_at accepted p (slice_index next p + 1) ∷ []) (sym (shown_below surviving_ranks cut chain_ends arena s.each s.headed q qin lower.0))
              ∙ ap (λ (x : Place). get_or old q [] ++ x ∷ []) (sym (above p pin)),
        )

    next_chain : (p : ℕ) → p < length cut → IsChainAt accepted surviving_ranks cut chain_ends arena p (slice_index next p) (get_or later (slice_index after p) []) → IsNextChain accepted failed was old is p (get_or new p [])
    next_chain p pin (inl stays) =
        inl (position_is p pin ∙ ap (position_at accepted p) stays.0 ∙ sym (position_was p pin), stays_shown p pin stays.0 stays.1)
    next_chain p pin (inr falls) =
        let q = falls.0 in
        let cause = falls.1 in
        inr (
          λ e. absurd (omega (arith, cause.0, rank_was p pin, rank_is p pin, ap (rank accepted p) e)),
          (
            q,
            record {
              one = omega (arith, cause.1, s.complete);
              knows = subst (λ (x : Place). Knows accepted x q (position_in was q)) (sym (above p pin))
                  (subst (Knows accepted (place_at accepted p (slice_index next p + 1)) q) (sym (position_was q cause.1)) cause.2);
              first = λ j lt knows.
                  let jin : j < length cut = omega (arith, lt, s.complete) in
                  cause.3 j jin (subst (Knows accepted (place_at accepted p (slice_index next p + 1)) j) (position_was j jin)
                  (subst (λ (x : Place). Knows accepted x j (position_in was j)) (above p pin) knows));
            },
            goes_on p q pin cause.1 cause.0 falls.2,
          ),
        )

  -- where one does, they are those after one round more
  pub chosen_more : (t : ℕ) → cut ≢ next → AreChosenBy accepted surviving_ranks t cut chain_ends arena → AreChosenBy accepted surviving_ranks (suc t) next after later
  chosen_more t changed chosen failed h = (
    was,
    old,
    chosen failed h,
    is_round accepted cut next s.complete (λ p lt. omega (arith, s.within p lt, s.surviving p lt)) ranks,
    λ e. changed (same_ranks accepted cut next (sym ranks.complete) (λ p lt. omega (arith, s.within p lt, s.surviving p lt))
        (λ p lt. let in_cut : p < length cut = omega (arith, lt, ranks.complete) in omega (arith, s.within p in_cut, s.surviving p in_cut, (ranks.each p in_cut).before)) e),
    record {
      complete = length_all surviving_ranks next after later n.each n.headed ∙ ranks.complete ∙ s.complete;
      each = λ p lt. let in_cut : p < length cut = omega (arith, lt, s.complete) in next_chain failed h p in_cut (made p (in_next p in_cut));
    },
  )

-- ---- a chain that a round makes

-- what goes on from q, up to its last place: its last surviving place, or its chain
abbrev pub BeginsAt : List Report → List ℕ → List ℕ → List ℕ → List (List Place) → ℕ → List Place → Type 0
BeginsAt accepted surviving_ranks cut chain_ends arena q front =
    ((slice_index cut q ≡ slice_index surviving_ranks q) × (front ≡ place_at accepted q (slice_index cut q) ∷ []))
    ⊎ ((slice_index cut q < slice_index surviving_ranks q) × (front ≡ get_or arena (slice_index chain_ends q) []))

pub goes_on_at : (accepted : List Report) (surviving_ranks cut chain_ends : List ℕ) (arena : List (List Place)) (p r q : ℕ) (front chain : List Place) (x : Place) → BeginsAt accepted surviving_ranks cut chain_ends arena q front
    → chain ≡ front ++ x ∷ [] → x ≡ place_at accepted p (r + 1) → GoesOnAt accepted surviving_ranks cut chain_ends arena p r q chain
goes_on_at accepted surviving_ranks cut chain_ends arena p r q front chain x (inl top) is at =
    inl (top.0, is ∙ ap (λ (ys : List Place). ys ++ x ∷ []) top.1 ∙ ap (λ (y : Place). place_at accepted q (slice_index cut q) ∷ y ∷ []) at)
goes_on_at accepted surviving_ranks cut chain_ends arena p r q front chain x (inr lower) is at =
    inr (lower.0, is ∙ ap (λ (ys : List Place). ys ++ x ∷ []) lower.1 ∙ ap (λ (y : Place). get_or arena (slice_index chain_ends q) [] ++ y ∷ []) at)

-- ---- while a round runs

-- The chains of the processes before the i-th, over the arena that the round began with.
abbrev pub AreChainsTo : List Report → List ℕ → List ℕ → List ℕ → List (List Place) → ℕ → List ℕ → List ℕ → List (List Place) → Type 0
AreChainsTo accepted surviving_ranks cut chain_ends arena i next after later =
    (p : ℕ) → p < i → IsChainAt accepted surviving_ranks cut chain_ends arena p (slice_index next p) (get_or later (slice_index after p) [])

module _ (accepted : List Report) (surviving_ranks cut chain_ends : List ℕ) (arena : List (List Place)) (surviving : (p : ℕ) → p < length cut → slice_index cut p ≤ slice_index surviving_ranks p) where
  -- a chain stays one where more come
  chain_kept : (p r head : ℕ) (now more later : List (List Place)) → p < length cut → later ≡ now ++ more → (r < slice_index surviving_ranks p → head < length now)
      → IsChainAt accepted surviving_ranks cut chain_ends arena p r (get_or now head []) → IsChainAt accepted surviving_ranks cut chain_ends arena p r (get_or later head [])
  chain_kept p r head now more later pin grown there (inl stays) =
      inl (stays.0, λ below. chain_stays now more later head grown (there below) ∙ stays.1 below)
  chain_kept p r head now more later pin grown there (inr falls) =
      subst (IsChainAt accepted surviving_ranks cut chain_ends arena p r) (sym (chain_stays now more later head grown (there (omega (arith, falls.1.0, surviving p pin))))) (inr falls)

  -- and is one over the arena that it was made of
  goes_from : (p r q : ℕ) (chain : List Place) (now more : List (List Place)) → now ≡ arena ++ more → AreThere surviving_ranks cut chain_ends arena → q < length cut
      → GoesOnAt accepted surviving_ranks cut chain_ends now p r q chain → GoesOnAt accepted surviving_ranks cut chain_ends arena p r q chain
  goes_from p r q chain now more grown there qin (inl top) = inl top
  goes_from p r q chain now more grown there qin (inr lower) =
      inr (lower.0, lower.1 ∙ ap (λ (front : List Place). front ++ place_at accepted p (r + 1) ∷ []) (chain_stays arena more now (slice_index chain_ends q) grown (there q qin lower.0)))

  chain_from : (p r : ℕ) (chain : List Place) (now more : List (List Place)) → now ≡ arena ++ more → AreThere surviving_ranks cut chain_ends arena → p < length cut
      → IsChainAt accepted surviving_ranks cut chain_ends now p r chain → IsChainAt accepted surviving_ranks cut chain_ends arena p r chain
  chain_from p r chain now more grown there pin (inl stays) =
      inl (stays.0, λ below. stays.1 below ∙ chain_stays arena more now (slice_index chain_ends p) grown (there p pin (omega (arith, below, stays.0))))
  chain_from p r chain now more grown there pin (inr falls) =
      inr (falls.0, falls.1, goes_from p r falls.0 chain now more grown there falls.1.1 falls.2)

  pub chains_more : (i : ℕ) (next after : List ℕ) (now more later grown : List (List Place)) (r head : ℕ) → i < length cut → length next ≡ i → length after ≡ i
      → AreThere surviving_ranks cut chain_ends arena → now ≡ arena ++ grown → later ≡ now ++ more
      → ((p : ℕ) → p < i → slice_index next p < slice_index surviving_ranks p → slice_index after p < length now)
      → AreChainsTo accepted surviving_ranks cut chain_ends arena i next after now → IsChainAt accepted surviving_ranks cut chain_ends now i r (get_or later head [])
      → AreChainsTo accepted surviving_ranks cut chain_ends arena (i + 1) (next ++ r ∷ []) (after ++ head ∷ []) later
  chains_more i next after now more later grown r head iin reached headed there began longer kept before here =
      each_push (λ p x y. IsChainAt accepted surviving_ranks cut chain_ends arena p x (get_or later y [])) next after r head i reached headed
      (λ p lt. chain_kept p (slice_index next p) (slice_index after p) now more later (omega arith) longer (kept p lt) (before p lt))
      (chain_from i r (get_or later head []) now grown began there iin here)
