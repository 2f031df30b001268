-- What holds of the cuts of the rounds.
use Rattle.std.proofs.Common.{◌≡◌, inl, inr, ℕ, zero, suc, ◌≤◌, ◌<◌, true, false, List, [], ◌++◌, length, Option, Some, None, refl, sym, ap, ◌∙◌, subst, arith}
use Rattle.std.specs.Prelude.{slice_index, Contains}
use Rattle.std.specs.Option.{option_map_or, is_some}
use Rattle.std.proofs.lemmas.Bool.{cases_lt, true≢false}
use Rattle.std.proofs.lemmas.List.{ext_get_or, append-nil}
use Rattle.report_line.specs.declared.report.ReportKind.{ReportKind}
use Rattle.report_line.specs.declared.report.ReportKind.TheVariants.{Present}
use Rattle.report_line.specs.declared.report.Report.{Report}
use Rattle.report_line.specs.declared.report.Report.TheVariants.{Begin, Numbered}
use Rattle.stamp.specs.declared.stamp.Stamp.{Stamp}
use Rattle.chains.specs.declared.position.Position.{Position}
use Rattle.chains.specs.declared.position.Position.TheVariants.{At, Retired}
use Rattle.chains.specs.Processes.{Name, target_of, target_in, target_after, last_report}
use Rattle.chains.specs.Elements.{elements, stable, elements_of, stable_of, present_in, present_by, name_of}
use Rattle.chains.specs.Positions.{is_retired, rank, position_at, last_rank, position_in, IsSurviving, IsChosen}
use Rattle.knows_row.specs.Knowing.{KnowsRank, AreLawfulPlaces}
use Rattle.propagate.specs.Greatest.{IsConsistentCut}
use Rattle.propagate.specs.working.Ranks.{IsClearRank, RanksAfter, positions_from}
use Rattle.propagate.specs.Rounds.{AreSurvivingRanks}
use Rattle.knows_row.proofs.Laws.{at_element, at_end}
use Rattle.propagate.proofs.Ranked.{rank_at, rank_at_below, chosen_position, position_in_positions}

-- ---- a retired process has no present state

no_present_by : (s : Stamp) (a : ReportKind) → is_some (target_in a) ≡ true → present_by s a ≡ []
no_present_by s Present e = absurd (true≢false (sym e))
no_present_by s _ e = refl

no_present : (o : Option Report) → is_some (target_after o) ≡ true → present_in o ≡ []
no_present None e = refl
no_present (Some (Begin p)) e = refl
no_present (Some (Numbered r)) e = no_present_by r.stamp r.action e

retired_named : (accepted : List Report) (name : Option Name) → option_map_or (λ (p : Name). is_some (target_of p accepted)) name false ≡ true
    → option_map_or (λ (p : Name). elements_of p accepted) name [] ≡ option_map_or (λ (p : Name). stable_of p accepted) name []
retired_named accepted None e = refl
retired_named accepted (Some p) e = ap (λ (xs : List Stamp). stable_of p accepted ++ xs) (no_present (last_report p accepted) e) ∙ append-nil (stable_of p accepted)

retired_lasts : (accepted : List Report) (p : ℕ) → is_retired accepted p ≡ true → elements accepted p ≡ stable accepted p
retired_lasts accepted p e = retired_named accepted (name_of accepted p) e

-- below a rank that may be chosen, each may
module _ (accepted : List Report) (failed : List ℕ) (p : ℕ) where
  chosen_element : (r : ℕ) → r ≤ length (elements accepted p) → (1 ≤ r → Contains failed p → r ≤ length (stable accepted p)) → IsChosen accepted failed p (position_at accepted p r)
  chosen_element zero le lasts = inl (at_element accepted p 0 (omega arith))
  chosen_element (suc r) le lasts = inr (subst (IsSurviving accepted failed p) (sym (at_element accepted p (suc r) le)) (omega arith, le, lasts (omega arith)))

  below_retired : (r : ℕ) → is_retired accepted p ≡ true → IsChosen accepted failed p (position_at accepted p r)
  below_retired r retired = elim (cases_lt (length (elements accepted p)) r) [
    | inl lt ↦ inr (subst (IsSurviving accepted failed p) (sym (at_end accepted p r lt)) retired)
    | inr ge ↦ chosen_element r ge (λ one fails. omega (arith, ge, ap (λ (xs : List Stamp). length xs) (retired_lasts accepted p retired)))
  ]

  below_chosen : (r : ℕ) (k : Position) → r ≤ rank accepted p k → IsChosen accepted failed p k → IsChosen accepted failed p (position_at accepted p r)
  below_chosen r k le (inl e) = chosen_element r (omega (arith, le, ap (rank accepted p) e)) (λ one fails. omega (arith, le, ap (rank accepted p) e))
  below_chosen r (At k) le (inr h) = chosen_element r (omega (arith, le, h.1)) (λ one fails. omega (arith, le, h.2 fails))
  below_chosen r Retired le (inr h) = below_retired r h

-- ---- the cuts of the rounds

module _ (accepted : List Report) (failed surviving_ranks : List ℕ) (h : AreSurvivingRanks accepted failed surviving_ranks) where
  pub after_complete : (t : ℕ) (cut : List ℕ) → RanksAfter accepted surviving_ranks t cut → length cut ≡ length surviving_ranks
  after_complete zero cut after = ap (λ (xs : List ℕ). length xs) after
  after_complete (suc t) cut after = after.2.complete ∙ after_complete t after.0 after.1

  pub after_below : (t : ℕ) (cut : List ℕ) → RanksAfter accepted surviving_ranks t cut → (p : ℕ) → p < length surviving_ranks → slice_index cut p ≤ slice_index surviving_ranks p
  after_below zero cut after p lt = omega (arith, ap (λ (xs : List ℕ). slice_index xs p) after)
  after_below (suc t) cut after p lt =
      omega (arith, after_below t after.0 after.1 p lt, (after.2.each p (omega (arith, lt, after_complete t after.0 after.1))).before)

  pub after_within : (t : ℕ) (cut : List ℕ) → RanksAfter accepted surviving_ranks t cut → (p : ℕ) → p < length surviving_ranks → slice_index cut p ≤ last_rank accepted p
  after_within t cut after p lt = omega (arith, after_below t cut after p lt, h.within p lt)

  pub after_chosen : (t : ℕ) (cut : List ℕ) → RanksAfter accepted surviving_ranks t cut → (p : ℕ) → p < length surviving_ranks → IsChosen accepted failed p (position_at accepted p (slice_index cut p))
  after_chosen t cut after p lt =
      below_chosen accepted failed p (slice_index cut p) (position_at accepted p (slice_index surviving_ranks p))
      (omega (arith, after_below t cut after p lt, rank_at accepted p (slice_index surviving_ranks p) (h.within p lt))) (inr (h.last p lt).surviving)

  -- a consistent cut stays at or before each of them
  module _ (laws : AreLawfulPlaces accepted) (d : List Position) (one : IsConsistentCut accepted failed d) where
    first_above : (p : ℕ) → p < length surviving_ranks → (k : Position) → IsChosen accepted failed p k → rank accepted p k ≤ slice_index surviving_ranks p
    first_above p lt k (inl e) = omega (arith, ap (rank accepted p) e)
    first_above p lt k (inr s) = omega (arith, (h.last p lt).greatest k s, rank_at_below accepted p (slice_index surviving_ranks p))

    pub stays_below : (t : ℕ) (cut : List ℕ) → RanksAfter accepted surviving_ranks t cut → (p : ℕ) → p < length surviving_ranks → rank accepted p (position_in d p) ≤ slice_index cut p
    stays_below zero cut after p lt =
        omega (arith, ap (λ (xs : List ℕ). slice_index xs p) after, first_above p lt (position_in d p) (one.is_cut.chosen p (subst (λ n. p < n) h.complete lt)))
    stays_below (suc t) cut after p lt = elim (cases_lt (slice_index cut p) (rank accepted p (position_in d p))) [
      | inr ge ↦ ge
      | inl past ↦
          let same = after_complete t after.0 after.1 in
          let next = after.2.each p (omega (arith, lt, same)) in
          let chosen : (q : ℕ) → q < length surviving_ranks → IsChosen accepted failed q (position_in d q) = λ q small. one.is_cut.chosen q (subst (λ n. q < n) h.complete small) in
          let clear : IsClearRank accepted after.0 p (rank accepted p (position_in d p)) = λ q small k.
          let qin : q < length surviving_ranks = omega (arith, small, same) in
          let known : KnowsRank accepted p (rank accepted p (position_in d p)) q (rank accepted q (position_in d q))
          = laws.earlier p (rank accepted p (position_in d p)) q (rank accepted q (position_in d q)) (slice_index after.0 q) (stays_below t after.0 after.1 q qin) k in
          one.consistent p q (subst (λ n. p < n) h.complete lt) (subst (λ n. q < n) h.complete qin)
          (rw (chosen_position accepted p failed (position_in d p) (chosen p lt), chosen_position accepted q failed (position_in d q) (chosen q qin)) at known) in
          absurd (next.greatest (rank accepted p (position_in d p)) past (stays_below t after.0 after.1 p lt) clear)
    ]

-- ---- equal positions, equal ranks

pub same_ranks : (accepted : List Report) (a b : List ℕ) → length a ≡ length b → ((p : ℕ) → p < length a → slice_index a p ≤ last_rank accepted p) → ((p : ℕ) → p < length b → slice_index b p ≤ last_rank accepted p)
    → positions_from accepted 0 a ≡ positions_from accepted 0 b → a ≡ b
same_ranks accepted a b same first second e = ext_get_or 0 a b same (λ p lt.
    sym (rank_at accepted p (slice_index a p) (first p lt))
    ∙ ap (rank accepted p) (sym (position_in_positions accepted p a lt) ∙ ap (λ (xs : List Position). position_in xs p) e ∙ position_in_positions accepted p b (omega (arith, lt, same)))
    ∙ rank_at accepted p (slice_index b p) (second p (omega (arith, lt, same))))
