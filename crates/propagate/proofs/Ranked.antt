-- Positions and their ranks.
use Rattle.std.proofs.Common.{◌≡◌, inl, inr, ℕ, zero, suc, ◌+◌, ◌≤◌, ◌<◌, Bool, true, false, cond, List, [], ◌∷◌, length, refl, sym, ap, ◌∙◌, subst, arith}
use Rattle.std.specs.Prelude.{slice_index, Contains, Option, None}
use Rattle.std.specs.Option.{option_map_or, is_some}
use Rattle.std.proofs.lemmas.Option.{slice_get_past}
use Rattle.std.proofs.lemmas.Bool.{cond-true, cases_lt, true≢false}
use Rattle.report_line.specs.declared.report.Report.{Report}
use Rattle.chains.specs.declared.position.Position.{Position}
use Rattle.chains.specs.declared.position.Position.TheVariants.{At, Retired}
use Rattle.chains.specs.Processes.{Name, known, target_of}
use Rattle.chains.specs.Elements.{elements, elements_of, name_of}
use Rattle.chains.specs.Positions.{is_retired, rank, position_at, last_rank, position_in, IsSurviving, IsChosen}
use Rattle.knows_row.proofs.Lasts.{last_above, last_below}
use Rattle.knows_row.proofs.Laws.{at_element, at_end}
use Rattle.propagate.specs.working.Ranks.{positions_from}

module _ (accepted : List Report) (p : ℕ) where
  retired_or : (b : Bool) (e : ℕ) → e < cond b (e + 1) e → b ≡ true
  retired_or true e h = refl
  retired_or false e h = absurd (omega arith)

  pub past_elements : length (elements accepted p) < last_rank accepted p → is_retired accepted p ≡ true
  past_elements h = retired_or (is_retired accepted p) (length (elements accepted p)) h

  pub last_retired : is_retired accepted p ≡ true → last_rank accepted p ≡ length (elements accepted p) + 1
  last_retired h = cond-true (is_retired accepted p) (length (elements accepted p) + 1) (length (elements accepted p)) h

  -- a rank that the process has is the rank of its position
  pub rank_at : (r : ℕ) → r ≤ last_rank accepted p → rank accepted p (position_at accepted p r) ≡ r
  rank_at r le = elim (cases_lt (length (elements accepted p)) r) [
    | inl lt ↦ ap (rank accepted p) (at_end accepted p r lt) ∙ omega (arith, lt, le, last_below accepted p)
    | inr ge ↦ ap (rank accepted p) (at_element accepted p r ge)
  ]

  pub rank_at_below : (r : ℕ) → rank accepted p (position_at accepted p r) ≤ r
  rank_at_below r = elim (cases_lt (length (elements accepted p)) r) [
    | inl lt ↦ let e = ap (rank accepted p) (at_end accepted p r lt) in omega (arith, lt, e)
    | inr ge ↦ let e = ap (rank accepted p) (at_element accepted p r ge) in omega (arith, e)
  ]

  -- a position that the process has is the one of its rank, which is at most the last
  surviving_at : (failed : List ℕ) (k : Position) → IsSurviving accepted failed p k → (rank accepted p k ≤ last_rank accepted p) × (position_at accepted p (rank accepted p k) ≡ k)
  surviving_at failed (At k) h = (omega (arith, h.1, last_above accepted p), at_element accepted p k h.1)
  surviving_at failed Retired h = (omega (arith, last_retired h), at_end accepted p (length (elements accepted p) + 1) (omega arith))

  chosen_at : (failed : List ℕ) (k : Position) → IsChosen accepted failed p k → (rank accepted p k ≤ last_rank accepted p) × (position_at accepted p (rank accepted p k) ≡ k)
  chosen_at failed k (inl e) = rw e (omega arith, at_element accepted p 0 (omega arith))
  chosen_at failed k (inr h) = surviving_at failed k h

  pub chosen_within : (failed : List ℕ) (k : Position) → IsChosen accepted failed p k → rank accepted p k ≤ last_rank accepted p
  chosen_within failed k h = (chosen_at failed k h).0

  pub chosen_position : (failed : List ℕ) (k : Position) → IsChosen accepted failed p k → position_at accepted p (rank accepted p k) ≡ k
  chosen_position failed k h = (chosen_at failed k h).1

  -- a process has the position of each rank up to the last
  pub has_position : (r : ℕ) → r ≤ last_rank accepted p → IsChosen accepted [] p (position_at accepted p r)
  has_position zero le = inl (at_element accepted p 0 (omega arith))
  has_position (suc r) le = elim (cases_lt (length (elements accepted p)) (suc r)) [
    | inl lt ↦ inr (subst (IsSurviving accepted [] p) (sym (at_end accepted p (suc r) lt)) (past_elements (omega arith)))
    | inr ge ↦ inr (subst (IsSurviving accepted [] p) (sym (at_element accepted p (suc r) ge)) (omega arith, ge, λ h. absurd (none p h)))
  ]
    where
      none : (q : ℕ) → ¬ Contains [] q
      none q h = omega (arith, h.1)

-- the positions of ranks
module _ (accepted : List Report) where
  pub length_positions : (i : ℕ) (cut : List ℕ) → length (positions_from accepted i cut) ≡ length cut
  length_positions i [] = refl
  length_positions i (r ∷ rs) = ap (λ n. suc n) (length_positions (suc i) rs)

  position_in_from : (i p : ℕ) (cut : List ℕ) → p < length cut → position_in (positions_from accepted i cut) p ≡ position_at accepted (i + p) (slice_index cut p)
  position_in_from i p [] lt = absurd (omega arith)
  position_in_from i zero (r ∷ rs) lt = let e : i ≡ i + 0 = omega arith in ap (λ q. position_at accepted q r) e
  position_in_from i (suc p) (r ∷ rs) lt =
      let e : suc i + p ≡ i + suc p = omega arith in
      position_in_from (suc i) p rs (omega arith) ∙ ap (λ q. position_at accepted q (slice_index rs p)) e

  pub position_in_positions : (p : ℕ) (cut : List ℕ) → p < length cut → position_in (positions_from accepted 0 cut) p ≡ position_at accepted p (slice_index cut p)
  position_in_positions p cut lt = let e : 0 + p ≡ p = omega arith in position_in_from 0 p cut lt ∙ ap (λ q. position_at accepted q (slice_index cut p)) e

no_element : (o : Option Name) (accepted : List Report) → o ≡ None → length (option_map_or (λ name. elements_of name accepted) o []) ≡ 0
no_element o accepted e = ap (λ (n : Option Name). length (option_map_or (λ name. elements_of name accepted) n [])) e

-- a process with a surviving position is known
pub surviving_known : (accepted : List Report) (failed : List ℕ) (p : ℕ) (k : Position) → IsSurviving accepted failed p k → p < length (known accepted)
surviving_known accepted failed p k h = elim (cases_lt p (length (known accepted))) [
  | inl lt ↦ lt
  | inr past ↦ absurd (nowhere k (slice_get_past (known accepted) p past) h)
]
  where
    nowhere : (j : Position) → name_of accepted p ≡ None → ¬ IsSurviving accepted failed p j
    nowhere (At n) none s = omega (arith, s.0, s.1, no_element (name_of accepted p) accepted none)
    nowhere Retired none s = true≢false (sym s ∙ ap (λ (o : Option Name). option_map_or (λ name. is_some (target_of name accepted)) o false) none)
