-- A safe cut stays one as reports are accepted; and so no line is below an earlier garbage line.
use Rattle.std.proofs.Common.{◌≡◌, ℕ, zero, suc, ◌+◌, ◌≤◌, ◌<◌, false, List, [], ◌∷◌, ◌++◌, Option, Some, length, map, refl, sym, ◌∙◌, ap, subst, inl, inr, arith}
use Rattle.std.specs.Prelude.{Contains, slice_get, is_some}
use Rattle.std.specs.List.{list_any, range_with_len}
use Rattle.std.specs.Option.{option_map_or}
use Rattle.std.specs.Str.{bytes_eq}
use Rattle.std.proofs.lemmas.Bool.{cases_Bool, cases_lt, true≢false, cond-false, or_parts}
use Rattle.std.proofs.lemmas.List.Folds.{list_any-append}
use Rattle.std.proofs.lemmas.List.FromFn.{length-range_with_len, get_or-range_with_len}
use Rattle.std.proofs.lemmas.Option.{slice_get_within}
use Rattle.stamp.specs.declared.stamp.Stamp.{Stamp}
use Rattle.report_line.specs.declared.report.Report.{Report}
use Rattle.report_line.specs.histories.History.{Name, History}
use Rattle.chains.specs.declared.position.Position.{Position}
use Rattle.chains.specs.declared.position.Position.TheVariants.{At, Retired}
use Rattle.chains.specs.Processes.{known, is_birth_of, target_after, target_of}
use Rattle.chains.specs.Elements.{name_of, stable, stable_of}
use Rattle.chains.specs.Positions.{position_in, IsChosen}
use Rattle.chains.specs.Knowledge.{Knows}
use Rattle.chains.specs.Folded.{IsFolded}
use Rattle.chains.specs.Greatest.{IsConsistentCut, IsGreatestCut}
use Rattle.chains.proofs.Keeps.{named}
use Rattle.chains.proofs.LookUps.{known_from}
use Rattle.chains.proofs.Reaching.{fit_before}
use Rattle.law_histories.proofs.Bytes.{bytes_are}
use Rattle.law_lines.specs.Places.{IsPremise}
use Rattle.law_lines.proofs.Closing.{closed_is_consistent}
use Rattle.law_lines.proofs.Known.{same_number_of}
use Rattle.law_lines.proofs.GarbageLine.{longer, same_position, unborn_later, longer_is_consistent}
use Rattle.law_lines.proofs.Longer.{LeadsTo, leads_on, name_on, agrees_back}
use Rattle.law_histories.specs.Kept.{Cut}
use Rattle.law_lines.specs.Settled.{position_for}
use Rattle.law_lines.specs.Garbage.{Lasts, IsSafeCut, SafeCutsGrow, NoLineIsBelowGarbage, WhoIsGoneWasUnborn}
use Rattle.law_lines.specs.Runs.{Made, Accepts, Settles, Run, current, accepted, IsObeyed, settles}
use Rattle.law_lines.proofs.Looking.{known_any, any_known}
use Rattle.law_lines.proofs.Born.{unknown_lasts_not}
use Rattle.law_lines.proofs.Made.{unknown_has_nothing}
use Rattle.law_lines.proofs.SettledClosing.{known_number}
use Rattle.law_lines.proofs.Limits.{position_named}
use Rattle.law_lines.proofs.Safe.{listed_at, listed_is_cut, listed_consistent, is_below, stays_safe}
use Rattle.law_lines.proofs.Runs.{made_within, accepts_before, agrees_now}

one_name : (p q : Name) → Some p ≡ Some q → p ≡ q
one_name p q is = cc

in_range : (n p : ℕ) → p < n → Contains (range_with_len 0 n) p
in_range n p less =
    let count : length (range_with_len 0 n) ≡ n = length-range_with_len 0 n in
    let there = get_or-range_with_len 0 n p p less in
    let zero_more : 0 + p ≡ p = omega arith in
    (p, omega arith, there ∙ zero_more)

-- what is chosen where the process failed lasts
chosen_lasts : (xs : List Report) (all : List ℕ) (i : ℕ) (p : Name) → name_of xs i ≡ Some p → Contains all i → (k : Position) → IsChosen xs all i k → Lasts xs p k
chosen_lasts xs all i p is there k (inl unborn) = subst (λ (j : Position). Lasts xs p j) (sym unborn) (let least : 0 ≤ length (stable_of p xs) = omega arith in least)
chosen_lasts xs all i p is there (At k) (inr w) =
    let few : k ≤ length (stable xs i) = w.2 there in
    let same : length (stable xs i) ≡ length (stable_of p xs) = ap (λ (l : List Stamp). length l) (ap (λ (o : Option Name). option_map_or (λ name. stable_of name xs) o []) is) in
    omega arith
chosen_lasts xs all i p is there Retired (inr w) = sym (ap (λ (o : Option Name). option_map_or (λ name. is_some (target_of name xs)) o false) is) ∙ w

-- who is not known is at 0
unknown_at_zero : (xs : List Report) → IsFolded xs → (p : Name) → list_any (is_birth_of p) xs ≡ false → (k : Position) → Lasts xs p k → k ≡ At 0
unknown_at_zero xs folded p unknown (At zero) lasts = refl
unknown_at_zero xs folded p unknown (At (suc k)) lasts =
    let none : length (stable_of p xs) ≡ 0 = ap (λ (l : List Stamp). length l) (unknown_lasts_not folded p unknown) in absurd (omega arith)
unknown_at_zero xs folded p unknown Retired lasts =
    let none : is_some (target_of p xs) ≡ false = ap (λ o. is_some (target_after o)) (unknown_has_nothing folded p unknown).last in absurd (true≢false (sym lasts ∙ none))

-- ---- a report more

module _ (root : Name) (h : History) (front : List Report) (r : Report) (cut : Name → Position) (folded : IsFolded front) (safe : IsSafeCut front cut)
    (premise : IsPremise root h (front ++ r ∷ [])) where
  way : LeadsTo front (front ++ r ∷ [])
  way = leads_on (r ∷ []) front (λ b c x is. fit_before (front ++ r ∷ []) b c x premise.folded is)

  abbrev all_before : List ℕ
  all_before = range_with_len 0 (length (known front))

  abbrev all_after : List ℕ
  all_after = range_with_len 0 (length (known (front ++ r ∷ [])))

  abbrev line_before : List Position
  line_before = map cut (known front)

  every : (p : ℕ) → p < length (known front) → Contains (range_with_len 0 (length (known front))) p
  every p less = in_range (length (known front)) p less

  premise_before : IsPremise root h front
  premise_before = record { folded = folded; lawful = premise.lawful; agrees = agrees_back way root h premise.agrees }

  longer_one : IsConsistentCut (front ++ r ∷ []) (range_with_len 0 (length (known (front ++ r ∷ []))))
      (longer root h front (front ++ r ∷ []) folded way premise.lawful premise.agrees (range_with_len 0 (length (known front))) every (map cut (known front))
      (listed_is_cut front cut folded safe (range_with_len 0 (length (known front)))))
  longer_one =
      longer_is_consistent root h front (front ++ r ∷ []) folded way premise.lawful premise.agrees (range_with_len 0 (length (known front))) every (map cut (known front))
      (listed_is_cut front cut folded safe (range_with_len 0 (length (known front)))) (range_with_len 0 (length (known (front ++ r ∷ []))))
      ((closed_is_consistent root h front premise_before (range_with_len 0 (length (known front))) (map cut (known front))
      (listed_is_cut front cut folded safe (range_with_len 0 (length (known front))))).1 (listed_consistent front cut folded safe))

  abbrev later_line : List Position
  later_line =
      longer root h front (front ++ r ∷ []) folded way premise.lawful premise.agrees (range_with_len 0 (length (known front))) every (map cut (known front))
      (listed_is_cut front cut folded safe (range_with_len 0 (length (known front))))

  unborn_if_new : (p : Name) → list_any (is_birth_of p) front ≡ false → cut p ≡ At 0
  unborn_if_new p unknown = unknown_at_zero front folded p unknown (cut p) (safe.lasts p)

  same_cut : (i : ℕ) (p : Name) → name_of (front ++ r ∷ []) i ≡ Some p → position_in later_line i ≡ cut p
  same_cut i p is =
      elim (cases_lt i (length (known front))) [
        | inl old ↦
            (let n = named front i old in
            let same : n.0 ≡ p = one_name n.0 p (sym (name_on way i n.0 n.1) ∙ is) in
            same_position root h front (front ++ r ∷ []) folded way premise.lawful premise.agrees (range_with_len 0 (length (known front))) every (map cut (known front))
            (listed_is_cut front cut folded safe (range_with_len 0 (length (known front)))) i
            ∙ (listed_at front cut folded safe i n.0 n.1 ∙ ap cut same))
        | inr new ↦
            unborn_later root h front (front ++ r ∷ []) folded way premise.lawful premise.agrees (range_with_len 0 (length (known front))) every (map cut (known front))
            (listed_is_cut front cut folded safe (range_with_len 0 (length (known front)))) i new
            ∙ sym (unborn_if_new p (unknown_new i p is new))
      ]
    where
      unknown_new : (j : ℕ) (q : Name) → name_of (front ++ r ∷ []) j ≡ Some q → length (known front) ≤ j → list_any (is_birth_of q) front ≡ false
      unknown_new j q there past =
          elim (cases_Bool (list_any (is_birth_of q) front)) [
            | inr none ↦ none
            | inl is_known ↦
                (let old = known_number front q (any_known front q is_known) in
                let less : old.0 < length (known front) = slice_get_within (known front) old.0 q old.1 in
                let same : old.0 ≡ j = same_number_of (front ++ r ∷ []) premise.folded old.0 j q (name_on way old.0 q old.1) there in
                absurd (omega arith))
          ]

  pub grows : IsSafeCut (front ++ r ∷ []) cut
  grows = record {
    lasts = λ p.
        elim (cases_Bool (list_any (is_birth_of p) (front ++ r ∷ []))) [
          | inl is_known ↦
              (let i = known_number (front ++ r ∷ []) p (any_known (front ++ r ∷ []) p is_known) in
              let less : i.0 < length (known (front ++ r ∷ [])) = slice_get_within (known (front ++ r ∷ [])) i.0 p i.1 in
              chosen_lasts (front ++ r ∷ []) (range_with_len 0 (length (known (front ++ r ∷ [])))) i.0 p i.1 (in_range (length (known (front ++ r ∷ []))) i.0 less) (cut p)
              (subst (λ (k : Position). IsChosen (front ++ r ∷ []) (range_with_len 0 (length (known (front ++ r ∷ [])))) i.0 k) (same_cut i.0 p i.1) (longer_one.is_cut.chosen i.0 less)))
          | inr unknown ↦
              subst (λ (k : Position). Lasts (front ++ r ∷ []) p k) (sym (unborn_if_new p (unknown_before p unknown)))
              (let least : 0 ≤ length (stable_of p (front ++ r ∷ [])) = omega arith in least)
        ];
    consistent = λ i j p q is is' knows.
        longer_one.consistent i j (slice_get_within (known (front ++ r ∷ [])) i p is) (slice_get_within (known (front ++ r ∷ [])) j q is')
        (subst (λ (k : Position). Knows (front ++ r ∷ []) (record { process = i; position = k }) j (position_in later_line j)) (sym (same_cut i p is))
        (subst (λ (k : Position). Knows (front ++ r ∷ []) (record { process = i; position = cut p }) j k) (sym (same_cut j q is')) knows));
  }
    where
      unknown_before : (p : Name) → list_any (is_birth_of p) (front ++ r ∷ []) ≡ false → list_any (is_birth_of p) front ≡ false
      unknown_before p none = (or_parts (list_any (is_birth_of p) front) (list_any (is_birth_of p) (r ∷ [])) (sym (list_any-append (is_birth_of p) front (r ∷ [])) ∙ none)).0

pub safe_cuts_grow : SafeCutsGrow
safe_cuts_grow root h front r cut folded safe premise = grows root h front r cut folded safe premise

-- ---- a garbage line is safe

position_none : (names : List Name) (cut : List Position) (p : Name) → ((j : ℕ) → slice_get names j ≡ Some p → ⊥) → position_for names cut p ≡ At 0
position_none [] cut p none = refl
position_none (q ∷ names) [] p none = refl
position_none (q ∷ names) (k ∷ cut) p none =
    elim (cases_Bool (bytes_eq p q)) [
      | inl same ↦ absurd (none 0 (ap Some (sym (bytes_are p q same))))
      | inr other ↦ cond-false (bytes_eq p q) _ _ other ∙ position_none names cut p (λ j there. none (suc j) there)
    ]

garbage_is_safe : (xs : List Report) → IsFolded xs → (all : List ℕ) (garbage : List Position) → ((q : ℕ) → q < length (known xs) → Contains all q) → IsGreatestCut xs all garbage
    → IsSafeCut xs (position_for (known xs) garbage)
garbage_is_safe xs folded all garbage each greatest = record {
  lasts = λ p.
      elim (cases_Bool (list_any (is_birth_of p) xs)) [
        | inl is_known ↦
            (let i = known_number xs p (any_known xs p is_known) in
            let less : i.0 < length (known xs) = slice_get_within (known xs) i.0 p i.1 in
            subst (λ (k : Position). Lasts xs p k) (sym (position_named xs garbage i.0 p folded i.1))
            (chosen_lasts xs all i.0 p i.1 (each i.0 less) (position_in garbage i.0) (greatest.is_one.is_cut.chosen i.0 less)))
        | inr unknown ↦
            subst (λ (k : Position). Lasts xs p k)
            (sym (position_none (known xs) garbage p (λ j there. true≢false (sym (known_any xs p (known_from xs j p there)) ∙ unknown))))
            (let least : 0 ≤ length (stable_of p xs) = omega arith in least)
      ];
  consistent = λ i j p q is is' knows.
      greatest.is_one.consistent i j (slice_get_within (known xs) i p is) (slice_get_within (known xs) j q is')
      (subst (λ (k : Position). Knows xs (record { process = i; position = k }) j (position_in garbage j)) (position_named xs garbage i p folded is)
      (subst (λ (k : Position). Knows xs (record { process = i; position = position_for (known xs) garbage p }) j k) (position_named xs garbage j q folded is') knows));
}

-- ---- over a run

settles_before : {root : Name} {run : Run} {failed : List ℕ} {line : List Position} {c : Cut} → IsObeyed root (Settles failed line c ∷ run) → IsObeyed root run × IsGreatestCut (accepted run) failed line
settles_before (settles obeyed greatest has) = (obeyed, greatest)

safe_after : (root : Name) (run more : Run) (cut : Name → Position) → IsObeyed root (more ++ run) → IsSafeCut (accepted run) cut → IsSafeCut (accepted (more ++ run)) cut
unfolding accepted current
safe_after root run [] cut obeyed safe = safe
safe_after root run (Made e s ∷ more) cut obeyed safe = safe_after root run more cut (made_within obeyed).1 safe
safe_after root run (Accepts m r ∷ more) cut obeyed safe =
    let before = accepts_before obeyed in
    safe_cuts_grow root (current (more ++ run)) (accepted (more ++ run)) r cut (agrees_now before).folded (safe_after root run more cut before safe) (agrees_now obeyed)
safe_after root run (Settles failed line c ∷ more) cut obeyed safe =
    let before = settles_before obeyed in
    stays_safe (accepted (more ++ run)) cut failed line (agrees_now before.0).folded (safe_after root run more cut before.0 safe) before.1

obeyed_front : (root : Name) (run more : Run) → IsObeyed root (more ++ run) → IsObeyed root run
obeyed_front root run [] obeyed = obeyed
obeyed_front root run (Made e s ∷ more) obeyed = obeyed_front root run more (made_within obeyed).1
obeyed_front root run (Accepts m r ∷ more) obeyed = obeyed_front root run more (accepts_before obeyed)
obeyed_front root run (Settles failed line c ∷ more) obeyed = obeyed_front root run more (settles_before obeyed).0

pub no_line_is_below_garbage : NoLineIsBelowGarbage
no_line_is_below_garbage root run more all failed garbage line i p obeyed each lowest greatest is =
    let obeyed_before = obeyed_front root run more obeyed in
    is_below (accepted (more ++ run)) (position_for (known (accepted run)) garbage) (agrees_now obeyed).folded
    (safe_after root run more (position_for (known (accepted run)) garbage) obeyed (garbage_is_safe (accepted run) (agrees_now obeyed_before).folded all garbage each lowest))
    failed line i p greatest is

pub who_is_gone_was_unborn : WhoIsGoneWasUnborn
who_is_gone_was_unborn root run more all garbage p obeyed each lowest unknown =
    let cut = position_for (known (accepted run)) garbage in
    let safe = safe_after root run more (position_for (known (accepted run)) garbage) obeyed
    (garbage_is_safe (accepted run) (agrees_now (obeyed_front root run more obeyed)).folded all garbage each lowest) in
    elim (cases_Bool (list_any (is_birth_of p) (accepted (more ++ run)))) [
      | inl is_known ↦ absurd (unknown (any_known (accepted (more ++ run)) p is_known))
      | inr none ↦ unknown_at_zero (accepted (more ++ run)) (agrees_now obeyed).folded p none (position_for (known (accepted run)) garbage p) (safe.lasts p)
    ]
