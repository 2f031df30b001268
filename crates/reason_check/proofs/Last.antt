-- Last surviving positions.
use Rattle.std.proofs.Common.{◌≡◌, ◌≢◌, ◌↔◌, inl, inr, ℕ, ◌≤◌, true, false, List, [], length, Option, Some, None, refl, sym, ap, ◌∙◌, subst, arith, length-append}
use Rattle.std.specs.Option.{option_map_or, is_some}
use Rattle.std.proofs.Math.Dec.{leb}
use Rattle.std.proofs.lemmas.Bool.{true≢false, cases_Bool, leb-true, le-leb}
use Rattle.std.proofs.lemmas.Option.{slice_get_past}
use Rattle.report_line.specs.declared.report.Report.{Report}
use Rattle.chains.specs.declared.position.Position.{Position}
use Rattle.chains.specs.declared.position.Position.TheVariants.{At, Retired}
use Rattle.stamp.specs.declared.stamp.Stamp.{Stamp}
use Rattle.report_line.specs.declared.report.ReportKind.{ReportKind}
use Rattle.chains.specs.Processes.{Name, known, target_of, last_report, target_in, target_after}
use Rattle.report_line.specs.declared.report.Report.TheVariants.{Begin, Numbered}
use Rattle.report_line.specs.declared.report.ReportKind.TheVariants.{Check, Present, Fork, Retire, Absorb}
use Rattle.chains.specs.Elements.{name_of, elements, elements_of, stable_of, present_by, present_in}
use Rattle.chains.specs.Positions.{IsSurviving, IsLastSurviving, IsChosen, is_retired, rank}

same_by_rank : (accepted : List Report) (failed : List ℕ) (p : ℕ) (a b : Position) → IsSurviving accepted failed p a → IsSurviving accepted failed p b → rank accepted p a ≡ rank accepted p b → a ≡ b
same_by_rank accepted failed p (At j) (At k) x y e = ap (λ (n : ℕ). At n) e
same_by_rank accepted failed p (At j) Retired x y e = absurd (omega (arith, x.1, e))
same_by_rank accepted failed p Retired (At k) x y e = absurd (omega (arith, y.1, e))
same_by_rank accepted failed p Retired Retired x y e = refl

-- there is but one
pub last_same : (accepted : List Report) (failed : List ℕ) (p : ℕ) (a b : Position) → IsLastSurviving accepted failed p a → IsLastSurviving accepted failed p b → a ≡ b
last_same accepted failed p a b x y =
    same_by_rank accepted failed p a b x.surviving y.surviving (let le = y.greatest a x.surviving in let ge = x.greatest b y.surviving in omega arith)

no_element : (o : Option Name) (accepted : List Report) → o ≡ None → length (option_map_or (λ name. elements_of name accepted) o []) ≡ 0
no_element o accepted e = ap (λ (n : Option Name). length (option_map_or (λ name. elements_of name accepted) n [])) e

-- a process that is not known has none
pub none_unknown : (accepted : List Report) (failed : List ℕ) (p : ℕ) (k : Position) → length (known accepted) ≤ p → ¬ IsLastSurviving accepted failed p k
none_unknown accepted failed p k past h = nowhere k (slice_get_past (known accepted) p past) h.surviving
  where
    nowhere : (j : Position) → name_of accepted p ≡ None → ¬ IsSurviving accepted failed p j
    nowhere (At n) none s = omega (arith, s.0, s.1, no_element (name_of accepted p) accepted none)
    nowhere Retired none s = true≢false (sym s ∙ ap (λ (o : Option Name). option_map_or (λ name. is_some (target_of name accepted)) o false) none)

-- a process whose last surviving position is an element is not retired
pub lives_at : (accepted : List Report) (failed : List ℕ) (p k : ℕ) → IsLastSurviving accepted failed p (At k) → is_retired accepted p ≡ false
lives_at accepted failed p k h = elim (cases_Bool (is_retired accepted p)) [
  | inl e ↦ absurd (let a = h.greatest Retired e in let b = h.surviving.1 in omega arith)
  | inr e ↦ e
]

-- which elements survive
pub element_at : (accepted : List Report) (failed : List ℕ) (p m k : ℕ) → IsLastSurviving accepted failed p (At m) → 1 ≤ k → IsSurviving accepted failed p (At k) ↔ (k ≤ m)
element_at accepted failed p m k h one = (
  λ s. h.greatest (At k) s,
  λ le. (one, omega (arith, h.surviving.1), λ there. let last = h.surviving.2 there in omega arith),
)

present_by_none : (s : Stamp) (a : ReportKind) → is_some (target_in a) ≡ true → length (present_by s a) ≡ 0
present_by_none s Check e = absurd (true≢false (sym e))
present_by_none s Present e = absurd (true≢false (sym e))
present_by_none s (Fork f) e = absurd (true≢false (sym e))
present_by_none s (Retire target) e = refl
present_by_none s (Absorb retired) e = absurd (true≢false (sym e))

no_present : (o : Option Report) → is_some (target_after o) ≡ true → length (present_in o) ≡ 0
no_present None e = absurd (true≢false (sym e))
no_present (Some (Begin p)) e = absurd (true≢false (sym e))
no_present (Some (Numbered r)) e = present_by_none r.stamp r.action e

all_stable : (accepted : List Report) (o : Option Name) → option_map_or (λ name. is_some (target_of name accepted)) o false ≡ true
    → length (option_map_or (λ name. elements_of name accepted) o []) ≡ length (option_map_or (λ name. stable_of name accepted) o [])
all_stable accepted None e = absurd (true≢false (sym e))
all_stable accepted (Some p) e =
    let none = no_present (last_report p accepted) e in
    let sum = length-append (stable_of p accepted) (present_in (last_report p accepted)) in
    omega arith

pub element_of_retired : (accepted : List Report) (failed : List ℕ) (p k : ℕ) → IsLastSurviving accepted failed p Retired → 1 ≤ k → IsSurviving accepted failed p (At k) ↔ (k ≤ length (elements accepted p))
element_of_retired accepted failed p k h one = (
  λ s. s.1,
  λ le. (one, le, λ there. let same = all_stable accepted (name_of accepted p) h.surviving in omega arith),
)

pub chosen_element : (accepted : List Report) (failed : List ℕ) (p k m : ℕ) (x : Position) → x ≡ At k → k ≢ 0 → (1 ≤ k → IsSurviving accepted failed p (At k) ↔ (k ≤ m)) → (leb k m ≡ true) ↔ IsChosen accepted failed p x
chosen_element accepted failed p k m x is some h = (
  λ t. inr (subst (IsSurviving accepted failed p) (sym is) ((h (omega arith)).1 (leb-true k m t))),
  λ chosen. from chosen,
)
  where
    none : At k ≡ At 0 → k ≡ 0
    none e = cc

    from : IsChosen accepted failed p x → leb k m ≡ true
    from (inl e) = absurd (some (none (sym is ∙ e)))
    from (inr s) = le-leb k m ((h (omega arith)).0 (subst (IsSurviving accepted failed p) is s))
