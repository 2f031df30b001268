-- The reports that made the elements of a process.
use Rattle.std.proofs.Common.{◌≡◌, ℕ, ◌<◌, List, [], ◌∷◌, ◌++◌, length, map, Option, Some, None, refl, sym, ap, ◌∙◌, arith, length-append}
use Rattle.std.specs.Prelude.{filter, slice_get, if◌then◌else◌}
use Rattle.std.specs.Option.{is_some}
use Rattle.std.specs.List.{cons_option, filter_map}
use Rattle.std.proofs.lemmas.List.{map-append}
use Rattle.std.proofs.lemmas.Option.{slice_get_within, slice_get_past}
use Rattle.stamp.specs.declared.stamp.Stamp.{Stamp}
use Rattle.report_line.specs.declared.report.ReportKind.{ReportKind}
use Rattle.report_line.specs.declared.report.ReportKind.TheVariants.{Present}
use Rattle.report_line.specs.declared.report.NumberedReport.{NumberedReport}
use Rattle.report_line.specs.declared.report.Report.{Report}
use Rattle.report_line.specs.declared.report.Report.TheVariants.{Begin, Numbered}
use Rattle.chains.specs.Processes.{Name, first_of, last_report}
use Rattle.chains.specs.Elements.{stable_made, stable_of, makes_stable, present_in, present_report, elements_of, makers_of, element_made}
use Rattle.chains.proofs.Stepping.{doing}
use Rattle.chains.proofs.Showing.{get_front, get_behind}

-- ---- the stable ones

same_count_step : {X Y : Type 0} (x : X) (xs : List X) (ys : List Y) (o : Option Y) → length xs ≡ length ys → length (if is_some o then x ∷ xs else xs) ≡ length (cons_option o ys)
same_count_step x xs ys None e = e
same_count_step x xs ys (Some y) e = omega (arith, e)

-- as many makers as elements
same_count : {X Y : Type 0} (made : X → Option Y) (xs : List X) → length (filter (λ x. is_some (made x)) xs) ≡ length (filter_map made xs)
same_count made [] = refl
same_count made (x ∷ xs) = same_count_step x (filter (λ y. is_some (made y)) xs) (filter_map made xs) (made x) (same_count made xs)

made_step : {X Y : Type 0} (made also : X → Option Y) (x : X) (xs : List X) (ys : List Y) (o : Option Y) → made x ≡ o
    → map (λ y. first_of (made y) (also y)) xs ≡ map (λ y. Some y) ys
    → map (λ y. first_of (made y) (also y)) (if is_some o then x ∷ xs else xs) ≡ map (λ y. Some y) (cons_option o ys)
made_step made also x xs ys None is e = e
made_step made also x xs ys (Some y) is e = let here : first_of (made x) (also x) ≡ Some y = rw is refl in cc

-- they make just these
all_made : {X Y : Type 0} (made also : X → Option Y) (xs : List X) → map (λ y. first_of (made y) (also y)) (filter (λ x. is_some (made x)) xs) ≡ map (λ y. Some y) (filter_map made xs)
all_made made also [] = refl
all_made made also (x ∷ xs) = made_step made also x (filter (λ y. is_some (made y)) xs) (filter_map made xs) (made x) refl (all_made made also xs)

-- ---- the present state

present_by_action : (p : Name) (r : NumberedReport) (a : ReportKind) → map (element_made p) (present_report (Some (Numbered (doing r a)))) ≡ map (λ s. Some s) (present_in (Some (Numbered (doing r a))))
present_by_action p r Present = refl
present_by_action p r _ = refl

present_made : (p : Name) (o : Option Report) → map (element_made p) (present_report o) ≡ map (λ s. Some s) (present_in o)
present_made p None = refl
present_made p (Some (Begin q)) = refl
present_made p (Some (Numbered r)) = present_by_action p r r.action

one_by_action : (r : NumberedReport) (a : ReportKind) → length (present_report (Some (Numbered (doing r a)))) < 2
one_by_action r Present = omega arith
one_by_action r _ = omega arith

one_present_report : (o : Option Report) → length (present_report o) < 2
one_present_report None = omega arith
one_present_report (Some (Begin p)) = omega arith
one_present_report (Some (Numbered r)) = one_by_action r r.action

-- ---- all

pub makers_make : (p : Name) (accepted : List Report) → map (element_made p) (makers_of p accepted) ≡ map (λ s. Some s) (elements_of p accepted)
makers_make p accepted =
    map-append (element_made p) (filter (makes_stable p) accepted) (present_report (last_report p accepted))
    ∙ ap (λ (l : List (Option Stamp)). l ++ map (element_made p) (present_report (last_report p accepted))) (all_made (stable_made p) (λ r. slice_get (present_in (Some r)) 0) accepted)
    ∙ ap (λ (l : List (Option Stamp)). map (λ s. Some s) (stable_of p accepted) ++ l) (present_made p (last_report p accepted))
    ∙ sym (map-append (λ s. Some s) (stable_of p accepted) (present_in (last_report p accepted)))

-- the maker of an element that lasts
pub maker_stable : (p : Name) (accepted : List Report) (k : ℕ) (r : Report) → Some r ≡ slice_get (filter (makes_stable p) accepted) k → Some r ≡ slice_get (makers_of p accepted) k
maker_stable p accepted k r at =
    at ∙ sym (get_front (filter (makes_stable p) accepted) (present_report (last_report p accepted)) k (slice_get_within (filter (makes_stable p) accepted) k r (sym at)))

-- that of the present state
pub maker_present : (p : Name) (accepted : List Report) (k n : ℕ) (last o : Option Report) → n ≡ length (stable_of p accepted) → k ≡ n → last ≡ last_report p accepted → o ≡ slice_get (present_report last) 0 → o ≡ slice_get (makers_of p accepted) k
maker_present p accepted k n last o all at e shown =
    let count = same_count (stable_made p) accepted in
    shown ∙ ap (λ (r : Option Report). slice_get (present_report r) 0) e ∙ sym (get_behind (filter (makes_stable p) accepted) (present_report (last_report p accepted)))
    ∙ ap (λ (m : ℕ). slice_get (makers_of p accepted) m) (sym (at ∙ all ∙ sym count))

-- none behind it
pub maker_none : (p : Name) (accepted : List Report) (k n : ℕ) → n ≡ length (stable_of p accepted) → n < k → None ≡ slice_get (makers_of p accepted) k
maker_none p accepted k n all lt =
    let count = same_count (stable_made p) accepted in
    let sum = length-append (filter (makes_stable p) accepted) (present_report (last_report p accepted)) in
    let one = one_present_report (last_report p accepted) in
    sym (slice_get_past (makers_of p accepted) k (omega arith))
