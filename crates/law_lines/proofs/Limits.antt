-- The position of a process by its name, and what makes its limit.
use Rattle.std.proofs.Common.{◌≡◌, ℕ, zero, suc, ◌≤◌, Bool, true, false, List, [], ◌∷◌, Option, Some, None, refl, sym, ◌∙◌, ap, subst, inl, inr, arith}
use Rattle.std.specs.Prelude.{Contains, slice_get, slice_index_or, filter}
use Rattle.std.specs.Option.{option_map, option_map_or}
use Rattle.std.specs.Str.{bytes_eq}
use Rattle.std.proofs.lemmas.Bool.{cases_Bool, cond-true, cond-false}
use Rattle.std.proofs.lemmas.Option.{same_Some, slice_get-map}
use Rattle.stamp.specs.declared.stamp.Stamp.{Stamp}
use Rattle.report_line.specs.declared.report.ReportKind.{ReportKind}
use Rattle.report_line.specs.declared.report.ReportKind.TheVariants.{Check, Present, Fork, Retire, Absorb}
use Rattle.report_line.specs.declared.report.NumberedReport.{NumberedReport}
use Rattle.report_line.specs.declared.report.Report.{Report}
use Rattle.report_line.specs.declared.report.Report.TheVariants.{Begin, Numbered}
use Rattle.chains.specs.declared.position.Position.{Position}
use Rattle.chains.specs.declared.position.Position.TheVariants.{At}
use Rattle.chains.specs.Processes.{Name, known, first_of, last_report}
use Rattle.chains.specs.Elements.{only_if, stable_by, present_by, present_report_by, present_report, makes_stable, makers_of, elements_of, element_made, name_of}
use Rattle.chains.specs.Positions.{position_in}
use Rattle.chains.specs.Folded.{IsFolded}
use Rattle.chains.proofs.Making.{makers_make}
use Rattle.law_histories.proofs.Bytes.{bytes_same, bytes_are}
use Rattle.law_lines.proofs.Listed.{in_at, in_filter, at_append, last_in}
use Rattle.law_lines.proofs.Known.{same_number_of}
use Rattle.law_lines.specs.Settled.{position_for, number_for, limit, limits_of}

-- ---- positions by name

position_at : (names : List Name) (cut : List Position) (p : Name) (i : ℕ) → slice_get names i ≡ Some p → ((j : ℕ) → slice_get names j ≡ Some p → j ≡ i)
    → position_for names cut p ≡ slice_index_or cut i (At 0)
position_at [] cut p i is one = absurd (cc)
position_at (q ∷ names) [] p i is one = refl
position_at (q ∷ names) (k ∷ cut) p zero is one = cond-true (bytes_eq p q) _ _ (bytes_same p q (sym (same_Some q p is)))
position_at (q ∷ names) (k ∷ cut) p (suc i) is one =
    elim (cases_Bool (bytes_eq p q)) [
      | inl same ↦ (let first : 0 ≡ suc i = one 0 (ap Some (sym (bytes_are p q same))) in absurd (omega arith))
      | inr other ↦ cond-false (bytes_eq p q) _ _ other ∙ position_at names cut p i is (λ j there. let up : suc j ≡ suc i = one (suc j) there in omega arith)
    ]

pub position_named : (accepted : List Report) (cut : List Position) (i : ℕ) (p : Name) → IsFolded accepted → name_of accepted i ≡ Some p
    → position_for (known accepted) cut p ≡ position_in cut i
position_named accepted cut i p folded is = position_at (known accepted) cut p i is (λ j there. same_number_of accepted folded j i p there is)

pub limit_named : (accepted : List Report) (cut : List Position) (i : ℕ) (p : Name) → IsFolded accepted → name_of accepted i ≡ Some p
    → limits_of accepted cut p ≡ limit accepted p (position_in cut i)
limit_named accepted cut i p folded is = ap (limit accepted p) (position_named accepted cut i p folded is)

-- ---- the report that made an element

pub one_present : (x : NumberedReport) (b : ReportKind) (j : ℕ) (m : Report) → slice_get (present_report_by x b) j ≡ Some m → Numbered x ≡ m
one_present x Present zero m is = same_Some (Numbered x) m is
one_present x Present (suc j) m is = absurd (cc)
one_present x Check j m is = absurd (cc)
one_present x (Fork f) j m is = absurd (cc)
one_present x (Retire q) j m is = absurd (cc)
one_present x (Absorb q) j m is = absurd (cc)

last_maker : (o : Option Report) (j : ℕ) (m : Report) → slice_get (present_report o) j ≡ Some m → o ≡ Some m
last_maker None j m is = absurd (cc)
last_maker (Some (Begin p)) j m is = absurd (cc)
last_maker (Some (Numbered x)) j m is = ap Some (one_present x x.action j m is)

pub maker_in : (accepted : List Report) (p : Name) (k : ℕ) (m : Report) → slice_get (makers_of p accepted) k ≡ Some m → Contains accepted m
maker_in accepted p k m is =
    elim (at_append (filter (makes_stable p) accepted) (present_report (last_report p accepted)) k m is) [
      | inl there ↦ (in_filter (makes_stable p) accepted m (in_at (filter (makes_stable p) accepted) k m there)).0
      | inr there ↦ last_in _ accepted m (last_maker (last_report p accepted) there.0 m there.2)
    ]

some_there : {X : Type 0} (o : Option X) (y : Option X) → Some y ≡ option_map (λ (x : X). Some x) o → (x : X) × (o ≡ Some x) × (y ≡ Some x)
some_there None y is = absurd (cc)
some_there (Some x) y is = (x, refl, same_Some y (Some x) is)

none_there : {X : Type 0} (o : Option X) → None ≡ option_map (λ (x : X). Some x) o → o ≡ None
none_there None is = refl
none_there (Some x) is = absurd (cc)

both_at : (p : Name) (accepted : List Report) (k : ℕ) → option_map (element_made p) (slice_get (makers_of p accepted) k) ≡ option_map (λ (s : Stamp). Some s) (slice_get (elements_of p accepted) k)
both_at p accepted k =
    sym (slice_get-map (element_made p) (makers_of p accepted) k) ∙ (ap (λ l. slice_get l k) (makers_make p accepted) ∙ slice_get-map (λ (s : Stamp). Some s) (elements_of p accepted) k)

-- the maker of an element makes it
pub maker_makes : (p : Name) (accepted : List Report) (k : ℕ) (m : Report) → slice_get (makers_of p accepted) k ≡ Some m
    → (s : Stamp) × (slice_get (elements_of p accepted) k ≡ Some s) × (element_made p m ≡ Some s)
maker_makes p accepted k m is =
    some_there (slice_get (elements_of p accepted) k) (element_made p m) (ap (option_map (element_made p)) (sym is) ∙ both_at p accepted k)

-- each element has a maker
pub has_maker : (p : Name) (accepted : List Report) (k : ℕ) (s : Stamp) → slice_get (elements_of p accepted) k ≡ Some s
    → (m : Report) × (slice_get (makers_of p accepted) k ≡ Some m) × (element_made p m ≡ Some s)
has_maker p accepted k s is = by (slice_get (makers_of p accepted) k) refl
  where
    by : (o : Option Report) → slice_get (makers_of p accepted) k ≡ o → (m : Report) × (slice_get (makers_of p accepted) k ≡ Some m) × (element_made p m ≡ Some s)
    by None none =
        (let gone = none_there (slice_get (elements_of p accepted) k) (ap (option_map (element_made p)) (sym none) ∙ both_at p accepted k) in
        let both : Some s ≡ None = sym is ∙ gone in absurd (cc))
    by (Some m) found =
        (let there = maker_makes p accepted k m found in
        let same : there.0 ≡ s = same_Some there.0 s (sym there.1 ∙ is) in
        (m, found, there.2 ∙ ap Some same))

only_is : {X : Type 0} (b : Bool) (x y : X) → first_of (only_if b x) None ≡ Some y → y ≡ x
only_is true x y is = sym (same_Some x y is)
only_is false x y is = absurd (cc)

-- an element has the events of the report that made it
events_by : (p : Name) (r : NumberedReport) (b : ReportKind) (s : Stamp) → first_of (stable_by p r b) (slice_get (present_by r.stamp b) 0) ≡ Some s → s.events ≡ r.stamp.events
events_by p r Check s is = ap (λ (u : Stamp). u.events) (only_is (bytes_eq p r.process) r.stamp s is)
events_by p r Present s is = ap (λ (u : Stamp). u.events) (sym (same_Some r.stamp s is))
events_by p r (Fork f) s is = ap (λ (u : Stamp). u.events) (only_is (bytes_eq p f.child) (record { id = f.given; events = r.stamp.events }) s is)
events_by p r (Retire q) s is = absurd (cc)
events_by p r (Absorb q) s is = absurd (cc)

pub maker_events : (p : Name) (r : NumberedReport) (s : Stamp) → element_made p (Numbered r) ≡ Some s → s.events ≡ r.stamp.events
maker_events p r s is = events_by p r r.action s is

-- who has a number for p is a report of p
pub number_is : (p : Name) (r : NumberedReport) (n : ℕ) → 1 ≤ n → n ≤ number_for p (Numbered r) → (p ≡ r.process) × (n ≤ r.number)
number_is p r n first within =
    elim (cases_Bool (bytes_eq p r.process)) [
      | inl same ↦ (bytes_are p r.process same, subst (λ (k : ℕ). n ≤ k) (cond-true (bytes_eq p r.process) _ _ same) within)
      | inr other ↦ (let none : n ≤ 0 = subst (λ (k : ℕ). n ≤ k) (cond-false (bytes_eq p r.process) _ _ other) within in absurd (omega arith))
    ]

-- a number from 1 that is within the limit of an element is at most that of the report that made it
pub made_at : (accepted : List Report) (p : Name) (k n : ℕ) → 1 ≤ n → n ≤ limit accepted p (At (suc k))
    → (r : NumberedReport) × (slice_get (makers_of p accepted) k ≡ Some (Numbered r)) × (p ≡ r.process) × (n ≤ r.number)
made_at accepted p k n first within = by (slice_get (makers_of p accepted) k) refl within
  where
    by : (o : Option Report) → slice_get (makers_of p accepted) k ≡ o → n ≤ option_map_or (number_for p) o 0
        → (r : NumberedReport) × (slice_get (makers_of p accepted) k ≡ Some (Numbered r)) × (p ≡ r.process) × (n ≤ r.number)
    by None is less = absurd (omega arith)
    by (Some (Begin q)) is less = absurd (omega arith)
    by (Some (Numbered r)) is less = (let w = number_is p r n first less in (r, is, w.0, w.1))
