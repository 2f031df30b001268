-- The accepted reports of the example are fit, one behind the other, and agree with its history.
use Rattle.std.proofs.Common.{◌≡◌, ◌≢◌, ℕ, ◌<◌, ◌≤◌, true, false, List, [], ◌∷◌, ◌++◌, refl, sym, subst, inl, inr, arith}
use Rattle.std.specs.Prelude.{Contains}
use Rattle.std.proofs.lemmas.List.Elements.{Contains-append_left}
use Rattle.id_tree.specs.IdTree.{IdTree, One}
use Rattle.id_tree.specs.Points.{owns}
use Rattle.id_tree.specs.Split.{IsSplit}
use Rattle.event_tree.specs.EventTree.{EventTree, Leaf}
use Rattle.event_tree.specs.Values.{IsAtOrBelow}
use Rattle.report_line.specs.declared.report.ReportKind.TheVariants.{Check, Present, Retire, Absorb}
use Rattle.report_line.specs.declared.report.NumberedReport.{NumberedReport}
use Rattle.report_line.specs.declared.report.Report.{Report}
use Rattle.report_line.specs.declared.report.Report.TheVariants.{Begin, Numbered}
use Rattle.report_line.specs.histories.History.{Name, status}
use Rattle.report_line.specs.histories.StepReports.{reports}
use Rattle.law_histories.specs.Example.{a, b, c, d, left, right, halves, every_step, told, forked}
use Rattle.law_histories.proofs.Example.{Has, leaf, has, apart, both, some_left, some_right, every_step_is_lawful, below}
use Rattle.chains.specs.Processes.{IsKnown}
use Rattle.chains.specs.Admission.{AreGrown}
use Rattle.chains.specs.Folded.{IsFit, IsFolded, nothing_folded, one_folded}
use Rattle.chains.specs.Agrees.{BeginsWith, AreReportsOfSteps}
use Rattle.law_lines.specs.Places.{IsPremise}
use Rattle.law_lines.specs.Example.{accepted_reports}
use Rattle.law_lines.proofs.Listed.{in_cases, none_in}
use Rattle.law_lines.proofs.Agreeing.{step_of, begin_no_report}
use Rattle.law_lines.proofs.Agreement.{reports_of_steps_agree}

pub filled : (x : Report) (xs : List Report) → x ∷ xs ≢ []
filled x xs e = cc

-- ---- values in the two halves

at_or_below : (e f : EventTree) (x y z w : ℕ) → Has e x y → Has f z w → x ≤ z → y ≤ w → IsAtOrBelow e f
at_or_below e f x y z w of_e of_f le le' = elim [
  | [] ↦ omega (arith, of_e.at_root, of_f.at_root)
  | true ∷ t ↦ omega (arith, of_e.at_right t, of_f.at_right t)
  | false ∷ t ↦ omega (arith, of_e.at_left t, of_f.at_left t)
]

pub more_left : (i : IdTree) (e f : EventTree) (x y z w : ℕ) → owns i [] ≡ true → Has e x y → Has f z w → x < z → y ≤ w → AreGrown e i f
more_left i e f x y z w owned of_e of_f less le = (at_or_below e f x y z w of_e of_f (omega arith) le, ([], owned, omega (arith, of_e.at_root, of_f.at_root)))

pub more_right : (i : IdTree) (e f : EventTree) (x y z w : ℕ) → owns i (true ∷ []) ≡ true → Has e x y → Has f z w → x ≤ z → y < w → AreGrown e i f
more_right i e f x y z w owned of_e of_f le less = (at_or_below e f x y z w of_e of_f le (omega arith), (true ∷ [], owned, omega (arith, of_e.at_right [], of_f.at_right [])))

pub halved : IsSplit One left right
halved = record { left = some_left; right = some_right; disjoint = apart; together = both }

-- ---- report by report

abbrev r1 : Report
r1 = told a 1 One (Leaf 1) (forked b)

abbrev r2 : Report
r2 = told b 1 right (halves 1 0 1) Check

abbrev r3 : Report
r3 = told a 2 left (halves 3 2 0) Present

abbrev r4 : Report
r4 = told b 2 right (halves 1 0 4) (Retire a)

abbrev r5 : Report
r5 = told a 3 One (halves 5 1 0) (Absorb b)

abbrev r6 : Report
r6 = told a 4 One (Leaf 7) (forked c)

abbrev r7 : Report
r7 = told a 5 left (halves 7 1 0) Check

-- the reports so far
abbrev l1 : List Report
l1 = Begin a ∷ []

abbrev l2 : List Report
l2 = l1 ++ r1 ∷ []

abbrev l3 : List Report
l3 = l2 ++ r2 ∷ []

abbrev l4 : List Report
l4 = l3 ++ r3 ∷ []

abbrev l5 : List Report
l5 = l4 ++ r4 ∷ []

abbrev l6 : List Report
l6 = l5 ++ r5 ∷ []

abbrev l7 : List Report
l7 = l6 ++ r6 ∷ []

folded1 : IsFolded l1
folded1 = one_folded [] (Begin a) nothing_folded refl

pub unknown_b : ¬ IsKnown l1 b
unknown_b there = elim (in_cases a b [] there) [ inl same ↦ below 97 98 (omega arith) same | inr none ↦ none_in b none ]

pub first_fork_fit : IsFit l1 r1
first_fork_fit = record {
  begun = filled _ _;
  is_known = (0, omega arith, refl);
  living = refl;
  number = refl;
  id = refl;
  grown = more_left One (Leaf 0) (Leaf 1) 0 0 1 1 refl (leaf 0) (leaf 1) (omega arith) (omega arith);
  fit = (unknown_b, halved);
}

folded2 : IsFolded l2
folded2 = one_folded l1 r1 folded1 first_fork_fit

folded3 : IsFolded l3
folded3 = one_folded l2 r2 folded2 (record {
  begun = filled _ _;
  is_known = (1, omega arith, refl);
  living = refl;
  number = refl;
  id = refl;
  grown = more_right right (Leaf 1) (halves 1 0 1) 1 1 1 2 refl (leaf 1) (has 1 0 1) (omega arith) (omega arith);
  fit = tt;
})

folded4 : IsFolded l4
folded4 = one_folded l3 r3 folded3 (record {
  begun = filled _ _;
  is_known = (0, omega arith, refl);
  living = refl;
  number = refl;
  id = refl;
  grown = more_left left (Leaf 1) (halves 3 2 0) 1 1 5 3 refl (leaf 1) (has 3 2 0) (omega arith) (omega arith);
  fit = tt;
})

folded5 : IsFolded l5
folded5 = one_folded l4 r4 folded4 (record {
  begun = filled _ _;
  is_known = (1, omega arith, refl);
  living = refl;
  number = refl;
  id = refl;
  grown = more_right right (halves 1 0 1) (halves 1 0 4) 1 2 1 5 refl (has 1 0 1) (has 1 0 4) (omega arith) (omega arith);
  fit = tt;
})

folded6 : IsFolded l6
folded6 = one_folded l5 r5 folded5 (record {
  begun = filled _ _;
  is_known = (0, omega arith, refl);
  living = refl;
  number = refl;
  id = refl;
  grown = more_left left (halves 3 2 0) (halves 5 1 0) 5 3 6 5 refl (has 3 2 0) (has 5 1 0) (omega arith) (omega arith);
  fit = ((refl, refl), at_or_below (halves 1 0 4) (halves 5 1 0) 1 5 6 5 (has 1 0 4) (has 5 1 0) (omega arith) (omega arith));
})

unknown_c : ¬ IsKnown l6 c
unknown_c there = elim (in_cases a c (b ∷ []) there) [
  | inl same ↦ below 97 99 (omega arith) same
  | inr rest ↦ elim (in_cases b c [] rest) [ inl same ↦ below 98 99 (omega arith) same | inr none ↦ none_in c none ]
]

folded7 : IsFolded l7
folded7 = one_folded l6 r6 folded6 (record {
  begun = filled _ _;
  is_known = (0, omega arith, refl);
  living = refl;
  number = refl;
  id = refl;
  grown = more_left One (halves 5 1 0) (Leaf 7) 6 5 7 7 refl (has 5 1 0) (leaf 7) (omega arith) (omega arith);
  fit = (unknown_c, halved);
})

folded8 : IsFolded accepted_reports
folded8 = one_folded l7 r7 folded7 (record {
  begun = filled _ _;
  is_known = (0, omega arith, refl);
  living = refl;
  number = refl;
  id = refl;
  grown = more_left left (Leaf 7) (halves 7 1 0) 7 7 8 7 refl (leaf 7) (has 7 1 0) (omega arith) (omega arith);
  fit = tt;
})

-- ---- agreement

abbrev numbered_ones : List Report
numbered_ones = r1 ∷ r2 ∷ r3 ∷ r4 ∷ r5 ∷ r6 ∷ r7 ∷ []

abbrev last_one : List Report
last_one = told c 1 right (halves 7 0 1) (Retire d) ∷ []

all_reports : reports a every_step ≡ numbered_ones ++ last_one
unfolding status
all_reports = refl

reported : (r : Report) → Contains numbered_ones r → Contains (reports a every_step) r
reported r there = subst (λ (l : List Report). Contains l r) (sym all_reports) (Contains-append_left numbered_ones last_one r there)

begun : (p q : Name) → Begin p ≡ Begin q → p ≡ q
begun p q e = cc

begins_no : (r : NumberedReport) (q : Name) → Numbered r ≢ Begin q
begins_no r q e = cc

begins : BeginsWith a accepted_reports
begins p there = elim (in_cases (Begin a) (Begin p) numbered_ones there) [
  | inl same ↦ begun p a (sym same)
  | inr rest ↦ (let of = step_of a every_step (Begin p) (reported (Begin p) rest) in absurd (begin_no_report a every_step p of.0 of.1))
]

steps : AreReportsOfSteps a every_step accepted_reports
steps r there = elim (in_cases (Begin a) (Numbered r) numbered_ones there) [
  | inl same ↦ absurd (begins_no r a (sym same))
  | inr rest ↦ step_of a every_step (Numbered r) (reported (Numbered r) rest)
]

pub example_is_premise : IsPremise a every_step accepted_reports
example_is_premise = record {
  folded = folded8;
  lawful = every_step_is_lawful;
  agrees = reports_of_steps_agree a every_step accepted_reports folded8 begins steps;
}
