-- What a settlement keeps of a history hands over the settled list, if what was accepted is a front of what the history hands over.
use Rattle.std.proofs.Common.{◌≡◌, ◌≢◌, ℕ, suc, ◌+◌, ◌≤◌, ◌<◌, Bool, false, List, [], ◌∷◌, ◌++◌, Some, length, inl, inr, refl, sym, ◌∙◌, ap, subst, append-nil, arith}
use Rattle.std.specs.Prelude.{Contains, slice_get, filter, nat_le}
use Rattle.std.proofs.lemmas.Bool.{cases_Bool, cond-false}
use Rattle.std.proofs.lemmas.List.Elements.{filter-append, Contains-append_right}
use Rattle.report_line.specs.declared.report.NumberedReport.{NumberedReport}
use Rattle.report_line.specs.declared.report.Report.{Report}
use Rattle.report_line.specs.declared.report.Report.TheVariants.{Begin, Numbered}
use Rattle.report_line.specs.histories.History.{Name, History}
use Rattle.report_line.specs.histories.StepReports.{reports}
use Rattle.law_histories.proofs.Bytes.{bytes_same}
use Rattle.chains.specs.declared.position.Position.{Position}
use Rattle.chains.specs.Folded.{IsFolded}
use Rattle.chains.specs.Processes.{known, is_numbered_of, reports_by, reports_of}
use Rattle.law_lines.proofs.Agreeing.{step_of, begin_no_report, number_at}
use Rattle.law_lines.proofs.Listed.{first_in, later_in, at_in, filter_in}
use Rattle.law_lines.specs.Settled.{position_for, limits_of, is_settled}
use Rattle.law_lines.proofs.Folding.{within}
use Rattle.law_lines.proofs.KeptReports.{limit_within, counted, kept_hands_over}
use Rattle.law_turns.specs.InOrder.{KeptHandsOverTheSettled, SettlementKeepsOrder}

pub kept_hands_over_the_settled : KeptHandsOverTheSettled
kept_hands_over_the_settled root h list failed line cut premise is_one has = kept_hands_over root h list failed line cut premise is_one has

-- ---- what was not accepted yet is undone

at_back : (xs ys : List Report) (j : ℕ) (y : Report) → slice_get ys j ≡ Some y → slice_get (xs ++ ys) (length xs + j) ≡ Some y
at_back [] ys j y is = (let same : length {A = Report} [] + j ≡ j = omega arith in subst (λ (n : ℕ). slice_get ys n ≡ Some y) (sym same) is)
at_back (x ∷ xs) ys j y is =
    let up : length (x ∷ xs) + j ≡ suc (length xs + j) = omega arith in
    subst (λ (n : ℕ). slice_get (x ∷ (xs ++ ys)) n ≡ Some y) (sym up) (at_back xs ys j y is)

-- the numbers of the reports behind a front are past those of the front
past_front : (root : Name) (h : History) (front rest : List Report) (r : NumberedReport) → reports root h ≡ front ++ rest → Contains rest (Numbered r) → reports_of r.process front < r.number
past_front root h front rest r parts at =
    let p = r.process in
    let there = at_in (reports_by p rest) (Numbered r) (filter_in (is_numbered_of p) rest (Numbered r) at (bytes_same p p refl)) in
    let split : reports_by p (reports root h) ≡ reports_by p front ++ reports_by p rest = ap (reports_by p) parts ∙ filter-append (is_numbered_of p) front rest in
    let number : r.number ≡ length (reports_by p front) + there.0 + 1 =
    number_at root p h (length (reports_by p front) + there.0) r
    (ap (λ (l : List Report). slice_get l (length (reports_by p front) + there.0)) split ∙ at_back (reports_by p front) (reports_by p rest) there.0 (Numbered r) there.2) in
    let count : length (reports_by p front) ≡ reports_of p front = counted p front in
    omega arith

none_stays : (test : Report → Bool) (xs : List Report) → ((x : Report) → Contains xs x → test x ≡ false) → filter test xs ≡ []
none_stays test [] fails = refl
none_stays test (x ∷ xs) fails = cond-false (test x) (x ∷ filter test xs) (filter test xs) (fails x (first_in x xs)) ∙ none_stays test xs (λ y at. fails y (later_in x y xs at))

-- a list that is not empty and begins what is handed over
pub record IsFront (root : Name) (h : History) (list rest : List Report) : Type 0 where
  pub front : List Report
  pub begins : list ≡ Begin root ∷ front
  pub parts : reports root h ≡ front ++ rest

pub is_front : (root : Name) (h : History) (list rest : List Report) → list ≢ [] → Begin root ∷ reports root h ≡ list ++ rest → IsFront root h list rest
is_front root h [] rest some parts = absurd (some refl)
is_front root h (x ∷ front) rest some parts = record { front = front; begins = cc; parts = cc }

-- nothing of the rest is settled
unsettled : (root : Name) (h : History) (list rest : List Report) (line : List Position) → IsFolded list → IsFront root h list rest → (x : Report) → Contains rest x
    → is_settled (limits_of list line) x ≡ false
unsettled root h list rest line folded w (Begin q) at =
    let of = step_of root h (Begin q) (subst (λ (l : List Report). Contains l (Begin q)) (sym w.parts) (Contains-append_right w.front rest (Begin q) at)) in
    absurd (begin_no_report root h q of.0 of.1)
unsettled root h list rest line folded w (Numbered r) at =
    let past : reports_of r.process w.front < r.number = past_front root h w.front rest r w.parts at in
    let same : reports_of r.process list ≡ reports_of r.process w.front = ap (reports_of r.process) w.begins in
    let bound : limits_of list line r.process ≤ reports_of r.process list = limit_within list r.process folded (position_for (known list) line r.process) in
    elim (cases_Bool (nat_le r.number (limits_of list line r.process))) [
      | inl is ↦ (let less : r.number ≤ limits_of list line r.process = within r.number (limits_of list line r.process) is in absurd (omega arith))
      | inr is ↦ is
    ]

pub settlement_keeps_order : SettlementKeepsOrder
settlement_keeps_order root h list rest failed line cut premise is_one has some parts =
    let test = is_settled (limits_of list line) in
    kept_hands_over_the_settled root h list failed line cut premise is_one has
    ∙ (ap (filter test) parts
    ∙ (filter-append test list rest
    ∙ (ap (λ (l : List Report). filter test list ++ l) (none_stays test rest (unsettled root h list rest line premise.folded (is_front root h list rest some parts)))
    ∙ append-nil (filter test list))))
