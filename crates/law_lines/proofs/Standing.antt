-- Who is known in the settled list of a greatest cut, and who is retired there.
use Rattle.std.proofs.Common.{◌≡◌, ℕ, zero, suc, ◌+◌, ◌≤◌, true, false, List, [], ◌∷◌, ◌++◌, Option, Some, None, refl, sym, ◌∙◌, ap, subst, inl, inr, arith}
use Rattle.std.specs.Prelude.{Contains, slice_get, is_some}
use Rattle.std.specs.Option.{option_map_or}
use Rattle.std.specs.Str.{bytes_eq}
use Rattle.std.proofs.lemmas.Bool.{cases_Bool, true≢false}
use Rattle.std.proofs.lemmas.List.Elements.{Contains-append_cases}
use Rattle.std.proofs.lemmas.Option.{same_Some, slice_get_within}
use Rattle.std.proofs.lemmas.Slice.Eq.{bytes_eq-Decides}
use Rattle.stamp.specs.declared.stamp.Stamp.{Stamp}
use Rattle.report_line.specs.declared.report.ReportKind.{ReportKind}
use Rattle.report_line.specs.declared.report.ReportKind.TheVariants.{Check, Present, Fork, Retire, Absorb}
use Rattle.report_line.specs.declared.report.NumberedReport.{NumberedReport}
use Rattle.report_line.specs.declared.report.Report.{Report}
use Rattle.report_line.specs.declared.report.Report.TheVariants.{Begin, Numbered}
use Rattle.chains.specs.declared.position.Position.{Position}
use Rattle.chains.specs.declared.position.Position.TheVariants.{At, Retired}
use Rattle.chains.specs.Processes.{Name, newborn, known, IsKnown, first_of, is_numbered_of, is_birth_of, reports_by, reports_of, last_report, target_in, target_after, target_of}
use Rattle.chains.specs.Elements.{name_of, stable_by, present_by, element_made}
use Rattle.chains.specs.Positions.{position_in, IsChosen}
use Rattle.chains.specs.Greatest.{IsGreatestCut}
use Rattle.chains.specs.Folded.{IsFit, IsFolded, nothing_folded, one_folded}
use Rattle.chains.proofs.Keeps.{passes}
use Rattle.chains.proofs.LookUps.{known_from}
use Rattle.chains.proofs.Numbering.{last_number, number_at}
use Rattle.chains.proofs.Stepping.{same_bytes, failing, own_report}
use Rattle.law_lines.proofs.Listed.{at_in, in_cases, in_filter, filter_in, last_in, made_in}
use Rattle.law_lines.proofs.Unknown.{known_by}
use Rattle.law_lines.specs.Settled.{limit, limits_of, is_settled, settled, SettledKnown, SettledRetired}
use Rattle.law_lines.proofs.Limits.{limit_named, maker_in, maker_makes, made_at}
use Rattle.law_lines.proofs.Folding.{within, all_settled}
use Rattle.law_lines.proofs.Elements.{one_at_least, no_more}
use Rattle.law_lines.proofs.Unborn.{birth_is_settled, unborn_is_not_settled}

-- ---- who is known

birth_from : (p : Name) (y : Report) → newborn y ≡ Some p → is_birth_of p y ≡ true
birth_from p y is = ap (λ o. option_map_or (λ q. bytes_eq p q) o false) is ∙ same_bytes p

pub record IsBornIn (accepted : List Report) (p : Name) : Type 0 where
  pub birth : Report
  pub contained : Contains accepted birth
  pub bears : newborn birth ≡ Some p

pub born_in : (accepted : List Report) (p : Name) → IsKnown accepted p → IsBornIn accepted p
born_in accepted p there =
    let at = at_in (known accepted) p there in
    let w = made_in newborn accepted at.0 p at.2 in
    record { birth = w.0; contained = w.1; bears = w.2 }

pub settled_known : SettledKnown
settled_known accepted failed line i p folded greatest named = (
  λ there unborn.
      (let w = born_in (settled accepted line) p there in
      let y : Report = w.birth in
      let at = in_filter (is_settled (limits_of accepted line)) accepted y w.contained in
      true≢false (sym at.1 ∙ unborn_is_not_settled accepted failed line folded greatest i p named unborn y at.0 (birth_from p y w.bears))),
  λ born.
      (let w = born_in accepted p (known_from accepted i p named) in
      let y : Report = w.birth in
      known_by (settled accepted line) y p
      (filter_in (is_settled (limits_of accepted line)) accepted y w.contained (birth_is_settled accepted failed line folded greatest.is_one i p named born y w.contained (birth_from p y w.bears)))
      w.bears),
)

-- ---- who is retired

no_target_some : (q : Name) → (let o : Option Name = None in o) ≡ Some q → ⊥
no_target_some q is = cc

-- a retirement is the last report of its process
retires_last : (accepted : List Report) → IsFolded accepted → (r : NumberedReport) (q : Name) → Contains accepted (Numbered r) → r.action ≡ Retire q → last_report r.process accepted ≡ Some (Numbered r)
retires_last _ nothing_folded r q at is = (let lt = at.1 in absurd (omega arith))
retires_last _ (one_folded before x folded fit) r q at is =
    elim (Contains-append_cases before (x ∷ []) (Numbered r) at) [
      | inr new ↦ elim (in_cases x (Numbered r) [] new) [
        | inl same ↦ subst (λ (y : Report). last_report r.process (before ++ y ∷ []) ≡ Some (Numbered r)) (sym same) (own_report before r)
        | inr none ↦ (let lt = none.1 in absurd (omega arith))
      ]
      | inl old ↦
          (let last = retires_last before folded r q old is in
          failing (is_numbered_of r.process) before x (other x fit (ap target_after last ∙ ap target_in is)) ∙ last)
    ]
  where
    other : (y : Report) → IsFit before y → target_of r.process before ≡ Some q → is_numbered_of r.process y ≡ false
    other (Begin p) fits retired = refl
    other (Numbered z) fits retired =
        elim (cases_Bool (bytes_eq r.process z.process)) [
          | inr differs ↦ differs
          | inl same ↦
              absurd (no_target_some q (sym (ap (λ (n : Name). target_of n before) ((bytes_eq-Decides r.process z.process).0 same) ∙ fits.living) ∙ retired))
        ]

pub record IsRetirement (o : Option Report) : Type 0 where
  pub report : NumberedReport
  pub is : o ≡ Some (Numbered report)
  pub target : Name
  pub retires : report.action ≡ Retire target

retirement_by : (r : NumberedReport) (a : ReportKind) → r.action ≡ a → is_some (target_in a) ≡ true → (q : Name) × (r.action ≡ Retire q)
retirement_by r (Retire q) same is = (q, same)
retirement_by r Check same is = absurd (cc)
retirement_by r Present same is = absurd (cc)
retirement_by r (Fork f) same is = absurd (cc)
retirement_by r (Absorb q) same is = absurd (cc)

pub retirement_of : (o : Option Report) → is_some (target_after o) ≡ true → IsRetirement o
retirement_of None is = absurd (cc)
retirement_of (Some (Begin p)) is = absurd (cc)
retirement_of (Some (Numbered r)) is = (let w = retirement_by r r.action refl is in record { report = r; is = refl; target = w.0; retires = w.1 })

makes_nothing : (p : Name) (r : NumberedReport) (q : Name) (s : Stamp) → r.action ≡ Retire q → element_made p (Numbered r) ≡ Some s → ⊥
makes_nothing p r q s is made = none (sym (ap (λ (a : ReportKind). first_of (stable_by p r a) (slice_get (present_by r.stamp a) 0)) is) ∙ made)
  where
    none : (let o : Option Stamp = None in o) ≡ Some s → ⊥
    none e = cc

same_number : (accepted : List Report) → IsFolded accepted → (p : Name) (r m : NumberedReport) → Contains accepted (Numbered r) → Contains accepted (Numbered m) → bytes_eq p r.process ≡ true → bytes_eq p m.process ≡ true
    → r.number ≡ m.number → Numbered r ≡ Numbered m
same_number accepted folded p r m at at' own own' same =
    let here = at_in (reports_by p accepted) (Numbered r) (filter_in (is_numbered_of p) accepted (Numbered r) at own) in
    let there = at_in (reports_by p accepted) (Numbered m) (filter_in (is_numbered_of p) accepted (Numbered m) at' own') in
    let first : r.number ≡ here.0 + 1 = number_at accepted p here.0 r folded here.2 in
    let second : m.number ≡ there.0 + 1 = number_at accepted p there.0 m folded there.2 in
    let place : here.0 ≡ there.0 = omega arith in
    same_Some (Numbered r) (Numbered m) (sym here.2 ∙ (ap (slice_get (reports_by p accepted)) place ∙ there.2))

module _ (accepted : List Report) (failed : List ℕ) (line : List Position) (i : ℕ) (p : Name) (folded : IsFolded accepted) (greatest : IsGreatestCut accepted failed line)
    (named : name_of accepted i ≡ Some p) where
  pub limit_at : (k : Position) → position_in line i ≡ k → limits_of accepted line p ≡ limit accepted p k
  limit_at k is = limit_named accepted line i p folded named ∙ ap (limit accepted p) is

  pub stays_retired : position_in line i ≡ Retired → is_some (target_of p (settled accepted line)) ≡ true
  stays_retired is =
      let count : limits_of accepted line p ≡ reports_of p accepted = limit_at Retired is in
      let chosen = subst (λ (k : Position). IsChosen accepted failed i k) is (greatest.is_one.is_cut.chosen i (slice_get_within (known accepted) i p named)) in
      ap (λ o. is_some (target_after o)) (all_settled folded p (omega arith)).last ∙ retired chosen
    where
      retired : IsChosen accepted failed i Retired → is_some (target_of p accepted) ≡ true
      retired (inl e) = absurd (cc)
      retired (inr w) = sym (ap (λ o. option_map_or (λ name. is_some (target_of name accepted)) o false) named) ∙ w

  is_retired_by : (k : Position) → position_in line i ≡ k → (r : NumberedReport) (q : Name) → Contains accepted (Numbered r) → bytes_eq p r.process ≡ true → r.number ≤ limits_of accepted line p → r.action ≡ Retire q
      → position_in line i ≡ Retired
  is_retired_by Retired is r q at own less retires = is
  is_retired_by (At zero) is r q at own less retires =
      let none : limits_of accepted line p ≡ 0 = limit_at (At 0) is in
      let first : 1 ≤ r.number = one_at_least accepted folded p r at own in
      absurd (omega arith)
  is_retired_by (At (suc k)) is r q at own less retires =
      let limited : limits_of accepted line p ≡ limit accepted p (At (suc k)) = limit_at (At (suc k)) is in
      let w = made_at accepted p k r.number (one_at_least accepted folded p r at own) (subst (λ (n : ℕ). r.number ≤ n) limited less) in
      let m : NumberedReport = w.0 in
      let at_m = maker_in accepted p k (Numbered m) w.1 in
      let own_m : bytes_eq p m.process ≡ true = ap (bytes_eq p) (sym w.2) ∙ same_bytes p in
      let same_process : p ≡ r.process = (bytes_eq-Decides p r.process).0 own in
      let last = retires_last accepted folded r q at retires in
      let count : r.number ≡ reports_of r.process accepted = last_number accepted r.process r folded last in
      let count_p : reports_of p accepted ≡ reports_of r.process accepted = ap (λ (n : Name). reports_of n accepted) same_process in
      let most : m.number ≤ reports_of p accepted = no_more accepted folded p m at_m own_m in
      let at_least : r.number ≤ m.number = w.3 in
      let same = same_number accepted folded p r m at at_m own own_m (omega arith) in
      let makes = maker_makes p accepted k (Numbered m) w.1 in
      absurd (makes_nothing p r q makes.0 retires (ap (element_made p) same ∙ makes.2))

  retired_then : is_some (target_of p (settled accepted line)) ≡ true → position_in line i ≡ Retired
  retired_then is =
      let w = retirement_of (last_report p (settled accepted line)) is in
      let r : NumberedReport = w.report in
      let at = in_filter (is_settled (limits_of accepted line)) accepted (Numbered r) (last_in (is_numbered_of p) (settled accepted line) (Numbered r) w.is) in
      let own : bytes_eq p r.process ≡ true = passes (is_numbered_of p) (settled accepted line) (Numbered r) w.is in
      let less : r.number ≤ limits_of accepted line r.process = within r.number (limits_of accepted line r.process) at.1 in
      is_retired_by (position_in line i) refl r w.target at.0 own
      (subst (λ (n : Name). r.number ≤ limits_of accepted line n) (sym ((bytes_eq-Decides p r.process).0 own)) less) w.retires

pub settled_retired : SettledRetired
settled_retired accepted failed line i p folded greatest named =
    (retired_then accepted failed line i p folded greatest named, stays_retired accepted failed line i p folded greatest named)
