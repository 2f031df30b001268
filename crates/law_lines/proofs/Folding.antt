-- The fold accepts each report of the settled list.
use Rattle.std.proofs.Common.{◌≡◌, ◌≢◌, ℕ, ◌+◌, ◌≤◌, true, false, cond, List, [], ◌∷◌, ◌++◌, Option, Some, None, refl, sym, ◌∙◌, ap, subst, inl, inr, append_assoc, arith}
use Rattle.std.specs.Prelude.{nat_le}
use Rattle.std.specs.List.{list_any}
use Rattle.std.proofs.lemmas.Bool.{cases_Bool, true≢false, false_from_ne_true}
use Rattle.std.proofs.lemmas.Slice.Eq.{bytes_eq-Decides}
use Rattle.id_tree.specs.IdTree.{IdTree}
use Rattle.id_tree.specs.Sum.{sum_of}
use Rattle.id_tree.specs.Split.{IsSplit}
use Rattle.event_tree.specs.EventTree.{EventTree}
use Rattle.event_tree.specs.Values.{IsAtOrBelow}
use Rattle.report_line.specs.declared.report.ReportKind.{ReportKind}
use Rattle.report_line.specs.declared.report.ReportKind.TheVariants.{Check, Present, Fork, Retire, Absorb}
use Rattle.report_line.specs.declared.report.Report.{Report}
use Rattle.report_line.specs.declared.report.Report.TheVariants.{Begin, Numbered}
use Rattle.chains.specs.Processes.{Name, IsKnown, first_of, is_numbered_of, is_birth_of, is_absorb_of, reports_of, last_report, birth_report, events_after, last_events, id_after, registered_id, expected_id, target_after, Waits}
use Rattle.chains.specs.Admission.{AreGrown}
use Rattle.chains.proofs.Stepping.{passing, failing}
use Rattle.chains.proofs.Accepting.{reports-push}
use Rattle.report_line.specs.declared.report.NumberedReport.{NumberedReport}
use Rattle.chains.specs.Folded.{IsFitAction, IsFitReport, IsFit, IsFolded, nothing_folded, one_folded}
use Rattle.law_lines.specs.Settled.{Limits, is_settled, settled_by}
use Rattle.law_lines.proofs.Looking.{last_kept, any_kept, any_from_last, none_from_last, known_any, any_known, filter_taken, filter_left}

-- ---- numbers

pub within : (n limit : ℕ) → nat_le n limit ≡ true → n ≤ limit
within n limit is = grind arith

pub is_within : (n limit : ℕ) → n ≤ limit → nat_le n limit ≡ true
is_within n limit less = grind arith

-- ---- limits that have with each report what it stands on

-- With each report there is the birth of its process, and with an absorption the retirement.
pub record IsClosedFor (limits : Limits) (accepted : List Report) : Type 0 where
  pub births : (before after : List Report) (r : NumberedReport) (birth : Report)
      → accepted ≡ before ++ Numbered r ∷ after → r.number ≤ limits r.process → birth_report r.process before ≡ Some birth → is_settled limits birth ≡ true
  pub absorptions : (before after : List Report) (r : NumberedReport) (retired : Name) (retirement : Report)
      → accepted ≡ before ++ Numbered r ∷ after → r.action ≡ Absorb retired → r.number ≤ limits r.process → last_report retired before ≡ Some retirement
      → is_settled limits retirement ≡ true

-- ---- a process all of whose reports so far are at or before the line has all of them in the settled list

pub record AreAllSettled (limits : Limits) (accepted : List Report) (p : Name) : Type 0 where
  pub count : reports_of p (settled_by limits accepted) ≡ reports_of p accepted
  pub last : last_report p (settled_by limits accepted) ≡ last_report p accepted

pub own_number : (p : Name) (accepted : List Report) (r : Report) → IsFit accepted r → is_numbered_of p r ≡ true → (limits : Limits) → reports_of p accepted + 1 ≤ limits p
    → is_settled limits r ≡ true
own_number p accepted (Begin q) fit own limits all = refl
own_number p accepted (Numbered r) fit own limits all =
    let same : p ≡ r.process = (bytes_eq-Decides p r.process).0 own in
    let number : r.number ≡ reports_of r.process accepted + 1 = fit.number in
    let there : reports_of r.process accepted + 1 ≤ limits r.process = subst (λ (x : Name). reports_of x accepted + 1 ≤ limits x) same all in
    is_within r.number (limits r.process) (omega arith)

pub own_count : (p : Name) (accepted : List Report) (r : Report) → is_numbered_of p r ≡ true → reports_of p (accepted ++ r ∷ []) ≡ reports_of p accepted + 1
own_count p accepted r own = reports-push p accepted r ∙ ap (λ b. reports_of p accepted + cond b 1 0) own

pub other_count : (p : Name) (accepted : List Report) (r : Report) → is_numbered_of p r ≡ false → reports_of p (accepted ++ r ∷ []) ≡ reports_of p accepted
other_count p accepted r other =
    let count : reports_of p (accepted ++ r ∷ []) ≡ reports_of p accepted + 0 = reports-push p accepted r ∙ ap (λ b. reports_of p accepted + cond b 1 0) other in
    omega arith

module _ (limits : Limits) (accepted : List Report) (r : Report) (p : Name) where
  push_count : (g : List Report) → reports_of p g ≡ reports_of p accepted → reports_of p (g ++ r ∷ []) ≡ reports_of p (accepted ++ r ∷ [])
  push_count g same = reports-push p g r ∙ (ap (λ n. n + cond (is_numbered_of p r) 1 0) same ∙ sym (reports-push p accepted r))

  own_settled : is_numbered_of p r ≡ true → is_settled limits r ≡ true → reports_of p (settled_by limits accepted) ≡ reports_of p accepted
      → AreAllSettled limits (accepted ++ r ∷ []) p
  own_settled own taken count =
      let list : settled_by limits (accepted ++ r ∷ []) ≡ settled_by limits accepted ++ r ∷ [] = filter_taken (is_settled limits) accepted r taken in
      record {
        count = ap (reports_of p) list ∙ push_count (settled_by limits accepted) count;
        last = ap (last_report p) list ∙ (passing (is_numbered_of p) (settled_by limits accepted) r own ∙ sym (passing (is_numbered_of p) accepted r own));
      }

  other_settled : is_numbered_of p r ≡ false → AreAllSettled limits accepted p → AreAllSettled limits (accepted ++ r ∷ []) p
  other_settled other all =
      let same_last : last_report p (accepted ++ r ∷ []) ≡ last_report p accepted = failing (is_numbered_of p) accepted r other in
      elim (cases_Bool (is_settled limits r)) [
        | inl taken ↦
            (let list : settled_by limits (accepted ++ r ∷ []) ≡ settled_by limits accepted ++ r ∷ [] = filter_taken (is_settled limits) accepted r taken in
            record {
              count = ap (reports_of p) list ∙ push_count (settled_by limits accepted) all.count;
              last = ap (last_report p) list ∙ (failing (is_numbered_of p) (settled_by limits accepted) r other ∙ (all.last ∙ sym same_last));
            })
        | inr left ↦
            (let list : settled_by limits (accepted ++ r ∷ []) ≡ settled_by limits accepted = filter_left (is_settled limits) accepted r left in
            let same_count : reports_of p (accepted ++ r ∷ []) ≡ reports_of p accepted = other_count p accepted r other in
            record { count = ap (reports_of p) list ∙ (all.count ∙ sym same_count); last = ap (last_report p) list ∙ (all.last ∙ sym same_last) })
      ]

pub all_settled : {limits : Limits} {accepted : List Report} → IsFolded accepted → (p : Name) → reports_of p accepted ≤ limits p → AreAllSettled limits accepted p
all_settled nothing_folded p few = record { count = refl; last = refl }
all_settled {limits} (one_folded before r folded fit) p few =
    let count : reports_of p (before ++ r ∷ []) ≡ reports_of p before + cond (is_numbered_of p r) 1 0 = reports-push p before r in
    elim (cases_Bool (is_numbered_of p r)) [
      | inl own ↦
          (let one : reports_of p (before ++ r ∷ []) ≡ reports_of p before + 1 = own_count p before r own in
          own_settled limits before r p own (own_number p before r fit own limits (omega arith)) (all_settled folded p (omega arith)).count)
      | inr other ↦
          (let same : reports_of p (before ++ r ∷ []) ≡ reports_of p before = other_count p before r other in
          other_settled limits before r p other (all_settled folded p (omega arith)))
    ]

-- ---- a report of the settled list

-- what a process has by its last report does not ask for its birth
id_of_last : (o : Option Report) (birth birth' : Option Report) (r : Report) → o ≡ Some r → id_after o birth ≡ id_after o birth'
id_of_last o birth birth' (Begin q) is = ap (λ x. id_after x birth) is ∙ sym (ap (λ x. id_after x birth') is)
id_of_last o birth birth' (Numbered x) is = ap (λ x. id_after x birth) is ∙ sym (ap (λ x. id_after x birth') is)

last_of_target : (o : Option Report) (q : Name) → target_after o ≡ Some q → (r : Report) × (o ≡ Some r)
last_of_target None q is = absurd (cc)
last_of_target (Some r) q is = (r, refl)

not_in_nothing : (r : Report) → None ≢ Some r
not_in_nothing r is = cc

birth_is_some : (accepted : List Report) (p : Name) (o : Option Report) → birth_report p accepted ≡ o → IsKnown accepted p → (r : Report) × (birth_report p accepted ≡ Some r)
birth_is_some accepted p None is there = absurd (true≢false (sym (known_any accepted p there) ∙ none_from_last (is_birth_of p) accepted is))
birth_is_some accepted p (Some r) is there = (r, is)

module _ (limits : Limits) (accepted : List Report) (r : NumberedReport) (folded : IsFolded accepted)
    (closed : IsClosedFor limits (accepted ++ Numbered r ∷ [])) (fit : IsFitReport accepted r) (taken : r.number ≤ limits r.process) where
  all_own : AreAllSettled limits accepted r.process
  all_own = let number : r.number ≡ reports_of r.process accepted + 1 = fit.number in all_settled folded r.process (omega arith)

  same_birth : (birth_report r.process (settled_by limits accepted) ≡ birth_report r.process accepted) × IsKnown (settled_by limits accepted) r.process × (settled_by limits accepted ≢ [])
  same_birth =
      let born = birth_is_some accepted r.process (birth_report r.process accepted) refl fit.is_known in
      let stays = last_kept (is_settled limits) (is_birth_of r.process) accepted born.0 born.1 (closed.births accepted [] r born.0 refl taken born.1) in (
        stays ∙ sym born.1,
        any_known (settled_by limits accepted) r.process (any_from_last (is_birth_of r.process) (settled_by limits accepted) born.0 stays),
        λ empty. not_in_nothing born.0 (sym (ap (birth_report r.process) empty) ∙ stays),
      )

  same_id : registered_id r.process (settled_by limits accepted) ≡ registered_id r.process accepted
  same_id = ap (λ o. id_after o (birth_report r.process (settled_by limits accepted))) all_own.last ∙ ap (id_after (last_report r.process accepted)) same_birth.0

  same_events : last_events r.process (settled_by limits accepted) ≡ last_events r.process accepted
  same_events = ap (λ o. events_after (first_of o (birth_report r.process (settled_by limits accepted)))) all_own.last ∙ ap (λ o. events_after (first_of (last_report r.process accepted) o)) same_birth.0

  still_unknown : (child : Name) → ¬ IsKnown accepted child → ¬ IsKnown (settled_by limits accepted) child
  still_unknown child unknown there =
      true≢false (sym (known_any (settled_by limits accepted) child there)
      ∙ any_kept (is_settled limits) (is_birth_of child) accepted (false_from_ne_true (list_any (is_birth_of child) accepted) (λ is. unknown (any_known accepted child is))))

  module _ (retired : Name) (absorbs : r.action ≡ Absorb retired) (waits : Waits accepted retired r.process) where
    same_retirement : (x : Report) × (last_report retired accepted ≡ Some x) × (last_report retired (settled_by limits accepted) ≡ Some x)
    same_retirement =
        let last = last_of_target (last_report retired accepted) r.process waits.0 in (
          last.0,
          last.1,
          last_kept (is_settled limits) (is_numbered_of retired) accepted last.0 last.1
              (closed.absorptions accepted [] r retired last.0 refl absorbs taken last.1),
        )

    retired_last : last_report retired (settled_by limits accepted) ≡ last_report retired accepted
    retired_last = same_retirement.2 ∙ sym same_retirement.1

    retired_id : registered_id retired (settled_by limits accepted) ≡ registered_id retired accepted
    retired_id =
        id_of_last (last_report retired (settled_by limits accepted)) (birth_report retired (settled_by limits accepted)) (birth_report retired accepted) same_retirement.0 same_retirement.2
        ∙ ap (λ o. id_after o (birth_report retired accepted)) retired_last

    retired_events : last_events retired (settled_by limits accepted) ≡ last_events retired accepted
    retired_events =
        ap (λ o. events_after (first_of o (birth_report retired (settled_by limits accepted)))) same_retirement.2
        ∙ sym (ap (λ o. events_after (first_of o (birth_report retired accepted))) same_retirement.1)

    still_waits : Waits (settled_by limits accepted) retired r.process
    still_waits = (ap target_after retired_last ∙ waits.0, any_kept (is_settled limits) (is_absorb_of retired) accepted waits.1)

  same_expected : (b : ReportKind) → r.action ≡ b → IsFitAction accepted r b → expected_id (settled_by limits accepted) r.process b ≡ expected_id accepted r.process b
  same_expected Check is w = same_id
  same_expected Present is w = same_id
  same_expected (Fork f) is w = same_id
  same_expected (Retire target) is w = same_id
  same_expected (Absorb retired) is w =
      ap (λ i. sum_of i (registered_id retired (settled_by limits accepted))) same_id ∙ ap (sum_of (registered_id r.process accepted)) (retired_id retired is w.0)

  still_fit_action : (b : ReportKind) → r.action ≡ b → IsFitAction accepted r b → IsFitAction (settled_by limits accepted) r b
  still_fit_action Check is w = tt
  still_fit_action Present is w = tt
  still_fit_action (Fork f) is w = (still_unknown f.child w.0, subst (λ (i : IdTree). IsSplit i f.kept f.given) (sym same_id) w.1)
  still_fit_action (Retire target) is w = tt
  still_fit_action (Absorb retired) is w =
      (still_waits retired is w.0, subst (λ (e : EventTree). IsAtOrBelow e r.stamp.events) (sym (retired_events retired is w.0)) w.1)

  pub still_fit : IsFitReport (settled_by limits accepted) r
  still_fit = record {
    begun = same_birth.2;
    is_known = same_birth.1;
    living = ap target_after all_own.last ∙ fit.living;
    number = fit.number ∙ ap (λ k. k + 1) (sym all_own.count);
    id = fit.id ∙ sym (same_expected r.action refl fit.fit);
    grown = subst (λ (i : IdTree). AreGrown (last_events r.process (settled_by limits accepted)) i r.stamp.events) (sym same_id)
        (subst (λ (e : EventTree). AreGrown e (registered_id r.process accepted) r.stamp.events) (sym same_events) fit.grown);
    fit = still_fit_action r.action refl fit.fit;
  }

-- ---- report by report

still_fits : (limits : Limits) (accepted : List Report) (r : Report) → IsFolded accepted → IsClosedFor limits (accepted ++ r ∷ []) → IsFit accepted r → is_settled limits r ≡ true
    → IsFit (settled_by limits accepted) r
still_fits limits accepted (Begin p) folded closed fit taken = ap (settled_by limits) fit
still_fits limits accepted (Numbered r) folded closed fit taken = still_fit limits accepted r folded closed fit (within r.number (limits r.process) taken)

longer : (before after : List Report) (x r : Report) (accepted : List Report) → accepted ≡ before ++ x ∷ after → accepted ++ r ∷ [] ≡ before ++ x ∷ (after ++ r ∷ [])
longer before after x r accepted is = ap (λ xs. xs ++ r ∷ []) is ∙ append_assoc before (x ∷ after) (r ∷ [])

pub closed_before : (limits : Limits) (accepted : List Report) (r : Report) → IsClosedFor limits (accepted ++ r ∷ []) → IsClosedFor limits accepted
closed_before limits accepted r closed = record {
  births = λ before after x birth is. closed.births before (after ++ r ∷ []) x birth (longer before after (Numbered x) r accepted is);
  absorptions = λ before after x retired retirement is. closed.absorptions before (after ++ r ∷ []) x retired retirement (longer before after (Numbered x) r accepted is);
}

pub folded_settled : {accepted : List Report} → IsFolded accepted → (limits : Limits) → IsClosedFor limits accepted → IsFolded (settled_by limits accepted)
folded_settled nothing_folded limits closed = nothing_folded
folded_settled (one_folded before r folded fit) limits closed =
    let rest = folded_settled folded limits (closed_before limits before r closed) in
    elim (cases_Bool (is_settled limits r)) [
      | inl taken ↦ subst (λ (xs : List Report). IsFolded xs) (sym (filter_taken (is_settled limits) before r taken))
          (one_folded (settled_by limits before) r rest (still_fits limits before r folded closed fit taken))
      | inr left ↦ subst (λ (xs : List Report). IsFolded xs) (sym (filter_left (is_settled limits) before r left)) rest
    ]
