-- No two elements of a process have the same events.
use Rattle.std.proofs.Common.{◌≡◌, ◌≢◌, ℕ, zero, suc, ◌+◌, ◌<◌, ◌≤◌, Some, None, Option, List, [], ◌∷◌, ◌++◌, length, refl, sym, ◌∙◌, ap, subst, inl, inr, arith}
use Rattle.std.specs.Prelude.{Contains, slice_get}
use Rattle.std.specs.List.{cons_option}
use Rattle.std.specs.Str.{bytes_eq}
use Rattle.std.proofs.lemmas.List.Elements.{filter_map-append, Contains-push_cases}
use Rattle.std.proofs.lemmas.Option.{same_Some, cond_some, slice_get_within}
use Rattle.id_tree.specs.IdTree.{IdTree}
use Rattle.event_tree.specs.EventTree.{EventTree, Leaf}
use Rattle.event_tree.specs.Values.{value_at, IsAtOrBelow}
use Rattle.stamp.specs.declared.stamp.Stamp.{Stamp}
use Rattle.report_line.specs.declared.report.ReportKind.{ReportKind}
use Rattle.report_line.specs.declared.report.ReportKind.TheVariants.{Check, Present, Fork}
use Rattle.report_line.specs.declared.report.Forked.{Forked}
use Rattle.report_line.specs.declared.report.NumberedReport.{NumberedReport}
use Rattle.report_line.specs.declared.report.Report.{Report}
use Rattle.report_line.specs.declared.report.Report.TheVariants.{Begin, Numbered}
use Rattle.law_histories.proofs.Bytes.{bytes_are}
use Rattle.chains.specs.Processes.{Name, child_of, IsKnown, is_numbered_of, last_report, last_events}
use Rattle.chains.specs.Elements.{stable_by, stable_made, stable_of, present_by, present_in, elements_of}
use Rattle.chains.specs.Admission.{AreGrown}
use Rattle.chains.specs.Folded.{IsFit, IsFitAction, IsFitReport, IsFolded, nothing_folded, one_folded}
use Rattle.chains.proofs.Stepping.{same_or_other, own_report, other_report, still_known}
use Rattle.chains.proofs.Distinct.{unknown_child}
use Rattle.chains.proofs.Keeps.{passes}
use Rattle.knows_row.proofs.Rising.{below_top, risen}
use Rattle.law_lines.proofs.Listed.{made_in, last_in, at_append}
use Rattle.law_lines.proofs.Unknown.{known_by}

not_same : (low last e : EventTree) (i : IdTree) → IsAtOrBelow low last → AreGrown last i e → low ≢ e
not_same low last e i below up same =
    let greater = up.1 in
    let above : value_at last greater.0 < value_at e greater.0 = greater.2 in
    let no_more : value_at low greater.0 ≤ value_at last greater.0 = below greater.0 in
    let equal : value_at low greater.0 ≡ value_at e greater.0 = ap (λ (t : EventTree). value_at t greater.0) same in
    omega arith

-- who reports is known
reporter_known : (accepted : List Report) → IsFolded accepted → (r : NumberedReport) → Contains accepted (Numbered r) → IsKnown accepted r.process
reporter_known _ nothing_folded r there = (let lt = there.1 in absurd (omega arith))
reporter_known _ (one_folded before new folded fit) r there =
    elim (Contains-push_cases before new (Numbered r) there) [
      | inl earlier ↦ still_known before new r.process (reporter_known before folded r earlier)
      | inr is ↦ still_known before new r.process (fit_numbered before new r is fit).is_known
    ]
  where
    fit_numbered : (before : List Report) (new : Report) (r : NumberedReport) → new ≡ Numbered r → IsFit before new → IsFitReport before r
    fit_numbered before new r is fit = subst (IsFit before) is fit

-- who has an element is known
made_known_by : (accepted : List Report) (p : Name) (r : NumberedReport) (s : Stamp) → IsKnown accepted r.process → Contains accepted (Numbered r) → (b : ReportKind) → r.action ≡ b → stable_by p r b ≡ Some s → IsKnown accepted p
made_known_by accepted p r s reporter at Check is made = subst (IsKnown accepted) (sym (bytes_are p r.process (cond_some (bytes_eq p r.process) r.stamp s made).0)) reporter
made_known_by accepted p r s reporter at (Fork f) is made =
    known_by accepted (Numbered r) p at (ap child_of is ∙ ap (λ (x : Name). Some x) (sym (bytes_are p f.child (cond_some (bytes_eq p f.child) _ s made).0)))
made_known_by accepted p r s reporter at _ is made = absurd (cc)

made_known : (accepted : List Report) → IsFolded accepted → (p : Name) (r : Report) (s : Stamp) → Contains accepted r → stable_made p r ≡ Some s → IsKnown accepted p
made_known accepted folded p (Begin q) s at made = known_by accepted (Begin q) p at (ap (λ (x : Name). Some x) (sym (bytes_are p q (cond_some (bytes_eq p q) _ s made).0)))
made_known accepted folded p (Numbered r) s at made = made_known_by accepted p r s (reporter_known accepted folded r at) at r.action refl made

element_known : (accepted : List Report) → IsFolded accepted → (p : Name) (i : ℕ) (s : Stamp) → slice_get (stable_of p accepted) i ≡ Some s → IsKnown accepted p
element_known accepted folded p i s is = (let w = made_in (stable_made p) accepted i s is in made_known accepted folded p w.0 s w.1 w.2)

-- ---- elements that last

split : (p : Name) (before : List Report) (r : Report) → stable_of p (before ++ r ∷ []) ≡ stable_of p before ++ cons_option (stable_made p r) []
split p before r = filter_map-append (stable_made p) before (r ∷ [])

only : (o : Option Stamp) (j : ℕ) (t : Stamp) → slice_get (cons_option o []) j ≡ Some t → (j ≡ 0) × (o ≡ Some t)
only None j t is = absurd (cc)
only (Some s) zero t is = (refl, is)
only (Some s) (suc j) t is = absurd (cc)

-- the process's own report has greater events than its elements so far
own_differs : (before : List Report) (p : Name) (r : NumberedReport) (i : ℕ) (s : Stamp) → IsFolded before → IsFitReport before r → p ≡ r.process
    → slice_get (stable_of p before) i ≡ Some s → s.events ≢ r.stamp.events
own_differs before p r i s folded fit own at =
    let below = below_top (Leaf 0) (stable_of p before) (last_events p before) i s (risen p before folded) at in
    not_same s.events (last_events r.process before) r.stamp.events _ (subst (λ (x : Name). IsAtOrBelow s.events (last_events x before)) own below) fit.grown

-- a child that is born has no element yet
born_none : (before : List Report) (r : NumberedReport) (f : Forked) → IsFitReport before r → r.action ≡ Fork f → ¬ IsKnown before f.child
born_none before r f fit is = unknown_child before r (Fork f) (subst (IsFitAction before r) is fit.fit) f.child refl

new_differs_by : (before : List Report) (p : Name) (r : NumberedReport) (i : ℕ) (s t : Stamp) → IsFolded before → IsFitReport before r
    → slice_get (stable_of p before) i ≡ Some s → (b : ReportKind) → r.action ≡ b → stable_by p r b ≡ Some t → s.events ≢ t.events
new_differs_by before p r i s t folded fit at Check is made same =
    let w = cond_some (bytes_eq p r.process) r.stamp t made in
    own_differs before p r i s folded fit (bytes_are p r.process w.0) at (same ∙ ap (λ (x : Stamp). x.events) (sym w.1))
new_differs_by before p r i s t folded fit at (Fork f) is made same =
    let w = cond_some (bytes_eq p f.child) _ t made in
    born_none before r f fit is (subst (IsKnown before) (bytes_are p f.child w.0) (element_known before folded p i s at))
new_differs_by before p r i s t folded fit at _ is made same = cc

-- a new element has other events than the earlier ones
new_differs : (before : List Report) (p : Name) (r : Report) (i : ℕ) (s t : Stamp) → IsFolded before → IsFit before r
    → slice_get (stable_of p before) i ≡ Some s → stable_made p r ≡ Some t → s.events ≢ t.events
new_differs before p (Begin q) i s t folded fit at made same =
    let found : slice_get (stable_of p []) i ≡ Some s = ap (λ (xs : List Report). slice_get (stable_of p xs) i) (sym fit) ∙ at in
    cc
new_differs before p (Numbered r) i s t folded fit at made same = new_differs_by before p r i s t folded fit at r.action refl made same

stable_differ : (accepted : List Report) → IsFolded accepted → (p : Name) (i j : ℕ) (s t : Stamp) → i < j → slice_get (stable_of p accepted) i ≡ Some s → slice_get (stable_of p accepted) j ≡ Some t → s.events ≢ t.events
stable_differ _ nothing_folded p i j s t less at at' same = cc
stable_differ _ (one_folded before r folded fit) p i j s t less at at' same =
    let more = cons_option (stable_made p r) [] in
    elim (at_append (stable_of p before) more j t (ap (λ (l : List Stamp). slice_get l j) (sym (split p before r)) ∙ at')) [
      | inl front' ↦ elim (at_append (stable_of p before) more i s (ap (λ (l : List Stamp). slice_get l i) (sym (split p before r)) ∙ at)) [
        | inl front ↦ stable_differ before folded p i j s t less front front' same
        | inr back ↦
            (let past : i ≡ length (stable_of p before) + back.0 = back.1 in
            let within : j < length (stable_of p before) = slice_get_within (stable_of p before) j t front' in
            omega arith)
      ]
      | inr back' ↦
          (let new = only (stable_made p r) back'.0 t back'.2 in
          let past' : j ≡ length (stable_of p before) + back'.0 = back'.1 in
          let zero' : back'.0 ≡ 0 = new.0 in
          elim (at_append (stable_of p before) more i s (ap (λ (l : List Stamp). slice_get l i) (sym (split p before r)) ∙ at)) [
            | inl front ↦ new_differs before p r i s t folded fit front new.1 same
            | inr back ↦ (let past : i ≡ length (stable_of p before) + back.0 = back.1 in omega arith)
          ])
    ]

-- ---- the present state

no_element : (p : Name) (r : NumberedReport) (b : ReportKind) (s : Stamp) → b ≡ Present → stable_by p r b ≡ Some s → ⊥
no_element p r Check s is made = cc
no_element p r (Fork f) s is made = cc
no_element p r _ s is made = cc

no_birth : (before : List Report) (p : Name) (r : NumberedReport) (b : ReportKind) (s : Stamp) → r.action ≡ b → p ≢ r.process → IsKnown before p → IsFitReport before r → stable_by p r b ≡ Some s → ⊥
no_birth before p r Check s is other there fit made = other (bytes_are p r.process (cond_some (bytes_eq p r.process) r.stamp s made).0)
no_birth before p r (Fork f) s is other there fit made =
    born_none before r f fit is (subst (IsKnown before) (bytes_are p f.child (cond_some (bytes_eq p f.child) _ s made).0) there)
no_birth before p r _ s is other there fit made = cc

same_told : (q r : NumberedReport) → Some (Numbered q) ≡ Some (Numbered r) → q ≡ r
same_told q r e = cc

present_differs : (accepted : List Report) → IsFolded accepted → (p : Name) (q : NumberedReport) (i : ℕ) (s : Stamp) → q.action ≡ Present
    → slice_get (stable_of p accepted) i ≡ Some s → last_report p accepted ≡ Some (Numbered q) → s.events ≢ q.stamp.events
present_differs _ nothing_folded p q i s presents at last same = cc
present_differs _ (one_folded before (Begin root) folded fit) p q i s presents at last same =
    let found : None ≡ Some (Numbered q) = ap (λ (xs : List Report). last_report p (xs ++ Begin root ∷ [])) (sym fit) ∙ last in
    cc
present_differs _ (one_folded before (Numbered r) folded fit) p q i s presents at last same =
    let place = at_append (stable_of p before) (cons_option (stable_made p (Numbered r)) []) i s (ap (λ (l : List Stamp). slice_get l i) (sym (split p before (Numbered r))) ∙ at) in
    elim (same_or_other p r.process) [
      | inl own ↦
          (let is : r ≡ q = same_told r q (sym (own_report before r) ∙ (ap (λ (x : Name). last_report x (before ++ Numbered r ∷ [])) (sym own) ∙ last)) in
          let action : r.action ≡ Present = ap (λ (x : NumberedReport). x.action) is ∙ presents in
          let stamp : r.stamp ≡ q.stamp = ap (λ (x : NumberedReport). x.stamp) is in
          elim place [
            | inl front ↦ own_differs before p r i s folded fit own front (same ∙ ap (λ (x : Stamp). x.events) (sym stamp))
            | inr back ↦
                (let made = (only (stable_made p (Numbered r)) back.0 s back.2).1 in
                no_element p r r.action s action made)
          ])
      | inr other ↦
          (let earlier : last_report p before ≡ Some (Numbered q) = sym (other_report before p r other) ∙ last in
          elim place [
            | inl front ↦ present_differs before folded p q i s presents front earlier same
            | inr back ↦
                (let made = (only (stable_made p (Numbered r)) back.0 s back.2).1 in
                let there = last_in (is_numbered_of p) before (Numbered q) earlier in
                let own : p ≡ q.process = bytes_are p q.process (passes (is_numbered_of p) before (Numbered q) earlier) in
                no_birth before p r r.action s refl other (subst (IsKnown before) (sym own) (reporter_known before folded q there)) fit made)
          ])
    ]

-- ---- all elements

in_present_by : (q : NumberedReport) (b : ReportKind) (j : ℕ) (t : Stamp) → slice_get (present_by q.stamp b) j ≡ Some t → (j ≡ 0) × (b ≡ Present) × (q.stamp ≡ t)
in_present_by q Present zero t is = (refl, refl, same_Some q.stamp t is)
in_present_by q Present (suc j) t is = absurd (cc)
in_present_by q _ j t is = absurd (cc)

in_present : (o : Option Report) (j : ℕ) (t : Stamp) → slice_get (present_in o) j ≡ Some t → (j ≡ 0) × ((q : NumberedReport) × (o ≡ Some (Numbered q)) × (q.action ≡ Present) × (q.stamp ≡ t))
in_present None j t is = absurd (cc)
in_present (Some (Begin q)) j t is = absurd (cc)
in_present (Some (Numbered q)) j t is = let w = in_present_by q q.action j t is in (w.0, (q, refl, w.1, w.2))

pub elements_differ : (accepted : List Report) → IsFolded accepted → (p : Name) (i j : ℕ) (s t : Stamp) → i < j → slice_get (elements_of p accepted) i ≡ Some s → slice_get (elements_of p accepted) j ≡ Some t → s.events ≢ t.events
elements_differ accepted folded p i j s t less at at' same =
    elim (at_append (stable_of p accepted) (present_in (last_report p accepted)) j t at') [
      | inl front' ↦ elim (at_append (stable_of p accepted) (present_in (last_report p accepted)) i s at) [
        | inl front ↦ stable_differ accepted folded p i j s t less front front' same
        | inr back ↦
            (let past : i ≡ length (stable_of p accepted) + back.0 = back.1 in
            let within : j < length (stable_of p accepted) = slice_get_within (stable_of p accepted) j t front' in
            omega arith)
      ]
      | inr back' ↦
          (let new = in_present (last_report p accepted) back'.0 t back'.2 in
          let past' : j ≡ length (stable_of p accepted) + back'.0 = back'.1 in
          let zero' : back'.0 ≡ 0 = new.0 in
          elim (at_append (stable_of p accepted) (present_in (last_report p accepted)) i s at) [
            | inl front ↦ present_differs accepted folded p new.1.0 i s new.1.2 front new.1.1 (same ∙ ap (λ (x : Stamp). x.events) (sym new.1.3))
            | inr back ↦ (let past : i ≡ length (stable_of p accepted) + back.0 = back.1 in omega arith)
          ])
    ]
