-- What an accepted list says of a history whose reports it has.
use Rattle.std.proofs.Common.{◌≡◌, ◌≢◌, ◌≤◌, false, List, [], ◌∷◌, Option, Some, None, refl, sym, ◌∙◌, ap, subst, inl, inr, arith}
use Rattle.id_tree.specs.IdTree.{IdTree, One}
use Rattle.id_tree.specs.Points.{owns}
use Rattle.id_tree.specs.NormalForm.{IsNormal}
use Rattle.event_tree.specs.EventTree.{EventTree, Leaf}
use Rattle.event_tree.specs.Values.{value_at, IsAtOrBelow}
use Rattle.report_line.specs.declared.report.NumberedReport.{NumberedReport}
use Rattle.report_line.specs.declared.report.Report.{Report}
use Rattle.report_line.specs.declared.report.Report.TheVariants.{Begin, Numbered}
use Rattle.report_line.specs.histories.History.{Name, History, Event, Unborn, Living, Retired, status, last_of, birth_of_root}
use Rattle.report_line.specs.histories.Lawful.{IsSameId}
use Rattle.report_line.specs.histories.StepReports.{reporting_steps}
use Rattle.chains.specs.Processes.{IsKnown, is_birth_of, last_report, reports_of, registered_id, last_events, events_after, first_of, id_at_birth, target_of, is_absorbed, Waits}
use Rattle.chains.proofs.Stepping.{known_cases, known_new, same_bytes, some_name, passing}
use Rattle.std.proofs.lemmas.Bool.{cond-false}
use Rattle.law_histories.proofs.Bytes.{cases_name, bytes_other}
use Rattle.law_histories.proofs.Status.{Holds, first_holds, root_born}
use Rattle.law_admission.proofs.Changes.{living_not_retired}

pub then_below : (e f g : EventTree) → IsAtOrBelow e f → IsAtOrBelow f g → IsAtOrBelow e g
then_below e f g first next p = (let a : value_at e p ≤ value_at f p = first p in let b : value_at f p ≤ value_at g p = next p in omega arith)

-- the registered id has just these points, and the last events are at or below these
pub record IsHeld (accepted : List Report) (p : Name) (e : Event) : Type 0 where
  pub normal : IsNormal (registered_id p accepted)
  pub same : IsSameId e.id (registered_id p accepted)
  pub below : IsAtOrBelow (last_events p accepted) e.values

-- the accepted list knows the born processes, and of each how many reports it made, whether it waits, and its id and values
pub record AreTied (accepted : List Report) (root : Name) (h : History) : Type 0 where
  pub begun : accepted ≢ []
  pub born : (p : Name) → IsKnown accepted p → status root h p ≢ Unborn
  pub known : (p : Name) → status root h p ≢ Unborn → IsKnown accepted p
  pub count : (p : Name) → reports_of p accepted ≡ reporting_steps p h
  pub last : (p : Name) (r : NumberedReport) → last_report p accepted ≡ Some (Numbered r) → r.number ≡ reporting_steps p h
  pub unborn : (p : Name) → status root h p ≡ Unborn → (last_report p accepted ≡ None) × (is_absorbed p accepted ≡ false)
  pub living : (p : Name) (e : Event) → status root h p ≡ Living e → (target_of p accepted ≡ None) × (is_absorbed p accepted ≡ false)
  pub retired : (p : Name) (e : Event) (q : Name) → status root h p ≡ Retired e q → Waits accepted p q
  pub held : (p : Name) (e : Event) → Holds root h p e → IsHeld accepted p e

-- ---- at the beginning

nobody : (p : Name) → ¬ IsKnown [] p
nobody p h = let some = h.1 in omega arith

only_root : (root p : Name) → IsKnown (Begin root ∷ []) p → root ≡ p
only_root root p h = elim (known_cases [] (Begin root) p h) [ inl there ↦ absurd (nobody p there) | inr is ↦ some_name root p is ]

none_last : (p root : Name) (r : NumberedReport) → last_report p (Begin root ∷ []) ≢ Some (Numbered r)
none_last p root r is = cc

root_id : (root : Name) → registered_id root (Begin root ∷ []) ≡ One
root_id root = ap id_at_birth (passing (is_birth_of root) [] (Begin root) (same_bytes root))

root_events : (root : Name) → last_events root (Begin root ∷ []) ≡ Leaf 0
root_events root = ap (λ (o : Option Report). events_after (first_of None o)) (passing (is_birth_of root) [] (Begin root) (same_bytes root))

root_held : (root : Name) → IsHeld (Begin root ∷ []) root (birth_of_root root)
root_held root = record {
  normal = subst (λ (i : IdTree). IsNormal i) (sym (root_id root)) tt;
  same = λ point. ap (λ (i : IdTree). owns i point) (sym (root_id root));
  below = subst (λ (e : EventTree). IsAtOrBelow e (Leaf 0)) (sym (root_events root)) (λ point. omega arith);
}

-- who is not unborn at first is the root
born_first : (root p : Name) → status root [] p ≢ Unborn → p ≡ root
unfolding status
born_first root p is_born = elim (cases_name p root) [ inl is ↦ is | inr differs ↦ absurd (is_born (nobody_else differs)) ]
  where
    nobody_else : p ≢ root → status root [] p ≡ Unborn
    nobody_else differs = cond-false _ _ _ (bytes_other p root differs)

none_retired : (root p : Name) (e : Event) (q : Name) → status root [] p ≢ Retired e q
none_retired root p e q is = living_not_retired e e q (sym (first_holds root p e (ap last_of is)).2 ∙ is)

pub first_tied : (root : Name) → AreTied (Begin root ∷ []) root []
first_tied root = record {
  begun = λ is. cc;
  born = λ p known. subst (λ (q : Name). status root [] q ≢ Unborn) (only_root root p known) (root_born root []);
  known = λ p born. known_new [] (Begin root) p (ap (λ (q : Name). Some q) (sym (born_first root p born)));
  count = λ p. refl;
  last = λ p r is. absurd (none_last p root r is);
  unborn = λ p is. (refl, refl);
  living = λ p e is. (refl, refl);
  retired = λ p e q is. absurd (none_retired root p e q is);
  held = λ p e holds.
      (let first = first_holds root p e holds in
      subst (λ (d : Event). IsHeld (Begin root ∷ []) p d) (sym first.1)
      (subst (λ (q : Name). IsHeld (Begin root ∷ []) q (birth_of_root root)) (sym first.0) (root_held root)));
}
