-- Who is known by the reports of a history is who is born in it.
use Rattle.std.proofs.Common.{◌≡◌, ◌≢◌, List, [], ◌∷◌, ◌++◌, refl, sym, ◌∙◌, ap, subst, inl, inr}
use Rattle.std.specs.Prelude.{Contains}
use Rattle.std.specs.Str.{bytes_eq}
use Rattle.std.proofs.lemmas.Bool.{cond-false}
use Rattle.std.proofs.lemmas.List.Elements.{Contains-append_cases, Contains-append_left, Contains-append_right}
use Rattle.id_tree.specs.IdTree.{IdTree}
use Rattle.report_line.specs.declared.step.StepKind.{StepKind}
use Rattle.report_line.specs.declared.step.StepKind.TheVariants.{Work, Check, Present, Send, Receive, Fork, Retire, Absorb}
use Rattle.report_line.specs.declared.step.Step.{Step}
use Rattle.report_line.specs.histories.History.{Name, History, Event, Status, Unborn, Living, Retired, status_of_other, status}
use Rattle.report_line.specs.histories.Lawful.{IsAllowed, IsLawfulAbsorption, IsLawful, start, next}
use Rattle.report_line.specs.histories.StepReports.{report_by}
use Rattle.law_histories.proofs.Bytes.{bytes_other, cases_name}
use Rattle.law_histories.proofs.Status.{root_born, unborn_after, status_others}
use Rattle.chains.specs.Processes.{known, IsKnown, newborn}
use Rattle.std.proofs.lemmas.List.Elements.{filter_map-append}
use Rattle.law_lines.proofs.Listed.{first_in, in_cases, none_in}
use Rattle.driver.proofs.ElementEvents.{list_of, reported_of}

-- who is born by a kind of step
child_by : StepKind → List Name
child_by (Fork c i) = c ∷ []
child_by _ = []

known_by : (root : Name) (h : History) (s : Step) (d : StepKind) → known (list_of (report_by root h s d)) ≡ child_by d
unfolding child_by
known_by root h s Work = refl
known_by root h s Check = refl
known_by root h s Present = refl
known_by root h s (Send m) = refl
known_by root h s (Receive m) = refl
known_by root h s (Fork c i) = refl
known_by root h s (Retire q) = refl
known_by root h s (Absorb r) = refl

known_next : (root : Name) (h : History) (s : Step) → known (reported_of root (s ∷ h)) ≡ known (reported_of root h) ++ child_by s.step_kind
known_next root h s =
    filter_map-append newborn (reported_of root h) (list_of (report_by root h s s.step_kind))
    ∙ ap (λ (l : List Name). known (reported_of root h) ++ l) (known_by root h s s.step_kind)

forked_by : (d : StepKind) (p : Name) → Contains (child_by d) p → (i : IdTree) × (d ≡ Fork p i)
unfolding child_by
forked_by (Fork c i) p at =
    elim (in_cases c p [] at) [
      | inl is ↦ (i, ap (λ (n : Name). Fork n i) is)
      | inr none ↦ absurd (none_in p none)
    ]
forked_by Work p at = absurd (none_in p at)
forked_by Check p at = absurd (none_in p at)
forked_by Present p at = absurd (none_in p at)
forked_by (Send m) p at = absurd (none_in p at)
forked_by (Receive m) p at = absurd (none_in p at)
forked_by (Retire q) p at = absurd (none_in p at)
forked_by (Absorb r) p at = absurd (none_in p at)

forks_it : (d : StepKind) (p : Name) (i : IdTree) → d ≡ Fork p i → Contains (child_by d) p
unfolding child_by
forks_it d p i is = subst (λ (a : StepKind). Contains (child_by a) p) (sym is) (first_in p [])

pub known_is_born : (root : Name) (h : History) (p : Name) → IsKnown (reported_of root h) p → status root h p ≢ Unborn
known_is_born root [] p at unborn =
    elim (in_cases root p [] at) [
      | inl is ↦ root_born root [] (ap (status root []) is ∙ unborn)
      | inr none ↦ none_in p none
    ]
known_is_born root (s ∷ h) p at unborn =
    let before = unborn_after root h s p unborn in
    elim (Contains-append_cases (known (reported_of root h)) (child_by s.step_kind) p (subst (λ (l : List Name). Contains l p) (known_next root h s) at)) [
      | inl old ↦ known_is_born root h p old before.before
      | inr new ↦ (let w = forked_by s.step_kind p new in before.not_child w.0 w.1)
    ]

-- by whether the process is born before the step
module _ (root : Name) (h : History) (b : Event) (s : Step) (living : status root h s.process ≡ Living b) where
  still_known : (p : Name) → IsKnown (reported_of root h) p → IsKnown (reported_of root (s ∷ h)) p
  still_known p at = subst (λ (l : List Name). Contains l p) (sym (known_next root h s)) (Contains-append_left (known (reported_of root h)) (child_by s.step_kind) p at)

  new_known : (p : Name) (i : IdTree) → s.step_kind ≡ Fork p i → IsKnown (reported_of root (s ∷ h)) p
  new_known p i is = subst (λ (l : List Name). Contains l p) (sym (known_next root h s)) (Contains-append_right (known (reported_of root h)) (child_by s.step_kind) p (forks_it s.step_kind p i is))

living_not_unborn : (e : Event) → Living e ≢ Unborn
living_not_unborn e is = cc

unborn_retired : (x : Event) (q : Name) → (let now : Status = Unborn in now ≡ Retired x q) → ⊥
unborn_retired x q is = cc

-- who is not born stays so, where the step neither makes nor absorbs it
stays_unborn : (h : History) (s : Step) (p : Name) (d : StepKind) → ((i : IdTree) → d ≢ Fork p i) → d ≢ Absorb p → status_of_other h s d p Unborn ≡ Unborn
stays_unborn h s p (Fork c i) no_fork no_absorb = cond-false (bytes_eq p c) _ _ (bytes_other p c (λ same. no_fork i (ap (λ (n : Name). Fork n i) (sym same))))
stays_unborn h s p (Absorb r) no_fork no_absorb = cond-false (bytes_eq p r) _ _ (bytes_other p r (λ same. no_absorb (ap Absorb (sym same))))
stays_unborn h s p Work no_fork no_absorb = refl
stays_unborn h s p Check no_fork no_absorb = refl
stays_unborn h s p Present no_fork no_absorb = refl
stays_unborn h s p (Send m) no_fork no_absorb = refl
stays_unborn h s p (Receive m) no_fork no_absorb = refl
stays_unborn h s p (Retire q) no_fork no_absorb = refl

pub absorption_of : (root : Name) (h : History) (b : Event) (s : Step) (r : Name) → IsAllowed root h b s s.step_kind → s.step_kind ≡ Absorb r → IsLawfulAbsorption root h b s r
absorption_of root h b s r w is = subst (λ (a : StepKind). IsAllowed root h b s a) is w

pub born_is_known : {root : Name} {h : History} → IsLawful root h → (p : Name) → (¬ IsKnown (reported_of root h) p) → status root h p ≡ Unborn
unfolding status
born_is_known {root} start p unknown =
    elim (cases_name p root) [
      | inl is ↦ absurd (unknown (subst (λ (q : Name). Contains (root ∷ []) q) (sym is) (first_in root [])))
      | inr differs ↦ cond-false (bytes_eq p root) _ _ (bytes_other p root differs)
    ]
born_is_known {root} (next {h = h} {s = s} {before = b} lawful living allowed) p unknown =
    let before : status root h p ≡ Unborn = born_is_known lawful p (λ at. unknown (still_known root h b s living p at)) in
    let differs : p ≢ s.process = λ same. living_not_unborn b (sym living ∙ (ap (status root h) (sym same) ∙ before)) in
    status_others root h s p differs ∙ (ap (status_of_other h s s.step_kind p) before ∙ stays_unborn h s p s.step_kind (λ i forks. unknown (new_known root h b s living p i forks))
    (λ absorbs. (let w = absorption_of root h b s p allowed absorbs in unborn_retired w.retirement s.process (sym before ∙ w.into_this))))
