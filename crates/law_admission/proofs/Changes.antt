-- How each process stands after a step.
use Rattle.std.proofs.Common.{◌≡◌, ◌≢◌, ◌∷◌, Some, refl, sym, ◌∙◌, ap, inl, inr, arith}
use Rattle.std.specs.Str.{bytes_eq}
use Rattle.std.proofs.lemmas.Bool.{cond-true, cond-false}
use Rattle.id_tree.specs.IdTree.{IdTree}
use Rattle.report_line.specs.declared.step.StepKind.{StepKind}
use Rattle.report_line.specs.declared.step.StepKind.TheVariants.{Work, Check, Present, Send, Receive, Fork, Retire, Absorb}
use Rattle.report_line.specs.declared.step.Step.{Step}
use Rattle.report_line.specs.histories.History.{Name, History, Event, Status, Unborn, Living, Retired, Absorbed, status_of_actor, status_of_other, status, last_of, event_of, birth_by}
use Rattle.law_histories.proofs.Bytes.{cases_name, bytes_same, bytes_other}
use Rattle.law_histories.proofs.Status.{status_acts, status_others}

pub data Change (root : Name) (h : History) (s : Step) (q : Name) : Type 0 where
  acted : q ≡ s.process → status root (s ∷ h) q ≡ status_of_actor s.step_kind (event_of h s) → Change root h s q
  born : (i : IdTree) → q ≢ s.process → s.step_kind ≡ Fork q i → status root (s ∷ h) q ≡ Living (birth_by h s q i) → Change root h s q
  taken : q ≢ s.process → s.step_kind ≡ Absorb q → status root (s ∷ h) q ≡ Absorbed → Change root h s q
  kept : q ≢ s.process → ((i : IdTree) → s.step_kind ≢ Fork q i) → s.step_kind ≢ Absorb q → status root (s ∷ h) q ≡ status root h q → Change root h s q

data Other (h : History) (s : Step) (q : Name) (d : StepKind) (before : Status) : Type 0 where
  is_born : (i : IdTree) → d ≡ Fork q i → status_of_other h s d q before ≡ Living (birth_by h s q i) → Other h s q d before
  is_taken : d ≡ Absorb q → status_of_other h s d q before ≡ Absorbed → Other h s q d before
  is_kept : ((i : IdTree) → d ≢ Fork q i) → d ≢ Absorb q → status_of_other h s d q before ≡ before → Other h s q d before

same_child : (c q : Name) (i j : IdTree) → Fork c i ≡ Fork q j → q ≡ c
same_child c q i j is = cc

same_retired : (r q : Name) → Absorb r ≡ Absorb q → q ≡ r
same_retired r q is = cc

other : (h : History) (s : Step) (q : Name) (d : StepKind) (before : Status) → Other h s q d before
other h s q Work before = is_kept (λ i is. cc) (λ is. cc) refl
other h s q Check before = is_kept (λ i is. cc) (λ is. cc) refl
other h s q Present before = is_kept (λ i is. cc) (λ is. cc) refl
other h s q (Send m) before = is_kept (λ i is. cc) (λ is. cc) refl
other h s q (Receive m) before = is_kept (λ i is. cc) (λ is. cc) refl
other h s q (Retire t) before = is_kept (λ i is. cc) (λ is. cc) refl
other h s q (Fork c i) before =
    elim (cases_name q c) [
      | inl is ↦
          is_born i (ap (λ (x : Name). Fork x i) (sym is))
          (cond-true (bytes_eq q c) (Living (birth_by h s c i)) before (bytes_same q c is) ∙ ap (λ (x : Name). Living (birth_by h s x i)) (sym is))
      | inr differs ↦
          is_kept (λ j is. differs (same_child c q i j is)) (λ is. cc) (cond-false (bytes_eq q c) (Living (birth_by h s c i)) before (bytes_other q c differs))
    ]
other h s q (Absorb r) before =
    elim (cases_name q r) [
      | inl is ↦ is_taken (ap Absorb (sym is)) (cond-true (bytes_eq q r) Absorbed before (bytes_same q r is))
      | inr differs ↦ is_kept (λ j is. cc) (λ is. differs (same_retired r q is)) (cond-false (bytes_eq q r) Absorbed before (bytes_other q r differs))
    ]

pub change : (root : Name) (h : History) (s : Step) (q : Name) → Change root h s q
change root h s q =
    elim (cases_name q s.process) [
      | inl is ↦ acted is (status_acts root h s q is)
      | inr differs ↦
          (let there = status_others root h s q differs in
          elim (other h s q s.step_kind (status root h q)) [
            | is_born i forks now ↦ born i differs forks (there ∙ now)
            | is_taken absorbs now ↦ taken differs absorbs (there ∙ now)
            | is_kept no_fork no_absorption now ↦ kept differs no_fork no_absorption (there ∙ now)
          ])
    ]

-- ---- what a status is not

pub living_not_unborn : (e : Event) → Living e ≢ Unborn
living_not_unborn e is = cc

pub living_not_retired : (d e : Event) (q : Name) → Living d ≢ Retired e q
living_not_retired d e q is = cc

pub unborn_not_retired : (e : Event) (q : Name) → Unborn ≢ Retired e q
unborn_not_retired e q is = cc

pub retired_not_unborn : (e : Event) (q : Name) → Retired e q ≢ Unborn
retired_not_unborn e q is = cc

pub retired_not_living : (d e : Event) (q : Name) → Retired d q ≢ Living e
retired_not_living d e q is = cc

pub absorbed_not_unborn : Absorbed ≢ Unborn
absorbed_not_unborn is = cc

pub absorbed_not_living : (e : Event) → Absorbed ≢ Living e
absorbed_not_living e is = cc

pub absorbed_not_retired : (e : Event) (q : Name) → Absorbed ≢ Retired e q
absorbed_not_retired e q is = cc

pub absorbed_holds_nothing : (e : Event) → last_of Absorbed ≢ Some e
absorbed_holds_nothing e is = cc

pub living_holds : (d e : Event) → last_of (Living d) ≡ Some e → e ≡ d
living_holds d e is = cc

-- ---- how the actor stands

pub actor_born : (d : StepKind) (e : Event) → status_of_actor d e ≢ Unborn
actor_born d e is = grind arith

pub actor_holds : (a : StepKind) (d e : Event) → last_of (status_of_actor a d) ≡ Some e → e ≡ d
actor_holds a d e is = grind arith

pub actor_retires : (a : StepKind) (d e : Event) (q : Name) → status_of_actor a d ≡ Retired e q → a ≡ Retire q
actor_retires a d e q is = grind arith

pub actor_lives : (a : StepKind) (d e : Event) (q : Name) → status_of_actor a d ≡ Living e → a ≢ Retire q
actor_lives a d e q is = grind arith
