-- How the status of a process comes about.
use Rattle.std.proofs.Common.{◌≡◌, ◌≤◌, ◌≢◌, [], ◌∷◌, length, Some, None, refl, sym, ◌∙◌, ap, subst, ◌⊎◌, inl, inr, arith}
use Rattle.std.proofs.lemmas.Bool.{cond-true, cond-false, cases_Bool}
use Rattle.id_tree.specs.IdTree.{IdTree}
use Rattle.std.specs.Str.{bytes_eq}
use Rattle.law_histories.proofs.Bytes.{cases_name, bytes_same, bytes_other}
use Rattle.report_line.specs.declared.step.StepKind.{StepKind}
use Rattle.report_line.specs.declared.step.StepKind.TheVariants.{Work, Check, Present, Send, Receive, Fork, Retire, Absorb}
use Rattle.report_line.specs.declared.step.Step.{Step}
use Rattle.report_line.specs.histories.History.{Name, Message, History, Does, Event, birth_of_root, event_of, birth_by, Status, Unborn, Living, Retired, Absorbed, status_of_actor, status_of_other, last_of, status, sends, sending}
use Rattle.report_line.specs.histories.Events.{Occurs, root_birth, step, birth, earlier}

-- The process lives, or retired and was not absorbed, and this is its last event.
abbrev pub Holds : Name → History → Name → Event → Type 0
Holds root h p e = last_of (status root h p) ≡ Some e

pub status_acts : (root : Name) (h : History) (s : Step) (p : Name) → p ≡ s.process → status root (s ∷ h) p ≡ status_of_actor s.step_kind (event_of h s)
unfolding status
status_acts root h s p is = cond-true (bytes_eq p s.process) _ _ (bytes_same p s.process is)

pub status_others : (root : Name) (h : History) (s : Step) (p : Name) → p ≢ s.process
    → status root (s ∷ h) p ≡ status_of_other h s s.step_kind p (status root h p)
unfolding status
status_others root h s p differs = cond-false (bytes_eq p s.process) _ _ (bytes_other p s.process differs)

-- At first there is the root, with its birth.
pub first_holds : (root p : Name) (e : Event) → Holds root [] p e → (p ≡ root) × (e ≡ birth_of_root root) × (status root [] p ≡ Living e)
unfolding status
first_holds root p e holds =
    elim (cases_name p root) [
      | inl is ↦
          (let there : status root [] p ≡ Living (birth_of_root root) = cond-true (bytes_eq p root) _ _ (bytes_same p root is) in
          let both : Some (birth_of_root root) ≡ Some e = sym (ap last_of there) ∙ holds in
          let event : birth_of_root root ≡ e = cc in
          (is, sym event, there ∙ ap Living event))
      | inr differs ↦
          (let there : status root [] p ≡ Unborn = cond-false (bytes_eq p root) _ _ (bytes_other p root differs) in
          let both : None ≡ Some e = sym (ap last_of there) ∙ holds in
          absurd (cc))
    ]

pub root_holds : (root : Name) → status root [] root ≡ Living (birth_of_root root)
unfolding status
root_holds root = cond-true (bytes_eq root root) _ _ (bytes_same root root refl)

-- Where a process's last event after a step comes from.
pub data Origin (root : Name) (h : History) (s : Step) (p : Name) (e : Event) : Type 0 where
  kept : p ≢ s.process → s.step_kind ≢ Absorb p → status root (s ∷ h) p ≡ status root h p → Origin root h s p e
  acted : p ≡ s.process → e ≡ event_of h s → Origin root h s p e
  born : {i : IdTree} → p ≢ s.process → s.step_kind ≡ Fork p i → e ≡ birth_by h s p i → status root (s ∷ h) p ≡ Living e → Origin root h s p e

actor_last : (a : StepKind) (d e : Event) → last_of (status_of_actor a d) ≡ Some e → e ≡ d
actor_last a d e last = grind arith

absorbed_name : (r p : Name) → Absorb r ≡ Absorb p → r ≡ p
absorbed_name r p e = cc

child_name : (c p : Name) (i j : IdTree) → Fork c i ≡ Fork p j → c ≡ p
child_name c p i j e = cc

other_last : (h : History) (s : Step) (p : Name) (e : Event) (a : StepKind) (before : Status) → last_of (status_of_other h s a p before) ≡ Some e
    → ((status_of_other h s a p before ≡ before) × (a ≢ Absorb p))
    ⊎ ((i : IdTree) × (a ≡ Fork p i) × (e ≡ birth_by h s p i) × (status_of_other h s a p before ≡ Living e))
other_last h s p e (Fork c i) before last =
    elim (cases_name p c) [
      | inl is ↦
          (let there : status_of_other h s (Fork c i) p before ≡ Living (birth_by h s c i) = cond-true (bytes_eq p c) _ _ (bytes_same p c is) in
          let both : Some (birth_by h s c i) ≡ Some e = sym (ap last_of there) ∙ last in
          let event : birth_by h s c i ≡ e = cc in
          inr (i, ap (λ (n : Name). Fork n i) (sym is), sym event ∙ ap (λ (n : Name). birth_by h s n i) (sym is), there ∙ ap Living event))
      | inr differs ↦ inl (cond-false (bytes_eq p c) _ _ (bytes_other p c differs), λ e. cc)
    ]
other_last h s p e (Absorb r) before last =
    elim (cases_name p r) [
      | inl is ↦
          (let there : status_of_other h s (Absorb r) p before ≡ Absorbed = cond-true (bytes_eq p r) _ _ (bytes_same p r is) in
          let both : None ≡ Some e = sym (ap last_of there) ∙ last in
          absurd (cc))
      | inr differs ↦ inl (cond-false (bytes_eq p r) _ _ (bytes_other p r differs), λ is. differs (sym (absorbed_name r p is)))
    ]
other_last h s p e Work before last = inl (refl, λ e. cc)
other_last h s p e Check before last = inl (refl, λ e. cc)
other_last h s p e Present before last = inl (refl, λ e. cc)
other_last h s p e (Send m) before last = inl (refl, λ e. cc)
other_last h s p e (Receive m) before last = inl (refl, λ e. cc)
other_last h s p e (Retire q) before last = inl (refl, λ e. cc)

pub origin : (root : Name) (h : History) (s : Step) (p : Name) (e : Event) → Holds root (s ∷ h) p e → Origin root h s p e
origin root h s p e holds =
    elim (cases_name p s.process) [
      | inl is ↦ acted is (actor_last s.step_kind (event_of h s) e (ap last_of (sym (status_acts root h s p is)) ∙ holds))
      | inr differs ↦
          (let there = status_others root h s p differs in
          elim (other_last h s p e s.step_kind (status root h p) (ap last_of (sym there) ∙ holds)) [
            | inl w ↦ kept differs w.1 (there ∙ w.0)
            | inr w ↦ born {i = w.0} differs w.1 w.2 (there ∙ w.3)
          ])
    ]

-- The last event of a process is an event, and a process with an event is born.
pub held_occurs : (root : Name) (h : History) (p : Name) (e : Event) → Holds root h p e → Occurs root h e
held_occurs root [] p e holds = subst (λ (x : Event). Occurs root [] x) (sym (first_holds root p e holds).1) root_birth
held_occurs root (s ∷ h) p e holds =
    elim (origin root h s p e holds) [
      | kept differs absorbs as_before ↦ earlier (held_occurs root h p e (ap last_of (sym as_before) ∙ holds))
      | acted is event ↦ subst (λ (x : Event). Occurs root (s ∷ h) x) (sym event) step
      | born differs forks event lives ↦ subst (λ (x : Event). Occurs root (s ∷ h) x) (sym event) (birth forks)
    ]

-- The last event of a process is of that process.
pub held_process : (root : Name) (h : History) (p : Name) (e : Event) → Holds root h p e → e.process ≡ p
held_process root [] p e holds = (let first = first_holds root p e holds in ap (λ (x : Event). x.process) first.1 ∙ sym first.0)
held_process root (s ∷ h) p e holds =
    elim (origin root h s p e holds) [
      | kept differs absorbs as_before ↦ held_process root h p e (ap last_of (sym as_before) ∙ holds)
      | acted is event ↦ ap (λ (x : Event). x.process) event ∙ sym is
      | born differs forks event lives ↦ ap (λ (x : Event). x.process) event
    ]

-- Who is not born after a step was not born before it, and is neither its process nor its child.
pub record IsUnbornAfter (root : Name) (h : History) (s : Step) (p : Name) : Type 0 where
  pub before : status root h p ≡ Unborn
  pub not_actor : p ≢ s.process
  pub not_child : (i : IdTree) → s.step_kind ≢ Fork p i

actor_not_unborn : (a : StepKind) (e : Event) → status_of_actor a e ≢ Unborn
actor_not_unborn a e unborn = grind arith

other_unborn : (h : History) (s : Step) (p : Name) (a : StepKind) (before : Status) → status_of_other h s a p before ≡ Unborn
    → (before ≡ Unborn) × ((i : IdTree) → a ≢ Fork p i)
other_unborn h s p (Fork c i) before unborn =
    elim (cases_name p c) [
      | inl is ↦
          (let there : status_of_other h s (Fork c i) p before ≡ Living (birth_by h s c i) = cond-true (bytes_eq p c) _ _ (bytes_same p c is) in
          let both : Living (birth_by h s c i) ≡ Unborn = sym there ∙ unborn in
          absurd (cc))
      | inr differs ↦
          (let there : status_of_other h s (Fork c i) p before ≡ before = cond-false (bytes_eq p c) _ _ (bytes_other p c differs) in
          (sym there ∙ unborn, λ j e. differs (sym (child_name c p i j e))))
    ]
other_unborn h s p (Absorb r) before unborn =
    elim (cases_name p r) [
      | inl is ↦
          (let there : status_of_other h s (Absorb r) p before ≡ Absorbed = cond-true (bytes_eq p r) _ _ (bytes_same p r is) in
          let both : Absorbed ≡ Unborn = sym there ∙ unborn in
          absurd (cc))
      | inr differs ↦
          (let there : status_of_other h s (Absorb r) p before ≡ before = cond-false (bytes_eq p r) _ _ (bytes_other p r differs) in
          (sym there ∙ unborn, λ j e. cc))
    ]
other_unborn h s p Work before unborn = (unborn, λ j e. cc)
other_unborn h s p Check before unborn = (unborn, λ j e. cc)
other_unborn h s p Present before unborn = (unborn, λ j e. cc)
other_unborn h s p (Send m) before unborn = (unborn, λ j e. cc)
other_unborn h s p (Receive m) before unborn = (unborn, λ j e. cc)
other_unborn h s p (Retire q) before unborn = (unborn, λ j e. cc)

pub unborn_after : (root : Name) (h : History) (s : Step) (p : Name) → status root (s ∷ h) p ≡ Unborn → IsUnbornAfter root h s p
unborn_after root h s p unborn =
    elim (cases_name p s.process) [
      | inl is ↦ absurd (actor_not_unborn s.step_kind (event_of h s) (sym (status_acts root h s p is) ∙ unborn))
      | inr differs ↦
          (let there = other_unborn h s p s.step_kind (status root h p) (sym (status_others root h s p differs) ∙ unborn) in
          record { before = there.0; not_actor = differs; not_child = there.1 })
    ]

-- The root is born.
pub root_born : (root : Name) (h : History) → status root h root ≢ Unborn
root_born root [] unborn = (let both : Living (birth_of_root root) ≡ Unborn = sym (root_holds root) ∙ unborn in cc)
root_born root (s ∷ h) unborn = root_born root h (unborn_after root h s root unborn).before

-- The process of an event is born.
pub is_born : {root : Name} {h : History} {y : Event} → Occurs root h y → status root h y.process ≢ Unborn
is_born {root} root_birth unborn = (let both : Living (birth_of_root root) ≡ Unborn = sym (root_holds root) ∙ unborn in cc)
is_born {root} (step {h = h} {s = s}) unborn = (unborn_after root h s s.process unborn).not_actor refl
is_born {root} (birth {h = h} {s = s} {child = c} {given = i} forks) unborn = (unborn_after root h s c unborn).not_child i forks
is_born {root} (earlier {h = h} {s = s} {x = x} occurs) unborn = is_born occurs (unborn_after root h s x.process unborn).before

-- An event's number is at most the number of steps.
pub number_within : {root : Name} {h : History} {y : Event} → Occurs root h y → y.number ≤ length h
number_within root_birth = omega arith
number_within step = omega arith
number_within (birth forks) = omega arith
number_within (earlier {h = h} {x = x} occurs) = (let before : x.number ≤ length h = number_within occurs in omega arith)

-- A process that retired did so by its last event.
actor_retired : (h : History) (s : Step) (e : Event) (q : Name) (a : StepKind) → s.step_kind ≡ a
    → status_of_actor a (event_of h s) ≡ Retired e q → e.kind ≡ Does (Retire q)
actor_retired h s e q a is both = grind arith

pub retired_by : (root : Name) (h : History) (p : Name) (e : Event) (q : Name) → status root h p ≡ Retired e q → e.kind ≡ Does (Retire q)
retired_by root [] p e q retired =
    let first = first_holds root p e (ap last_of retired) in
    let both : Living e ≡ Retired e q = sym first.2 ∙ retired in
    absurd (cc)
retired_by root (s ∷ h) p e q retired =
    elim (origin root h s p e (ap last_of retired)) [
      | kept differs absorbs as_before ↦ retired_by root h p e q (sym as_before ∙ retired)
      | acted is event ↦ actor_retired h s e q s.step_kind refl (sym (status_acts root h s p is) ∙ retired)
      | born differs forks event lives ↦ (let both : Living e ≡ Retired e q = sym lives ∙ retired in absurd (cc))
    ]

-- What sent a message is an event, and a send.
pub sent_occurs : (root : Name) (h : History) (m : Message) (e : Event) → sending h m ≡ Some e → Occurs root h e
unfolding sending
sent_occurs root [] m e is = absurd (cc)
sent_occurs root (s ∷ h) m e is =
    elim (cases_Bool (sends s.step_kind m)) [
      | inl this ↦
          (let same : Some (event_of h s) ≡ Some e = sym (cond-true (sends s.step_kind m) _ _ this) ∙ is in
          let event : event_of h s ≡ e = cc in
          subst (λ (x : Event). Occurs root (s ∷ h) x) event step)
      | inr other ↦ earlier (sent_occurs root h m e (sym (cond-false (sends s.step_kind m) _ _ other) ∙ is))
    ]

pub sent_by : (h : History) (m : Message) (e : Event) → sending h m ≡ Some e → (a : StepKind) × (e.kind ≡ Does a)
unfolding sending
sent_by [] m e is = absurd (cc)
sent_by (s ∷ h) m e is =
    elim (cases_Bool (sends s.step_kind m)) [
      | inl this ↦
          (let same : Some (event_of h s) ≡ Some e = sym (cond-true (sends s.step_kind m) _ _ this) ∙ is in
          let event : event_of h s ≡ e = cc in
          (s.step_kind, ap (λ (x : Event). x.kind) (sym event)))
      | inr other ↦ sent_by h m e (sym (cond-false (sends s.step_kind m) _ _ other) ∙ is)
    ]
