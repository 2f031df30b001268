-- What a closed cut keeps of how processes stand, of what was sent and of how many reports were made.
use Rattle.std.proofs.Common.{◌≡◌, ◌≢◌, true, false, [], ◌∷◌, Some, None, refl, sym, ◌∙◌, ap, subst, inl, inr, arith}
use Rattle.std.specs.Str.{bytes_eq}
use Rattle.std.proofs.lemmas.Bool.{true≢false, cond-true, cond-false, cases_Bool}
use Rattle.id_tree.specs.IdTree.{IdTree}
use Rattle.report_line.specs.declared.step.StepKind.{StepKind}
use Rattle.report_line.specs.declared.step.StepKind.TheVariants.{Work, Check, Present, Send, Receive, Fork, Retire, Absorb}
use Rattle.report_line.specs.declared.step.Step.{Step}
use Rattle.report_line.specs.histories.History.{Name, Message, History, Event, event_of, birth_by, Status, Unborn, Living, Retired, Absorbed, status_of_actor, status_of_other, status, sends, sending}
use Rattle.report_line.specs.histories.Events.{to_birth, earlier}
use Rattle.law_histories.proofs.Bytes.{bytes_same, bytes_other, cases_name}
use Rattle.law_histories.proofs.Status.{status_acts, status_others}
use Rattle.law_histories.specs.Kept.{Cut, IsClosed, kept, IsSameEvent}

pub kept_taken : (cut : Cut) (h : History) (s : Step) → cut (event_of h s) ≡ true → kept cut (s ∷ h) ≡ s ∷ kept cut h
unfolding kept
kept_taken cut h s is = cond-true _ _ _ is

pub kept_left : (cut : Cut) (h : History) (s : Step) → cut (event_of h s) ≡ false → kept cut (s ∷ h) ≡ kept cut h
unfolding kept
kept_left cut h s is = cond-false _ _ _ is

pub same_event : (x : Event) → IsSameEvent x x
same_event x = record { process = refl; kind = refl; id = refl; values = refl }

-- How the processes stand in `h`, as far as the cut has it, is how they stand in `g`.
pub record Follows (root : Name) (cut : Cut) (h g : History) : Type 0 where
  pub unborn : (p : Name) → status root h p ≡ Unborn → status root g p ≡ Unborn
  pub living : (p : Name) (x : Event) → status root h p ≡ Living x → cut x ≡ true → (y : Event) × (status root g p ≡ Living y) × IsSameEvent x y
  pub retired : (p : Name) (x : Event) (q : Name) → status root h p ≡ Retired x q → cut x ≡ true → (y : Event) × (status root g p ≡ Retired y q) × IsSameEvent x y
  pub unsent : (m : Message) → sending h m ≡ None → sending g m ≡ None
  pub sent : (m : Message) (x : Event) → sending h m ≡ Some x → cut x ≡ true → (y : Event) × (sending g m ≡ Some y) × IsSameEvent x y

pub follows_start : (root : Name) (cut : Cut) → Follows root cut [] []
unfolding sending
follows_start root cut = record {
  unborn = λ p is. is;
  living = λ p x is within. (x, is, same_event x);
  retired = λ p x q is within. (x, is, same_event x);
  unsent = λ m is. is;
  sent = λ m x is within. (x, is, same_event x);
}

-- What the step does to the acting process and to another one, in two histories.
pub actor_lives : (h g : History) (s : Step) (a : StepKind) (x : Event) → status_of_actor a (event_of h s) ≡ Living x
    → (x ≡ event_of h s) × (status_of_actor a (event_of g s) ≡ Living (event_of g s))
actor_lives h g s a x is = grind arith

pub actor_retires : (h g : History) (s : Step) (a : StepKind) (x : Event) (q : Name) → status_of_actor a (event_of h s) ≡ Retired x q
    → (x ≡ event_of h s) × (status_of_actor a (event_of g s) ≡ Retired (event_of g s) q)
actor_retires h g s a x q is = grind arith

pub actor_is_born : (a : StepKind) (x : Event) → status_of_actor a x ≢ Unborn
actor_is_born a x is = grind arith

retired_no : (x y : Event) (q : Name) → Living x ≡ Retired y q → ⊥
retired_no x y q is = cc

absorbed_no : (y : Event) (q : Name) → Absorbed ≡ Retired y q → ⊥
absorbed_no y q is = cc

absorbed_lives : (y : Event) → Absorbed ≡ Living y → ⊥
absorbed_lives y is = cc

living_unborn : (x : Event) → Living x ≡ Unborn → ⊥
living_unborn x is = cc

absorbed_unborn : Absorbed ≡ Unborn → ⊥
absorbed_unborn is = cc

same_living : (x y : Event) → Living x ≡ Living y → x ≡ y
same_living x y is = cc

pub other_unborn : (h g : History) (s : Step) (p : Name) (a : StepKind) (before after : Status) → status_of_other h s a p before ≡ Unborn
    → (before ≡ Unborn) × (after ≡ Unborn → status_of_other g s a p after ≡ Unborn)
other_unborn h g s p (Fork c i) before after is =
    elim (cases_Bool (bytes_eq p c)) [
      | inl this ↦ absurd (living_unborn _ (sym (cond-true (bytes_eq p c) _ _ this) ∙ is))
      | inr other ↦ (sym (cond-false (bytes_eq p c) _ _ other) ∙ is, λ there. cond-false (bytes_eq p c) _ _ other ∙ there)
    ]
other_unborn h g s p (Absorb r) before after is =
    elim (cases_Bool (bytes_eq p r)) [
      | inl this ↦ absurd (absorbed_unborn (sym (cond-true (bytes_eq p r) _ _ this) ∙ is))
      | inr other ↦ (sym (cond-false (bytes_eq p r) _ _ other) ∙ is, λ there. cond-false (bytes_eq p r) _ _ other ∙ there)
    ]
other_unborn h g s p Work before after is = (is, λ there. there)
other_unborn h g s p Check before after is = (is, λ there. there)
other_unborn h g s p Present before after is = (is, λ there. there)
other_unborn h g s p (Send m) before after is = (is, λ there. there)
other_unborn h g s p (Receive m) before after is = (is, λ there. there)
other_unborn h g s p (Retire q) before after is = (is, λ there. there)

-- Another process lives after the step as before it, or is born by it.
pub data LivesBy (h g : History) (s : Step) (p : Name) (a : StepKind) (before : Status) (x : Event) : Type 0 where
  stays : before ≡ Living x → ((after : Status) → status_of_other g s a p after ≡ after) → LivesBy h g s p a before x
  is_child : (i : IdTree) → a ≡ Fork p i → x ≡ birth_by h s p i → ((after : Status) → status_of_other g s a p after ≡ Living (birth_by g s p i)) → LivesBy h g s p a before x

child_lives : (h g : History) (s : Step) (p c : Name) (i : IdTree) (before : Status) (x : Event) → p ≡ c → Living (birth_by h s c i) ≡ Living x
    → LivesBy h g s p (Fork c i) before x
child_lives h g s p c i before x same is =
    is_child i (ap (λ (n : Name). Fork n i) (sym same)) (sym (same_living _ x is) ∙ ap (λ (n : Name). birth_by h s n i) (sym same))
    (λ after. cond-true (bytes_eq p c) _ _ (bytes_same p c same) ∙ ap (λ (n : Name). Living (birth_by g s n i)) (sym same))

pub other_lives : (h g : History) (s : Step) (p : Name) (a : StepKind) (before : Status) (x : Event) → status_of_other h s a p before ≡ Living x
    → LivesBy h g s p a before x
other_lives h g s p (Fork c i) before x is =
    elim (cases_name p c) [
      | inl same ↦ child_lives h g s p c i before x same (sym (cond-true (bytes_eq p c) _ _ (bytes_same p c same)) ∙ is)
      | inr differs ↦ stays (sym (cond-false (bytes_eq p c) _ _ (bytes_other p c differs)) ∙ is) (λ after. cond-false (bytes_eq p c) _ _ (bytes_other p c differs))
    ]
other_lives h g s p (Absorb r) before x is =
    elim (cases_Bool (bytes_eq p r)) [
      | inl this ↦ absurd (absorbed_lives x (sym (cond-true (bytes_eq p r) _ _ this) ∙ is))
      | inr other ↦ stays (sym (cond-false (bytes_eq p r) _ _ other) ∙ is) (λ after. cond-false (bytes_eq p r) _ _ other)
    ]
other_lives h g s p Work before x is = stays is (λ after. refl)
other_lives h g s p Check before x is = stays is (λ after. refl)
other_lives h g s p Present before x is = stays is (λ after. refl)
other_lives h g s p (Send m) before x is = stays is (λ after. refl)
other_lives h g s p (Receive m) before x is = stays is (λ after. refl)
other_lives h g s p (Retire q) before x is = stays is (λ after. refl)

pub other_retired : (h g : History) (s : Step) (p : Name) (a : StepKind) (before : Status) (x : Event) (q : Name) → status_of_other h s a p before ≡ Retired x q
    → (before ≡ Retired x q) × ((after : Status) → status_of_other g s a p after ≡ after)
other_retired h g s p (Fork c i) before x q is =
    elim (cases_Bool (bytes_eq p c)) [
      | inl this ↦ absurd (retired_no _ x q (sym (cond-true (bytes_eq p c) _ _ this) ∙ is))
      | inr other ↦ (sym (cond-false (bytes_eq p c) _ _ other) ∙ is, λ after. cond-false (bytes_eq p c) _ _ other)
    ]
other_retired h g s p (Absorb r) before x q is =
    elim (cases_Bool (bytes_eq p r)) [
      | inl this ↦ absurd (absorbed_no x q (sym (cond-true (bytes_eq p r) _ _ this) ∙ is))
      | inr other ↦ (sym (cond-false (bytes_eq p r) _ _ other) ∙ is, λ after. cond-false (bytes_eq p r) _ _ other)
    ]
other_retired h g s p Work before x q is = (is, λ after. refl)
other_retired h g s p Check before x q is = (is, λ after. refl)
other_retired h g s p Present before x q is = (is, λ after. refl)
other_retired h g s p (Send m) before x q is = (is, λ after. refl)
other_retired h g s p (Receive m) before x q is = (is, λ after. refl)
other_retired h g s p (Retire r) before x q is = (is, λ after. refl)

-- The step is in the cut, and so `g` makes it too.
module _ (root : Name) (cut : Cut) (h g : History) (s : Step) (follows : Follows root cut h g) where
  pub same_step : IsSameEvent (event_of h s) (event_of g s)
  same_step = record { process = refl; kind = refl; id = refl; values = refl }

  pub same_birth : (p : Name) (i : IdTree) → IsSameEvent (birth_by h s p i) (birth_by g s p i)
  same_birth p i = record { process = refl; kind = refl; id = refl; values = refl }

  both_unborn : (p : Name) → status root (s ∷ h) p ≡ Unborn → status root (s ∷ g) p ≡ Unborn
  both_unborn p is =
      elim (cases_name p s.process) [
        | inl same ↦ absurd (actor_is_born s.step_kind (event_of h s) (sym (status_acts root h s p same) ∙ is))
        | inr differs ↦
            (let other = other_unborn h g s p s.step_kind (status root h p) (status root g p) (sym (status_others root h s p differs) ∙ is) in
            status_others root g s p differs ∙ other.1 (follows.unborn p other.0))
      ]

  both_living : (p : Name) (x : Event) → status root (s ∷ h) p ≡ Living x → cut x ≡ true → (y : Event) × (status root (s ∷ g) p ≡ Living y) × IsSameEvent x y
  both_living p x is within =
      elim (cases_name p s.process) [
        | inl same ↦
            (let acts = actor_lives h g s s.step_kind x (sym (status_acts root h s p same) ∙ is) in
            (event_of g s, status_acts root g s p same ∙ acts.1, subst (λ (e : Event). IsSameEvent e (event_of g s)) (sym acts.0) same_step))
        | inr differs ↦ elim (other_lives h g s p s.step_kind (status root h p) x (sym (status_others root h s p differs) ∙ is)) [
          | stays before after ↦
              (let there = follows.living p x before within in
              (there.0, status_others root g s p differs ∙ (after (status root g p) ∙ there.1), there.2))
          | is_child i forks event after ↦ (
            birth_by g s p i,
            status_others root g s p differs ∙ after (status root g p),
            subst (λ (e : Event). IsSameEvent e (birth_by g s p i)) (sym event) (same_birth p i),
          )
        ]
      ]

  both_retired : (p : Name) (x : Event) (q : Name) → status root (s ∷ h) p ≡ Retired x q → cut x ≡ true → (y : Event) × (status root (s ∷ g) p ≡ Retired y q) × IsSameEvent x y
  both_retired p x q is within =
      elim (cases_name p s.process) [
        | inl same ↦
            (let acts = actor_retires h g s s.step_kind x q (sym (status_acts root h s p same) ∙ is) in
            (event_of g s, status_acts root g s p same ∙ acts.1, subst (λ (e : Event). IsSameEvent e (event_of g s)) (sym acts.0) same_step))
        | inr differs ↦
            (let before = other_retired h g s p s.step_kind (status root h p) x q (sym (status_others root h s p differs) ∙ is) in
            let there = follows.retired p x q before.0 within in
            (there.0, status_others root g s p differs ∙ (before.1 (status root g p) ∙ there.1), there.2))
      ]

  both_unsent : (m : Message) → sending (s ∷ h) m ≡ None → sending (s ∷ g) m ≡ None
  unfolding sending
  both_unsent m is =
      elim (cases_Bool (sends s.step_kind m)) [
        | inl this ↦ (let none : Some (event_of h s) ≡ None = sym (cond-true (sends s.step_kind m) _ _ this) ∙ is in absurd (cc))
        | inr other ↦ cond-false (sends s.step_kind m) _ _ other ∙ follows.unsent m (sym (cond-false (sends s.step_kind m) _ _ other) ∙ is)
      ]

  both_sent : (m : Message) (x : Event) → sending (s ∷ h) m ≡ Some x → cut x ≡ true → (y : Event) × (sending (s ∷ g) m ≡ Some y) × IsSameEvent x y
  unfolding sending
  both_sent m x is within =
      elim (cases_Bool (sends s.step_kind m)) [
        | inl this ↦
            (let some : Some (event_of h s) ≡ Some x = sym (cond-true (sends s.step_kind m) _ _ this) ∙ is in
            let event : event_of h s ≡ x = cc in
            (event_of g s, cond-true (sends s.step_kind m) _ _ this, subst (λ (e : Event). IsSameEvent e (event_of g s)) event same_step))
        | inr other ↦
            (let before : sending h m ≡ Some x = sym (cond-false (sends s.step_kind m) _ _ other) ∙ is in
            let there = follows.sent m x before within in
            (there.0, cond-false (sends s.step_kind m) _ _ other ∙ there.1, there.2))
      ]

  pub follows_taken : Follows root cut (s ∷ h) (s ∷ g)
  follows_taken = record { unborn = both_unborn; living = both_living; retired = both_retired; unsent = both_unsent; sent = both_sent }

  -- The step is not in the cut.
  module _ (closed : IsClosed root (s ∷ h) cut) (beyond : cut (event_of h s) ≡ false) where
    not_the_step : (x : Event) → x ≡ event_of h s → cut x ≡ true → ⊥
    not_the_step x is within = true≢false (sym within ∙ (ap cut is ∙ beyond))

    one_unborn : (p : Name) → status root (s ∷ h) p ≡ Unborn → status root g p ≡ Unborn
    one_unborn p is =
        elim (cases_name p s.process) [
          | inl same ↦ absurd (actor_is_born s.step_kind (event_of h s) (sym (status_acts root h s p same) ∙ is))
          | inr differs ↦ follows.unborn p (other_unborn h g s p s.step_kind (status root h p) (status root g p) (sym (status_others root h s p differs) ∙ is)).0
        ]

    one_living : (p : Name) (x : Event) → status root (s ∷ h) p ≡ Living x → cut x ≡ true → (y : Event) × (status root g p ≡ Living y) × IsSameEvent x y
    one_living p x is within =
        elim (cases_name p s.process) [
          | inl same ↦ absurd (not_the_step x (actor_lives h g s s.step_kind x (sym (status_acts root h s p same) ∙ is)).0 within)
          | inr differs ↦ elim (other_lives h g s p s.step_kind (status root h p) x (sym (status_others root h s p differs) ∙ is)) [
            | stays before after ↦ follows.living p x before within
            | is_child i forks event after ↦
                absurd (not_the_step (event_of h s) refl (closed (event_of h s) (birth_by h s p i) (to_birth forks) (ap cut (sym event) ∙ within)))
          ]
        ]

    one_retired : (p : Name) (x : Event) (q : Name) → status root (s ∷ h) p ≡ Retired x q → cut x ≡ true → (y : Event) × (status root g p ≡ Retired y q) × IsSameEvent x y
    one_retired p x q is within =
        elim (cases_name p s.process) [
          | inl same ↦ absurd (not_the_step x (actor_retires h g s s.step_kind x q (sym (status_acts root h s p same) ∙ is)).0 within)
          | inr differs ↦ follows.retired p x q (other_retired h g s p s.step_kind (status root h p) x q (sym (status_others root h s p differs) ∙ is)).0 within
        ]

    one_unsent : (m : Message) → sending (s ∷ h) m ≡ None → sending g m ≡ None
    unfolding sending
    one_unsent m is =
        elim (cases_Bool (sends s.step_kind m)) [
          | inl this ↦ (let none : Some (event_of h s) ≡ None = sym (cond-true (sends s.step_kind m) _ _ this) ∙ is in absurd (cc))
          | inr other ↦ follows.unsent m (sym (cond-false (sends s.step_kind m) _ _ other) ∙ is)
        ]

    one_sent : (m : Message) (x : Event) → sending (s ∷ h) m ≡ Some x → cut x ≡ true → (y : Event) × (sending g m ≡ Some y) × IsSameEvent x y
    unfolding sending
    one_sent m x is within =
        elim (cases_Bool (sends s.step_kind m)) [
          | inl this ↦
              (let some : Some (event_of h s) ≡ Some x = sym (cond-true (sends s.step_kind m) _ _ this) ∙ is in
              let event : event_of h s ≡ x = cc in
              absurd (not_the_step x (sym event) within))
          | inr other ↦ follows.sent m x (sym (cond-false (sends s.step_kind m) _ _ other) ∙ is) within
        ]

    pub follows_left : Follows root cut (s ∷ h) g
    follows_left = record { unborn = one_unborn; living = one_living; retired = one_retired; unsent = one_unsent; sent = one_sent }

pub closed_before : (root : Name) (cut : Cut) (h : History) (s : Step) → IsClosed root (s ∷ h) cut → IsClosed root h cut
closed_before root cut h s closed a b edge within = closed a b (earlier edge) within

pub follows : (root : Name) (cut : Cut) (h : History) → IsClosed root h cut → Follows root cut h (kept cut h)
unfolding kept
follows root cut [] closed = follows_start root cut
follows root cut (s ∷ h) closed =
    let before = follows root cut h (closed_before root cut h s closed) in
    elim (cases_Bool (cut (event_of h s))) [
      | inl reached ↦ subst (λ (g : History). Follows root cut (s ∷ h) g) (sym (kept_taken cut h s reached)) (follows_taken root cut h (kept cut h) s before)
      | inr beyond ↦ subst (λ (g : History). Follows root cut (s ∷ h) g) (sym (kept_left cut h s beyond)) (follows_left root cut h (kept cut h) s before closed beyond)
    ]
