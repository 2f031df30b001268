-- When a cut of a history stays closed with one step more.
use Rattle.std.proofs.Common.{◌≡◌, ◌≢◌, ◌≤◌, true, false, [], ◌∷◌, length, Some, None, refl, sym, ◌∙◌, ap, ◌⊎◌, inl, inr, arith}
use Rattle.std.specs.Option.{is_some}
use Rattle.std.specs.Str.{bytes_eq}
use Rattle.std.proofs.lemmas.Bool.{true≢false, cond-true, cond-false, cases_Bool}
use Rattle.id_tree.specs.IdTree.{IdTree}
use Rattle.report_line.specs.declared.step.StepKind.{StepKind}
use Rattle.report_line.specs.declared.step.StepKind.TheVariants.{Send, Receive, Fork, Absorb}
use Rattle.report_line.specs.declared.step.Step.{Step}
use Rattle.report_line.specs.histories.History.{Name, Message, History, Event, event_of, birth_by, Status, Unborn, Living, Retired, Absorbed, status_of_other, last_of, status, sends, sending}
use Rattle.report_line.specs.histories.Lawful.{IsAllowed, IsLawful, start, next}
use Rattle.report_line.specs.histories.Events.{Edge, to_next, to_birth, to_receive, to_absorption, earlier}
use Rattle.law_histories.proofs.Bytes.{bytes_are, bytes_other, cases_name}
use Rattle.law_histories.proofs.Status.{status_acts, status_others, first_holds, held_process, held_occurs, number_within}
use Rattle.law_histories.proofs.Steps.{fork_of}
use Rattle.law_histories.specs.Kept.{Cut, IsClosed, kept}
use Rattle.law_histories.proofs.Follows.{kept_taken, kept_left, follows, closed_before, actor_retires, other_retired}

-- ---- the edges that a step adds

-- With an event of a process the cut has the earlier ones.
abbrev pub IsInOrder : Cut → Type 0
IsInOrder cut = (a b : Event) → a.process ≡ b.process → a.number ≤ b.number → cut b ≡ true → cut a ≡ true

-- Of the edges to the step and from its fork, those that no order of events closes.
pub record IsClosedAt (root : Name) (h : History) (cut : Cut) (s : Step) : Type 0 where
  pub birth : (c : Name) (i : IdTree) → s.step_kind ≡ Fork c i → cut (birth_by h s c i) ≡ true → cut (event_of h s) ≡ true
  pub sent : (m : Message) (x : Event) → s.step_kind ≡ Receive m → sending h m ≡ Some x → cut (event_of h s) ≡ true → cut x ≡ true
  pub retired : (r : Name) (x : Event) → s.step_kind ≡ Absorb r → status root h r ≡ Retired x s.process → cut (event_of h s) ≡ true → cut x ≡ true

data Arrow (root : Name) (h : History) (s : Step) (a b : Event) : Type 0 where
  is_next : status root h s.process ≡ Living a → b ≡ event_of h s → Arrow root h s a b
  is_birth : (c : Name) (i : IdTree) → s.step_kind ≡ Fork c i → a ≡ event_of h s → b ≡ birth_by h s c i → Arrow root h s a b
  is_receive : (m : Message) → s.step_kind ≡ Receive m → sending h m ≡ Some a → b ≡ event_of h s → Arrow root h s a b
  is_absorption : (r : Name) → s.step_kind ≡ Absorb r → status root h r ≡ Retired a s.process → b ≡ event_of h s → Arrow root h s a b
  is_earlier : Edge root h a b → Arrow root h s a b

arrow : {root : Name} {h : History} {s : Step} {a b : Event} → Edge root (s ∷ h) a b → Arrow root h s a b
arrow (to_next living) = is_next living refl
arrow (to_birth {child = c} {given = i} forks) = is_birth c i forks refl refl
arrow (to_receive {m = m} receives sent) = is_receive m receives sent refl
arrow (to_absorption {retired = r} absorbs retired) = is_absorption r absorbs retired refl
arrow (earlier edge) = is_earlier edge

pub closed_next : (root : Name) (h : History) (cut : Cut) (s : Step) → IsInOrder cut → IsClosed root h cut → IsClosedAt root h cut s → IsClosed root (s ∷ h) cut
closed_next root h cut s in_order closed here a b edge inside =
    elim (arrow edge) [
      | is_next living is ↦
          (let within : a.number ≤ length h = number_within (held_occurs root h s.process a (ap last_of living)) in
          in_order a (event_of h s) (held_process root h s.process a (ap last_of living)) (omega arith) (ap cut (sym is) ∙ inside))
      | is_birth c i forks from is ↦ ap cut from ∙ here.birth c i forks (ap cut (sym is) ∙ inside)
      | is_receive m receives sent is ↦ here.sent m a receives sent (ap cut (sym is) ∙ inside)
      | is_absorption r absorbs retired is ↦ here.retired r a absorbs retired (ap cut (sym is) ∙ inside)
      | is_earlier before ↦ closed a b before inside
    ]

pub closed_at : (root : Name) (h : History) (cut : Cut) (s : Step) → IsClosed root (s ∷ h) cut → IsClosedAt root h cut s
closed_at root h cut s closed = record {
  birth = λ c i forks inside. closed (event_of h s) (birth_by h s c i) (to_birth forks) inside;
  sent = λ m x receives sent inside. closed x (event_of h s) (to_receive receives sent) inside;
  retired = λ r x absorbs retired inside. closed x (event_of h s) (to_absorption absorbs retired) inside;
}

-- ---- what was sent is kept just where its event is

-- a send of the message is lawful only as the first one
first_sent : (root : Name) (h : History) (b : Event) (s : Step) (m : Message) (d : StepKind) → IsAllowed root h b s d → sends d m ≡ true → sending h m ≡ None
first_sent root h b s m (Send n) allowed is = ap (sending h) (sym (bytes_are n m is)) ∙ allowed.1
first_sent root h b s m _ allowed is = absurd (true≢false (sym is))

pub left_unsent : {root : Name} {h : History} → IsLawful root h → (cut : Cut) (m : Message) (x : Event) → IsClosed root h cut → sending h m ≡ Some x → cut x ≡ false → sending (kept cut h) m ≡ None
unfolding sending kept
left_unsent start cut m x closed is out = refl
left_unsent {root} (next {h = h} {s = s} {before = b} lawful living allowed) cut m x closed is out =
    let before = closed_before root cut h s closed in
    elim (cases_Bool (sends s.step_kind m)) [
      | inl this ↦
          (let same : Some (event_of h s) ≡ Some x = sym (cond-true (sends s.step_kind m) _ _ this) ∙ is in
          let event : event_of h s ≡ x = cc in
          ap (λ (g : History). sending g m) (kept_left cut h s (ap cut event ∙ out)) ∙ (follows root cut h before).unsent m (first_sent root h b s m s.step_kind allowed this))
      | inr other ↦
          (let there = left_unsent lawful cut m x before (sym (cond-false (sends s.step_kind m) _ _ other) ∙ is) out in
          elim (cases_Bool (cut (event_of h s))) [
            | inl reached ↦ ap (λ (g : History). sending g m) (kept_taken cut h s reached) ∙ (cond-false (sends s.step_kind m) _ _ other ∙ there)
            | inr beyond ↦ ap (λ (g : History). sending g m) (kept_left cut h s beyond) ∙ there
          ])
    ]

pub sent_is_kept : (root : Name) (h : History) (cut : Cut) (m : Message) (x : Event) → IsLawful root h → IsClosed root h cut → sending h m ≡ Some x → is_some (sending (kept cut h) m) ≡ cut x
sent_is_kept root h cut m x lawful closed is =
    elim (cases_Bool (cut x)) [
      | inl inside ↦ (let there = (follows root cut h closed).sent m x is inside in ap is_some there.1 ∙ sym inside)
      | inr out ↦ ap is_some (left_unsent lawful cut m x closed is out) ∙ sym out
    ]

-- ---- who retired waits just where the retirement is kept

-- a retirement that is kept is that of the history, which may have been absorbed since
abbrev WasRetired : Name → History → Cut → Name → Name → Type 0
WasRetired root h cut r q = ((x : Event) × (status root h r ≡ Retired x q) × (cut x ≡ true)) ⊎ (status root h r ≡ Absorbed)

living_retired : (x y : Event) (q : Name) → Living x ≡ Retired y q → ⊥
living_retired x y q is = cc

living_absorbed : (x : Event) → Living x ≡ Absorbed → ⊥
living_absorbed x is = cc

unborn_retired : (y : Event) (q : Name) → Unborn ≡ Retired y q → ⊥
unborn_retired y q is = cc

unborn_absorbed : Unborn ≡ Absorbed → ⊥
unborn_absorbed is = cc

-- how another one stands after a step, which is not born by it
other_stands : (h : History) (s : Step) (r : Name) (d : StepKind) (now : Status) → ((i : IdTree) → d ≢ Fork r i) → (status_of_other h s d r now ≡ now) ⊎ (status_of_other h s d r now ≡ Absorbed)
other_stands h s r (Fork c i) now not_born =
    elim (cases_name r c) [
      | inl same ↦ absurd (not_born i (ap (λ (n : Name). Fork n i) (sym same)))
      | inr differs ↦ inl (cond-false (bytes_eq r c) _ _ (bytes_other r c differs))
    ]
other_stands h s r (Absorb q) now not_born =
    elim (cases_Bool (bytes_eq r q)) [
      | inl this ↦ inr (cond-true (bytes_eq r q) _ _ this)
      | inr other ↦ inl (cond-false (bytes_eq r q) _ _ other)
    ]
other_stands h s r _ now not_born = inl refl

was_retired_next : (root : Name) (h : History) (b : Event) (cut : Cut) (s : Step) (r q : Name) → status root h s.process ≡ Living b → IsAllowed root h b s s.step_kind → WasRetired root h cut r q → WasRetired root (s ∷ h) cut r q
was_retired_next root h b cut s r q living allowed was =
    elim was [
      | inl w ↦
          (let differs : r ≢ s.process = λ same. living_retired b w.0 q (sym living ∙ (ap (status root h) (sym same) ∙ w.1)) in
          let not_born : (i : IdTree) → s.step_kind ≢ Fork r i = λ i forks. unborn_retired w.0 q (sym (fork_of root h b s r i allowed forks).new_name ∙ w.1) in
          let there = status_others root h s r differs in
          elim (other_stands h s r s.step_kind (status root h r) not_born) [
            | inl same ↦ inl (w.0, there ∙ (same ∙ w.1), w.2)
            | inr gone ↦ inr (there ∙ gone)
          ])
      | inr absorbed ↦
          (let differs : r ≢ s.process = λ same. living_absorbed b (sym living ∙ (ap (status root h) (sym same) ∙ absorbed)) in
          let not_born : (i : IdTree) → s.step_kind ≢ Fork r i = λ i forks. unborn_absorbed (sym (fork_of root h b s r i allowed forks).new_name ∙ absorbed) in
          let there = status_others root h s r differs in
          elim (other_stands h s r s.step_kind (status root h r) not_born) [
            | inl same ↦ inr (there ∙ (same ∙ absorbed))
            | inr gone ↦ inr (there ∙ gone)
          ])
    ]

first_not_retired : (root r : Name) (y : Event) (q : Name) → status root [] r ≡ Retired y q → ⊥
first_not_retired root r y q is =
    (let first = first_holds root r y (ap last_of is) in
    living_retired y y q (sym first.2 ∙ is))

pub was_retired : {root : Name} {h : History} → IsLawful root h → (cut : Cut) (r q : Name) (y : Event) → IsClosed root h cut → status root (kept cut h) r ≡ Retired y q → WasRetired root h cut r q
unfolding kept
was_retired {root} start cut r q y closed is = absurd (first_not_retired root r y q is)
was_retired {root} (next {h = h} {s = s} {before = b} lawful living allowed) cut r q y closed is =
    let before = closed_before root cut h s closed in
    elim (cases_Bool (cut (event_of h s))) [
      | inr beyond ↦
          was_retired_next root h b cut s r q living allowed
          (was_retired lawful cut r q y before (ap (λ (g : History). status root g r) (sym (kept_left cut h s beyond)) ∙ is))
      | inl reached ↦
          (let now : status root (s ∷ kept cut h) r ≡ Retired y q = ap (λ (g : History). status root g r) (sym (kept_taken cut h s reached)) ∙ is in
          elim (cases_name r s.process) [
            | inl same ↦
                (let report_kinds = actor_retires (kept cut h) h s s.step_kind y q (sym (status_acts root (kept cut h) s r same) ∙ now) in
                inl (event_of h s, status_acts root h s r same ∙ report_kinds.1, reached))
            | inr differs ↦
                (let other = other_retired (kept cut h) h s r s.step_kind (status root (kept cut h) r) y q (sym (status_others root (kept cut h) s r differs) ∙ now) in
                elim (was_retired lawful cut r q y before other.0) [
                  | inl w ↦ inl (w.0, status_others root h s r differs ∙ (other.1 (status root h r) ∙ w.1), w.2)
                  | inr absorbed ↦ inr (status_others root h s r differs ∙ (other.1 (status root h r) ∙ absorbed))
                ])
          ])
    ]
