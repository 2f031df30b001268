-- Values do not fall along edges, and each next event of a process raises a point that it owned.
use Rattle.std.proofs.Common.{◌≡◌, ◌<◌, ◌≤◌, ◌∷◌, length, Some, refl, sym, ◌∙◌, ap, subst, ◌⊎◌, inl, inr, arith}
use Rattle.std.proofs.lemmas.Bool.{cases_Bool}
use Rattle.id_tree.specs.IdTree.{IdTree}
use Rattle.id_tree.specs.Points.{Point}
use Rattle.event_tree.specs.Values.{value_at}
use Rattle.report_line.specs.declared.step.StepKind.{StepKind}
use Rattle.report_line.specs.declared.step.StepKind.TheVariants.{Receive, Fork, Retire, Absorb}
use Rattle.report_line.specs.declared.step.Step.{Step}
use Rattle.report_line.specs.histories.History.{last_of, Name, Message, History, EventKind, Birth, Does, Event, birth_by, Living, Retired, status, sending}
use Rattle.report_line.specs.histories.Lawful.{IsAllowed, IsLawful, start, next}
use Rattle.report_line.specs.histories.Events.{Occurs, step, earlier, Edge, to_next, to_birth, to_receive, to_absorption, IsInPast, same, along}
use Rattle.law_histories.specs.Law.{IsRestorable, IsBeyond, LaterIsInPast, SomeIsInPast, BeyondIsLaterInPast, BeyondBirthIsSomeInPast}
use Rattle.law_histories.proofs.Status.{Holds, kept, acted, born, origin, held_occurs, held_process, number_within, is_born, retired_by, sent_by}
use Rattle.law_histories.proofs.Steps.{grown_up, never_falls_by, rises_by, fork_of, child_differs}
use Rattle.law_histories.proofs.Chain.{first_last, first_occurs, old, stepped, child, entry, same_value, owned_by, past_earlier, seen_along}
use Rattle.law_histories.proofs.Seen.{GoesOn, new_holds, is_seen}

-- A process has one last event.
same_last : (root : Name) (h : History) (p q : Name) (e y : Event) → Holds root h p e → Holds root h q y → q ≡ p → y ≡ e
same_last root h p q e y holds holds_y is = cc

same_number : {d e : Event} → e ≡ d → e.number ≡ d.number
same_number is = ap (λ (x : Event). x.number) is

same_process : {d e : Event} → e ≡ d → e.process ≡ d.process
same_process is = ap (λ (x : Event). x.process) is

same_what : {d e : Event} → e ≡ d → e.kind ≡ d.kind
same_what is = ap (λ (x : Event). x.kind) is

-- An event of a process is its last one, or comes before it.
pub up_to_last : {root : Name} {h : History} → IsLawful root h → (p : Name) (e y : Event) → Holds root h p e → Occurs root h y → y.process ≡ p
    → (y ≡ e) ⊎ (y.number < e.number)
up_to_last {root} start p e y holds occurs of_p = inl (first_occurs occurs ∙ sym (first_last root p e holds))
up_to_last {root} (next {h = h} {s = s} {before = b} lawful living allowed) p e y holds occurs of_p =
    elim (new_holds root h b s living allowed y (entry occurs)) [
      | inl before ↦ elim (origin root h s p e holds) [
        | kept differs absorbs as_before ↦ up_to_last lawful p e y (ap last_of (sym as_before) ∙ holds) before of_p
        | acted is event ↦
            (let within : y.number ≤ length h = number_within before in
            let number : e.number ≡ length (s ∷ h) = same_number event in
            inr (omega arith))
        | born differs forks event lives ↦
            (let within : y.number ≤ length h = number_within before in
            let number : e.number ≡ length (s ∷ h) = same_number event in
            inr (omega arith))
      ]
      | inr holds_y ↦ inl (same_last root (s ∷ h) p y.process e y holds holds_y of_p)
    ]

-- Who is a child is new.
no_event_of_child : (root : Name) (h : History) (b : Event) (s : Step) (c : Name) (i : IdTree) → IsAllowed root h b s s.step_kind → s.step_kind ≡ Fork c i
    → (y : Event) → Occurs root h y → y.process ≡ c → ⊥
no_event_of_child root h b s c i allowed forks y occurs is =
    is_born occurs (ap (status root h) is ∙ (fork_of root h b s c i allowed forks).new_name)

-- A later event of a process is beyond an earlier one.
pub rises_later : {root : Name} {h : History} → IsLawful root h → (y z : Event) → Occurs root h y → Occurs root h z → z.process ≡ y.process → y.number < z.number
    → IsBeyond z y
rises_later start y z occurs_y occurs_z of_one less =
    let number : z.number ≡ y.number = same_number (first_occurs occurs_z ∙ sym (first_occurs occurs_y)) in
    absurd (omega arith)
rises_later {root} (next {h = h} {s = s} {before = b} lawful living allowed) y z occurs_y occurs_z of_one less =
    elim (entry occurs_y) [
      | old before_y ↦ elim (entry occurs_z) [
        | old before_z ↦ rises_later lawful y z before_y before_z of_one less
        | stepped is ↦ elim (up_to_last lawful s.process b y (ap last_of living) before_y (sym of_one ∙ same_process is)) [
          | inl last ↦
              (let up = rises_by root h b s s.step_kind allowed in
              let above : value_at b.values up.0 < value_at s.stamp.events up.0 = up.2 in
              let here : value_at y.values up.0 ≡ value_at b.values up.0 = same_value up.0 last in
              let there : value_at z.values up.0 ≡ value_at s.stamp.events up.0 = same_value up.0 is in
              (up.0, owned_by up.0 (sym last) up.1, omega arith))
          | inr earlier_y ↦
              (let up = rises_later lawful y b before_y (held_occurs root h s.process b (ap last_of living))
              (held_process root h s.process b (ap last_of living) ∙ sym (sym of_one ∙ same_process is)) earlier_y in
              let above : value_at y.values up.0 < value_at b.values up.0 = up.2 in
              let no_fall : value_at b.values up.0 ≤ value_at s.stamp.events up.0 = never_falls_by root h b s s.step_kind allowed up.0 in
              let there : value_at z.values up.0 ≡ value_at s.stamp.events up.0 = same_value up.0 is in
              (up.0, up.1, omega arith))
        ]
        | child {c = c} {i = i} forks is ↦ absurd (no_event_of_child root h b s c i allowed forks y before_y (sym of_one ∙ same_process is))
      ]
      | stepped is ↦
          (let number : y.number ≡ length (s ∷ h) = same_number is in
          let within : z.number ≤ length (s ∷ h) = number_within occurs_z in
          absurd (omega arith))
      | child forks is ↦
          (let number : y.number ≡ length (s ∷ h) = same_number is in
          let within : z.number ≤ length (s ∷ h) = number_within occurs_z in
          absurd (omega arith))
    ]

-- An earlier event of a process is in the past of a later one.
pub own_past : {root : Name} {h : History} → IsLawful root h → (y z : Event) → Occurs root h y → Occurs root h z → z.process ≡ y.process → y.number < z.number
    → IsInPast root h y z
own_past start y z occurs_y occurs_z of_one less =
    let number : z.number ≡ y.number = same_number (first_occurs occurs_z ∙ sym (first_occurs occurs_y)) in
    absurd (omega arith)
own_past {root} (next {h = h} {s = s} {before = b} lawful living allowed) y z occurs_y occurs_z of_one less =
    elim (entry occurs_y) [
      | old before_y ↦ elim (entry occurs_z) [
        | old before_z ↦ past_earlier (own_past lawful y z before_y before_z of_one less)
        | stepped is ↦ subst (λ (e : Event). IsInPast root (s ∷ h) y e) (sym is) (along
            (elim (up_to_last lawful s.process b y (ap last_of living) before_y (sym of_one ∙ same_process is)) [
              | inl last ↦ subst (λ (e : Event). IsInPast root (s ∷ h) y e) last same
              | inr earlier_y ↦ past_earlier (own_past lawful y b before_y (held_occurs root h s.process b (ap last_of living))
                  (held_process root h s.process b (ap last_of living) ∙ sym (sym of_one ∙ same_process is)) earlier_y)
            ])
            (to_next living))
        | child {c = c} {i = i} forks is ↦ absurd (no_event_of_child root h b s c i allowed forks y before_y (sym of_one ∙ same_process is))
      ]
      | stepped is ↦
          (let number : y.number ≡ length (s ∷ h) = same_number is in
          let within : z.number ≤ length (s ∷ h) = number_within occurs_z in
          absurd (omega arith))
      | child forks is ↦
          (let number : y.number ≡ length (s ∷ h) = same_number is in
          let within : z.number ≤ length (s ∷ h) = number_within occurs_z in
          absurd (omega arith))
    ]

-- What a receive and an absorption take over does not fall either.
received_up : (root : Name) (h : History) (b : Event) (s : Step) (m : Message) (e : Event) → IsAllowed root h b s (Receive m) → sending h m ≡ Some e
    → (t : Point) → value_at e.values t ≤ value_at s.stamp.events t
received_up root h b s m e w sent t = grind (arith, cases_Bool, grown_up)

absorbed_up : (root : Name) (h : History) (b : Event) (s : Step) (r : Name) (e : Event) → IsAllowed root h b s (Absorb r) → status root h r ≡ Retired e s.process
    → (t : Point) → value_at e.values t ≤ value_at s.stamp.events t
absorbed_up root h b s r e w retired t = grind (arith, cases_Bool, grown_up)

-- Values do not fall along an edge.
abbrev pub IsUp : Event → Event → Type 0
IsUp a c = (t : Point) → value_at a.values t ≤ value_at c.values t

edge_up_next : (root : Name) (h : History) (b : Event) (s : Step) → status root h s.process ≡ Living b → IsAllowed root h b s s.step_kind
    → ((a c : Event) → Edge root h a c → IsUp a c) → {a c : Event} → Edge root (s ∷ h) a c → IsUp a c
edge_up_next root h b s living allowed before (to_next {last = e} lives) t =
    let both : Living b ≡ Living e = sym living ∙ lives in
    let is : b ≡ e = cc in
    let equal : value_at b.values t ≡ value_at e.values t = same_value t is in
    let up : value_at b.values t ≤ value_at s.stamp.events t = never_falls_by root h b s s.step_kind allowed t in
    omega arith
edge_up_next root h b s living allowed before (to_birth forks) t = omega arith
edge_up_next root h b s living allowed before (to_receive {m = m} {sent = e} is sent) t =
    received_up root h b s m e (subst (λ (a : StepKind). IsAllowed root h b s a) is allowed) sent t
edge_up_next root h b s living allowed before (to_absorption {retired = r} {retirement = e} is retired) t =
    absorbed_up root h b s r e (subst (λ (a : StepKind). IsAllowed root h b s a) is allowed) retired t
edge_up_next root h b s living allowed before (earlier edge) t = before _ _ edge t

pub edge_up : {root : Name} {h : History} → IsLawful root h → (a c : Event) → Edge root h a c → IsUp a c
edge_up start a c edge = elim edge [ ]
edge_up {root} (next {h = h} {s = s} {before = b} lawful living allowed) a c edge =
    edge_up_next root h b s living allowed (edge_up lawful) edge

-- Nor along a path.
pub past_up : {root : Name} {h : History} {a c : Event} → IsLawful root h → IsInPast root h a c → IsUp a c
past_up lawful same t = omega arith
past_up {a = a} {c = c} lawful (along {b = b} past edge) t =
    let first : value_at a.values t ≤ value_at b.values t = past_up lawful past t in
    let last : value_at b.values t ≤ value_at c.values t = edge_up lawful _ _ edge t in
    omega arith

-- The birth of a process comes before its other events.
pub birth_first : {root : Name} {h : History} → IsLawful root h → (y z : Event) → Occurs root h y → Occurs root h z → y.kind ≡ Birth → z.process ≡ y.process
    → (z ≡ y) ⊎ (y.number < z.number)
birth_first start y z occurs_y occurs_z is_birth of_one = inl (first_occurs occurs_z ∙ sym (first_occurs occurs_y))
birth_first {root} (next {h = h} {s = s} {before = b} lawful living allowed) y z occurs_y occurs_z is_birth of_one =
    elim (entry occurs_y) [
      | old before_y ↦
          (let within : y.number ≤ length h = number_within before_y in
          elim (entry occurs_z) [
            | old before_z ↦ birth_first lawful y z before_y before_z is_birth of_one
            | stepped is ↦ (let number : z.number ≡ length (s ∷ h) = same_number is in inr (omega arith))
            | child forks is ↦ (let number : z.number ≡ length (s ∷ h) = same_number is in inr (omega arith))
          ])
      | stepped is ↦ (let kind : y.kind ≡ Does s.step_kind = same_what is in absurd (cc))
      | child {c = c} {i = i} forks is ↦ elim (entry occurs_z) [
        | old before_z ↦ absurd (no_event_of_child root h b s c i allowed forks z before_z (of_one ∙ same_process is))
        | stepped is_z ↦
            absurd (child_differs root h b s c i living (fork_of root h b s c i allowed forks) (sym (sym (same_process is_z) ∙ (of_one ∙ same_process is))))
        | child {c = d} {i = j} forks_z is_z ↦
            (let action : Fork c i ≡ Fork d j = sym forks ∙ forks_z in
            let name : c ≡ d = cc in
            let id : i ≡ j = cc in
            inl (is_z ∙ sym (is ∙ (ap (λ (n : Name). birth_by h s n i) name ∙ ap (λ (k : IdTree). birth_by h s d k) id))))
      ]
    ]

-- The only edge from a birth leads to the next event of its process.
from_birth : {root : Name} {h : History} {a c : Event} → Edge root h a c → a.kind ≡ Birth → Occurs root h c × (c.process ≡ a.process) × (a.number < c.number)
from_birth {root} (to_next {h = h} {s = s} {last = e} lives) is_birth =
    let within : e.number ≤ length h = number_within (held_occurs root h s.process e (ap last_of lives)) in
    (step, sym (held_process root h s.process e (ap last_of lives)), omega arith)
from_birth (to_birth forks) is_birth = absurd (cc)
from_birth {root} (to_receive {h = h} {m = m} {sent = e} is sent) is_birth = (let by = sent_by h m e sent in let kind : e.kind ≡ Does by.0 = by.1 in absurd (cc))
from_birth {root} (to_absorption {h = h} {s = s} {retired = r} {retirement = e} is retired) is_birth =
    (let kind : e.kind ≡ Does (Retire s.process) = retired_by root h r e s.process retired in absurd (cc))
from_birth (earlier edge) is_birth = (let before = from_birth edge is_birth in (earlier before.0, before.1, before.2))

leaves_birth : {root : Name} {h : History} {a c : Event} → IsInPast root h a c → a.kind ≡ Birth → (c ≡ a) ⊎ LaterIsInPast root h c a
leaves_birth same is_birth = inl refl
leaves_birth {root} {h} {a = a} {c = c} (along {b = b} past edge) is_birth =
    elim (leaves_birth past is_birth) [
      | inl is ↦
          (let out : Occurs root h c × (c.process ≡ b.process) × (b.number < c.number) = from_birth edge (same_what is ∙ is_birth) in
          let number : b.number ≡ a.number = same_number is in
          let less : b.number < c.number = out.2 in
          inr (record { seen = c; occurs = out.0; same_process = out.1 ∙ same_process is; later = omega arith; in_past = same }))
      | inr seen ↦ inr (seen_along seen edge)
    ]

mark_goes_on : (y : Event) → IsRestorable y.kind → GoesOn y
mark_goes_on y mark q retires = not_mark (subst (λ (w : EventKind). IsRestorable w) retires mark)
  where
    not_mark : {r : Name} → IsRestorable (Does (Retire r)) → ⊥
    not_mark m = elim m [ ]

pub beyond_is_seen_later : BeyondIsLaterInPast
beyond_is_seen_later root h x y lawful occurs_x occurs_y mark = (
  (λ beyond. is_seen lawful x y beyond.0 occurs_x occurs_y beyond.1 (mark_goes_on y mark) beyond.2),
  (λ v.
      let up = rises_later lawful y v.seen occurs_y v.occurs v.same_process v.later in
      let above : value_at y.values up.0 < value_at v.seen.values up.0 = up.2 in
      let no_fall : value_at v.seen.values up.0 ≤ value_at x.values up.0 = past_up lawful v.in_past up.0 in
      (up.0, up.1, omega arith)),
)

pub beyond_birth_is_seen : BeyondBirthIsSomeInPast
beyond_birth_is_seen root h x y lawful occurs_x occurs_y is_birth other =
    let mark : IsRestorable y.kind = subst (λ (w : EventKind). IsRestorable w) (sym is_birth) IsRestorable.birth in
    let law = beyond_is_seen_later root h x y lawful occurs_x occurs_y mark in
    let later_from : SomeIsInPast root h x y.process → LaterIsInPast root h x y = λ v.
    elim (birth_first lawful y v.seen occurs_y v.occurs is_birth v.same_process) [
      | inl is ↦ elim (leaves_birth (subst (λ (e : Event). IsInPast root h e x) is v.in_past) is_birth) [
        | inl here ↦ absurd (other (same_process here))
        | inr seen ↦ seen
      ]
      | inr later ↦ record { seen = v.seen; occurs = v.occurs; same_process = v.same_process; later = later; in_past = v.in_past }
    ] in (
      (λ beyond. let v = law.0 beyond in record { seen = v.seen; occurs = v.occurs; same_process = v.same_process; in_past = v.in_past }),
      (λ v. law.1 (later_from v)),
    )
