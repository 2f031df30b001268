-- Who is beyond an event has seen something later of its process, and the other way round.
use Rattle.std.proofs.Common.{◌≡◌, ◌<◌, ◌≤◌, ◌≢◌, ◌∷◌, length, Some, refl, sym, ◌∙◌, ap, subst, ◌⊎◌, inl, inr, arith}
use Rattle.std.specs.Str.{bytes_eq}
use Rattle.std.proofs.lemmas.Bool.{cases_Bool, cond-true}
use Rattle.id_tree.specs.IdTree.{IdTree}
use Rattle.id_tree.specs.Points.{Point, owns}
use Rattle.event_tree.specs.Values.{value_at}
use Rattle.law_histories.proofs.Bytes.{Owns, bytes_same}
use Rattle.report_line.specs.declared.step.StepKind.{StepKind}
use Rattle.report_line.specs.declared.step.StepKind.TheVariants.{Fork, Retire}
use Rattle.report_line.specs.declared.step.Step.{Step}
use Rattle.report_line.specs.histories.History.{last_of, Name, History, Does, Event, event_of, birth_by, Living, status_of_actor, status_of_other, status}
use Rattle.report_line.specs.histories.Lawful.{IsAllowed, IsLawful, start, next}
use Rattle.report_line.specs.histories.Events.{Occurs, step, to_birth, same}
use Rattle.law_histories.specs.Law.{LaterIsInPast}
use Rattle.law_histories.proofs.Status.{Holds, held_process, status_acts, status_others, number_within}
use Rattle.law_histories.proofs.Steps.{CameFrom, came_from, Source, own_source, fork_of, child_differs}
use Rattle.law_histories.proofs.Chain.{stays, takes, given, held, HasOneHolder, one_holder, first_last, first_occurs, Entry, old, stepped, child, entry, same_value, HasTop, has_top, seen_earlier, seen_along}

-- The event is no retirement: its process may go on.
abbrev pub GoesOn : Event → Type 0
GoesOn y = (q : Name) → y.kind ≢ Does (Retire q)

-- The holder of a point is a mark's process at the mark, or has seen something later of it.
abbrev pub IsChained : Name → History → Type 0
IsChained root h = (p : Name) (e y : Event) (t : Point) → Holds root h p e → Owns e.id t → Occurs root h y → Owns y.id t → GoesOn y
    → (y ≡ e) ⊎ LaterIsInPast root h e y

actor_lasts : (a : StepKind) (e : Event) → last_of (status_of_actor a e) ≡ Some e
actor_lasts (Retire q) e = refl
actor_lasts _ e = refl

-- The step's event, and the birth by it, are last events.
pub step_holds : (root : Name) (h : History) (s : Step) → Holds root (s ∷ h) s.process (event_of h s)
step_holds root h s = ap last_of (status_acts root h s s.process refl) ∙ actor_lasts s.step_kind (event_of h s)

pub birth_holds : (root : Name) (h : History) (s : Step) (c : Name) (i : IdTree) → c ≢ s.process → s.step_kind ≡ Fork c i → Holds root (s ∷ h) c (birth_by h s c i)
birth_holds root h s c i differs forks =
    let there : status root (s ∷ h) c ≡ status_of_other h s (Fork c i) c (status root h c) =
    status_others root h s c differs ∙ ap (λ (a : StepKind). status_of_other h s a c (status root h c)) forks in
    ap last_of (there ∙ cond-true (bytes_eq c c) _ _ (bytes_same c c refl))

-- The new events of a lawful step are last events.
pub new_holds : (root : Name) (h : History) (b : Event) (s : Step) → status root h s.process ≡ Living b → IsAllowed root h b s s.step_kind
    → (y : Event) → Entry root h s y → Occurs root h y ⊎ Holds root (s ∷ h) y.process y
new_holds root h b s living allowed y (old occurs) = inl occurs
new_holds root h b s living allowed y (stepped is) = inr (subst (λ (x : Event). Holds root (s ∷ h) x.process x) (sym is) (step_holds root h s))
new_holds root h b s living allowed y (child {c = c} {i = i} forks is) =
    inr (subst (λ (x : Event). Holds root (s ∷ h) x.process x) (sym is)
    (birth_holds root h s c i (child_differs root h b s c i living (fork_of root h b s c i allowed forks)) forks))

module _ (root : Name) (h : History) (b : Event) (s : Step) (living : status root h s.process ≡ Living b) (allowed : IsAllowed root h b s s.step_kind)
    (one_next : HasOneHolder root (s ∷ h)) (chained : IsChained root h) where
  -- the step sees something later than an earlier owner of a point that comes to it
  seen_by_step : (y : Event) (t : Point) → Source root h s t → Occurs root h y → Owns y.id t → GoesOn y → LaterIsInPast root (s ∷ h) (event_of h s) y
  seen_by_step y t source occurs owned goes_on =
      elim (chained source.holder source.last y t source.holds source.owned occurs owned goes_on) [
        | inl is ↦ elim source.known [
          | inl own ↦ record {
            seen = event_of h s;
            occurs = step;
            same_process = sym (ap (λ (x : Event). x.process) is ∙ (held_process root h source.holder source.last source.holds ∙ own));
            later = (let within : y.number ≤ length h = number_within occurs in omega arith);
            in_past = same;
          }
          | inr taken ↦ absurd (goes_on taken.1.0 (ap (λ (x : Event). x.kind) is ∙ taken.1.1))
        ]
        | inr seen ↦ seen_along (seen_earlier seen) source.edge
      ]

  along_is : (x e y : Event) → e ≡ x → LaterIsInPast root (s ∷ h) x y → LaterIsInPast root (s ∷ h) e y
  along_is x e y is seen = subst (λ (z : Event). LaterIsInPast root (s ∷ h) z y) (sym is) seen

  chained_next : IsChained root (s ∷ h)
  chained_next p e y t holds owned occurs owned_y goes_on =
      elim (new_holds root h b s living allowed y (entry occurs)) [
        | inl before ↦ elim (held root h b s living allowed p e t holds owned) [
          | stays differs absorbs held_before ↦ elim (chained p e y t held_before owned before owned_y goes_on) [
            | inl is ↦ inl is
            | inr seen ↦ inr (seen_earlier seen)
          ]
          | takes source is event ↦ inr (along_is _ e y event (seen_by_step y t source before owned_y goes_on))
          | given source differs forks event ↦ inr (along_is _ e y event (seen_along (seen_by_step y t source before owned_y goes_on) (to_birth forks)))
        ]
        | inr holds_y ↦
            (let is : p ≡ y.process = one_next p y.process e y t holds holds_y owned owned_y in
            let both : Some y ≡ Some e = sym holds_y ∙ (ap (λ (q : Name). last_of (status root (s ∷ h) q)) (sym is) ∙ holds) in
            inl (cc))
      ]

pub is_chained : {root : Name} {h : History} → IsLawful root h → IsChained root h
is_chained {root} start p e y t holds owned occurs owned_y goes_on = inl (first_occurs occurs ∙ sym (first_last root p e holds))
is_chained {root} (next {h = h} {s = s} {before = b} lawful living allowed) p e y t holds owned occurs owned_y goes_on =
    chained_next root h b s living allowed (one_holder (next lawful living allowed)) (is_chained lawful) p e y t holds owned occurs owned_y goes_on

-- Who has a greater value at a point that an event's process owned has seen something later of that process.
abbrev pub IsSeen : Name → History → Type 0
IsSeen root h = (x y : Event) (t : Point) → Occurs root h x → Occurs root h y → Owns y.id t → GoesOn y → value_at y.values t < value_at x.values t → LaterIsInPast root h x y

module _ (root : Name) (h : History) (b : Event) (s : Step) (living : status root h s.process ≡ Living b) (allowed : IsAllowed root h b s s.step_kind)
    (one_next : HasOneHolder root (s ∷ h)) (top_next : HasTop root (s ∷ h)) (chained : IsChained root h) (seen : IsSeen root h) where
  beyond_by_step : (y : Event) (t : Point) → Occurs root h y → Owns y.id t → GoesOn y → value_at y.values t < value_at s.stamp.events t → LaterIsInPast root (s ∷ h) (event_of h s) y
  beyond_by_step y t occurs owned goes_on less =
      elim (cases_Bool (owns b.id t)) [
        | inl own ↦ seen_by_step root h b s living allowed one_next chained y t
            (own_source root h b s t living allowed own) occurs owned goes_on
        | inr free ↦
            (let came : CameFrom root h s t = came_from root h b s t living allowed free in
            let no_less : value_at s.stamp.events t ≤ value_at came.source.values t = came.no_less in
            seen_along (seen_earlier (seen came.source y t came.occurs occurs owned goes_on (omega arith))) came.edge)
      ]

  seen_next : IsSeen root (s ∷ h)
  seen_next x y t occurs_x occurs_y owned goes_on less =
      elim (new_holds root h b s living allowed y (entry occurs_y)) [
        | inl before ↦ elim (entry occurs_x) [
          | old before_x ↦ seen_earlier (seen x y t before_x before owned goes_on less)
          | stepped is ↦
              (let equal : value_at x.values t ≡ value_at s.stamp.events t = same_value t is in
              subst (λ (z : Event). LaterIsInPast root (s ∷ h) z y) (sym is) (beyond_by_step y t before owned goes_on (omega arith)))
          | child {c = c} {i = i} forks is ↦
              (let equal : value_at x.values t ≡ value_at s.stamp.events t = same_value t is in
              subst (λ (z : Event). LaterIsInPast root (s ∷ h) z y) (sym is)
              (seen_along (beyond_by_step y t before owned goes_on (omega arith)) (to_birth forks)))
        ]
        | inr holds_y ↦
            (let below : value_at x.values t ≤ value_at y.values t = top_next y.process y x t holds_y owned occurs_x in
            absurd (omega arith))
      ]

pub is_seen : {root : Name} {h : History} → IsLawful root h → IsSeen root h
is_seen {root} start x y t occurs_x occurs_y owned goes_on less =
    let equal : value_at x.values t ≡ value_at y.values t = same_value t (first_occurs occurs_x ∙ sym (first_occurs occurs_y)) in
    absurd (omega arith)
is_seen {root} (next {h = h} {s = s} {before = b} lawful living allowed) x y t occurs_x occurs_y owned goes_on less =
    seen_next root h b s living allowed (one_holder (next lawful living allowed)) (has_top (next lawful living allowed)) (is_chained lawful) (is_seen lawful)
    x y t occurs_x occurs_y owned goes_on less
