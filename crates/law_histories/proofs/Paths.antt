-- The events whose process owned a point lie on one path of edges.
use Rattle.std.proofs.Common.{◌≡◌, ◌∷◌, Some, sym, ◌∙◌, ap, subst, ◌⊎◌, inl, inr}
use Rattle.id_tree.specs.Points.{Point}
use Rattle.report_line.specs.declared.step.Step.{Step}
use Rattle.report_line.specs.histories.History.{last_of, Name, History, Event, event_of, birth_by, Living, status}
use Rattle.report_line.specs.histories.Lawful.{IsAllowed, IsLawful, start, next}
use Rattle.report_line.specs.histories.Events.{Occurs, to_birth, IsInPast, same, along}
use Rattle.law_histories.specs.Law.{OwnersLieOnOnePath}
use Rattle.law_histories.proofs.Bytes.{Owns}
use Rattle.law_histories.proofs.Status.{Holds}
use Rattle.law_histories.proofs.Steps.{Source}
use Rattle.law_histories.proofs.Chain.{stays, takes, given, held, HasOneHolder, one_holder, first_last, first_occurs, entry, past_earlier}
use Rattle.law_histories.proofs.Seen.{new_holds}

at_itself : (root : Name) (h : History) (y e : Event) → y ≡ e → IsInPast root h y e
at_itself root h y e is = subst (IsInPast root h y) is same

-- each event whose process owned the point is in the past of the last one of its holder
abbrev LeadsToHolder : Name → History → Type 0
LeadsToHolder root h = (p : Name) (e y : Event) (t : Point) → Holds root h p e → Owns e.id t → Occurs root h y → Owns y.id t → IsInPast root h y e

module _ (root : Name) (h : History) (b : Event) (s : Step) (living : status root h s.process ≡ Living b) (allowed : IsAllowed root h b s s.step_kind)
    (one_next : HasOneHolder root (s ∷ h)) (leads : LeadsToHolder root h) where
  to_step : (y : Event) (t : Point) → Source root h s t → Occurs root h y → Owns y.id t → IsInPast root (s ∷ h) y (event_of h s)
  to_step y t source occurs owned = along (past_earlier (leads source.holder source.last y t source.holds source.owned occurs owned)) source.edge

  ends_at : (x e y : Event) → e ≡ x → IsInPast root (s ∷ h) y x → IsInPast root (s ∷ h) y e
  ends_at x e y is past = subst (IsInPast root (s ∷ h) y) (sym is) past

  leads_next : LeadsToHolder root (s ∷ h)
  leads_next p e y t holds owned occurs owned_y =
      elim (new_holds root h b s living allowed y (entry occurs)) [
        | inl before ↦ elim (held root h b s living allowed p e t holds owned) [
          | stays differs absorbs held_before ↦ past_earlier (leads p e y t held_before owned before owned_y)
          | takes source is event ↦ ends_at _ e y event (to_step y t source before owned_y)
          | given source differs forks event ↦ ends_at _ e y event (along (to_step y t source before owned_y) (to_birth forks))
        ]
        | inr holds_y ↦
            (let is : p ≡ y.process = one_next p y.process e y t holds holds_y owned owned_y in
            let both : Some y ≡ Some e = sym holds_y ∙ (ap (λ (q : Name). last_of (status root (s ∷ h) q)) (sym is) ∙ holds) in
            at_itself root (s ∷ h) y e (cc))
      ]

leads_to_holder : {root : Name} {h : History} → IsLawful root h → LeadsToHolder root h
leads_to_holder {root} start p e y t holds owned occurs owned_y = at_itself root _ y e (first_occurs occurs ∙ sym (first_last root p e holds))
leads_to_holder {root} (next {h = h} {s = s} {before = b} lawful living allowed) p e y t holds owned occurs owned_y =
    leads_next root h b s living allowed (one_holder (next lawful living allowed)) (leads_to_holder lawful) p e y t holds owned occurs owned_y

one_path : {root : Name} {h : History} → IsLawful root h → (x y : Event) (t : Point) → Occurs root h x → Occurs root h y → Owns x.id t → Owns y.id t
    → IsInPast root h x y ⊎ IsInPast root h y x
one_path {root} start x y t occurs_x occurs_y owns_x owns_y = inl (at_itself root _ x y (first_occurs occurs_x ∙ sym (first_occurs occurs_y)))
one_path {root} (next {h = h} {s = s} {before = b} lawful living allowed) x y t occurs_x occurs_y owns_x owns_y =
    let whole = next lawful living allowed in
    elim (new_holds root h b s living allowed y (entry occurs_y)) [
      | inr holds_y ↦ inl (leads_to_holder whole y.process y x t holds_y owns_y occurs_x owns_x)
      | inl before_y ↦ elim (new_holds root h b s living allowed x (entry occurs_x)) [
        | inr holds_x ↦ inr (leads_to_holder whole x.process x y t holds_x owns_x occurs_y owns_y)
        | inl before_x ↦ elim (one_path lawful x y t before_x before_y owns_x owns_y) [
          | inl past ↦ inl (past_earlier past)
          | inr past ↦ inr (past_earlier past)
        ]
      ]
    ]

pub owners_lie_on_one_path : OwnersLieOnOnePath
owners_lie_on_one_path root h x y t lawful occurs_x occurs_y owns_x owns_y = one_path lawful x y t occurs_x occurs_y owns_x owns_y
