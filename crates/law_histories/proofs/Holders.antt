-- Each point has a holder, and one only.
use Rattle.std.proofs.Common.{◌≡◌, ◌≢◌, ◌∷◌, Some, None, refl, sym, ◌∙◌, ap, subst, ◌⊎◌, inl, inr, arith}
use Rattle.std.specs.Str.{bytes_eq}
use Rattle.std.proofs.lemmas.Bool.{cond-false}
use Rattle.id_tree.specs.IdTree.{IdTree}
use Rattle.id_tree.specs.Points.{Point}
use Rattle.law_histories.proofs.Bytes.{Owns, cases_name, bytes_other}
use Rattle.report_line.specs.declared.step.StepKind.{StepKind}
use Rattle.report_line.specs.declared.step.StepKind.TheVariants.{Work, Check, Present, Send, Receive, Fork, Retire, Absorb}
use Rattle.report_line.specs.declared.step.Step.{Step}
use Rattle.report_line.specs.histories.History.{Name, History, Event, birth_of_root, event_of, birth_by, Living, status_of_other, last_of, status}
use Rattle.report_line.specs.histories.Lawful.{IsAllowed, IsLawful, start, next}
use Rattle.law_histories.specs.Law.{EachPointHasOneHolder}
use Rattle.law_histories.proofs.Status.{Holds, root_holds, status_others}
use Rattle.law_histories.proofs.Steps.{fork_of, child_differs}
use Rattle.law_histories.proofs.Chain.{one_holder}
use Rattle.law_histories.proofs.Seen.{step_holds, birth_holds}

-- Who owned a point and acted owns it still, or has given it to the child.
kept_or_given : (root : Name) (h : History) (b : Event) (s : Step) (t : Point) (a : StepKind) → IsAllowed root h b s a → Owns b.id t
    → Owns s.stamp.id t ⊎ ((c : Name) × (i : IdTree) × (a ≡ Fork c i) × Owns i t)
kept_or_given root h b s t a w owned = grind arith

-- Another holder stays one, or is absorbed.
stays_or_absorbed : (root : Name) (h : History) (b : Event) (s : Step) (p : Name) (e : Event) (a : StepKind) → IsAllowed root h b s a
    → p ≢ s.process → Holds root h p e → (last_of (status_of_other h s a p (status root h p)) ≡ Some e) ⊎ (a ≡ Absorb p)
stays_or_absorbed root h b s p e Work w differs holds = inl holds
stays_or_absorbed root h b s p e Check w differs holds = inl holds
stays_or_absorbed root h b s p e Present w differs holds = inl holds
stays_or_absorbed root h b s p e (Send m) w differs holds = inl holds
stays_or_absorbed root h b s p e (Receive m) w differs holds = inl holds
stays_or_absorbed root h b s p e (Retire q) w differs holds = inl holds
stays_or_absorbed root h b s p e (Fork c i) w differs holds =
    elim (cases_name p c) [
      | inl is ↦
          (let both : None ≡ Some e = sym (ap last_of (ap (status root h) is ∙ w.new_name)) ∙ holds in
          absurd (cc))
      | inr other ↦ inl (ap last_of (cond-false (bytes_eq p c) _ _ (bytes_other p c other)) ∙ holds)
    ]
stays_or_absorbed root h b s p e (Absorb r) w differs holds =
    elim (cases_name p r) [
      | inl is ↦ inr (ap Absorb (sym is))
      | inr other ↦ inl (ap last_of (cond-false (bytes_eq p r) _ _ (bytes_other p r other)) ∙ holds)
    ]

-- The absorbed process's points are the process's.
taken_over : (root : Name) (h : History) (b : Event) (s : Step) (p : Name) (e : Event) (t : Point) (a : StepKind) → IsAllowed root h b s a
    → a ≡ Absorb p → Holds root h p e → Owns e.id t → Owns s.stamp.id t
taken_over root h b s p e t a w absorbs holds owned = grind arith

-- Some process holds the point.
abbrev pub HasHolder : Name → History → Point → Type 0
HasHolder root h t = (p : Name) × (e : Event) × Holds root h p e × Owns e.id t

module _ (root : Name) (h : History) (b : Event) (s : Step) (living : status root h s.process ≡ Living b) (allowed : IsAllowed root h b s s.step_kind) (t : Point) where
  by_actor : Owns b.id t → HasHolder root (s ∷ h) t
  by_actor owned =
      elim (kept_or_given root h b s t s.step_kind allowed owned) [
        | inl kept ↦ (s.process, event_of h s, step_holds root h s, kept)
        | inr given ↦
            (let fork = fork_of root h b s given.0 given.1 allowed given.2 in
            (given.0, birth_by h s given.0 given.1, birth_holds root h s given.0 given.1 (child_differs root h b s given.0 given.1 living fork) given.2, given.3))
      ]

  has_holder_next : HasHolder root h t → HasHolder root (s ∷ h) t
  has_holder_next before =
      elim (cases_name before.0 s.process) [
        | inl is ↦
            (let both : Some before.1 ≡ Some b = sym before.2 ∙ (ap (λ (q : Name). last_of (status root h q)) is ∙ ap last_of living) in
            let last : before.1 ≡ b = cc in
            by_actor (subst (λ (e : Event). Owns e.id t) last before.3))
        | inr differs ↦ elim (stays_or_absorbed root h b s before.0 before.1 s.step_kind allowed differs before.2) [
          | inl stays ↦ (before.0, before.1, ap last_of (status_others root h s before.0 differs) ∙ stays, before.3)
          | inr absorbs ↦ (s.process, event_of h s, step_holds root h s, taken_over root h b s before.0 before.1 t s.step_kind allowed absorbs before.2 before.3)
        ]
      ]

has_holder : {root : Name} {h : History} → IsLawful root h → (t : Point) → HasHolder root h t
has_holder {root} start t = (root, birth_of_root root, ap last_of (root_holds root), refl)
has_holder {root} (next {h = h} {s = s} {before = b} lawful living allowed) t = has_holder_next root h b s living allowed t (has_holder lawful t)

pub each_point_has_one_holder : EachPointHasOneHolder
each_point_has_one_holder root h t lawful =
    let one = has_holder lawful t in
    (one.0, record { last = one.1; is_last = one.2; owned = one.3 }, λ q other. one_holder lawful q one.0 other.last one.1 t other.is_last one.2 other.owned one.3)
