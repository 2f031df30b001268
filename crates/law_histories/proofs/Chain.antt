-- Each point has one holder, whose value there is the greatest, and the holders of a point follow one another along edges.
use Rattle.std.proofs.Common.{◌≡◌, ◌≤◌, ◌≢◌, [], ◌∷◌, refl, sym, ◌∙◌, ap, subst, inl, inr, arith}
use Rattle.std.proofs.lemmas.Bool.{cases_Bool}
use Rattle.id_tree.specs.IdTree.{IdTree}
use Rattle.id_tree.specs.Points.{Point, owns}
use Rattle.event_tree.specs.Values.{value_at}
use Rattle.law_histories.proofs.Bytes.{Owns, not_both_own}
use Rattle.report_line.specs.declared.step.StepKind.TheVariants.{Fork, Absorb}
use Rattle.report_line.specs.declared.step.Step.{Step}
use Rattle.report_line.specs.histories.History.{last_of, Name, History, Event, birth_of_root, event_of, birth_by, Living, status}
use Rattle.report_line.specs.histories.Lawful.{IsAllowed, IsLawful, start, next}
use Rattle.report_line.specs.histories.Events.{Occurs, root_birth, step, birth, earlier, Edge, IsInPast, same, along}
use Rattle.law_histories.specs.Law.{LaterIsInPast}
use Rattle.law_histories.proofs.Status.{Holds, kept, acted, born, origin, first_holds}
use Rattle.law_histories.proofs.Steps.{CameFrom, came_from, Source, source, child_source, fork_of}

-- A holder of a point after a step: it held the point before, or the point came to it by the step.
pub data Held (root : Name) (h : History) (s : Step) (p : Name) (e : Event) (t : Point) : Type 0 where
  stays : p ≢ s.process → s.step_kind ≢ Absorb p → Holds root h p e → Held root h s p e t
  takes : Source root h s t → p ≡ s.process → e ≡ event_of h s → Held root h s p e t
  given : {i : IdTree} → Source root h s t → p ≢ s.process → s.step_kind ≡ Fork p i → e ≡ birth_by h s p i → Held root h s p e t

pub owned_by : {d e : Event} (t : Point) → e ≡ d → Owns e.id t → Owns d.id t
owned_by t is owned = subst (λ (x : Event). Owns x.id t) is owned

module _ (root : Name) (h : History) (b : Event) (s : Step) (living : status root h s.process ≡ Living b) (allowed : IsAllowed root h b s s.step_kind) where
  pub held : (p : Name) (e : Event) (t : Point) → Holds root (s ∷ h) p e → Owns e.id t → Held root h s p e t
  held p e t holds owned =
      elim (origin root h s p e holds) [
        | kept differs absorbs as_before ↦ stays differs absorbs (ap last_of (sym as_before) ∙ holds)
        | acted is event ↦ takes (source root h b s t living allowed (owned_by t event owned)) is event
        | born {i = i} differs forks event lives ↦
            given {i = i} (child_source root h b s t living allowed p i forks (owned_by t event owned)) differs forks event
      ]

-- In a history the holders of one point are one process.
abbrev pub HasOneHolder : Name → History → Type 0
HasOneHolder root h = (p q : Name) (d e : Event) (t : Point) → Holds root h p d → Holds root h q e → Owns d.id t → Owns e.id t → p ≡ q

module _ (root : Name) (h : History) (b : Event) (s : Step) (living : status root h s.process ≡ Living b) (allowed : IsAllowed root h b s s.step_kind) (one : HasOneHolder root h) where
  -- who stays a holder is not whose point it was that came by the step
  not_both : (p : Name) (d : Event) (t : Point) → p ≢ s.process → s.step_kind ≢ Absorb p → Holds root h p d → Owns d.id t → Source root h s t → ⊥
  not_both p d t differs absorbs holds owned source =
      let is : p ≡ source.holder = one p source.holder d source.last t holds source.holds owned source.owned in
      elim source.known [
        | inl own ↦ differs (is ∙ own)
        | inr taken ↦ absorbs (taken.0 ∙ ap Absorb (sym is))
      ]

  one_holder_next : HasOneHolder root (s ∷ h)
  one_holder_next p q d e t holds_p holds_q owns_d owns_e =
      elim (held root h b s living allowed p d t holds_p owns_d) [
        | stays differs absorbs before ↦ elim (held root h b s living allowed q e t holds_q owns_e) [
          | stays differs' absorbs' before' ↦ one p q d e t before before' owns_d owns_e
          | takes source is event ↦ absurd (not_both p d t differs absorbs before owns_d source)
          | given source differs' forks event ↦ absurd (not_both p d t differs absorbs before owns_d source)
        ]
        | takes source is event ↦ elim (held root h b s living allowed q e t holds_q owns_e) [
          | stays differs' absorbs' before' ↦ absurd (not_both q e t differs' absorbs' before' owns_e source)
          | takes source' is' event' ↦ is ∙ sym is'
          | given {i = i} source' differs' forks event' ↦
              absurd (not_both_own _ _ (fork_of root h b s q i allowed forks).disjoint t (owned_by t event owns_d) (owned_by t event' owns_e))
        ]
        | given {i = i} source differs forks event ↦ elim (held root h b s living allowed q e t holds_q owns_e) [
          | stays differs' absorbs' before' ↦ absurd (not_both q e t differs' absorbs' before' owns_e source)
          | takes source' is' event' ↦
              absurd (not_both_own _ _ (fork_of root h b s p i allowed forks).disjoint t (owned_by t event' owns_e) (owned_by t event owns_d))
          | given {i = j} source' differs' forks' event' ↦ cc
        ]
      ]

pub first_occurs : {root : Name} {x : Event} → Occurs root [] x → x ≡ birth_of_root root
first_occurs root_birth = refl

pub first_last : (root p : Name) (e : Event) → Holds root [] p e → e ≡ birth_of_root root
first_last root p e holds = (first_holds root p e holds).1

pub one_holder : {root : Name} {h : History} → IsLawful root h → HasOneHolder root h
one_holder {root} start p q d e t holds_p holds_q owns_d owns_e = (first_holds root p d holds_p).0 ∙ sym (first_holds root q e holds_q).0
one_holder {root} (next {h = h} {s = s} {before = b} lawful living allowed) p q d e t holds_p holds_q owns_d owns_e =
    one_holder_next root h b s living allowed (one_holder lawful) p q d e t holds_p holds_q owns_d owns_e

-- Whether an event is old, the step, or a birth by it.
pub data Entry (root : Name) (h : History) (s : Step) (x : Event) : Type 0 where
  old : Occurs root h x → Entry root h s x
  stepped : x ≡ event_of h s → Entry root h s x
  child : {c : Name} {i : IdTree} → s.step_kind ≡ Fork c i → x ≡ birth_by h s c i → Entry root h s x

pub entry : {root : Name} {h : History} {s : Step} {x : Event} → Occurs root (s ∷ h) x → Entry root h s x
entry step = stepped refl
entry (birth forks) = child forks refl
entry (earlier occurs) = old occurs

pub same_value : {d e : Event} (t : Point) → e ≡ d → value_at e.values t ≡ value_at d.values t
same_value t is = ap (λ (x : Event). value_at x.values t) is

-- The holder of a point has the greatest value there.
abbrev pub HasTop : Name → History → Type 0
HasTop root h = (p : Name) (e x : Event) (t : Point) → Holds root h p e → Owns e.id t → Occurs root h x → value_at x.values t ≤ value_at e.values t

module _ (root : Name) (h : History) (b : Event) (s : Step) (living : status root h s.process ≡ Living b) (allowed : IsAllowed root h b s s.step_kind)
    (one : HasOneHolder root h) (top : HasTop root h) where
  -- the step's value is below that of a holder which stays
  step_below : (p : Name) (e : Event) (t : Point) → p ≢ s.process → Holds root h p e → Owns e.id t → value_at s.stamp.events t ≤ value_at e.values t
  step_below p e t differs holds owned =
      elim (cases_Bool (owns b.id t)) [
        | inl own ↦ absurd (differs (one p s.process e b t holds (ap last_of living) owned own))
        | inr free ↦
            (let came : CameFrom root h s t = came_from root h b s t living allowed free in
            let below : value_at came.source.values t ≤ value_at e.values t = top p e came.source t holds owned came.occurs in
            let no_less : value_at s.stamp.events t ≤ value_at came.source.values t = came.no_less in
            omega arith)
      ]

  old_below : (x : Event) (t : Point) → Source root h s t → Occurs root h x → value_at x.values t ≤ value_at s.stamp.events t
  old_below x t source occurs =
      let below : value_at x.values t ≤ value_at source.last.values t = top source.holder source.last x t source.holds source.owned occurs in
      let no_more : value_at source.last.values t ≤ value_at s.stamp.events t = source.no_more in
      omega arith

  new_below : (x e : Event) (t : Point) → Source root h s t → value_at e.values t ≡ value_at s.stamp.events t → Occurs root (s ∷ h) x → value_at x.values t ≤ value_at e.values t
  new_below x e t source values occurs =
      elim (entry occurs) [
        | old before ↦ (let below : value_at x.values t ≤ value_at s.stamp.events t = old_below x t source before in omega arith)
        | stepped is ↦ (let equal : value_at x.values t ≡ value_at s.stamp.events t = same_value t is in omega arith)
        | child forks is ↦ (let equal : value_at x.values t ≡ value_at s.stamp.events t = same_value t is in omega arith)
      ]

  top_next : HasTop root (s ∷ h)
  top_next p e x t holds owned occurs =
      elim (held root h b s living allowed p e t holds owned) [
        | stays differs absorbs before ↦
            (let below : value_at s.stamp.events t ≤ value_at e.values t = step_below p e t differs before owned in
            elim (entry occurs) [
              | old earlier_occurs ↦ top p e x t before owned earlier_occurs
              | stepped is ↦ (let equal : value_at x.values t ≡ value_at s.stamp.events t = same_value t is in omega arith)
              | child forks is ↦ (let equal : value_at x.values t ≡ value_at s.stamp.events t = same_value t is in omega arith)
            ])
        | takes source is event ↦ new_below x e t source (same_value t event) occurs
        | given source differs forks event ↦ new_below x e t source (same_value t event) occurs
      ]

pub has_top : {root : Name} {h : History} → IsLawful root h → HasTop root h
has_top {root} start p e x t holds owned occurs =
    let equal : value_at x.values t ≡ value_at e.values t = same_value t (first_occurs occurs ∙ sym (first_last root p e holds)) in
    omega arith
has_top {root} (next {h = h} {s = s} {before = b} lawful living allowed) p e x t holds owned occurs =
    top_next root h b s living allowed (one_holder lawful) (has_top lawful) p e x t holds owned occurs

-- What is seen stays seen, and is seen along edges.
pub past_earlier : {root : Name} {h : History} {s : Step} {a b : Event} → IsInPast root h a b → IsInPast root (s ∷ h) a b
past_earlier same = same
past_earlier (along past edge) = along (past_earlier past) (earlier edge)

pub seen_earlier : {root : Name} {h : History} {s : Step} {x y : Event} → LaterIsInPast root h x y → LaterIsInPast root (s ∷ h) x y
seen_earlier v = record { seen = v.seen; occurs = earlier v.occurs; same_process = v.same_process; later = v.later; in_past = past_earlier v.in_past }

pub seen_along : {root : Name} {h : History} {a x y : Event} → LaterIsInPast root h a y → Edge root h a x → LaterIsInPast root h x y
seen_along v edge = record { seen = v.seen; occurs = v.occurs; same_process = v.same_process; later = v.later; in_past = along v.in_past edge }
