-- What a lawful step does to values and to the points that an id owns.
use Rattle.std.proofs.Common.{◌≡◌, ◌<◌, ◌≤◌, ◌≢◌, Bool, true, false, ◌∷◌, Some, refl, sym, ◌∙◌, ap, subst, ◌⊎◌, inl, inr, arith}
use Rattle.std.specs.Prelude.{◌||◌}
use Rattle.std.proofs.lemmas.Bool.{cases_Bool, cases_lt}
use Rattle.id_tree.specs.IdTree.{IdTree}
use Rattle.id_tree.specs.Points.{Point, owns}
use Rattle.event_tree.specs.EventTree.{EventTree}
use Rattle.event_tree.specs.Values.{value_at}
use Rattle.event_tree.specs.Grown.{IsGrown}
use Rattle.law_histories.proofs.Bytes.{Owns}
use Rattle.report_line.specs.declared.step.StepKind.{StepKind}
use Rattle.report_line.specs.declared.step.StepKind.TheVariants.{Receive, Fork, Retire, Absorb}
use Rattle.report_line.specs.declared.step.Step.{Step}
use Rattle.report_line.specs.histories.History.{last_of, Name, Message, History, Does, Event, event_of, Unborn, Living, Retired, sending, status}
use Rattle.report_line.specs.histories.Lawful.{IsLawfulFork, IsAllowed}
use Rattle.report_line.specs.histories.Events.{Occurs, Edge, to_next, to_receive, to_absorption}
use Rattle.law_histories.proofs.Status.{Holds, held_occurs, retired_by, sent_occurs}

-- Values that grew fell nowhere.
pub grown_up : (i : IdTree) (e f : EventTree) → IsGrown i e f → (t : Point) → value_at e t ≤ value_at f t
grown_up i e f g t = grind (arith, cases_Bool)

-- The values do not fall by a step, whatever its action.
pub never_falls_by : (root : Name) (h : History) (b : Event) (s : Step) (a : StepKind) → IsAllowed root h b s a
    → (t : Point) → value_at b.values t ≤ value_at s.stamp.events t
never_falls_by root h b s a w t = grind (arith, cases_Bool, grown_up)

-- A step raises the values at some point that the process owned.
pub rises_by : (root : Name) (h : History) (b : Event) (s : Step) (a : StepKind) → IsAllowed root h b s a
    → (t : Point) × Owns b.id t × (value_at b.values t < value_at s.stamp.events t)
rises_by root h b s a w = grind (arith, cases_Bool, grown_up)

-- An event from which an edge leads to the step, and whose value at the point is no less.
pub record CameFrom (root : Name) (h : History) (s : Step) (t : Point) : Type 0 where
  pub source : Event
  pub occurs : Occurs root h source
  pub edge : Edge root (s ∷ h) source (event_of h s)
  pub no_less : value_at s.stamp.events t ≤ value_at source.values t

-- Where the process did not own the point, its value came along an edge.
came_by : (root : Name) (h : History) (b : Event) (s : Step) (t : Point) (a : StepKind) → IsAllowed root h b s a → owns b.id t ≡ false
    → (value_at s.stamp.events t ≤ value_at b.values t)
    ⊎ (((m : Message) × (e : Event) × (a ≡ Receive m) × (sending h m ≡ Some e) × (value_at s.stamp.events t ≤ value_at e.values t))
    ⊎ ((r : Name) × (e : Event) × (a ≡ Absorb r) × (status root h r ≡ Retired e s.process) × (value_at s.stamp.events t ≤ value_at e.values t)))
came_by root h b s t a w free = grind (arith, cases_lt)

pub came_from : (root : Name) (h : History) (b : Event) (s : Step) (t : Point) → status root h s.process ≡ Living b → IsAllowed root h b s s.step_kind
    → owns b.id t ≡ false → CameFrom root h s t
came_from root h b s t living w free =
    elim (came_by root h b s t s.step_kind w free) [
      | inl own ↦ record { source = b; occurs = held_occurs root h s.process b (ap last_of living); edge = to_next living; no_less = own }
      | inr (inl got) ↦ record { source = got.1; occurs = sent_occurs root h got.0 got.1 got.3; edge = to_receive got.2 got.3; no_less = got.4 }
      | inr (inr got) ↦ record {
        source = got.1;
        occurs = held_occurs root h got.0 got.1 (ap last_of got.3);
        edge = to_absorption got.2 got.3;
        no_less = got.4;
      }
    ]

-- Whose point it was before the step: the process's own, or that of the retired process that it absorbs.
pub record Source (root : Name) (h : History) (s : Step) (t : Point) : Type 0 where
  pub holder : Name
  pub last : Event
  pub holds : Holds root h holder last
  pub owned : Owns last.id t
  pub edge : Edge root (s ∷ h) last (event_of h s)
  pub no_more : value_at last.values t ≤ value_at s.stamp.events t
  pub known : (holder ≡ s.process) ⊎ ((s.step_kind ≡ Absorb holder) × ((q : Name) × (last.kind ≡ Does (Retire q))))

own_by : (root : Name) (h : History) (b : Event) (s : Step) (t : Point) (a : StepKind) → IsAllowed root h b s a → Owns s.stamp.id t
    → Owns b.id t ⊎ ((r : Name) × (e : Event) × (a ≡ Absorb r) × (status root h r ≡ Retired e s.process) × Owns e.id t × (value_at e.values t ≤ value_at s.stamp.events t))
own_by root h b s t a w owned = grind arith

or_right : (a b : Bool) → b ≡ true → (a || b) ≡ true
or_right a b e = grind (arith, cases_Bool)

child_by : (root : Name) (h : History) (b : Event) (s : Step) (t : Point) (c : Name) (i : IdTree) → IsLawfulFork root h b s c i → Owns i t → Owns b.id t
child_by root h b s t c i w owned = w.together t ∙ or_right (owns s.stamp.id t) (owns i t) owned

module _ (root : Name) (h : History) (b : Event) (s : Step) (t : Point) (living : status root h s.process ≡ Living b) (w : IsAllowed root h b s s.step_kind) where
  pub own_source : Owns b.id t → Source root h s t
  own_source owned = record {
    holder = s.process;
    last = b;
    holds = ap last_of living;
    owned = owned;
    edge = to_next living;
    no_more = never_falls_by root h b s s.step_kind w t;
    known = inl refl;
  }

  pub source : Owns s.stamp.id t → Source root h s t
  source owned =
      elim (own_by root h b s t s.step_kind w owned) [
        | inl own ↦ own_source own
        | inr got ↦ record {
          holder = got.0;
          last = got.1;
          holds = ap last_of got.3;
          owned = got.4;
          edge = to_absorption got.2 got.3;
          no_more = got.5;
          known = inr (got.2, (s.process, retired_by root h got.0 got.1 s.process got.3));
        }
      ]

  pub child_source : (c : Name) (i : IdTree) → s.step_kind ≡ Fork c i → Owns i t → Source root h s t
  child_source c i forks owned = own_source (child_by root h b s t c i (subst (λ (a : StepKind). IsAllowed root h b s a) forks w) owned)

-- What a fork asks.
pub fork_of : (root : Name) (h : History) (b : Event) (s : Step) (c : Name) (i : IdTree)
    → IsAllowed root h b s s.step_kind → s.step_kind ≡ Fork c i → IsLawfulFork root h b s c i
fork_of root h b s c i w is = subst (λ (a : StepKind). IsAllowed root h b s a) is w

pub child_differs : (root : Name) (h : History) (b : Event) (s : Step) (c : Name) (i : IdTree)
    → status root h s.process ≡ Living b → IsLawfulFork root h b s c i → c ≢ s.process
child_differs root h b s c i living w same =
    let there : Unborn ≡ Living b = sym w.new_name ∙ (ap (status root h) same ∙ living) in cc
