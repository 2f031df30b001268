-- Who lives, or retired and was not absorbed, owns something.
use Rattle.std.proofs.Common.{◌≡◌, [], refl, sym, ◌∙◌, ap, subst}
use Rattle.std.specs.Prelude.{IsTrue, Bool, ◌||◌}
use Rattle.id_tree.specs.IdTree.{IdTree}
use Rattle.id_tree.specs.Points.{OwnsSome}
use Rattle.report_line.specs.declared.step.StepKind.{StepKind}
use Rattle.report_line.specs.declared.step.StepKind.TheVariants.{Work, Check, Present, Send, Receive, Fork, Retire, Absorb}
use Rattle.report_line.specs.declared.step.Step.{Step}
use Rattle.report_line.specs.histories.History.{Name, History, Event, last_of}
use Rattle.report_line.specs.histories.Lawful.{IsSameId, IsAllowed, IsLawful, start, next}
use Rattle.law_histories.proofs.Status.{Holds, kept, acted, born, origin, first_holds}
use Rattle.law_histories.proofs.Steps.{fork_of}

left_or : (a b : Bool) → IsTrue a → IsTrue (a || b)
left_or a b is = subst (λ (x : Bool). IsTrue (x || b)) (sym is) refl

still_owns : (i j : IdTree) → IsSameId i j → OwnsSome j → OwnsSome i
still_owns i j same some = (some.0, same some.0 ∙ some.1)

actor_owns : (root : Name) (h : History) (b : Event) (s : Step) (a : StepKind) → IsAllowed root h b s a → OwnsSome b.id → OwnsSome s.stamp.id
actor_owns root h b s Work w some = still_owns s.stamp.id b.id w.same_id some
actor_owns root h b s Check w some = still_owns s.stamp.id b.id w.same_id some
actor_owns root h b s Present w some = still_owns s.stamp.id b.id w.same_id some
actor_owns root h b s (Send m) w some = still_owns s.stamp.id b.id w.0.same_id some
actor_owns root h b s (Receive m) w some = still_owns s.stamp.id b.id w.own.same_id some
actor_owns root h b s (Fork c i) w some = w.not_empty
actor_owns root h b s (Retire q) w some = still_owns s.stamp.id b.id w.0.same_id some
actor_owns root h b s (Absorb r) w some = (some.0, w.together some.0 ∙ left_or _ _ some.1)

moved : {d e : Event} → e ≡ d → OwnsSome d.id → OwnsSome e.id
moved is some = subst (λ (x : Event). OwnsSome x.id) (sym is) some

pub holder_owns : {root : Name} {h : History} → IsLawful root h → (p : Name) (e : Event) → Holds root h p e → OwnsSome e.id
holder_owns {root} start p e holds = moved (first_holds root p e holds).1 ([], refl)
holder_owns {root} (next {h = h} {s = s} {before = b} lawful living allowed) p e holds =
    elim (origin root h s p e holds) [
      | kept differs absorbs as_before ↦ holder_owns lawful p e (ap last_of (sym as_before) ∙ holds)
      | acted is event ↦ moved event (actor_owns root h b s s.step_kind allowed (holder_owns lawful s.process b (ap last_of living)))
      | born {i = i} differs forks event lives ↦ moved event (fork_of root h b s p i allowed forks).child_not_empty
    ]
