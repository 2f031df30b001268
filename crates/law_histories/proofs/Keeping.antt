-- What a closed cut keeps of a lawful history is lawful: each step that is kept was allowed, and is allowed still.
use Rattle.std.proofs.Common.{◌≡◌, true, ◌∷◌, refl, sym, subst, inl, inr}
use Rattle.std.proofs.lemmas.Bool.{cases_Bool}
use Rattle.id_tree.specs.IdTree.{IdTree}
use Rattle.id_tree.specs.Points.{AreDisjoint, AreTogether}
use Rattle.event_tree.specs.EventTree.{EventTree}
use Rattle.event_tree.specs.Grown.{IsGrown}
use Rattle.event_tree.specs.Join.{IsJoin}
use Rattle.report_line.specs.declared.step.StepKind.{StepKind}
use Rattle.report_line.specs.declared.step.StepKind.TheVariants.{Work, Check, Present, Send, Receive, Fork, Retire, Absorb}
use Rattle.report_line.specs.declared.step.Step.{Step}
use Rattle.report_line.specs.histories.History.{Name, Message, History, Event, event_of, Living, status}
use Rattle.report_line.specs.histories.Lawful.{IsSameId, IsOwnWork, IsLawfulReceive, IsLawfulFork, IsLawfulAbsorption, IsAllowed, IsLawful, start, next}
use Rattle.report_line.specs.histories.Events.{Edge, to_next, to_receive, to_absorption}
use Rattle.law_histories.specs.Kept.{Cut, IsClosed, kept, IsSameEvent, KeptIsLawful}
use Rattle.law_histories.proofs.Follows.{kept_taken, kept_left, Follows, closed_before, follows}

same_grown : {i j : IdTree} {e f : EventTree} (to : EventTree) → i ≡ j → e ≡ f → IsGrown i e to → IsGrown j f to
same_grown {i} {j} {e} {f} to id values grown = subst (λ (k : IdTree). IsGrown k f to) id (subst (λ (v : EventTree). IsGrown i v to) values grown)

own_work : (b b' : Event) (s : Step) → b.id ≡ b'.id → b.values ≡ b'.values → IsOwnWork b b.values s → IsOwnWork b' b'.values s
own_work b b' s id values work = record {
  same_id = subst (λ (i : IdTree). IsSameId s.stamp.id i) id work.same_id;
  grown = same_grown s.stamp.events id values work.grown;
}

work_from : (b b' : Event) (from : EventTree) (s : Step) → b.id ≡ b'.id → IsOwnWork b from s → IsOwnWork b' from s
work_from b b' from s id work = record {
  same_id = subst (λ (i : IdTree). IsSameId s.stamp.id i) id work.same_id;
  grown = subst (λ (i : IdTree). IsGrown i from s.stamp.events) id work.grown;
}

same_join : {e f d g : EventTree} (to : EventTree) → e ≡ f → d ≡ g → IsJoin e d to → IsJoin f g to
same_join {e} {f} {d} {g} to first second join = subst (λ (v : EventTree). IsJoin f v to) second (subst (λ (v : EventTree). IsJoin v d to) first join)

-- A step that is in a closed cut is allowed after what the cut keeps.
module _ (root : Name) (cut : Cut) (h g : History) (b b' : Event) (s : Step) (follows : Follows root cut h g) (same : IsSameEvent b b')
    (closed : (a : Event) → Edge root (s ∷ h) a (event_of h s) → cut a ≡ true) where
  still_receives : (m : Message) → s.step_kind ≡ Receive m → IsLawfulReceive h b s m → IsLawfulReceive g b' s m
  still_receives m is w =
      let there = follows.sent m w.sent w.is_sent (closed w.sent (to_receive is w.is_sent)) in
      let same_send : IsSameEvent w.sent there.0 = there.2 in
      record {
        sent = there.0;
        is_sent = there.1;
        joined = w.joined;
        is_join = same_join w.joined same.values same_send.values w.is_join;
        own = work_from b b' w.joined s same.id w.own;
      }

  still_forks : (child : Name) (i : IdTree) → IsLawfulFork root h b s child i → IsLawfulFork root g b' s child i
  still_forks child i fork = record {
    grown = same_grown s.stamp.events same.id same.values fork.grown;
    new_name = follows.unborn child fork.new_name;
    not_root = fork.not_root;
    disjoint = fork.disjoint;
    not_empty = fork.not_empty;
    child_not_empty = fork.child_not_empty;
    together = subst (λ (k : IdTree). AreTogether s.stamp.id i k) same.id fork.together;
  }

  still_absorbs : (r : Name) → s.step_kind ≡ Absorb r → IsLawfulAbsorption root h b s r → IsLawfulAbsorption root g b' s r
  still_absorbs r is absorption =
      let there = follows.retired r absorption.retirement s.process absorption.into_this
      (closed absorption.retirement (to_absorption is absorption.into_this)) in
      let same_retirement : IsSameEvent absorption.retirement there.0 = there.2 in
      record {
        retirement = there.0;
        into_this = there.1;
        between = absorption.between;
        grown = same_grown absorption.between same.id same.values absorption.grown;
        joined = subst (λ (v : EventTree). IsJoin absorption.between v s.stamp.events) same_retirement.values absorption.joined;
        disjoint = subst (λ (i : IdTree). AreDisjoint b'.id i) same_retirement.id (subst (λ (i : IdTree). AreDisjoint i absorption.retirement.id) same.id absorption.disjoint);
        together = subst (λ (i : IdTree). AreTogether b'.id i s.stamp.id) same_retirement.id
            (subst (λ (i : IdTree). AreTogether i absorption.retirement.id s.stamp.id) same.id absorption.together);
      }

  still_allowed : (a : StepKind) → s.step_kind ≡ a → IsAllowed root h b s a → IsAllowed root g b' s a
  still_allowed Work is w = own_work b b' s same.id same.values w
  still_allowed Check is w = own_work b b' s same.id same.values w
  still_allowed Present is w = own_work b b' s same.id same.values w
  still_allowed (Send m) is w = (own_work b b' s same.id same.values w.0, follows.unsent m w.1)
  still_allowed (Receive m) is w = still_receives m is w
  still_allowed (Fork child i) is w = still_forks child i w
  still_allowed (Retire q) is w = (own_work b b' s same.id same.values w.0, w.1)
  still_allowed (Absorb r) is w = still_absorbs r is w

kept_next : (root : Name) (cut : Cut) (h : History) (b : Event) (s : Step) → status root h s.process ≡ Living b → IsAllowed root h b s s.step_kind
    → IsClosed root (s ∷ h) cut → IsLawful root (kept cut h) → IsLawful root (kept cut (s ∷ h))
kept_next root cut h b s living allowed closed before =
    elim (cases_Bool (cut (event_of h s))) [
      | inl reached ↦
          (let all = follows root cut h (closed_before root cut h s closed) in
          let there = all.living s.process b living (closed b (event_of h s) (to_next living) reached) in
          subst (λ (g : History). IsLawful root g) (sym (kept_taken cut h s reached))
          (next before there.1 (still_allowed root cut h (kept cut h) b there.0 s all there.2 (λ a edge. closed a (event_of h s) edge reached) s.step_kind refl allowed)))
      | inr beyond ↦ subst (λ (g : History). IsLawful root g) (sym (kept_left cut h s beyond)) before
    ]

kept_lawful : {root : Name} {h : History} → IsLawful root h → (cut : Cut) → IsClosed root h cut → IsLawful root (kept cut h)
unfolding kept
kept_lawful start cut closed = start
kept_lawful {root} (next {h = h} {s = s} {before = b} lawful living allowed) cut closed =
    kept_next root cut h b s living allowed closed (kept_lawful lawful cut (closed_before root cut h s closed))

pub kept_is_lawful : KeptIsLawful
kept_is_lawful root h cut lawful closed = kept_lawful lawful cut closed
