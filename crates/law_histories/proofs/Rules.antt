-- The look-ups of a lawful history are what they seem to be, and so the rules by events are the law.
use Rattle.std.proofs.Common.{◌≡◌, List, ◌≤◌, ◌<◌, ◌≢◌, true, [], ◌∷◌, Some, None, refl, sym, ◌∙◌, ap, subst, ◌⊎◌, inl, inr, arith}
use Rattle.std.proofs.lemmas.Bool.{cond-true, cond-false, cases_Bool, true≢false}
use Rattle.std.specs.Str.{bytes_eq}
use Rattle.id_tree.specs.IdTree.{IdTree}
use Rattle.law_histories.proofs.Bytes.{cases_name, bytes_are, bytes_same, bytes_other}
use Rattle.report_line.specs.declared.step.StepKind.{StepKind}
use Rattle.report_line.specs.declared.step.StepKind.TheVariants.{Work, Check, Present, Send, Receive, Fork, Retire, Absorb}
use Rattle.report_line.specs.declared.step.Step.{Step}
use Rattle.report_line.specs.histories.History.{Name, Message, History, Birth, Does, Event, event_of, birth_by, birth_of_root, Status, Unborn, Living, Retired, Absorbed, status_of_actor, status_of_other, last_of, status, sends, sending}
use Rattle.report_line.specs.histories.Lawful.{IsLawfulAbsorption, IsAllowed, IsLawful, start, next}
use Rattle.report_line.specs.histories.Events.{Occurs, root_birth, step, birth, earlier}
use Rattle.law_histories.proofs.Status.{status_acts, status_others, held_occurs, held_process, sent_occurs, is_born, retired_by}
use Rattle.law_histories.proofs.Steps.{fork_of}
use Rattle.law_histories.proofs.Later.{up_to_last}
use Rattle.law_histories.specs.Rules.{IsNewest, IsNew, IsNeverDone, IsWaiting, LookUpsAreEvents, Obeys, RulesAreTheLaw}

absorption_of : (root : Name) (h : History) (b : Event) (s : Step) (r : Name)
    → IsAllowed root h b s s.step_kind → s.step_kind ≡ Absorb r → IsLawfulAbsorption root h b s r
absorption_of root h b s r w is = subst (λ (a : StepKind). IsAllowed root h b s a) is w

-- What becomes of another process: it is born by the step, it is absorbed, or it stays as it is.
absorbed_name : (r p : Name) → Absorb r ≡ Absorb p → r ≡ p
absorbed_name r p e = cc

living_not_absorbed : (e : Event) → Living e ≢ Absorbed
living_not_absorbed e is = cc

other_is : (h : History) (s : Step) (p : Name) (a : StepKind) (before : Status)
    → ((i : IdTree) × (a ≡ Fork p i) × (status_of_other h s a p before ≡ Living (birth_by h s p i)))
    ⊎ (((a ≡ Absorb p) × (status_of_other h s a p before ≡ Absorbed)) ⊎ ((a ≢ Absorb p) × (status_of_other h s a p before ≡ before)))
other_is h s p Work before = inr (inr (λ e. cc, refl))
other_is h s p Check before = inr (inr (λ e. cc, refl))
other_is h s p Present before = inr (inr (λ e. cc, refl))
other_is h s p (Send m) before = inr (inr (λ e. cc, refl))
other_is h s p (Receive m) before = inr (inr (λ e. cc, refl))
other_is h s p (Retire q) before = inr (inr (λ e. cc, refl))
other_is h s p (Fork c i) before =
    elim (cases_name p c) [
      | inl is ↦ inl (i, ap (λ (n : Name). Fork n i) (sym is), cond-true (bytes_eq p c) _ _ (bytes_same p c is) ∙ ap (λ (n : Name). Living (birth_by h s n i)) (sym is))
      | inr other ↦ inr (inr (λ e. cc, cond-false (bytes_eq p c) _ _ (bytes_other p c other)))
    ]
other_is h s p (Absorb r) before =
    elim (cases_name p r) [
      | inl is ↦ inr (inl (ap Absorb (sym is), cond-true (bytes_eq p r) _ _ (bytes_same p r is)))
      | inr other ↦ inr (inr (λ e. other (sym (absorbed_name r p e)), cond-false (bytes_eq p r) _ _ (bytes_other p r other)))
    ]

-- A process that was absorbed: its newest event is a retirement.
record HasEnded (root : Name) (h : History) (p : Name) : Type 0 where
  pub last : Event
  pub occurs : Occurs root h last
  pub of_process : last.process ≡ p
  pub newest : (y : Event) → Occurs root h y → y.process ≡ p → (y ≡ last) ⊎ (y.number < last.number)
  pub target : Name
  pub retires : last.kind ≡ Does (Retire target)

actor_not_absorbed : (a : StepKind) (x : Event) → status_of_actor a x ≢ Absorbed
actor_not_absorbed a x is = grind arith

other_absorbed : (h : History) (s : Step) (p : Name) (a : StepKind) (before : Status) → status_of_other h s a p before ≡ Absorbed
    → (before ≡ Absorbed) ⊎ (a ≡ Absorb p)
other_absorbed h s p a before is =
    elim (other_is h s p a before) [
      | inl w ↦ absurd (living_not_absorbed _ (sym w.2 ∙ is))
      | inr (inl w) ↦ inr w.0
      | inr (inr w) ↦ inl (sym w.1 ∙ is)
    ]

-- An event of another process than the acting one is old, or the child's birth.
other_event : {root : Name} {h : History} {s : Step} {y : Event} → Occurs root (s ∷ h) y → y.process ≢ s.process
    → Occurs root h y ⊎ ((i : IdTree) × (s.step_kind ≡ Fork y.process i))
other_event step differs = absurd (differs refl)
other_event (birth {given = i} forks) differs = inr (i, forks)
other_event (earlier occurs) differs = inl occurs

ends_later : (root : Name) (h : History) (b : Event) (s : Step) (p : Name) → status root h s.process ≡ Living b → IsAllowed root h b s s.step_kind
    → p ≢ s.process → status root h p ≢ Unborn → HasEnded root h p → HasEnded root (s ∷ h) p
ends_later root h b s p living allowed differs born ended = record {
  last = ended.last;
  occurs = earlier ended.occurs;
  of_process = ended.of_process;
  newest = λ y occurs of_p.
      elim (other_event occurs (λ same. differs (sym of_p ∙ same))) [
        | inl old ↦ ended.newest y old of_p
        | inr forked ↦ absurd (born (ap (status root h) (sym of_p) ∙ (fork_of root h b s y.process forked.0 allowed forked.1).new_name))
      ];
  target = ended.target;
  retires = ended.retires;
}

ended_by_last : (root : Name) (h : History) (p q : Name) (x : Event) → IsLawful root h → status root h p ≡ Retired x q → HasEnded root h p
ended_by_last root h p q x lawful is = record {
  last = x;
  occurs = held_occurs root h p x (ap last_of is);
  of_process = held_process root h p x (ap last_of is);
  newest = λ y occurs of_p. up_to_last lawful p x y (ap last_of is) occurs of_p;
  target = q;
  retires = retired_by root h p x q is;
}

absorbed_born : Absorbed ≢ Unborn
absorbed_born is = cc

retired_born : (x : Event) (q : Name) → Retired x q ≢ Unborn
retired_born x q is = cc

first_not_absorbed : (root p : Name) → status root [] p ≢ Absorbed
unfolding status
first_not_absorbed root p is =
    elim (cases_name p root) [
      | inl same ↦ living_not_absorbed (birth_of_root root) (sym (cond-true (bytes_eq p root) _ _ (bytes_same p root same)) ∙ is)
      | inr other ↦ (let both : Unborn ≡ Absorbed = sym (cond-false (bytes_eq p root) _ _ (bytes_other p root other)) ∙ is in cc)
    ]

absorbed_ended : {root : Name} {h : History} → IsLawful root h → (p : Name) → status root h p ≡ Absorbed → HasEnded root h p
absorbed_ended {root} start p is = absurd (first_not_absorbed root p is)
absorbed_ended {root} (next {h = h} {s = s} {before = b} lawful living allowed) p is =
    elim (cases_name p s.process) [
      | inl same ↦ absurd (actor_not_absorbed s.step_kind (event_of h s) (sym (status_acts root h s p same) ∙ is))
      | inr differs ↦ elim (other_absorbed h s p s.step_kind (status root h p) (sym (status_others root h s p differs) ∙ is)) [
        | inl before ↦ ends_later root h b s p living allowed differs (λ unborn. absorbed_born (sym before ∙ unborn)) (absorbed_ended lawful p before)
        | inr absorbs ↦
            (let absorption = absorption_of root h b s p allowed absorbs in
            ends_later root h b s p living allowed differs (λ unborn. retired_born absorption.retirement s.process (sym absorption.into_this ∙ unborn))
            (ended_by_last root h p s.process absorption.retirement lawful absorption.into_this))
      ]
    ]

newest_is_end : (root : Name) (h : History) (p : Name) (x : Event) → HasEnded root h p → IsNewest root h p x → ⊥
newest_is_end root h p x ended newest =
    elim (ended.newest x newest.occurs newest.of_process) [
      | inl same ↦ newest.not_retired ended.target (ap (λ (y : Event). y.kind) same ∙ ended.retires)
      | inr less ↦ (let least : ended.last.number ≤ x.number = newest.newest ended.last ended.occurs ended.of_process in omega arith)
    ]

-- The newest event of a process that has not retired is the one that it lives by.
newest_lives_by : (root : Name) (h : History) (p : Name) (x : Event) → IsLawful root h → IsNewest root h p x → (now : Status) → status root h p ≡ now
    → status root h p ≡ Living x
newest_lives_by root h p x lawful newest Unborn is = absurd (is_born newest.occurs (ap (status root h) newest.of_process ∙ is))
newest_lives_by root h p x lawful newest (Living e) is =
    elim (up_to_last lawful p e x (ap last_of is) newest.occurs newest.of_process) [
      | inl same ↦ is ∙ ap Living (sym same)
      | inr less ↦
          (let least : e.number ≤ x.number = newest.newest e (held_occurs root h p e (ap last_of is)) (held_process root h p e (ap last_of is)) in
          absurd (omega arith))
    ]
newest_lives_by root h p x lawful newest (Retired e q) is =
    elim (up_to_last lawful p e x (ap last_of is) newest.occurs newest.of_process) [
      | inl same ↦ absurd (newest.not_retired q (ap (λ (y : Event). y.kind) same ∙ retired_by root h p e q is))
      | inr less ↦
          (let least : e.number ≤ x.number = newest.newest e (held_occurs root h p e (ap last_of is)) (held_process root h p e (ap last_of is)) in
          absurd (omega arith))
    ]
newest_lives_by root h p x lawful newest Absorbed is =
    let ended = absorbed_ended lawful p is in
    absurd (newest_is_end root h p x ended newest)

pub newest_lives : {root : Name} {h : History} → IsLawful root h → (p : Name) (x : Event) → IsNewest root h p x → status root h p ≡ Living x
newest_lives {root} {h} lawful p x newest = newest_lives_by root h p x lawful newest (status root h p) refl

-- Who has no event is not born.
new_unborn_now : (root : Name) (h : History) (p : Name) → IsLawful root h → IsNew root h p → (now : Status) → status root h p ≡ now → status root h p ≡ Unborn
new_unborn_now root h p lawful is_new Unborn is = is
new_unborn_now root h p lawful is_new (Living e) is = absurd (is_new e (held_occurs root h p e (ap last_of is)) (held_process root h p e (ap last_of is)))
new_unborn_now root h p lawful is_new (Retired e q) is = absurd (is_new e (held_occurs root h p e (ap last_of is)) (held_process root h p e (ap last_of is)))
new_unborn_now root h p lawful is_new Absorbed is =
    let ended = absorbed_ended lawful p is in
    absurd (is_new ended.last ended.occurs ended.of_process)

pub new_unborn : {root : Name} {h : History} → IsLawful root h → (p : Name) → IsNew root h p → status root h p ≡ Unborn
new_unborn {root} {h} lawful p is_new = new_unborn_now root h p lawful is_new (status root h p) refl

-- A message that nobody sent has no send.
sends_this : (a : StepKind) (m : Message) → sends a m ≡ true → a ≡ Send m
sends_this (Send sent) m is = ap Send (bytes_are sent m is)
sends_this Work m is = absurd (true≢false (sym is))
sends_this Check m is = absurd (true≢false (sym is))
sends_this Present m is = absurd (true≢false (sym is))
sends_this (Receive r) m is = absurd (true≢false (sym is))
sends_this (Fork c i) m is = absurd (true≢false (sym is))
sends_this (Retire q) m is = absurd (true≢false (sym is))
sends_this (Absorb r) m is = absurd (true≢false (sym is))

pub undone_unsent : (root : Name) (h : History) (m : Message) → IsNeverDone root h (Send m) → sending h m ≡ None
unfolding sending
undone_unsent root [] m undone = refl
undone_unsent root (s ∷ h) m undone =
    elim (cases_Bool (sends s.step_kind m)) [
      | inl this ↦ absurd (undone (event_of h s) step (ap Does (sends_this s.step_kind m this)))
      | inr other ↦ cond-false (sends s.step_kind m) _ _ other ∙ undone_unsent root h m (λ x occurs. undone x (earlier occurs))
    ]

-- Of an event that does something: it is the newest step's, or it occurred before.
pub does_same : (a b : StepKind) → Does a ≡ Does b → a ≡ b
does_same a b is = cc

pub birth_does_nothing : (a : StepKind) → Birth ≢ Does a
birth_does_nothing a is = cc

pub done_now_or_before : {root : Name} {h : History} {s : Step} {x : Event} → Occurs root (s ∷ h) x → (a : StepKind) → x.kind ≡ Does a
    → ((x ≡ event_of h s) × (s.step_kind ≡ a)) ⊎ Occurs root h x
done_now_or_before (step {h = h} {s = s}) a is = inl (refl, does_same s.step_kind a is)
done_now_or_before (birth forks) a is = absurd (birth_does_nothing a is)
done_now_or_before (earlier occurs) a is = inr occurs

pub nothing_done : {root : Name} {x : Event} → Occurs root [] x → (a : StepKind) → x.kind ≡ Does a → ⊥
nothing_done root_birth a is = birth_does_nothing a is

send_sends : (a : StepKind) (m : Message) → a ≡ Send m → sends a m ≡ true
send_sends a m is = ap (λ (b : StepKind). sends b m) is ∙ bytes_same m m refl

pub retired_not_living : (x b : Event) (q : Name) → Retired x q ≢ Living b
retired_not_living x b q is = cc

retired_not_absorbed : (x : Event) (q : Name) → Retired x q ≢ Absorbed
retired_not_absorbed x q is = cc

retired_not_unborn : (x : Event) (q : Name) → Retired x q ≢ Unborn
retired_not_unborn x q is = cc

-- The event that sent a message is its send.
sent_before : (root : Name) (h : History) (b : Event) (s : Step) (m : Message) (x : Event) → IsAllowed root h b s s.step_kind → sends s.step_kind m ≡ true → sending h m ≡ Some x → ⊥
sent_before root h b s m x allowed this before =
    let fresh = subst (λ (a : StepKind). IsAllowed root h b s a) (sends_this s.step_kind m this) allowed in
    let both : Some x ≡ None = sym before ∙ fresh.1 in
    cc

pub send_is_found : {root : Name} {h : History} → IsLawful root h → (m : Message) (x : Event) → Occurs root h x → x.kind ≡ Does (Send m) → sending h m ≡ Some x
unfolding sending
send_is_found start m x occurs is = absurd (nothing_done occurs (Send m) is)
send_is_found {root} (next {h = h} {s = s} {before = b} lawful living allowed) m x occurs is =
    elim (done_now_or_before occurs (Send m) is) [
      | inl now ↦ cond-true (sends s.step_kind m) _ _ (send_sends s.step_kind m now.1) ∙ ap Some (sym now.0)
      | inr old ↦
          (let before = send_is_found lawful m x old is in
          elim (cases_Bool (sends s.step_kind m)) [
            | inl this ↦ absurd (sent_before root h b s m x allowed this before)
            | inr other ↦ cond-false (sends s.step_kind m) _ _ other ∙ before
          ])
    ]

-- Who retired and was not absorbed waits.
pub actor_retires : (a : StepKind) (q : Name) (x : Event) → a ≡ Retire q → status_of_actor a x ≡ Retired x q
actor_retires a q x is = grind arith

other_waits : (h : History) (s : Step) (p : Name) (a : StepKind) (x : Event) (q : Name) → ((i : IdTree) → a ≢ Fork p i) → a ≢ Absorb p
    → status_of_other h s a p (Retired x q) ≡ Retired x q
other_waits h s p a x q no_fork no_absorption =
    elim (other_is h s p a (Retired x q)) [
      | inl w ↦ absurd (no_fork w.0 w.1)
      | inr (inl w) ↦ absurd (no_absorption w.0)
      | inr (inr w) ↦ w.1
    ]

pub retired_waits : {root : Name} {h : History} → IsLawful root h → (p q : Name) (x : Event) → Occurs root h x → x.process ≡ p → x.kind ≡ Does (Retire q)
    → IsNeverDone root h (Absorb p) → status root h p ≡ Retired x q
retired_waits start p q x occurs of_p is waits = absurd (nothing_done occurs (Retire q) is)
retired_waits {root} (next {h = h} {s = s} {before = b} lawful living allowed) p q x occurs of_p is waits =
    elim (done_now_or_before occurs (Retire q) is) [
      | inl now ↦
          (let same : p ≡ s.process = sym of_p ∙ ap (λ (y : Event). y.process) now.0 in
          status_acts root h s p same ∙ (actor_retires s.step_kind q (event_of h s) now.1 ∙ ap (λ (y : Event). Retired y q) (sym now.0)))
      | inr old ↦
          (let before : status root h p ≡ Retired x q = retired_waits lawful p q x old of_p is (λ y occurs_y. waits y (earlier occurs_y)) in
          status_others root h s p (λ same. retired_not_living x b q (sym before ∙ (ap (status root h) same ∙ living))) ∙
          (ap (status_of_other h s s.step_kind p) before ∙
          other_waits h s p s.step_kind x q
          (λ i forks. retired_not_unborn x q (sym before ∙ (fork_of root h b s p i allowed forks).new_name))
          (λ absorbs. waits (event_of h s) step (ap Does absorbs))))
    ]

-- The rules are the law.
rule_allows : (root : Name) (h : History) (b : Event) (s : Step) → IsLawful root h → (a : StepKind) → Obeys root h b s a → IsAllowed root h b s a
rule_allows root h b s lawful Work w = w
rule_allows root h b s lawful Check w = w
rule_allows root h b s lawful Present w = w
rule_allows root h b s lawful (Send m) w = (w.0, undone_unsent root h m w.1)
rule_allows root h b s lawful (Receive m) w = record {
  sent = w.0;
  is_sent = send_is_found lawful m w.0 w.1 w.2;
  joined = w.3.0;
  is_join = w.3.1;
  own = w.3.2;
}
rule_allows root h b s lawful (Fork child i) w = record {
  grown = w.grown;
  new_name = new_unborn lawful child w.new_name;
  not_root = w.not_root;
  disjoint = w.disjoint;
  not_empty = w.not_empty;
  child_not_empty = w.child_not_empty;
  together = w.together;
}
rule_allows root h b s lawful (Retire q) w = w
rule_allows root h b s lawful (Absorb r) w = record {
  retirement = w.retirement;
  into_this = retired_waits lawful r s.process w.retirement w.occurs w.of_retired w.into_this w.not_absorbed;
  between = w.between;
  grown = w.grown;
  joined = w.joined;
  disjoint = w.disjoint;
  together = w.together;
}

-- ---- the other way round

other_ended : (h : History) (s : Step) (p : Name) (a : StepKind) (before : Status) (x : Event) (q : Name) → ((i : IdTree) → a ≢ Fork p i)
    → (before ≡ Retired x q) ⊎ (before ≡ Absorbed) → (status_of_other h s a p before ≡ Retired x q) ⊎ (status_of_other h s a p before ≡ Absorbed)
other_ended h s p a before x q no_fork ended =
    elim (other_is h s p a before) [
      | inl w ↦ absurd (no_fork w.0 w.1)
      | inr (inl w) ↦ inr w.1
      | inr (inr w) ↦ elim ended [ inl waits ↦ inl (w.1 ∙ waits) | inr absorbed ↦ inr (w.1 ∙ absorbed) ]
    ]

pub ended_not_living : (now : Status) (x b : Event) (q : Name) → (now ≡ Retired x q) ⊎ (now ≡ Absorbed) → now ≢ Living b
ended_not_living now x b q (inl waits) is = (let both : Retired x q ≡ Living b = sym waits ∙ is in cc)
ended_not_living now x b q (inr absorbed) is = (let both : Absorbed ≡ Living b = sym absorbed ∙ is in cc)

ended_not_unborn : (now : Status) (x : Event) (q : Name) → (now ≡ Retired x q) ⊎ (now ≡ Absorbed) → now ≢ Unborn
ended_not_unborn now x q (inl waits) is = (let both : Retired x q ≡ Unborn = sym waits ∙ is in cc)
ended_not_unborn now x q (inr absorbed) is = (let both : Absorbed ≡ Unborn = sym absorbed ∙ is in cc)

pub ended : {root : Name} {h : History} → IsLawful root h → (x : Event) (q : Name) → Occurs root h x → x.kind ≡ Does (Retire q)
    → (status root h x.process ≡ Retired x q) ⊎ (status root h x.process ≡ Absorbed)
ended start x q occurs is = absurd (nothing_done occurs (Retire q) is)
ended {root} (next {h = h} {s = s} {before = b} lawful living allowed) x q occurs is =
    elim (done_now_or_before occurs (Retire q) is) [
      | inl now ↦
          inl (status_acts root h s x.process (ap (λ (y : Event). y.process) now.0)
          ∙ (actor_retires s.step_kind q (event_of h s) now.1 ∙ ap (λ (y : Event). Retired y q) (sym now.0)))
      | inr old ↦
          (let before = ended lawful x q old is in
          let differs : x.process ≢ s.process = λ same. ended_not_living (status root h x.process) x b q before (ap (status root h) same ∙ living) in
          let after = other_ended h s x.process s.step_kind (status root h x.process) x q
          (λ i forks. ended_not_unborn (status root h x.process) x q before (fork_of root h b s x.process i allowed forks).new_name) before in
          let there = status_others root h s x.process differs in
          elim after [ inl waits ↦ inl (there ∙ waits) | inr absorbed ↦ inr (there ∙ absorbed) ])
    ]

pub living_is_newest : {root : Name} {h : History} → IsLawful root h → (p : Name) (b : Event) → status root h p ≡ Living b → IsNewest root h p b
living_is_newest {root} {h} lawful p b living =
    let occurs = held_occurs root h p b (ap last_of living) in
    let of_process = held_process root h p b (ap last_of living) in
    record {
      occurs = occurs;
      of_process = of_process;
      newest = λ y occurs_y of_p.
          elim (up_to_last lawful p b y (ap last_of living) occurs_y of_p) [
            | inl is ↦ (let number : y.number ≡ b.number = ap (λ (z : Event). z.number) is in omega arith)
            | inr less ↦ omega arith
          ];
      not_retired = λ q is. ended_not_living (status root h b.process) b b q (ended lawful b q occurs is) (ap (status root h) of_process ∙ living);
    }

sent_is_send : (root : Name) (h : History) (m : Message) (x : Event) → sending h m ≡ Some x → x.kind ≡ Does (Send m)
unfolding sending
sent_is_send root [] m x is = absurd (cc)
sent_is_send root (s ∷ h) m x is =
    elim (cases_Bool (sends s.step_kind m)) [
      | inl this ↦
          (let some : Some (event_of h s) ≡ Some x = sym (cond-true (sends s.step_kind m) _ _ this) ∙ is in
          let event : event_of h s ≡ x = cc in
          ap (λ (y : Event). y.kind) (sym event) ∙ ap Does (sends_this s.step_kind m this))
      | inr other ↦ sent_is_send root h m x (sym (cond-false (sends s.step_kind m) _ _ other) ∙ is)
    ]

other_absorbs : (h : History) (s : Step) (p : Name) (a : StepKind) (before : Status) → a ≡ Absorb p → status_of_other h s a p before ≡ Absorbed
other_absorbs h s p a before is =
    elim (other_is h s p a before) [
      | inl w ↦ (let both : Fork p w.0 ≡ Absorb p = sym w.1 ∙ is in absurd (cc))
      | inr (inl w) ↦ w.1
      | inr (inr w) ↦ absurd (w.0 is)
    ]

other_stays_absorbed : (h : History) (s : Step) (p : Name) (a : StepKind) → ((i : IdTree) → a ≢ Fork p i) → status_of_other h s a p Absorbed ≡ Absorbed
other_stays_absorbed h s p a no_fork =
    elim (other_is h s p a Absorbed) [
      | inl w ↦ absurd (no_fork w.0 w.1)
      | inr (inl w) ↦ w.1
      | inr (inr w) ↦ w.1
    ]

absorbed_not_living : (b : Event) → Absorbed ≢ Living b
absorbed_not_living b is = cc

absorbed_by : {root : Name} {h : History} → IsLawful root h → (r : Name) (y : Event) → Occurs root h y → y.kind ≡ Does (Absorb r) → status root h r ≡ Absorbed
absorbed_by start r y occurs is = absurd (nothing_done occurs (Absorb r) is)
absorbed_by {root} (next {h = h} {s = s} {before = b} lawful living allowed) r y occurs is =
    elim (done_now_or_before occurs (Absorb r) is) [
      | inl now ↦
          (let absorption = absorption_of root h b s r allowed now.1 in
          let differs : r ≢ s.process = λ same. retired_not_living absorption.retirement b s.process (sym absorption.into_this ∙ (ap (status root h) same ∙ living)) in
          status_others root h s r differs ∙ other_absorbs h s r s.step_kind (status root h r) now.1)
      | inr old ↦
          (let before = absorbed_by lawful r y old is in
          let differs : r ≢ s.process = λ same. absorbed_not_living b (sym before ∙ (ap (status root h) same ∙ living)) in
          status_others root h s r differs ∙ (ap (status_of_other h s s.step_kind r) before
          ∙ other_stays_absorbed h s r s.step_kind (λ i forks. absorbed_born (sym before ∙ (fork_of root h b s r i allowed forks).new_name))))
    ]

none_not_some : (x : Event) → None ≢ Some x
none_not_some x is = cc

pub law_obeys : (root : Name) (h : History) (b : Event) (s : Step) → IsLawful root h → (a : StepKind) → IsAllowed root h b s a → Obeys root h b s a
law_obeys root h b s lawful Work w = w
law_obeys root h b s lawful Check w = w
law_obeys root h b s lawful Present w = w
law_obeys root h b s lawful (Send m) w = (w.0, λ x occurs is. none_not_some x (sym w.1 ∙ send_is_found lawful m x occurs is))
law_obeys root h b s lawful (Receive m) w = (w.sent, sent_occurs root h m w.sent w.is_sent, sent_is_send root h m w.sent w.is_sent, (w.joined, w.is_join, w.own))
law_obeys root h b s lawful (Fork child i) w = record {
  grown = w.grown;
  new_name = λ x occurs is. is_born occurs (ap (status root h) is ∙ w.new_name);
  not_root = w.not_root;
  disjoint = w.disjoint;
  not_empty = w.not_empty;
  child_not_empty = w.child_not_empty;
  together = w.together;
}
law_obeys root h b s lawful (Retire q) w = w
law_obeys root h b s lawful (Absorb r) w = record {
  retirement = w.retirement;
  occurs = held_occurs root h r w.retirement (ap last_of w.into_this);
  of_retired = held_process root h r w.retirement (ap last_of w.into_this);
  into_this = retired_by root h r w.retirement s.process w.into_this;
  not_absorbed = λ y occurs is. retired_not_absorbed w.retirement s.process (sym w.into_this ∙ absorbed_by lawful r y occurs is);
  between = w.between;
  grown = w.grown;
  joined = w.joined;
  disjoint = w.disjoint;
  together = w.together;
}

pub same_rest : {X : Type 0} (x y : X) (xs ys : List X) → x ∷ xs ≡ y ∷ ys → xs ≡ ys
same_rest x y xs ys is = cc

same_first : {X : Type 0} (x y : X) (xs ys : List X) → x ∷ xs ≡ y ∷ ys → x ≡ y
same_first x y xs ys is = cc

pub last_step : {root : Name} {whole : History} → IsLawful root whole → (s : Step) (h : History) → whole ≡ s ∷ h
    → (b : Event) × (status root h s.process ≡ Living b) × IsAllowed root h b s s.step_kind
last_step start s h is = absurd (cc)
last_step {root} (next {h = g} {s = t} {before = b} lawful living allowed) s h is =
    let same : t ≡ s = same_first t s g h is in
    let rest : g ≡ h = same_rest t s g h is in
    subst (λ (k : History). (b : Event) × (status root k s.process ≡ Living b) × IsAllowed root k b s s.step_kind) rest
    (b, ap (λ (u : Step). status root g u.process) (sym same) ∙ living, subst (λ (u : Step). IsAllowed root g b u u.step_kind) same allowed)

pub obeying_is_lawful : (root : Name) (h : History) (s : Step) (b : Event) → IsLawful root h → IsNewest root h s.process b → Obeys root h b s s.step_kind → IsLawful root (s ∷ h)
obeying_is_lawful root h s b lawful newest obeys = next lawful (newest_lives lawful s.process b newest) (rule_allows root h b s lawful s.step_kind obeys)

pub rules_are_the_law : RulesAreTheLaw
rules_are_the_law root h s lawful = (
  λ longer.
      (let last = last_step longer s h refl in
      (last.0, living_is_newest lawful s.process last.0 last.1, law_obeys root h last.0 s lawful s.step_kind last.2)),
  λ w. obeying_is_lawful root h s w.0 lawful w.1 w.2,
)

-- ---- the look-ups

absorbed_was : {root : Name} {h : History} → IsLawful root h → (p : Name) → status root h p ≡ Absorbed → (x : Event) × Occurs root h x × (x.kind ≡ Does (Absorb p))
absorbed_was {root} start p is = absurd (first_not_absorbed root p is)
absorbed_was {root} (next {h = h} {s = s} {before = b} lawful living allowed) p is =
    elim (cases_name p s.process) [
      | inl same ↦ absurd (actor_not_absorbed s.step_kind (event_of h s) (sym (status_acts root h s p same) ∙ is))
      | inr differs ↦ elim (other_absorbed h s p s.step_kind (status root h p) (sym (status_others root h s p differs) ∙ is)) [
        | inl before ↦ (let w = absorbed_was lawful p before in (w.0, earlier w.1, w.2))
        | inr absorbs ↦ (event_of h s, step, ap Does absorbs)
      ]
    ]

pub waiting : {root : Name} {h : History} → IsLawful root h → (p q : Name) (x : Event) → status root h p ≡ Retired x q → IsWaiting root h p q x
waiting {root} {h} lawful p q x is = record {
  occurs = held_occurs root h p x (ap last_of is);
  of_process = held_process root h p x (ap last_of is);
  retires = retired_by root h p x q is;
  not_absorbed = λ y occurs absorbs. retired_not_absorbed x q (sym is ∙ absorbed_by lawful p y occurs absorbs);
}

pub look_ups : (root : Name) (h : History) → IsLawful root h → LookUpsAreEvents root h
look_ups root h lawful = record {
  unborn = λ p. ((λ is. λ x occurs of_p. is_born occurs (ap (status root h) of_p ∙ is)), (λ is_new. new_unborn lawful p is_new));
  living = λ p x. ((λ is. living_is_newest lawful p x is), (λ newest. newest_lives lawful p x newest));
  retired = λ p q x. ((λ is. waiting lawful p q x is), (λ w. retired_waits lawful p q x w.occurs w.of_process w.retires w.not_absorbed));
  absorbed = λ p. ((λ is. absorbed_was lawful p is), (λ w. absorbed_by lawful p w.0 w.1 w.2));
  sent = λ m x. ((λ is. (sent_occurs root h m x is, sent_is_send root h m x is)), (λ w. send_is_found lawful m x w.0 w.1));
}
