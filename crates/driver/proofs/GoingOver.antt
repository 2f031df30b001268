-- Going over one step more of a history, for tables of what a cut keeps of it.
use Rattle.std.proofs.Common.{◌≡◌, ◌≢◌, ℕ, ◌+◌, ◌≤◌, ◌<◌, Bool, true, false, Option, Some, None, List, [], ◌∷◌, ◌++◌, length, get_or, take, drop, refl, sym, ◌∙◌, ap, subst, inl, inr, arith}
use Rattle.std.specs.Prelude.{reverse, not, nat_eq, nat_le, slice_get}
use Rattle.std.specs.Option.{is_some, option_map, option_map_or}
use Rattle.std.specs.Str.{bytes_eq}
use Rattle.std.proofs.lemmas.Bool.{cases_Bool, true≢false, and_from}
use Rattle.std.proofs.lemmas.List.{reverse-append, take-append-drop}
use Rattle.indexmap.specs.IndexMap.{get}
use Rattle.event_tree.specs.EventTree.{EventTree}
use Rattle.report_line.specs.declared.step.StepKind.{StepKind}
use Rattle.report_line.specs.declared.step.StepKind.TheVariants.{Work, Check, Present, Send, Receive, Fork, Retire, Absorb}
use Rattle.report_line.specs.declared.step.Step.{Step as Taken}
use Rattle.report_line.specs.histories.History.{Name, Message, History, Event, event_of, Status, Unborn, Living, Retired, Absorbed, status, sending}
use Rattle.report_line.specs.histories.Lawful.{IsAllowed, IsLawfulReceive, IsLawful, start, next}
use Rattle.report_line.specs.histories.Events.{Edge}
use Rattle.report_line.specs.histories.StepReports.{reporting_steps}
use Rattle.chains.specs.declared.position.Position.{Position}
use Rattle.chains.specs.declared.position.Position.TheVariants.{At, Retired as Gone}
use Rattle.law_histories.specs.Kept.{Cut, IsClosed, kept}
use Rattle.law_histories.proofs.Follows.{kept_taken, kept_left, follows, closed_before}
use Rattle.law_histories.proofs.Keeping.{kept_is_lawful}
use Rattle.law_lines.proofs.Folding.{within, is_within}
use Rattle.driver.specs.declared.fault.StepFault.{StepFault}
use Rattle.driver.specs.declared.process_status.ProcessStatus.{ProcessStatus}
use Rattle.driver.specs.declared.process_status.ProcessStatus.TheVariants.{Born, Lives, Waits, Gone as Away}
use Rattle.driver.specs.declared.mark.Mark.{Mark}
use Rattle.driver.specs.declared.tables.Tables.{Tables}
use Rattle.driver.specs.working.Made.{Made}
use Rattle.driver.specs.working.Tables.{AreSound, history_in, Standing, LivesWith, WaitsWith, standing, shown, events_at, carried, reports_after, kept_of_other}
use Rattle.driver.specs.working.Making.{IsNotAlive, IsSame, IsReady, HasLineOf, Adds}
use Rattle.driver.specs.Verdicts.{HasRetired}
use Rattle.driver.specs.working.Marks.{Marks, last_kept, reaches, reaches_at, reached, cut_by}
use Rattle.driver.specs.working.Keeping.{AreKept, IsRemade, is_waiting, is_due, bears}
use Rattle.report_line.proofs.Cutting.{and_both}
use Rattle.driver.proofs.Born.{absorption_of}
use Rattle.driver.proofs.Places.{not_shown}
use Rattle.driver.proofs.OneMore.{behind_more, behind_count}
use Rattle.driver.proofs.Closing.{IsInOrder, IsClosedAt, closed_next, closed_at, sent_is_kept, was_retired}

-- ---- the cut of marks has with an event of a process the earlier ones

reaches_earlier : (m : Mark) (k : Position) (a b : ℕ) → a ≤ b → reaches_at k m b ≡ true → reaches_at k m a ≡ true
reaches_earlier m (At k) a b le is =
    let both = and_both (not (nat_eq k 0)) (nat_le b (last_kept m)) is in
    let last : b ≤ last_kept m = within b (last_kept m) both.1 in
    and_from (not (nat_eq k 0)) (nat_le a (last_kept m)) both.0 (is_within a (last_kept m) (omega arith))
reaches_earlier m Gone a b le is = refl

found_earlier : (o : Option Mark) (a b : ℕ) → a ≤ b → option_map_or (λ m. reaches m b) o false ≡ true → option_map_or (λ m. reaches m a) o false ≡ true
found_earlier None a b le is = is
found_earlier (Some m) a b le is = reaches_earlier m m.position a b le is

pub in_order : (marks : Marks) → IsInOrder (cut_by marks)
in_order marks a b same le is =
    found_earlier (marks a.process) a.number b.number le (ap (λ (p : Name). option_map_or (λ m. reaches m b.number) (marks p) false) same ∙ is)

-- ---- a step that is lawful behind what stands in tables

pub record IsNext (root : Name) (h : History) (s : Taken) : Type 0 where
  pub lawful : IsLawful root h
  pub before : Event
  pub living : status root h s.process ≡ Living before
  pub allowed : IsAllowed root h before s s.step_kind

head_of : {root : Name} {whole : History} → IsLawful root whole → (s : Taken) (h : History) → whole ≡ s ∷ h → IsNext root h s
head_of start s h is = absurd (filled s h is)
  where
    filled : (x : Taken) (l : History) → (let none : History = [] in none ≡ x ∷ l) → ⊥
    filled x l e = cc
head_of {root} (next {h = g} {s = r} {before = b} lawful living allowed) s h is =
    subst (λ (x : Taken). IsNext root h x) (same_head r s g h is) (subst (λ (l : History). IsNext root l r) (same_rest r s g h is) (record { lawful = lawful; before = b; living = living; allowed = allowed }))
  where
    same_head : (x y : Taken) (k l : History) → x ∷ k ≡ y ∷ l → x ≡ y
    same_head x y k l e = cc

    same_rest : (x y : Taken) (k l : History) → x ∷ k ≡ y ∷ l → k ≡ l
    same_rest x y k l e = cc

pub next_of : (root : Name) (h : History) (s : Taken) → IsLawful root (s ∷ h) → IsNext root h s
next_of root h s lawful = head_of lawful s h refl

living_not_unborn : (e : Event) → Living e ≢ Unborn
living_not_unborn e is = cc

pub lives : (root : Name) (h : History) (s : Taken) (f : StepFault) → IsLawful root (s ∷ h) → IsNotAlive (status root h s.process) f → ⊥
lives root h s f lawful (inl w) = (let n = next_of root h s lawful in living_not_unborn n.before (sym n.living ∙ w.1))
lives root h s f lawful (inr w) = (let n = next_of root h s lawful in subst HasRetired n.living w.1)

pub is_ready : (root : Name) (h : History) (s : Taken) (n : ℕ) (made : Made) → IsLawful root (s ∷ h) → n ≡ reporting_steps s.process h → IsRemade s n made → HasLineOf root h s
    → IsReady root h made
is_ready root h s n made lawful count remade line =
    let w = next_of root h s lawful in
    record {
      before = w.before;
      living = ap (λ (x : Taken). status root h x.process) remade.step ∙ w.living;
      allowed = subst (λ (x : Taken). IsAllowed root h w.before x x.step_kind) (sym remade.step) w.allowed;
      changes = record {
        reports = remade.reports ∙ (ap (reports_after s.step_kind) count ∙ ap (λ (x : Taken). reports_after x.step_kind (reporting_steps x.process h)) (sym remade.step));
        other = remade.other ∙ ap (λ (x : Taken). kept_of_other x.step_kind x.stamp) (sym remade.step);
      };
      line = subst (HasLineOf root h) (sym remade.step) line;
    }

-- room changes nothing
pub ready_still : (old new : Tables) (made : Made) → IsSame old new → IsReady old.root (history_in old) made → IsReady new.root (history_in new) made
ready_still old new made same ready =
    subst (λ (r : Name). IsReady r (history_in new) made) (sym same.root) (subst (λ (h : History). IsReady old.root h made) (sym (ap reverse same.steps)) ready)

-- ---- whether the cut stays closed

carried_some : (o : Option Event) → is_some (carried o) ≡ is_some o
carried_some None = refl
carried_some (Some e) = refl

kept_some : (f : ℕ → Option EventTree) (o : Option ℕ) → is_some (option_map f o) ≡ is_some o
kept_some f None = refl
kept_some f (Some i) = refl

-- who waits by how it stands
abbrev shown_waiting : Option (Option Standing) → Bool
shown_waiting (Some (Some (WaitsWith s q))) = true
shown_waiting _ = false

waits_as_shown : (steps : List Taken) (o : Option ProcessStatus) (now : Status) (n : ℕ) → option_map (standing steps) o ≡ shown now n → is_waiting o ≡ shown_waiting (shown now n)
waits_as_shown steps None now n is = ap shown_waiting is
waits_as_shown steps (Some (Born s)) now n is = ap shown_waiting is
waits_as_shown steps (Some (Lives i m)) now n is = sym (by_step (slice_get steps i)) ∙ ap shown_waiting is
  where
    by_step : (o : Option Taken) → shown_waiting (Some (option_map (λ x. LivesWith x.stamp m) o)) ≡ false
    by_step None = refl
    by_step (Some x) = refl
waits_as_shown steps (Some (Waits i q)) now n is = by_step (slice_get steps i) is
  where
    by_step : (o : Option Taken) → Some (option_map (λ x. WaitsWith x.stamp q) o) ≡ shown now n → true ≡ shown_waiting (shown now n)
    by_step None none = absurd (not_shown now n none)
    by_step (Some x) some = ap shown_waiting some
waits_as_shown steps (Some Away) now n is = ap shown_waiting is

-- who waits retired
waiting_retired : (now : Status) (n : ℕ) → shown_waiting (shown now n) ≡ true → (e : Event) × (q : Name) × (now ≡ Retired e q)
waiting_retired Unborn n is = absurd (true≢false (sym is))
waiting_retired (Living e) n is = absurd (true≢false (sym is))
waiting_retired (Retired e q) n is = (e, q, refl)
waiting_retired Absorbed n is = absurd (true≢false (sym is))

same_retirement : (d e : Event) (p q : Name) → Retired d p ≡ Retired e q → d ≡ e
same_retirement d e p q is = cc

retired_absorbed : (d : Event) (p : Name) → Retired d p ≡ Absorbed → ⊥
retired_absorbed d p is = cc

receive_of : (root : Name) (h : History) (b : Event) (s : Taken) (m : Message) → IsAllowed root h b s s.step_kind → s.step_kind ≡ Receive m → IsLawfulReceive h b s m
receive_of root h b s m w is = subst (λ (a : StepKind). IsAllowed root h b s a) is w

module _ (root : Name) (epoch : ℕ) (marks : Marks) (h : History) (s : Taken) (t : Tables) (so_far : AreKept root epoch (cut_by marks) h t) (lawful : IsLawful root (s ∷ h)) where
  before : IsNext root h s
  before = next_of root h s lawful

  sent_by_tables : (m : Message) (x : Event) → sending h m ≡ Some x → is_some (get bytes_eq t.messages m) ≡ cut_by marks x
  sent_by_tables m x is =
      sym (kept_some (events_at t.steps.items) (get bytes_eq t.messages m))
      ∙ (ap is_some (so_far.sound.messages m)
      ∙ (carried_some (sending (history_in t) m)
      ∙ (ap (λ (g : History). is_some (sending g m)) so_far.history
      ∙ sent_is_kept root h (cut_by marks) m x before.lawful so_far.closed is)))

  known_by_tables : (r : Name) → is_waiting (get bytes_eq t.known r) ≡ shown_waiting (shown (status root (kept (cut_by marks) h) r) (reporting_steps r (history_in t)))
  known_by_tables r =
      waits_as_shown t.steps.items (get bytes_eq t.known r) (status t.root (history_in t) r) (reporting_steps r (history_in t)) (so_far.sound.known r)
      ∙ (ap (λ (p : Name). shown_waiting (shown (status p (history_in t) r) (reporting_steps r (history_in t)))) so_far.same_root
      ∙ ap (λ (g : History). shown_waiting (shown (status root g r) (reporting_steps r (history_in t)))) so_far.history)

  waits_by_tables : (r : Name) (x : Event) (q : Name) → status root h r ≡ Retired x q → is_waiting (get bytes_eq t.known r) ≡ cut_by marks x
  waits_by_tables r x q is =
      elim (cases_Bool (cut_by marks x)) [
        | inl inside ↦
            (let there = (follows root (cut_by marks) h so_far.closed).retired r x q is inside in
            known_by_tables r ∙ (ap (λ (now : Status). shown_waiting (shown now (reporting_steps r (history_in t)))) there.1 ∙ sym inside))
        | inr out ↦
            elim (cases_Bool (is_waiting (get bytes_eq t.known r))) [
              | inr not ↦ not ∙ sym out
              | inl waits ↦
                  (let retired = waiting_retired (status root (kept (cut_by marks) h) r) (reporting_steps r (history_in t)) (sym (known_by_tables r) ∙ waits) in
                  elim (was_retired before.lawful (cut_by marks) r retired.1 retired.0 so_far.closed retired.2) [
                    | inl was ↦ absurd (true≢false (sym was.2 ∙ (ap (cut_by marks) (same_retirement was.0 x retired.1 q (sym was.1 ∙ is)) ∙ out)))
                    | inr gone ↦ absurd (retired_absorbed x q (sym is ∙ gone))
                  ])
            ]
      ]

  -- the step is not in the cut

  left_closed : (d : StepKind) → s.step_kind ≡ d → bears marks d (length (s ∷ h)) ≡ false → cut_by marks (event_of h s) ≡ false → IsClosedAt root h (cut_by marks) s
  left_closed d is no_birth out = record {
    birth = λ c i forks inside. absurd (true≢false (sym inside ∙ (sym (ap (λ (a : StepKind). bears marks a (length (s ∷ h))) (sym is ∙ forks)) ∙ no_birth)));
    sent = λ m x receives sent inside. absurd (true≢false (sym inside ∙ out));
    retired = λ r x absorbs retired inside. absurd (true≢false (sym inside ∙ out));
  }

  left_open : (d : StepKind) → s.step_kind ≡ d → bears marks d (length (s ∷ h)) ≡ true → cut_by marks (event_of h s) ≡ false → ¬ IsClosed root (s ∷ h) (cut_by marks)
  left_open (Fork c i) is bearing out closed = true≢false (sym ((closed_at root h (cut_by marks) s closed).birth c i is bearing) ∙ out)
  left_open Work is bearing out closed = true≢false (sym bearing)
  left_open Check is bearing out closed = true≢false (sym bearing)
  left_open Present is bearing out closed = true≢false (sym bearing)
  left_open (Send m) is bearing out closed = true≢false (sym bearing)
  left_open (Receive m) is bearing out closed = true≢false (sym bearing)
  left_open (Retire q) is bearing out closed = true≢false (sym bearing)
  left_open (Absorb r) is bearing out closed = true≢false (sym bearing)

  -- the step is in the cut

  taken_closed : (d : StepKind) → s.step_kind ≡ d → is_due t d ≡ true → cut_by marks (event_of h s) ≡ true → IsClosedAt root h (cut_by marks) s
  taken_closed d is due reached = record {
    birth = λ c i forks inside. reached;
    sent = λ m x receives sent inside. sym (sent_by_tables m x sent) ∙ (ap (is_due t) (sym receives ∙ is) ∙ due);
    retired = λ r x absorbs retired inside. sym (waits_by_tables r x s.process retired) ∙ (ap (is_due t) (sym absorbs ∙ is) ∙ due);
  }

  taken_open : (d : StepKind) → s.step_kind ≡ d → is_due t d ≡ false → cut_by marks (event_of h s) ≡ true → ¬ IsClosed root (s ∷ h) (cut_by marks)
  taken_open (Receive m) is due reached closed =
      (let w = receive_of root h before.before s m before.allowed is in
      true≢false (sym ((closed_at root h (cut_by marks) s closed).sent m w.sent is w.is_sent reached) ∙ (sym (sent_by_tables m w.sent w.is_sent) ∙ due)))
  taken_open (Absorb r) is due reached closed =
      (let w = absorption_of root h before.before s r before.allowed is in
      true≢false (sym ((closed_at root h (cut_by marks) s closed).retired r w.retirement is w.into_this reached) ∙ (sym (waits_by_tables r w.retirement s.process w.into_this) ∙ due)))
  taken_open Work is due reached closed = true≢false due
  taken_open Check is due reached closed = true≢false due
  taken_open Present is due reached closed = true≢false due
  taken_open (Send m) is due reached closed = true≢false due
  taken_open (Fork c i) is due reached closed = true≢false due
  taken_open (Retire q) is due reached closed = true≢false due

  -- what the tables are then

  pub left : bears marks s.step_kind (length (s ∷ h)) ≡ false → cut_by marks (event_of h s) ≡ false → AreKept root epoch (cut_by marks) (s ∷ h) t
  left no_birth out = record {
    same_root = so_far.same_root;
    in_epoch = so_far.in_epoch;
    sound = so_far.sound;
    history = so_far.history ∙ sym (kept_left (cut_by marks) h s out);
    closed = closed_next root h (cut_by marks) s (in_order marks) so_far.closed (left_closed s.step_kind refl no_birth out);
  }

  pub left_is_open : bears marks s.step_kind (length (s ∷ h)) ≡ true → cut_by marks (event_of h s) ≡ false → ¬ IsClosed root (s ∷ h) (cut_by marks)
  left_is_open bearing out = left_open s.step_kind refl bearing out

  still_closed : is_due t s.step_kind ≡ true → cut_by marks (event_of h s) ≡ true → IsClosed root (s ∷ h) (cut_by marks)
  still_closed due reached = closed_next root h (cut_by marks) s (in_order marks) so_far.closed (taken_closed s.step_kind refl due reached)

  pub taken_is_open : is_due t s.step_kind ≡ false → cut_by marks (event_of h s) ≡ true → ¬ IsClosed root (s ∷ h) (cut_by marks)
  taken_is_open due reached = taken_open s.step_kind refl due reached

  pub taken_is_lawful : is_due t s.step_kind ≡ true → cut_by marks (event_of h s) ≡ true → IsLawful t.root (s ∷ history_in t)
  taken_is_lawful due reached =
      subst (λ (r : Name). IsLawful r (s ∷ history_in t)) (sym so_far.same_root)
      (subst (λ (g : History). IsLawful root g) (kept_taken (cut_by marks) h s reached ∙ ap (λ (g : History). s ∷ g) (sym so_far.history))
      (kept_is_lawful root (s ∷ h) (cut_by marks) lawful (still_closed due reached)))

  pub taken : (new : Tables) → is_due t s.step_kind ≡ true → cut_by marks (event_of h s) ≡ true → Adds t s new → AreKept root epoch (cut_by marks) (s ∷ h) new
  taken new due reached added = record {
    same_root = added.root ∙ so_far.same_root;
    in_epoch = added.epoch ∙ so_far.in_epoch;
    sound = added.sound;
    history = added.history ∙ (ap (λ (g : History). s ∷ g) so_far.history ∙ sym (kept_taken (cut_by marks) h s reached));
    closed = still_closed due reached;
  }

-- ---- the same, of the steps with the oldest first

module _ (root : Name) (epoch : ℕ) (marks : Marks) (steps : List Taken) (i : ℕ) (s : Taken) (t : Tables) (lt : i < length steps) (is : s ≡ get_or steps i s)
    (so_far : AreKept root epoch (cut_by marks) (reverse (take i steps)) t) (lawful : IsLawful root (reverse (take (i + 1) steps))) where
  here : IsLawful root (s ∷ reverse (take i steps))
  here = subst (λ (g : History). IsLawful root g) (behind_more steps i s lt is) lawful

  out_here : {b : Bool} → reached marks s.process (i + 1) ≡ b → cut_by marks (event_of (reverse (take i steps)) s) ≡ b
  out_here is_so = ap (λ (n : ℕ). reached marks s.process n) (behind_count steps i s lt is) ∙ is_so

  born_here : {b : Bool} → bears marks s.step_kind (i + 1) ≡ b → bears marks s.step_kind (length (s ∷ reverse (take i steps))) ≡ b
  born_here is_so = ap (λ (n : ℕ). bears marks s.step_kind n) (behind_count steps i s lt is) ∙ is_so

  pub step_left : reached marks s.process (i + 1) ≡ false → bears marks s.step_kind (i + 1) ≡ false → AreKept root epoch (cut_by marks) (reverse (take (i + 1) steps)) t
  step_left out no_birth =
      subst (λ (g : History). AreKept root epoch (cut_by marks) g t) (sym (behind_more steps i s lt is))
      (left root epoch marks (reverse (take i steps)) s t so_far here (born_here no_birth) (out_here out))

  pub step_left_is_open : reached marks s.process (i + 1) ≡ false → bears marks s.step_kind (i + 1) ≡ true → ¬ IsClosed root (reverse (take (i + 1) steps)) (cut_by marks)
  step_left_is_open out bearing =
      subst (λ (g : History). ¬ IsClosed root g (cut_by marks)) (sym (behind_more steps i s lt is))
      (left_is_open root epoch marks (reverse (take i steps)) s t so_far here (born_here bearing) (out_here out))

  pub step_taken_is_open : reached marks s.process (i + 1) ≡ true → is_due t s.step_kind ≡ false → ¬ IsClosed root (reverse (take (i + 1) steps)) (cut_by marks)
  step_taken_is_open inside due =
      subst (λ (g : History). ¬ IsClosed root g (cut_by marks)) (sym (behind_more steps i s lt is))
      (taken_is_open root epoch marks (reverse (take i steps)) s t so_far here due (out_here inside))

  pub step_is_lawful : reached marks s.process (i + 1) ≡ true → is_due t s.step_kind ≡ true → IsLawful t.root (s ∷ history_in t)
  step_is_lawful inside due = taken_is_lawful root epoch marks (reverse (take i steps)) s t so_far here due (out_here inside)

  pub step_taken : (new : Tables) → reached marks s.process (i + 1) ≡ true → is_due t s.step_kind ≡ true → Adds t s new → AreKept root epoch (cut_by marks) (reverse (take (i + 1) steps)) new
  step_taken new inside due added =
      subst (λ (g : History). AreKept root epoch (cut_by marks) g new) (sym (behind_more steps i s lt is))
      (taken root epoch marks (reverse (take i steps)) s t so_far here new due (out_here inside) added)

-- ---- the first ones of these steps

pub nothing_kept : (root copied : Name) (epoch : ℕ) (cut : Cut) (t : Tables) → copied ≡ root → (t.root ≡ copied) × (t.epoch ≡ epoch) × (history_in t ≡ []) × AreSound t → AreKept root epoch cut [] t
unfolding kept
nothing_kept root copied epoch cut t same w = record { same_root = w.0 ∙ same; in_epoch = w.1; sound = w.3; history = w.2; closed = λ a b edge. absurd (no_edge edge) }
  where
    no_edge : {r : Name} {a b : Event} → Edge r [] a b → ⊥
    no_edge edge = elim edge [ ]

lawful_behind : (root : Name) (front h : History) → IsLawful root (front ++ h) → IsLawful root h
lawful_behind root [] h lawful = lawful
lawful_behind root (s ∷ front) h lawful = lawful_behind root front h (next_of root (front ++ h) s lawful).lawful

closed_behind : (root : Name) (front h : History) (cut : Cut) → IsClosed root (front ++ h) cut → IsClosed root h cut
closed_behind root [] h cut closed = closed
closed_behind root (s ∷ front) h cut closed = closed_behind root front h cut (closed_before root cut (front ++ h) s closed)

front_of : (steps : List Taken) (n : ℕ) → reverse (drop n steps) ++ reverse (take n steps) ≡ reverse steps
front_of steps n = sym (reverse-append (take n steps) (drop n steps)) ∙ ap reverse (take-append-drop n steps)

pub lawful_front : (root : Name) (steps items : List Taken) (n : ℕ) (r : Name) → items ≡ steps → r ≡ root → IsLawful root (reverse steps) → IsLawful r (reverse (take n items))
lawful_front root steps items n r same_items same_root lawful =
    subst (λ (l : List Taken). IsLawful r (reverse (take n l))) (sym same_items)
    (subst (λ (p : Name). IsLawful p (reverse (take n steps))) (sym same_root)
    (lawful_behind root (reverse (drop n steps)) (reverse (take n steps)) (subst (λ (g : History). IsLawful root g) (sym (front_of steps n)) lawful)))

pub open_front : (root : Name) (steps items : List Taken) (n : ℕ) (r : Name) (cut : Cut) → items ≡ steps → r ≡ root → ¬ IsClosed r (reverse (take n items)) cut → ¬ IsClosed root (reverse steps) cut
open_front root steps items n r cut same_items same_root is_open closed =
    is_open (subst (λ (l : List Taken). IsClosed r (reverse (take n l)) cut) (sym same_items)
    (subst (λ (p : Name). IsClosed p (reverse (take n steps)) cut) (sym same_root)
    (closed_behind root (reverse (drop n steps)) (reverse (take n steps)) cut (subst (λ (g : History). IsClosed root g cut) (sym (front_of steps n)) closed))))
