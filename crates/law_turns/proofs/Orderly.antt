-- The order of reports along a trace, and the turn of the next one behind it.
use Rattle.std.proofs.Common.{◌≡◌, ◌≢◌, ◌⊎◌, ℕ, ◌+◌, ◌==◌, List, [], ◌∷◌, ◌++◌, Option, Some, None, inl, inr, refl, sym, ◌∙◌, ap, subst, append-nil, append_assoc, eq-eqb, ne_eqb}
use Rattle.std.specs.Prelude.{Contains, filter}
use Rattle.std.specs.List.{cons_option}
use Rattle.std.proofs.lemmas.Bool.{cases_eq, cond-true, cond-false}
use Rattle.std.proofs.lemmas.List.{append_cancel_left}
use Rattle.std.proofs.lemmas.List.Elements.{filter-append, Contains-append_cases, Contains-append_right}
use Rattle.report_line.specs.declared.call.Call.{Call}
use Rattle.report_line.specs.declared.call.Call.TheVariants as calls
use Rattle.report_line.specs.declared.marked.MarkedReport.{MarkedReport}
use Rattle.report_line.specs.declared.reply.Reply.{Reply}
use Rattle.report_line.specs.declared.reply.Reply.TheVariants.{Accepted, Settled}
use Rattle.report_line.specs.declared.report.NumberedReport.{NumberedReport}
use Rattle.report_line.specs.declared.report.Report.{Report}
use Rattle.report_line.specs.declared.report.Report.TheVariants.{Begin, Numbered}
use Rattle.report_line.specs.declared.step.Step.{Step}
use Rattle.report_line.specs.histories.History.{Name, History}
use Rattle.report_line.specs.histories.StepReports.{report_of, reports}
use Rattle.chains.specs.declared.position.Position.{Position}
use Rattle.chains.specs.Greatest.{IsGreatestCut}
use Rattle.chains.specs.Held.{Held, counting, present, with_report}
use Rattle.chains.specs.Settled.{limits_of, is_settled, settled}
use Rattle.chains.specs.Turns.{IsTurn, IsTurnWith}
use Rattle.chains.proofs.Passed.{present_epoch}
use Rattle.law_admission.specs.Accepting.{IsRefusalForRoom}
use Rattle.law_admission.specs.HandedOver.{handed_over, IsNext, IsReportable}
use Rattle.law_admission.proofs.Going.{turns_refuse_for_room_alone, accepted_or_refused}
use Rattle.law_admission.proofs.OtherEpochs.{other_epoch_unmoved}
use Rattle.law_lines.proofs.Agreeing.{step_of, begin_no_report}
use Rattle.law_lines.proofs.Listed.{first_in, later_in, in_cases, none_in}
use Rattle.law_histories.specs.Kept.{Cut, kept}
use Rattle.law_lines.specs.Agreeing.{HasEventsOf}
use Rattle.law_lines.specs.Runs.{Run, Made, Accepts, Settles, epoch, current, accepted, IsMarkedReport, of_current, earlier, IsObeyed, nothing}
use Rattle.law_lines.proofs.Runs.{agrees_now, epoch_made, epoch_accepts, accepted_made}
use Rattle.law_turns.specs.Traces.{Trace, Stepped, Turned, AreTurns, Adds, Extends, IsRightReport, ProcessesObey}
use Rattle.law_turns.specs.Obeyed.{IsHeldAfter}
use Rattle.law_turns.specs.InOrder.{IsInOrder, ComesNext, AllComeNext, OrderIsKept, IsAllOfNow, AllStaysOfNow, StepsAreRight, InOrderIsObeyed, InOrderFromNothing, NextIsAccepted, OtherEpochsAreSetAside}
use Rattle.law_turns.proofs.TurnCases.{accepted_so, settled_so}
use Rattle.law_turns.proofs.Growing.{step_grows, turn_grows, accepted_accepts, accepted_settles}
use Rattle.law_turns.proofs.Following.{the_run_is_obeyed, held_at_first}
use Rattle.law_turns.proofs.Settling.{kept_hands_over_the_settled, settlement_keeps_order}

-- ---- what each entry does to the current history

-- a step is of the present epoch and counts, or it does not
current_made : (run : Run) (e : ℕ) (s : Step) → ((e ≡ epoch run) × (current (Made e s ∷ run) ≡ s ∷ current run)) ⊎ (current (Made e s ∷ run) ≡ current run)
unfolding current
current_made run e s =
    elim (cases_eq e (epoch run)) [
      | inl now ↦ inl (now, cond-true (e == epoch run) (s ∷ current run) (current run) (eq-eqb e (epoch run) now))
      | inr other ↦ inr (cond-false (e == epoch run) (s ∷ current run) (current run) (ne_eqb e (epoch run) other))
    ]

current_accepts : (run : Run) (m : ℕ) (r : Report) → current (Accepts m r ∷ run) ≡ current run
unfolding current
current_accepts run m r = refl

current_settles : (run : Run) (failed : List ℕ) (line : List Position) (cut : Cut) → current (Settles failed line cut ∷ run) ≡ kept cut (current run)
unfolding current
current_settles run failed line cut = refl

-- ---- the order

-- the list is a front of what the history hands over
abbrev Begins : Name → History → List Report → Type 0
Begins root h list = (rest : List Report) × (handed_over root h ≡ list ++ rest)

moved : (root : Name) (h g : History) (list other : List Report) → g ≡ h → other ≡ list → Begins root h list → Begins root g other
moved root h g list other same equal begins =
    subst (λ (x : History). Begins root x other) (sym same) (subst (λ (l : List Report). Begins root h l) (sym equal) begins)

step_order : (root : Name) (run : Run) (e : ℕ) (s : Step) → IsInOrder root run → IsInOrder root (Made e s ∷ run)
step_order root run e s (rest, parts) =
    elim (current_made run e s) [
      | inl now ↦
          (let new = cons_option (report_of root (current run) s) [] in
          moved root (s ∷ current run) (current (Made e s ∷ run)) (accepted run) (accepted (Made e s ∷ run)) now.1 (accepted_made run e s)
          (rest ++ new, ap (λ (l : List Report). l ++ new) parts ∙ append_assoc (accepted run) rest new))
      | inr same ↦ moved root (current run) (current (Made e s ∷ run)) (accepted run) (accepted (Made e s ∷ run)) same (accepted_made run e s) (rest, parts)
    ]

next_order : (root : Name) (run : Run) (m : ℕ) (r : Report) → IsNext root (current run) (accepted run) r → IsInOrder root (Accepts m r ∷ run)
next_order root run m r (rest, parts) =
    moved root (current run) (current (Accepts m r ∷ run)) (accepted run ++ r ∷ []) (accepted (Accepts m r ∷ run)) (current_accepts run m r) (accepted_accepts run m r)
    (rest, parts ∙ sym (append_assoc (accepted run) (r ∷ []) rest))

settled_order : (root : Name) (run : Run) (failed : List ℕ) (line : List Position) (cut : Cut) → IsObeyed root run → IsGreatestCut (accepted run) failed line
    → HasEventsOf root (current run) (accepted run) line cut → IsInOrder root run → IsInOrder root (Settles failed line cut ∷ run)
settled_order root run failed line cut obeyed greatest events (rest, parts) =
    let test = is_settled (limits_of (accepted run) line) in
    moved root (kept cut (current run)) (current (Settles failed line cut ∷ run)) (settled (accepted run) line) (accepted (Settles failed line cut ∷ run))
    (current_settles run failed line cut) (accepted_settles run failed line cut) (
      filter test rest,
      kept_hands_over_the_settled root (current run) (accepted run) failed line cut (agrees_now obeyed) greatest.is_one events
          ∙ (ap (filter test) parts ∙ filter-append test (accepted run) rest),
    )

turn_order : (root : Name) (run later : Run) (call : Call) (reply : Reply) → IsObeyed root run → ComesNext root run call reply → Adds root run call reply later
    → IsInOrder root run → IsInOrder root later
turn_order root run later (calls.Report m) (Accepted front) obeyed comes adds order = subst (IsInOrder root) (sym adds) (next_order root run m.epoch m.report comes)
turn_order root run later (calls.Settle front names) (Settled e now) obeyed comes adds order =
    subst (IsInOrder root) (sym adds.settles) (settled_order root run adds.failed adds.line adds.cut obeyed adds.greatest adds.events order)
turn_order root run later _ _ obeyed comes adds order = subst (IsInOrder root) (sym adds) order

order_through : (root : Name) (trace : Trace) (run later : Run) (held after : Held) → IsObeyed root run → IsHeldAfter run held → AreTurns held trace after → ProcessesObey root run trace
    → AllComeNext root run trace → Extends root run trace later → IsInOrder root run → IsInOrder root later
order_through root [] run later held after obeyed holds turns processes comes extends order = subst (IsInOrder root) (sym extends) order
order_through root (Stepped e s ∷ trace) run later held after obeyed holds turns processes comes extends order =
    let next = step_grows root run held e s obeyed holds processes.0 in
    order_through root trace (Made e s ∷ run) later held after next.0 next.1 turns processes.1 comes extends (step_order root run e s order)
order_through root (Turned call reply ∷ trace) run later held after obeyed holds turns processes comes extends order =
    let next = turn_grows root run extends.0 held turns.0 call reply obeyed holds turns.1 processes.0 extends.1 in
    order_through root trace extends.0 later turns.0 after next.0 next.1 turns.2 (processes.1 extends.0 extends.1) (comes.1 extends.0 extends.1) extends.2
    (turn_order root run extends.0 call reply obeyed comes.0 extends.1 order)

pub order_is_kept : OrderIsKept
order_is_kept root run later held after trace obeyed holds turns processes comes extends order =
    order_through root trace run later held after obeyed holds turns processes comes extends order

-- ---- what is still to be handed over is of the present epoch

one_made : (o : Option Report) (r : Report) → Contains (cons_option o []) r → o ≡ Some r
one_made None r at = absurd (none_in r at)
one_made (Some x) r at = elim (in_cases x r [] at) [ inl is ↦ ap (λ (y : Report). Some y) is | inr none ↦ absurd (none_in r none) ]

step_now : (root : Name) (run : Run) (e : ℕ) (s : Step) → IsInOrder root run → IsAllOfNow root run → IsAllOfNow root (Made e s ∷ run)
step_now root run e s (before, parts) all rest r is at =
    let still : IsMarkedReport root run (epoch run) (Numbered r) → IsMarkedReport root (Made e s ∷ run) (epoch (Made e s ∷ run)) (Numbered r) =
    λ marked. subst (λ (k : ℕ). IsMarkedReport root (Made e s ∷ run) k (Numbered r)) (sym (epoch_made run e s)) (earlier marked) in
    let is_front : handed_over root (current (Made e s ∷ run)) ≡ accepted run ++ rest = is ∙ ap (λ (l : List Report). l ++ rest) (accepted_made run e s) in
    elim (current_made run e s) [
      | inr same ↦ still (all rest r (ap (handed_over root) (sym same) ∙ is_front) at)
      | inl now ↦
          (let o = report_of root (current run) s in
          let longer : accepted run ++ rest ≡ accepted run ++ (before ++ cons_option o []) =
          sym is_front ∙ (ap (handed_over root) now.1 ∙ (ap (λ (l : List Report). l ++ cons_option o []) parts ∙ append_assoc (accepted run) before (cons_option o []))) in
          let both = append_cancel_left (accepted run) rest (before ++ cons_option o []) longer in
          elim (Contains-append_cases before (cons_option o []) (Numbered r) (subst (λ (l : List Report). Contains l (Numbered r)) both at)) [
            | inl old ↦ still (all before r parts old)
            | inr new ↦
                subst (λ (k : ℕ). IsMarkedReport root (Made e s ∷ run) k (Numbered r)) (sym (epoch_made run e s))
                (subst (λ (k : ℕ). IsMarkedReport root (Made k s ∷ run) (epoch run) (Numbered r)) (sym now.0) (of_current (one_made o (Numbered r) new)))
          ])
    ]

accepts_now : (root : Name) (run : Run) (m : ℕ) (x : Report) → IsAllOfNow root run → IsAllOfNow root (Accepts m x ∷ run)
accepts_now root run m x all rest r is at =
    let parts : handed_over root (current run) ≡ accepted run ++ (x ∷ rest) =
    ap (handed_over root) (sym (current_accepts run m x)) ∙ (is ∙ (ap (λ (l : List Report). l ++ rest) (accepted_accepts run m x) ∙ append_assoc (accepted run) (x ∷ []) rest)) in
    subst (λ (k : ℕ). IsMarkedReport root (Accepts m x ∷ run) k (Numbered r)) (sym (epoch_accepts run m x))
    (earlier (all (x ∷ rest) r parts (later_in x (Numbered r) rest at)))

settled_now : (root : Name) (run : Run) (failed : List ℕ) (line : List Position) (cut : Cut) → IsObeyed root run → IsGreatestCut (accepted run) failed line
    → HasEventsOf root (current run) (accepted run) line cut → accepted run ≢ [] → IsInOrder root run → IsAllOfNow root (Settles failed line cut ∷ run)
settled_now root run failed line cut obeyed greatest events some (before, parts) rest r is at =
    let all = settlement_keeps_order root (current run) (accepted run) before failed line cut (agrees_now obeyed) greatest.is_one events some parts in
    let none : settled (accepted run) line ++ rest ≡ settled (accepted run) line ++ [] =
    ap (λ (l : List Report). l ++ rest) (sym (accepted_settles run failed line cut))
    ∙ (sym is ∙ (ap (handed_over root) (current_settles run failed line cut) ∙ (all ∙ sym (append-nil (settled (accepted run) line))))) in
    absurd (none_in (Numbered r) (subst (λ (l : List Report). Contains l (Numbered r)) (append_cancel_left (settled (accepted run) line) rest [] none) at))

turn_now : (root : Name) (run later : Run) (held next : Held) (call : Call) (reply : Reply) → IsObeyed root run → IsHeldAfter run held → IsTurn held call reply next
    → Adds root run call reply later → IsInOrder root run → IsAllOfNow root run → IsAllOfNow root later
turn_now root run later held next (calls.Report m) (Accepted front) obeyed holds turn adds order all = subst (IsAllOfNow root) (sym adds) (accepts_now root run m.epoch m.report all)
turn_now root run later held next (calls.Settle front names) (Settled e now) obeyed holds (fate, t) adds order all =
    let some = (settled_so held.stopped fate held front names e now next t).0 in
    subst (IsAllOfNow root) (sym adds.settles)
    (settled_now root run adds.failed adds.line adds.cut obeyed adds.greatest adds.events (λ none. some (sym holds.list ∙ none)) order)
turn_now root run later held next _ _ obeyed holds turn adds order all = subst (IsAllOfNow root) (sym adds) all

now_through : (root : Name) (trace : Trace) (run later : Run) (held after : Held) → IsObeyed root run → IsHeldAfter run held → AreTurns held trace after → ProcessesObey root run trace
    → AllComeNext root run trace → Extends root run trace later → IsInOrder root run → IsAllOfNow root run → IsAllOfNow root later
now_through root [] run later held after obeyed holds turns processes comes extends order all = subst (IsAllOfNow root) (sym extends) all
now_through root (Stepped e s ∷ trace) run later held after obeyed holds turns processes comes extends order all =
    let next = step_grows root run held e s obeyed holds processes.0 in
    now_through root trace (Made e s ∷ run) later held after next.0 next.1 turns processes.1 comes extends (step_order root run e s order) (step_now root run e s order all)
now_through root (Turned call reply ∷ trace) run later held after obeyed holds turns processes comes extends order all =
    let next = turn_grows root run extends.0 held turns.0 call reply obeyed holds turns.1 processes.0 extends.1 in
    now_through root trace extends.0 later turns.0 after next.0 next.1 turns.2 (processes.1 extends.0 extends.1) (comes.1 extends.0 extends.1) extends.2
    (turn_order root run extends.0 call reply obeyed comes.0 extends.1 order) (turn_now root run extends.0 held turns.0 call reply obeyed holds turns.1 extends.1 order all)

first_order : (root : Name) → IsInOrder root []
unfolding current accepted
first_order root = (Begin root ∷ [], refl)

only_begin : (root : Name) (rest : List Report) (r : NumberedReport) → Begin root ∷ [] ≡ rest → Contains rest (Numbered r) → ⊥
only_begin root rest r is at =
    elim (in_cases (Begin root) (Numbered r) [] (subst (λ (l : List Report). Contains l (Numbered r)) (sym is) at)) [ inl same ↦ absurd (cc) | inr none ↦ none_in (Numbered r) none ]

first_now : (root : Name) → IsAllOfNow root []
unfolding current accepted
first_now root rest r is at = absurd (only_begin root rest r is at)

pub all_stays_of_now : AllStaysOfNow
all_stays_of_now root run later held after trace obeyed holds turns processes comes extends order all =
    now_through root trace run later held after obeyed holds turns processes comes extends order all

-- ---- what comes next is right

same_begin : (p q : Name) → Begin p ≡ Begin q → p ≡ q
same_begin p q is = cc

begin_of_root : (root : Name) (h : History) (p : Name) → Contains (handed_over root h) (Begin p) → p ≡ root
begin_of_root root h p at =
    elim (in_cases (Begin root) (Begin p) (reports root h) at) [
      | inl is ↦ sym (same_begin root p is)
      | inr there ↦ (let of = step_of root h (Begin p) there in absurd (begin_no_report root h p of.0 of.1))
    ]

right_report : (root : Name) (run : Run) (k : ℕ) (x : Report) → IsAllOfNow root run → k ≡ epoch run → IsNext root (current run) (accepted run) x
    → (x ≡ Begin root) ⊎ IsMarkedReport root run k x
right_report root run k (Begin p) all now (rest, parts) =
    inl (ap (λ (q : Name). Begin q) (begin_of_root root (current run) p
    (subst (λ (l : List Report). Contains l (Begin p)) (sym parts) (Contains-append_right (accepted run) (Begin p ∷ rest) (Begin p) (first_in (Begin p) rest)))))
right_report root run k (Numbered r) all now (rest, parts) =
    inr (subst (λ (j : ℕ). IsMarkedReport root run j (Numbered r)) (sym now) (all (Numbered r ∷ rest) r parts (first_in (Numbered r) rest)))

right_turn : (root : Name) (run : Run) (held next : Held) (call : Call) (reply : Reply) → IsHeldAfter run held → IsTurn held call reply next → ComesNext root run call reply
    → IsAllOfNow root run → IsRightReport root run call reply
right_turn root run held next (calls.Report m) (Accepted front) holds (fate, t) comes all =
    right_report root run m.epoch m.report all (present_epoch held m.epoch m.report front (accepted_so held.stopped fate held m front next t).0 ∙ sym holds.epoch) comes
right_turn root run held next _ _ holds turn comes all = tt

obeyed_in_order : (root : Name) (trace : Trace) (run : Run) (held after : Held) → IsObeyed root run → IsHeldAfter run held → AreTurns held trace after → StepsAreRight root run trace
    → AllComeNext root run trace → IsInOrder root run → IsAllOfNow root run → ProcessesObey root run trace
obeyed_in_order root [] run held after obeyed holds turns steps comes order all = tt
obeyed_in_order root (Stepped e s ∷ trace) run held after obeyed holds turns steps comes order all =
    let next = step_grows root run held e s obeyed holds steps.0 in
    (steps.0, obeyed_in_order root trace (Made e s ∷ run) held after next.0 next.1 turns steps.1 comes (step_order root run e s order) (step_now root run e s order all))
obeyed_in_order root (Turned call reply ∷ trace) run held after obeyed holds turns steps comes order all =
    let right = right_turn root run held turns.0 call reply holds turns.1 comes.0 all in (
      right,
      λ between adds.
          (let next = turn_grows root run between held turns.0 call reply obeyed holds turns.1 right adds in
          obeyed_in_order root trace between turns.0 after next.0 next.1 turns.2 (steps between adds) (comes.1 between adds)
          (turn_order root run between call reply obeyed comes.0 adds order) (turn_now root run between held turns.0 call reply obeyed holds turns.1 adds order all)),
    )

pub in_order_is_obeyed : InOrderIsObeyed
in_order_is_obeyed root run held after trace obeyed holds turns steps comes order all = obeyed_in_order root trace run held after obeyed holds turns steps comes order all

pub in_order_from_nothing : InOrderFromNothing
in_order_from_nothing root later after trace turns steps comes extends =
    let processes = obeyed_in_order root trace [] (counting []) after nothing held_at_first turns steps comes (first_order root) (first_now root) in (
      processes,
      order_through root trace [] later (counting []) after nothing held_at_first turns processes comes extends (first_order root),
      now_through root trace [] later (counting []) after nothing held_at_first turns processes comes extends (first_order root) (first_now root),
    )

-- ---- the next turn

abbrev bearing : ℕ → Report → MarkedReport
bearing epoch r = record { epoch = epoch; report = r }

pub next_is_accepted : NextIsAccepted
next_is_accepted root run later held after next trace m reply obeyed holds turns processes extends lines following born now running (fate, turn) =
    let w = the_run_is_obeyed root run later held after trace obeyed holds turns processes extends in
    let reportable : IsReportable root (current later) = record { lawful = (agrees_now w.0).lawful; lines = lines } in
    let same : m ≡ present after m.report = ap (λ (k : ℕ). bearing k m.report) now in
    subst (λ (x : MarkedReport). ((reply ≡ Accepted (after.front + 1)) × (next ≡ with_report after x)) ⊎ IsRefusalForRoom after m.report reply) (sym same)
    (accepted_or_refused after next m.report reply fate
    (turns_refuse_for_room_alone root (current later) after next m.report reply fate reportable following born running
    (subst (λ (x : MarkedReport). IsTurnWith fate after (calls.Report x) reply next) same turn)))

-- ---- reports of other epochs

adds_nothing : (root : Name) (run later : Run) (held next : Held) (m : MarkedReport) (reply : Reply) → m.epoch ≢ held.epoch → IsTurn held (calls.Report m) reply next
    → Adds root run (calls.Report m) reply later → later ≡ run
adds_nothing root run later held next m (Accepted front) other (fate, t) adds =
    absurd (other (present_epoch held m.epoch m.report front (accepted_so held.stopped fate held m front next t).0))
adds_nothing root run later held next m _ other turn adds = adds

pub other_epochs_are_set_aside : OtherEpochsAreSetAside
other_epochs_are_set_aside root run later held next m reply other turn adds =
    (other_epoch_unmoved held next m reply other turn, adds_nothing root run later held next m reply other turn adds)
