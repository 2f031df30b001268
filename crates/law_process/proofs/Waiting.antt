-- The account with a retirement and a message that a settlement keeps, step by step.
use Rattle.std.proofs.Common.{◌≡◌, ◌⊎◌, ℕ, zero, suc, ◌≤◌, ◌<◌, Bool, true, false, Some, List, [], ◌∷◌, inl, inr, refl, sym, ◌∙◌, ap, subst, arith}
use Rattle.std.specs.Prelude.{Contains, IsTrue, nat_le, ◌||◌, ◌&&◌, drop}
use Rattle.std.specs.Str.{bytes_eq}
use Rattle.std.proofs.lemmas.List.Elements.{All-from_recursion}
use Rattle.id_tree.specs.IdTree.{One}
use Rattle.id_tree.specs.Points.{Point, owns}
use Rattle.event_tree.specs.EventTree.{EventTree, Leaf}
use Rattle.event_tree.specs.Event.{IsEventStep}
use Rattle.event_tree.specs.Norm.{normal_node}
use Rattle.event_tree.specs.Join.{IsJoin}
use Rattle.event_tree.specs.Values.{IsAtOrBelow, value_at, ExceedsOn}
use Rattle.stamp.specs.declared.stamp.Stamp.{Stamp}
use Rattle.report_line.specs.declared.call.Call.TheVariants as calls
use Rattle.report_line.specs.declared.reply.Reply.TheVariants.{Accepted, Settled}
use Rattle.report_line.specs.declared.report.ReportKind.TheVariants as reported
use Rattle.report_line.specs.declared.report.NumberedReport.{NumberedReport}
use Rattle.report_line.specs.declared.report.Report.{Report}
use Rattle.report_line.specs.declared.report.Report.TheVariants.{Begin, Numbered}
use Rattle.report_line.specs.declared.step.StepKind.TheVariants as step_kinds
use Rattle.report_line.specs.declared.step.Step.{Step}
use Rattle.report_line.specs.histories.History.{Name, History, Event, event_of, Living, Retired, status, sending}
use Rattle.report_line.specs.histories.Lawful.{IsLawful, start, next}
use Rattle.report_line.specs.histories.Events.{step, earlier}
use Rattle.report_line.specs.histories.StepReports.{reporting_steps}
use Rattle.law_histories.specs.Example.{a, b, left, right, halves, act, told, forked}
use Rattle.law_histories.specs.Rules.{IsNewest, IsWaiting}
use Rattle.law_histories.proofs.Bytes.{bytes_same, bytes_are}
use Rattle.law_histories.proofs.Example.{leaf, has, apart, both, some_left, some_right, above, below}
use Rattle.law_histories.proofs.Rules.{living_is_newest, waiting}
use Rattle.law_histories.proofs.Status.{root_holds}
use Rattle.chains.specs.declared.position.Position.{Position}
use Rattle.chains.specs.declared.position.Position.TheVariants as positions
use Rattle.chains.specs.Processes.{known, IsKnown}
use Rattle.chains.specs.Elements.{name_of, element}
use Rattle.chains.specs.Positions.{rank, position_in, IsChosen, IsCut}
use Rattle.chains.specs.Knowledge.{Knows, KnowsAfter}
use Rattle.chains.specs.Held.{Held, with_report, with_settlement}
use Rattle.chains.specs.Failures.{IsFailedSet}
use Rattle.chains.specs.Folded.{IsFitReport, IsFolded, nothing_folded, one_folded, IsReached}
use Rattle.chains.specs.Greatest.{IsGreatestCut}
use Rattle.chains.specs.Settled.{kept_at, IsSettled}
use Rattle.chains.specs.Turns.{fine, IsTurn}
use Rattle.law_lines.specs.Places.{IsEventAt, place, IsUpTo, IsInCut}
use Rattle.law_lines.proofs.Accepted.{filled, more_left, more_right, first_fork_fit}
use Rattle.law_lines.proofs.Listed.{first_in, later_in, none_in}
use Rattle.law_lines.proofs.Ordered.{one_event}
use Rattle.law_histories.specs.Kept.{Cut, kept as kept_of}
use Rattle.law_lines.specs.Agreeing.{HasEventsOf}
use Rattle.law_lines.specs.Runs.{Run, Made, Accepts, Settles, epoch, current, accepted}
use Rattle.law_lines.proofs.Folding.{within, is_within}
use Rattle.law_turns.specs.Traces.{IsSettledBy}
use Rattle.law_turns.specs.Example.{marked}
use Rattle.law_turns.proofs.Following.{one_settlement}
use Rattle.law_turns.proofs.Written.{h1, begins_turn, room, stamp_passes, report_passes, number_same}
use Rattle.process.specs.declared.handed.Retirement.{Retirement}
use Rattle.process.specs.Steps.{Sends, HandsOver, Tells, Receives, Retires, Absorbs}
use Rattle.law_process.specs.Accounts.{Send, Again, Check, Fork, Begin as Begins, Retire, Absorb, Return, Doing, Account, made}
use Rattle.law_process.specs.Handing.{Past, newest, WasOnce, IsUnbegun, IsAtPosition, IsKept, WasSent, AreHandedOver}
use Rattle.law_process.specs.Example.{line_of, a0, a1, b0, start_of_b, a_at_checkpoint, a_there_again, a_with_b, a_behind_receipt, b_behind_sending, b_ended, message_of_b, message_again, early_end_of_b, kept, AKeptRetirementIsPossible}
use Rattle.law_process.proofs.GoneBack.{told_on}
use Rattle.law_process.proofs.Standing.{sends_now, sent_stays}
use Rattle.law_histories.proofs.ExampleForms.{name_a, name_b, on_one, on_left, on_right, flat, halved}
use Rattle.law_process.proofs.Written.{spells, grows, grown_of, counts, left_some, right_some, one_some, normal, work_step, send_step, forks_b, b_is_new, each_is, unbegun}

-- ---- what the calls do

checks_a : Tells a1 a_at_checkpoint reported.Check (line_of 0 (told a 2 left (halves 1 1 0) reported.Check))
checks_a = record {
  goes = record { name = refl; epoch = refl; reports = refl };
  stamped = counts left (Leaf 1) (halves 1 1 0) on_left left_some tt work_step;
  reported = spells 0 a 2 left (halves 1 1 0) reported.Check (omega arith) name_a (omega arith, omega arith) on_left (halved 1 1 0 refl refl (omega arith)) tt;
}

message_step : IsEventStep right (Leaf 1) (halves 1 0 1)
message_step = grows right (Leaf 1) (halves 1 0 1) refl refl

sends_b : Sends b0 b_behind_sending message_of_b
sends_b = record {
  works = record {
    goes = record { name = refl; epoch = refl; reports = refl };
    stamped = counts right (Leaf 1) (halves 1 0 1) on_right right_some tt message_step;
  };
  epoch = refl;
  events = refl;
}

end_step : IsEventStep right (halves 1 0 1) (halves 1 0 2)
unfolding normal_node
end_step = grows right (halves 1 0 1) (halves 1 0 2) refl refl

retires_b : Retires b_behind_sending a early_end_of_b (line_of 0 (told b 1 right (halves 1 0 2) (reported.Retire a)))
retires_b = record {
  other = below 97 98 (omega arith);
  process = refl;
  epoch = refl;
  target_is = refl;
  stamped = counts right (halves 1 0 1) (halves 1 0 2) on_right right_some (normal 1 0 1 refl refl) end_step;
  reported = spells 0 b 1 right (halves 1 0 2) (reported.Retire a) (omega arith) name_b (omega arith, omega arith) on_right (halved 1 0 2 refl refl (omega arith)) name_a;
}

absorbed_join : IsJoin (halves 1 2 0) (halves 1 0 2) (Leaf 3)
absorbed_join [] = refl
absorbed_join (false ∷ p) = refl
absorbed_join (true ∷ p) = refl

absorbs_b : Absorbs a_there_again early_end_of_b a_with_b (line_of 1 (told a 3 One (Leaf 3) (reported.Absorb b)))
absorbs_b = record {
  into_this = refl;
  other = above 98 97 (omega arith);
  goes = record { name = refl; epoch = refl; reports = refl };
  stamped = record {
    after = halves 1 2 0;
    step = send_step;
    grown = grown_of left (halves 1 1 0) (halves 1 2 0) on_left left_some (normal 1 1 0 refl refl) send_step;
    join = absorbed_join;
    disjoint = apart;
    together = both;
  };
  reported = spells 1 a 3 One (Leaf 3) (reported.Absorb b) (omega arith) name_a (omega arith, omega arith) on_one (flat 3 (omega arith)) name_b;
}

message_below : IsAtOrBelow (halves 1 0 1) (Leaf 3)
message_below [] = omega arith
message_below (false ∷ p) = omega arith
message_below (true ∷ p) = omega arith

hands_over : HandsOver a_with_b message_of_b message_again
hands_over = record { not_newer = omega arith; known = message_below; epoch = refl; events = refl }

received_join : IsJoin (Leaf 3) (halves 1 0 1) (Leaf 3)
received_join [] = refl
received_join (false ∷ p) = refl
received_join (true ∷ p) = refl

receive_step : IsEventStep One (Leaf 3) (Leaf 4)
receive_step = grows One (Leaf 3) (Leaf 4) refl refl

receives_a : Receives a_with_b message_again a_behind_receipt
receives_a = record {
  epoch = refl;
  goes = record { name = refl; epoch = refl; reports = refl };
  stamped = record {
    id = refl;
    joined = Leaf 3;
    is_join = record { join = received_join; normal = tt };
    step = receive_step;
    grown = grown_of One (Leaf 3) (Leaf 4) on_one one_some tt receive_step;
  };
}

-- ---- what is accepted, and the line of the settlement

abbrev fork_report : NumberedReport
fork_report = record { process = a; number = 1; stamp = record { id = One; events = Leaf 1 }; action = forked b }

abbrev check_report : NumberedReport
check_report = record { process = a; number = 2; stamp = record { id = left; events = halves 1 1 0 }; action = reported.Check }

abbrev end_report : NumberedReport
end_report = record { process = b; number = 1; stamp = record { id = right; events = halves 1 0 2 }; action = reported.Retire a }

abbrev absorb_report : NumberedReport
absorb_report = record { process = a; number = 3; stamp = record { id = One; events = Leaf 3 }; action = reported.Absorb b }

abbrev l1 : List Report
l1 = Begin a ∷ []

abbrev l2 : List Report
l2 = Begin a ∷ Numbered fork_report ∷ []

abbrev l3 : List Report
l3 = Begin a ∷ Numbered fork_report ∷ Numbered check_report ∷ []

abbrev l4 : List Report
l4 = Begin a ∷ Numbered fork_report ∷ Numbered check_report ∷ Numbered end_report ∷ []

fork_fit : IsFitReport l1 fork_report
fork_fit = first_fork_fit

check_fit : IsFitReport l2 check_report
check_fit = record {
  begun = filled _ _;
  is_known = (0, omega arith, refl);
  living = refl;
  number = refl;
  id = refl;
  grown = more_left left (Leaf 1) (halves 1 1 0) 1 1 2 1 refl (leaf 1) (has 1 1 0) (omega arith) (omega arith);
  fit = tt;
}

end_fit : IsFitReport l3 end_report
end_fit = record {
  begun = filled _ _;
  is_known = (1, omega arith, refl);
  living = refl;
  number = refl;
  id = refl;
  grown = more_right right (Leaf 1) (halves 1 0 2) 1 1 1 3 refl (leaf 1) (has 1 0 2) (omega arith) (omega arith);
  fit = tt;
}

end_below : IsAtOrBelow (halves 1 0 2) (Leaf 3)
end_below [] = omega arith
end_below (false ∷ p) = omega arith
end_below (true ∷ p) = omega arith

absorb_fit : IsFitReport l4 absorb_report
absorb_fit = record {
  begun = filled _ _;
  is_known = (0, omega arith, refl);
  living = refl;
  number = refl;
  id = refl;
  grown = more_left left (halves 1 1 0) (Leaf 3) 2 1 3 3 refl (has 1 1 0) (leaf 3) (omega arith) (omega arith);
  fit = ((refl, refl), end_below);
}

folded_4 : IsFolded l4
folded_4 =
    one_folded l3 (Numbered end_report)
    (one_folded l2 (Numbered check_report) (one_folded l1 (Numbered fork_report) (one_folded [] (Begin a) nothing_folded refl) fork_fit) check_fit) end_fit

failed_set : IsFailedSet l4 [] []
failed_set = record {
  all_known = All-from_recursion (IsKnown l4) [] tt;
  in_order = λ k less. absurd (omega arith);
  within = λ p at. absurd (none_in p at);
  just_named = λ p name is. (λ at. absurd (none_in p at), λ at. absurd (none_in name at));
}

abbrev the_line : List Position
the_line = positions.At 2 ∷ positions.Retired ∷ []

line_is_cut : IsCut l4 [] the_line
line_is_cut = record { complete = refl; chosen = λ p lt. by p lt }
  where
    by : (p : ℕ) → p < 2 → IsChosen l4 [] p (position_in the_line p)
    by zero lt = inr (omega arith, omega arith, λ failed. omega arith)
    by (suc zero) lt = inr refl
    by (suc (suc p)) lt = absurd (omega arith)

same_values_of : (e f : EventTree) → Some e ≡ Some f → e ≡ f
same_values_of e f is = cc

same_stamp_of : (x y : Stamp) → Some x ≡ Some y → x ≡ y
same_stamp_of x y is = cc

-- the end of b knows nothing of a behind its checkpoint
not_beyond : ExceedsOn left (halves 1 0 2) (halves 1 1 0) → ⊥
not_beyond w = by w.0 w.1 w.2
  where
    by : (t : Point) → IsTrue (owns left t) → value_at (halves 1 1 0) t < value_at (halves 1 0 2) t → ⊥
    by [] owned less = absurd (omega arith)
    by (false ∷ t) owned less = absurd (omega arith)
    by (true ∷ t) owned less = absurd (cc)

knows_nothing : KnowsAfter l4 (place 1 positions.Retired) 0 2 → ⊥
knows_nothing w = by w.later w.from w.is_element
  where
    values : halves 1 0 2 ≡ w.beyond.events
    values = same_values_of (halves 1 0 2) w.beyond.events w.beyond.there

    by : (j : ℕ) → 2 ≤ j → element l4 0 j ≡ Some w.stamp → ⊥
    by zero from is = absurd (omega arith)
    by (suc zero) from is = absurd (omega arith)
    by (suc (suc zero)) from is =
        not_beyond
        (subst (λ (x : Stamp). ExceedsOn x.id (halves 1 0 2) x.events) (sym (same_stamp_of (record { id = left; events = halves 1 1 0 }) w.stamp is))
        (subst (λ (e : EventTree). ExceedsOn w.stamp.id e w.stamp.events) (sym values) w.beyond.exceeds))
    by (suc (suc (suc j))) from is = absurd (cc)

line_is_greatest : IsGreatestCut l4 [] the_line
line_is_greatest = record {
  is_one = record { is_cut = line_is_cut; consistent = λ p q lt lt' knows. none p q lt lt' knows };
  greatest = λ d one p lt. up (position_in d p) p lt (one.is_cut.chosen p lt);
}
  where
    none : (p q : ℕ) → p < 2 → q < 2 → ¬ Knows l4 (record { process = p; position = position_in the_line p }) q (position_in the_line q)
    none zero zero lt lt' knows = knows.0 refl
    none zero (suc zero) lt lt' knows = knows
    none (suc zero) zero lt lt' knows = knows_nothing knows.1
    none (suc zero) (suc zero) lt lt' knows = knows
    none (suc (suc p)) q lt lt' knows = absurd (omega arith)
    none zero (suc (suc q)) lt lt' knows = absurd (omega arith)
    none (suc zero) (suc (suc q)) lt lt' knows = absurd (omega arith)

    up : (k : Position) (p : ℕ) → p < 2 → IsChosen l4 [] p k → rank l4 p k ≤ rank l4 p (position_in the_line p)
    up k zero lt (inl unborn) = (let same : rank l4 0 k ≡ 0 = ap (rank l4 0) unborn in omega arith)
    up (positions.At k) zero lt (inr w) = (let few : k ≤ 2 = w.1 in omega arith)
    up positions.Retired zero lt (inr w) = absurd (cc)
    up k (suc zero) lt (inl unborn) = (let same : rank l4 1 k ≡ 0 = ap (rank l4 1) unborn in omega arith)
    up (positions.At k) (suc zero) lt (inr w) = (let few : k ≤ 1 = w.1 in omega arith)
    up positions.Retired (suc zero) lt (inr w) = omega arith
    up k (suc (suc p)) lt chosen = absurd (omega arith)

-- ---- the history, of which all is kept

abbrev fork_step : Step
fork_step = act a (step_kinds.Fork b right) left (Leaf 1)

abbrev check_step : Step
check_step = act a step_kinds.Check left (halves 1 1 0)

abbrev sending_step : Step
sending_step = act b (step_kinds.Send (3 ∷ [])) right (halves 1 0 1)

abbrev retire_step : Step
retire_step = act b (step_kinds.Retire a) right (halves 1 0 2)

abbrev absorb_step : Step
absorb_step = act a (step_kinds.Absorb b) One (Leaf 3)

abbrev before_sending : History
before_sending = check_step ∷ fork_step ∷ []

abbrev whole : History
whole = retire_step ∷ sending_step ∷ before_sending

abbrev checkpoint : Event
checkpoint = event_of (fork_step ∷ []) check_step

abbrev ending : Event
ending = event_of (sending_step ∷ before_sending) retire_step

whole_is_lawful : IsLawful a whole
unfolding status sending
whole_is_lawful =
    next
    (next
    (next
    (next start (root_holds a)
    (record {
      grown = grown_of One (Leaf 0) (Leaf 1) on_one one_some tt forks_b.step;
      new_name = refl;
      not_root = above 98 97 (omega arith);
      disjoint = apart;
      not_empty = some_left;
      child_not_empty = some_right;
      together = both;
    })) refl (record { same_id = λ t. refl; grown = grown_of left (Leaf 1) (halves 1 1 0) on_left left_some tt work_step })) refl
    (record { same_id = λ t. refl; grown = grown_of right (Leaf 1) (halves 1 0 1) on_right right_some tt message_step }, refl)) refl
    (record { same_id = λ t. refl; grown = grown_of right (halves 1 0 1) (halves 1 0 2) on_right right_some (normal 1 0 1 refl refl) end_step }, below 97 98 (omega arith))

-- all events of b, and those of a up to its checkpoint
abbrev all_of_both : Cut
all_of_both e = bytes_eq e.process b || (bytes_eq e.process a && nat_le e.number 2)

either_true : (x y : Bool) → (x || y) ≡ true → (x ≡ true) ⊎ (y ≡ true)
either_true true y is = inl refl
either_true false y is = inr is

both_true : (x y : Bool) → (x && y) ≡ true → (x ≡ true) × (y ≡ true)
both_true true y is = (refl, is)
both_true false y is = absurd (cc)

one_true : (x y : Bool) → x ≡ true → (x || y) ≡ true
one_true x y is = ap (λ (z : Bool). z || y) is

other_true : (x y : Bool) → y ≡ true → (x || y) ≡ true
other_true true y is = refl
other_true false y is = is

two_true : (x y : Bool) → x ≡ true → y ≡ true → (x && y) ≡ true
two_true x y first second = ap (λ (z : Bool). z && y) first ∙ second

checkpoint_at : IsEventAt a whole l4 (place 0 (positions.At 2)) checkpoint
checkpoint_at = record { occurs = earlier (earlier step); of_process = refl; values = refl }

in_line : (e : Event) → all_of_both e ≡ true → IsInCut a whole l4 the_line e
in_line e is =
    elim (either_true (bytes_eq e.process b) (bytes_eq e.process a && nat_le e.number 2) is) [
      | inl of_b ↦ record { process = 1; is_known = omega arith; of_process = ap (λ (p : Name). Some p) (sym (bytes_are e.process b of_b)); up_to = tt }
      | inr of_a ↦
          (let w = both_true (bytes_eq e.process a) (nat_le e.number 2) of_a in
          record {
            process = 0;
            is_known = omega arith;
            of_process = ap (λ (p : Name). Some p) (sym (bytes_are e.process a w.0));
            up_to = (checkpoint, checkpoint_at, within e.number 2 w.1);
          })
    ]

same_name : (p q : Name) → Some p ≡ Some q → p ≡ q
same_name p q is = cc

in_cut : (e : Event) (i : ℕ) → name_of l4 i ≡ Some e.process → IsUpTo a whole l4 i (position_in the_line i) e → all_of_both e ≡ true
in_cut e zero is up =
    let one : up.0 ≡ checkpoint = one_event a whole l4 whole_is_lawful (place 0 (positions.At 2)) up.0 checkpoint up.1 checkpoint_at in
    let number : up.0.number ≡ 2 = ap (λ (x : Event). x.number) one in
    let few : e.number ≤ up.0.number = up.2 in
    other_true (bytes_eq e.process b) (bytes_eq e.process a && nat_le e.number 2)
    (two_true (bytes_eq e.process a) (nat_le e.number 2) (bytes_same e.process a (sym (same_name a e.process is))) (is_within e.number 2 (omega arith)))
in_cut e (suc zero) is up = one_true (bytes_eq e.process b) (bytes_eq e.process a && nat_le e.number 2) (bytes_same e.process b (sym (same_name b e.process is)))
in_cut e (suc (suc i)) is up = absurd (cc)

whole_has_events : HasEventsOf a whole l4 the_line all_of_both
whole_has_events e = (in_line e, λ w. in_cut e w.process w.of_process w.up_to)

-- ---- the run

abbrev run1 : Run
run1 = Accepts 0 (Begin a) ∷ []

abbrev run2 : Run
run2 = Made 0 fork_step ∷ run1

abbrev run3 : Run
run3 = Accepts 0 (Numbered fork_report) ∷ run2

abbrev run4 : Run
run4 = Made 0 check_step ∷ run3

abbrev run5 : Run
run5 = Accepts 0 (Numbered check_report) ∷ run4

abbrev run6 : Run
run6 = Made 0 sending_step ∷ run5

abbrev run7 : Run
run7 = Made 0 retire_step ∷ run6

abbrev run8 : Run
run8 = Accepts 0 (Numbered end_report) ∷ run7

abbrev run9 : Run
run9 = Settles [] the_line all_of_both ∷ run8

abbrev run10 : Run
run10 = Made 1 absorb_step ∷ run9

abbrev run11 : Run
run11 = Accepts 1 (Numbered absorb_report) ∷ run10

history_8 : current run8 ≡ whole
unfolding epoch current
history_8 = refl

list_8 : accepted run8 ≡ l4
unfolding accepted
list_8 = refl

history_9 : current run9 ≡ whole
unfolding epoch current kept_of
history_9 = refl

epoch_9 : epoch run9 ≡ 1
unfolding epoch
epoch_9 = refl

history_11 : current run11 ≡ absorb_step ∷ whole
unfolding epoch current kept_of
history_11 = refl

settles_8 : IsSettledBy a run8 [] run9
settles_8 = record {
  failed = [];
  just_named = subst (λ (l : List Report). IsFailedSet l [] []) (sym list_8) failed_set;
  line = the_line;
  greatest = subst (λ (l : List Report). IsGreatestCut l [] the_line) (sym list_8) line_is_greatest;
  cut = all_of_both;
  events =
      subst (λ (h : History). HasEventsOf a h (accepted run8) the_line all_of_both) (sym history_8)
      (subst (λ (l : List Report). HasEventsOf a whole l the_line all_of_both) (sym list_8) whole_has_events);
  settles = refl;
}

-- ---- the turns: the tests let each report pass

abbrev h2 : Held
h2 = with_report h1 (record { epoch = 0; report = Numbered fork_report })

abbrev h3 : Held
h3 = with_report h2 (record { epoch = 0; report = Numbered check_report })

abbrev h4 : Held
h4 = with_report h3 (record { epoch = 0; report = Numbered end_report })

abbrev h5 : Held
h5 = with_settlement (kept_at h4 the_line)

abbrev h6 : Held
h6 = with_report h5 (record { epoch = 1; report = Numbered absorb_report })

fork_turn : IsTurn h1 (marked 0 (Numbered fork_report)) (Accepted 2) h2
fork_turn = (
  fine,
  (
    report_passes h1 0 fork_report (Accepted 2) fork_fit refl (λ again. let e = again.0 in cc) (stamp_passes h1 fork_report (Accepted 2) fork_fit
        (inr (fork_fit.fit.0, inr (λ other. other fork_fit.fit.1, room h1 (Numbered fork_report) (omega arith) (omega arith))))),
    refl,
  ),
)

check_turn : IsTurn h2 (marked 0 (Numbered check_report)) (Accepted 3) h3
check_turn = (
  fine,
  (
    report_passes h2 0 check_report (Accepted 3) check_fit refl (λ again. let e = number_same fork_report check_report again.0 in absurd (omega arith))
        (stamp_passes h2 check_report (Accepted 3) check_fit (room h2 (Numbered check_report) (omega arith) (omega arith))),
    refl,
  ),
)

end_turn : IsTurn h3 (marked 0 (Numbered end_report)) (Accepted 4) h4
end_turn = (
  fine,
  (
    report_passes h3 0 end_report (Accepted 4) end_fit refl (λ again. let e = again.0 in cc) (stamp_passes h3 end_report (Accepted 4) end_fit
        (inr (λ bad. elim bad [ inl same ↦ below 97 98 (omega arith) same | inr unknown ↦ unknown (0, omega arith, refl) ], room h3 (Numbered end_report) (omega arith) (omega arith)))),
    refl,
  ),
)

reached_5 : IsReached h5
reached_5 = record { folded = folded_4; marked = refl; past = All-from_recursion (λ (e : ℕ). e ≤ 1) (0 ∷ 0 ∷ 0 ∷ 0 ∷ []) (omega arith, (omega arith, (omega arith, (omega arith, tt)))); counted = omega arith }

returned_5 : IsSettled h4 [] h5
returned_5 = ([], failed_set, record { line = the_line; greatest = line_is_greatest; is_kept = refl; reached = reached_5 })

settle_turn : IsTurn h4 (calls.Settle 4 []) (Settled 1 5) h5
settle_turn = (fine, (inr (filled _ _, inr (failed_set.all_known, inr (λ other. other refl, inr (λ full. omega arith, refl)))), returned_5))

absorb_turn : IsTurn h5 (marked 1 (Numbered absorb_report)) (Accepted 6) h6
absorb_turn = (
  fine,
  (
    report_passes h5 1 absorb_report (Accepted 6) absorb_fit refl (λ again. let e = number_same check_report absorb_report again.0 in absurd (omega arith))
        (inr (λ other. other absorb_fit.fit.0, stamp_passes h5 absorb_report (Accepted 6) absorb_fit (inr (λ other. other end_below, room h5 (Numbered absorb_report) (omega arith) (omega arith))))),
    refl,
  ),
)

-- ---- the calls

abbrev fork : Doing
fork = made (Fork start_of_b (line_of 0 (told a 1 One (Leaf 1) (forked b)))) a0 a1

abbrev check : Doing
check = made (Check (line_of 0 (told a 2 left (halves 1 1 0) reported.Check))) a1 a_at_checkpoint

abbrev begin : Doing
begin = made (Begins 0 start_of_b) b0 b0

abbrev send : Doing
send = made (Send message_of_b) b0 b_behind_sending

abbrev retire : Doing
retire = made (Retire a early_end_of_b (line_of 0 (told b 1 right (halves 1 0 2) (reported.Retire a)))) b_behind_sending b_ended

abbrev goes_back : Doing
goes_back = made (Return 1) a_at_checkpoint a_there_again

abbrev absorb : Doing
absorb = made (Absorb 4 early_end_of_b (line_of 1 (told a 3 One (Leaf 3) (reported.Absorb b)))) a_there_again a_with_b

abbrev again : Doing
again = made (Again 3 message_of_b message_again) a_with_b a_with_b

abbrev q1 : Past
q1 = fork ∷ []

abbrev q2 : Past
q2 = check ∷ q1

abbrev q3 : Past
q3 = begin ∷ q2

abbrev q4 : Past
q4 = send ∷ q3

abbrev q5 : Past
q5 = retire ∷ q4

abbrev q6 : Past
q6 = goes_back ∷ q5

abbrev q7 : Past
q7 = absorb ∷ q6

abbrev q8 : Past
q8 = again ∷ q7

from0 : newest a [] a ≡ Some a0
unfolding newest
from0 = refl

from1 : newest a q1 a ≡ Some a1
unfolding newest
from1 = refl

from3 : newest a q3 b ≡ Some b0
unfolding newest
from3 = refl

from4 : newest a q4 b ≡ Some b_behind_sending
unfolding newest
from4 = refl

from6 : newest a q6 a ≡ Some a_there_again
unfolding newest
from6 = refl

from7 : newest a q7 a ≡ Some a_with_b
unfolding newest
from7 = refl

from8 : newest a q8 a ≡ Some a_with_b
unfolding newest
from8 = refl

unbegun_2 : IsUnbegun q2 0
unbegun_2 = unbegun q2 0 (λ s is. cc, (λ s is. cc, tt))

lives_9 : status a whole a ≡ Living checkpoint
unfolding status
lives_9 = refl

waits_9 : status a whole b ≡ Retired ending a
unfolding status
waits_9 = refl

position_9 : IsAtPosition a run9 a_at_checkpoint
position_9 = record {
  event = checkpoint;
  newest_event = subst (λ (h : History). IsNewest a h a checkpoint) (sym history_9) (living_is_newest whole_is_lawful a checkpoint lives_9);
  stamp = refl;
  reports = ap (λ (h : History). reporting_steps a h) (sym history_9);
}

once_5 : WasOnce a q5 a_at_checkpoint
once_5 = inr (check, later_in retire check q4 (later_in send check q3 (later_in begin check q2 (first_in check q1))), refl)

within_9 : 1 ≤ epoch run9
within_9 = (let same = epoch_9 in omega arith)

-- who retired did so in the epoch before
same_end : (t u : Name) (r q : Retirement) (l m : List ℕ) → Retire t r l ≡ Retire u q m → r ≡ q
same_end t u r q l m is = cc

retired_before : (d : Doing) (target : Name) (other : Retirement) (line : List ℕ) → Contains q6 d → d.act ≡ Retire target other line → other.epoch ≡ 0
retired_before d target other line at =
    each_is (λ act. (t : Name) (r : Retirement) (l : List ℕ) → act ≡ Retire t r l → r.epoch ≡ 0) q6 (
      λ t r l is. absurd (cc),
      (
        λ t r l is. ap (λ (q : Retirement). q.epoch) (sym (same_end a t early_end_of_b r (line_of 0 (told b 1 right (halves 1 0 2) (reported.Retire a))) l is)),
        (λ t r l is. absurd (cc), (λ t r l is. absurd (cc), (λ t r l is. absurd (cc), (λ t r l is. absurd (cc), tt)))),
      ),
    ) d at target other line

kept_9 : IsKept a run9 q6 early_end_of_b
kept_9 = record {
  event = ending;
  waits = subst (λ (h : History). IsWaiting a h b a ending) (sym history_9) (waiting whole_is_lawful b a ending waits_9);
  stamp = refl;
  not_anew = λ d target other line at is same now. (let before = retired_before d target other line at is in let present = epoch_9 in omega arith);
}

-- the sending is one of the current history, also behind the settlement
was_sent : WasSent run11 3 (halves 1 0 1)
was_sent = (
  event_of before_sending sending_step,
  ap (λ (h : History). sending h (3 ∷ [])) history_11
      ∙ (sent_stays whole absorb_step (3 ∷ []) (λ is. cc)
      ∙ (sent_stays (sending_step ∷ before_sending) retire_step (3 ∷ []) (λ is. cc) ∙ sends_now before_sending sending_step (3 ∷ []) refl)),
  refl,
)

-- ---- all of it, from the last call back

abbrev again_left : Account
again_left = drop 13 kept

abbrev absorb_report_left : Account
absorb_report_left = drop 12 kept

abbrev return_left : Account
return_left = drop 10 kept

abbrev settlement_left : Account
settlement_left = drop 9 kept

abbrev begin_left : Account
begin_left = drop 5 kept

abbrev check_left : Account
check_left = drop 3 kept

abbrev fork_left : Account
fork_left = drop 1 kept

again_rest : AreHandedOver a run11 q7 again_left
again_rest =
    ((hands_over, refl), (from7, λ now. was_sent), (receives_a, (from8, inr (inl (again, message_of_b, first_in again q7, refl))), tt))

absorb_report_rest : AreHandedOver a run10 q7 absorb_report_left
absorb_report_rest =
    told_on run10 q7 (record { epoch = 1; report = Numbered absorb_report }) 6 again_left
    (inr (absorb, line_of 1 (told a 3 One (Leaf 3) (reported.Absorb b)), first_in absorb q6, refl, absorbs_b.reported)) again_rest

return_rest : AreHandedOver a run9 q5 return_left
return_rest = (
  record { later = omega arith; new_is = refl },
  (once_5, within_9, λ now. position_9),
  (
    absorbs_b,
    (
      from6,
      (retire, a, line_of 0 (told b 1 right (halves 1 0 2) (reported.Retire a)), record { later = goes_back ∷ []; earlier = q4; past_is = refl; number = refl }, refl),
      inr (λ now. kept_9),
    ),
    absorb_report_rest,
  ),
)

settlement_rest : AreHandedOver a run8 q5 settlement_left
settlement_rest = (tt, λ between adds. subst (λ (r : Run). AreHandedOver a r q5 return_left) (one_settlement a run8 [] run9 between settles_8 adds) return_rest)

begin_rest : AreHandedOver a run5 q2 begin_left
begin_rest = (
  refl,
  ((fork, line_of 0 (told a 1 One (Leaf 1) (forked b)), record { later = check ∷ []; earlier = []; past_is = refl; number = refl }, refl), unbegun_2),
  (
    sends_b,
    from3,
    (
      (retires_b, refl),
      from4,
      told_on run7 q5 (record { epoch = 0; report = Numbered end_report }) 4 settlement_left
          (inr (retire, line_of 0 (told b 1 right (halves 1 0 2) (reported.Retire a)), first_in retire q4, refl, retires_b.reported)) settlement_rest,
    ),
  ),
)

check_rest : AreHandedOver a run3 q1 check_left
check_rest = (
  checks_a,
  from1,
  told_on run4 q2 (record { epoch = 0; report = Numbered check_report }) 3 begin_left
      (inr (check, line_of 0 (told a 2 left (halves 1 1 0) reported.Check), first_in check q1, refl, checks_a.reported)) begin_rest,
)

fork_rest : AreHandedOver a run1 [] fork_left
fork_rest = (
  forks_b,
  (from0, b_is_new),
  told_on run2 q1 (record { epoch = 0; report = Numbered fork_report }) 2 check_left
      (inr (fork, line_of 0 (told a 1 One (Leaf 1) (forked b)), first_in fork [], refl, forks_b.reported)) check_rest,
)

pub a_kept_retirement_is_possible : AKeptRetirementIsPossible
a_kept_retirement_is_possible = (
  (h1, begins_turn, (h2, fork_turn, (h3, check_turn, (h4, end_turn, (h5, settle_turn, (h6, absorb_turn, refl)))))),
  told_on [] [] (record { epoch = 0; report = Begin a }) 1 fork_left (inl refl) fork_rest,
)
