-- The trace that is written out is one of turns, and its processes obey.
use Rattle.std.proofs.Common.{◌≡◌, ◌≢◌, ℕ, zero, suc, ◌+◌, ◌≤◌, ◌<◌, List, [], ◌∷◌, Option, Some, length, inl, inr, refl, sym, subst, arith}
use Rattle.std.specs.Prelude.{Contains}
use Rattle.std.specs.Fmt.{decimal}
use Rattle.std.proofs.lemmas.List.Elements.{All-from_recursion}
use Rattle.id_tree.specs.IdTree.{One}
use Rattle.event_tree.specs.EventTree.{Leaf}
use Rattle.report_line.specs.declared.marked.MarkedReport.{MarkedReport}
use Rattle.report_line.specs.declared.call.Call.TheVariants as calls
use Rattle.report_line.specs.declared.code.Code.{Code}
use Rattle.report_line.specs.declared.code.Code.TheVariants.{OtherEpoch}
use Rattle.report_line.specs.declared.reply.Reply.{Reply}
use Rattle.report_line.specs.declared.reply.Reply.TheVariants.{Accepted, No, Settled, Taken}
use Rattle.report_line.specs.declared.report.ReportKind.TheVariants as reported
use Rattle.report_line.specs.declared.report.NumberedReport.{NumberedReport}
use Rattle.report_line.specs.declared.report.Report.{Report}
use Rattle.report_line.specs.declared.report.Report.TheVariants.{Begin, Numbered}
use Rattle.report_line.specs.declared.step.StepKind.TheVariants.{Work, Check, Present, Fork}
use Rattle.report_line.specs.declared.step.Step.{Step}
use Rattle.report_line.specs.histories.History.{Name}
use Rattle.law_histories.specs.Example.{a, b, left, right, halves, act, forked}
use Rattle.chains.specs.declared.position.Position.{Position}
use Rattle.chains.specs.declared.position.Position.TheVariants.{At}
use Rattle.chains.specs.Processes.{known, IsKnown, target_of}
use Rattle.chains.specs.Elements.{name_of}
use Rattle.chains.specs.Held.{Held, counting, with_report, with_settlement}
use Rattle.chains.specs.Admission.{report_limit, process_limit, FitsOrNot, IsRepeated, IsActionReply, IsStampReply, IsWaitingReply, IsStandingReply, IsReportReply}
use Rattle.chains.specs.Failures.{IsFailedSet}
use Rattle.chains.specs.Folded.{IsFitReport, IsReached}
use Rattle.chains.specs.Greatest.{IsGreatestCut}
use Rattle.chains.specs.Settled.{kept_at, IsSettled}
use Rattle.chains.specs.Turns.{fine, IsTurn}
use Rattle.law_lines.proofs.Listed.{in_cases, none_in}
use Rattle.law_histories.specs.Kept.{Cut}
use Rattle.law_lines.specs.Agreeing.{HasEventsOf}
use Rattle.law_lines.specs.Runs.{Run, Made, Accepts, Settles, current, accepted, IsMarkedReport, IsObeyed, made, left_behind, reports, settles}
use Rattle.law_lines.specs.TwoSettlements.{up_to_checkpoint}
use Rattle.law_lines.proofs.Runs.{agrees_now}
use Rattle.law_lines.proofs.Twice.{twice_settled_is_obeyed}
use Rattle.law_turns.specs.Traces.{Trace, Stepped, Turned, IsRightStep, IsRightReport, IsSettledBy, ProcessesObey}
use Rattle.law_turns.specs.Example.{marked, SettledOnceIsTaken, SettledOnceIsRight, ItsRunIsOnceSettled}
use Rattle.law_turns.proofs.Following.{one_settlement}

-- ---- what the run asked for

abbrev IsStepOfRun : Run → ℕ → Step → Type 0
IsStepOfRun run e s = IsObeyed a run × IsRightStep a run e s

abbrev IsAccepted : Run → ℕ → NumberedReport → Type 0
IsAccepted run m r = IsObeyed a run × IsMarkedReport a run m (Numbered r) × IsFitReport (accepted run) r

abbrev IsSettlement : Run → List ℕ → List Position → Cut → Type 0
IsSettlement run failed line cut = IsObeyed a run × IsGreatestCut (accepted run) failed line × HasEventsOf a (current run) (accepted run) line cut

made_parts : {run : Run} {e : ℕ} {s : Step} → IsObeyed a (Made e s ∷ run) → IsStepOfRun run e s
made_parts (made {before = x} obeyed newest obeys) = (obeyed, inl (refl, (x, newest, obeys)))
made_parts (left_behind obeyed old) = (obeyed, inr old)

accepts_parts : {run : Run} {m : ℕ} {r : NumberedReport} → IsObeyed a (Accepts m (Numbered r) ∷ run) → IsAccepted run m r
accepts_parts (reports obeyed is_marked fit) = (obeyed, is_marked, fit)

settles_parts : {run : Run} {failed : List ℕ} {line : List Position} {cut : Cut} → IsObeyed a (Settles failed line cut ∷ run) → IsSettlement run failed line cut
settles_parts (settles obeyed greatest has) = (obeyed, greatest, has)

-- ---- the run, piece by piece

abbrev pub check : NumberedReport
check = record { process = a; number = 1; stamp = record { id = One; events = Leaf 1 }; action = reported.Check }

abbrev pub show : NumberedReport
show = record { process = a; number = 2; stamp = record { id = One; events = Leaf 2 }; action = reported.Present }

abbrev pub fork : NumberedReport
fork = record { process = a; number = 2; stamp = record { id = One; events = Leaf 2 }; action = forked b }

abbrev pub child_check : NumberedReport
child_check = record { process = b; number = 1; stamp = record { id = right; events = halves 2 0 1 }; action = reported.Check }

abbrev pub run1 : Run
run1 = Accepts 0 (Begin a) ∷ []

abbrev pub run2 : Run
run2 = Made 0 (act a Check One (Leaf 1)) ∷ run1

abbrev pub run3 : Run
run3 = Accepts 0 (Numbered check) ∷ run2

abbrev pub run4 : Run
run4 = Made 0 (act a Present One (Leaf 2)) ∷ run3

abbrev pub run5 : Run
run5 = Accepts 0 (Numbered show) ∷ run4

abbrev pub run6 : Run
run6 = Settles (0 ∷ []) (At 2 ∷ []) up_to_checkpoint ∷ run5

abbrev pub run7 : Run
run7 = Made 0 (act a Work One (Leaf 3)) ∷ run6

abbrev pub run8 : Run
run8 = Made 1 (act a (Fork b right) left (Leaf 2)) ∷ run7

abbrev pub run9 : Run
run9 = Accepts 1 (Numbered fork) ∷ run8

abbrev pub run10 : Run
run10 = Made 1 (act b Check right (halves 2 0 1)) ∷ run9

abbrev pub run11 : Run
run11 = Accepts 1 (Numbered child_check) ∷ run10

w11 : IsAccepted run10 1 child_check
w11 = accepts_parts (settles_parts (made_parts (accepts_parts twice_settled_is_obeyed).0).0).0

w10 : IsStepOfRun run9 1 (act b Check right (halves 2 0 1))
w10 = made_parts w11.0

w9 : IsAccepted run8 1 fork
w9 = accepts_parts w10.0

w8 : IsStepOfRun run7 1 (act a (Fork b right) left (Leaf 2))
w8 = made_parts w9.0

w7 : IsStepOfRun run6 0 (act a Work One (Leaf 3))
w7 = made_parts w8.0

w6 : IsSettlement run5 (0 ∷ []) (At 2 ∷ []) up_to_checkpoint
w6 = settles_parts w7.0

w5 : IsAccepted run4 0 show
w5 = accepts_parts w6.0

w4 : IsStepOfRun run3 0 (act a Present One (Leaf 2))
w4 = made_parts w5.0

w3 : IsAccepted run2 0 check
w3 = accepts_parts w4.0

w2 : IsStepOfRun run1 0 (act a Check One (Leaf 1))
w2 = made_parts w3.0

-- ---- the tests let a report pass

pub room : (held : Held) (r : Report) → held.front < report_limit → length (known held.accepted) < process_limit → FitsOrNot held r (Accepted (held.front + 1))
room held r few less = inr (λ full. omega arith, inr (λ full. (let over = full.1 in omega arith), refl))

pub stamp_passes : (held : Held) (r : NumberedReport) (answer : Reply) → IsFitReport held.accepted r → IsActionReply held r r.action answer → IsStampReply held r r.action answer
stamp_passes held r answer fit later = inr (λ other. other fit.id, inr (λ low. low fit.grown, later))

pub report_passes : (held : Held) (mark : ℕ) (r : NumberedReport) (answer : Reply) → IsFitReport held.accepted r → mark ≡ held.epoch → ¬ IsRepeated held mark r
    → IsWaitingReply held r r.action answer → IsReportReply held mark (Numbered r) answer
report_passes held mark r answer fit same fresh later =
    inr (fit.begun, inr (λ unknown. unknown fit.is_known, inr (fresh, inr (λ other. other same, standing))))
  where
    standing : IsStandingReply (target_of r.process held.accepted) held r answer
    standing = subst (λ o. IsStandingReply o held r answer) (sym fit.living) (inr (λ other. other fit.number, later))

-- ---- what is held, turn by turn

abbrev pub h0 : Held
h0 = counting []

abbrev pub h1 : Held
h1 = with_report h0 (record { epoch = 0; report = Begin a })

abbrev h2 : Held
h2 = with_report h1 (record { epoch = 0; report = Numbered check })

abbrev h3 : Held
h3 = with_report h2 (record { epoch = 0; report = Numbered show })

abbrev h4 : Held
h4 = with_settlement (kept_at h3 (At 2 ∷ []))

abbrev h5 : Held
h5 = with_report h4 (record { epoch = 1; report = Numbered fork })

abbrev h6 : Held
h6 = with_report h5 (record { epoch = 1; report = Numbered child_check })

pub begins_turn : IsTurn h0 (marked 0 (Begin a)) (Accepted 1) h1
begins_turn = (fine, (inr (λ other. other refl, room h0 (Begin a) (omega arith) (omega arith)), refl))

pub number_same : (x y : NumberedReport) → Some (Numbered x) ≡ Some (Numbered y) → x.number ≡ y.number
number_same x y is = cc

check_turn : IsTurn h1 (marked 0 (Numbered check)) (Accepted 2) h2
unfolding accepted
check_turn = (fine, (report_passes h1 0 check (Accepted 2) w3.2 refl (λ again. let e = again.0 in cc) (stamp_passes h1 check (Accepted 2) w3.2 (room h1 (Numbered check) (omega arith) (omega arith))), refl))

show_turn : IsTurn h2 (marked 0 (Numbered show)) (Accepted 3) h3
unfolding accepted
show_turn = (fine, (report_passes h2 0 show (Accepted 3) w5.2 refl (λ again. let e = number_same check show again.0 in absurd (omega arith)) (stamp_passes h2 show (Accepted 3) w5.2 (room h2 (Numbered show) (omega arith) (omega arith))), refl))

-- ---- the settlement

first_failed : Contains {X = ℕ} (0 ∷ []) 0
first_failed = (0, omega arith, refl)

first_named : Contains {X = Name} (a ∷ []) a
first_named = (0, omega arith, refl)

abbrev l2 : List Report
l2 = Begin a ∷ Numbered check ∷ Numbered show ∷ []

same_name : (p q : Name) → Some p ≡ Some q → p ≡ q
same_name p q is = cc

only_a : (p : ℕ) (name : Name) → name_of l2 p ≡ Some name → (p ≡ 0) × (a ≡ name)
only_a zero name is = (refl, same_name a name is)
only_a (suc p) name is = absurd (cc)

only_first : (p : ℕ) → Contains (0 ∷ []) p → p ≡ 0
only_first p at = elim (in_cases 0 p [] at) [ inl same ↦ sym same | inr none ↦ absurd (none_in p none) ]

failed_set : IsFailedSet l2 (a ∷ []) (0 ∷ [])
failed_set = record {
  all_known = All-from_recursion (IsKnown l2) (a ∷ []) ((0, omega arith, refl), tt);
  in_order = λ k less. absurd (omega arith);
  within = λ p at. (let first = only_first p at in omega arith);
  just_named = λ p name is.
      (λ at. subst (λ (n : Name). Contains (a ∷ []) n) (only_a p name is).1 first_named, λ at. subst (λ (n : ℕ). Contains (0 ∷ []) n) (sym (only_a p name is).0) first_failed);
}

reached : IsReached h4
unfolding accepted
reached = record { folded = (agrees_now w7.0).folded; marked = refl; past = All-from_recursion (λ (e : ℕ). e ≤ 1) (0 ∷ 0 ∷ []) (omega arith, (omega arith, tt)); counted = omega arith }

returned : IsSettled h3 (a ∷ []) h4
unfolding accepted
returned = (0 ∷ [], failed_set, record { line = At 2 ∷ []; greatest = w6.1; is_kept = refl; reached = reached })

filled : (x : Report) (xs : List Report) → x ∷ xs ≢ []
filled x xs e = cc

settle_turn : IsTurn h3 (calls.Settle 3 (a ∷ [])) (Settled 1 4) h4
settle_turn = (fine, (inr (filled _ _, inr (failed_set.all_known, inr (λ other. other refl, inr (λ full. omega arith, refl)))), returned))

-- ---- after it

refused_turn : IsTurn h4 (marked 0 (Numbered show)) (No OtherEpoch (Some a) (Some (decimal 1))) h4
refused_turn =
    (fine, (inr (filled _ _, inr (λ unknown. unknown (0, omega arith, refl), inr (λ again. (let e = number_same check show again.0 in absurd (omega arith)), inl (λ e. omega arith, refl)))), refl))

fork_turn : IsTurn h4 (marked 1 (Numbered fork)) (Accepted 5) h5
unfolding accepted
fork_turn = (
  fine,
  (
    report_passes h4 1 fork (Accepted 5) w9.2 refl (λ again. let e = number_same check fork again.0 in absurd (omega arith)) (stamp_passes h4 fork (Accepted 5) w9.2
        (inr (w9.2.fit.0, inr (λ other. other w9.2.fit.1, room h4 (Numbered fork) (omega arith) (omega arith))))),
    refl,
  ),
)

child_turn : IsTurn h5 (marked 1 (Numbered child_check)) (Accepted 6) h6
unfolding accepted
child_turn = (fine, (report_passes h5 1 child_check (Accepted 6) w11.2 refl (λ again. let e = again.0 in cc) (stamp_passes h5 child_check (Accepted 6) w11.2 (room h5 (Numbered child_check) (omega arith) (omega arith))), refl))

line_turn : IsTurn h6 (calls.Line (a ∷ [])) (Taken 6) h6
line_turn = (fine, (refl, inr (filled _ _, inr (All-from_recursion (IsKnown h6.accepted) (a ∷ []) ((0, omega arith, refl), tt), refl)), refl))

pub settled_once_is_taken : SettledOnceIsTaken
settled_once_is_taken =
    (h1, begins_turn, (h2, check_turn, (h3, show_turn, (h4, settle_turn, (h4, refused_turn, (h5, fork_turn, (h6, child_turn, (h6, line_turn, refl))))))))

-- ---- the processes obey

told_obeys : (run : Run) (m : MarkedReport) (front : ℕ) (trace : Trace) → IsRightReport a run (calls.Report m) (Accepted front) → ProcessesObey a (Accepts m.epoch m.report ∷ run) trace
    → ProcessesObey a run (Turned (calls.Report m) (Accepted front) ∷ trace)
told_obeys run m front trace right rest = (right, λ between adds. subst (λ (r : Run). ProcessesObey a r trace) (sym adds) rest)

settled_obeys : (run later : Run) (front : ℕ) (names : List Name) (e now : ℕ) (trace : Trace) → IsSettledBy a run names later → ProcessesObey a later trace
    → ProcessesObey a run (Turned (calls.Settle front names) (Settled e now) ∷ trace)
settled_obeys run later front names e now trace by rest =
    (tt, λ between adds. subst (λ (r : Run). ProcessesObey a r trace) (one_settlement a run names later between by adds) rest)

refused_obeys : (run : Run) (m : MarkedReport) (code : Code) (name : Option Name) (value : Option (List ℕ)) (trace : Trace) → ProcessesObey a run trace
    → ProcessesObey a run (Turned (calls.Report m) (No code name value) ∷ trace)
refused_obeys run m code name value trace rest = (tt, λ between adds. subst (λ (r : Run). ProcessesObey a r trace) (sym adds) rest)

pub by_line : IsSettledBy a run5 (a ∷ []) run6
unfolding accepted
by_line = record { failed = 0 ∷ []; just_named = failed_set; line = At 2 ∷ []; greatest = w6.1; cut = up_to_checkpoint; events = w6.2; settles = refl }

-- the trace from each of its turns on, over the run that was made by then
abbrev pub from_line : Trace
from_line = Turned (calls.Line (a ∷ [])) (Taken 6) ∷ []

abbrev pub from_child : Trace
from_child = Stepped 1 (act b Check right (halves 2 0 1)) ∷ Turned (marked 1 (Numbered child_check)) (Accepted 6) ∷ from_line

abbrev pub from_fork : Trace
from_fork = Stepped 1 (act a (Fork b right) left (Leaf 2)) ∷ Turned (marked 1 (Numbered fork)) (Accepted 5) ∷ from_child

abbrev pub from_return : Trace
from_return = Stepped 0 (act a Work One (Leaf 3)) ∷ Turned (marked 0 (Numbered show)) (No OtherEpoch (Some a) (Some (decimal 1))) ∷ from_fork

abbrev pub from_settlement : Trace
from_settlement = Turned (calls.Settle 3 (a ∷ [])) (Settled 1 4) ∷ from_return

abbrev pub from_show : Trace
from_show = Stepped 0 (act a Present One (Leaf 2)) ∷ Turned (marked 0 (Numbered show)) (Accepted 3) ∷ from_settlement

abbrev pub from_check : Trace
from_check = Stepped 0 (act a Check One (Leaf 1)) ∷ Turned (marked 0 (Numbered check)) (Accepted 2) ∷ from_show

line_obeys : ProcessesObey a run11 from_line
line_obeys = (tt, λ between adds. tt)

child_obeys : ProcessesObey a run9 from_child
child_obeys = (w10.1, told_obeys run10 (record { epoch = 1; report = Numbered child_check }) 6 from_line (inr w11.1) line_obeys)

fork_obeys : ProcessesObey a run7 from_fork
fork_obeys = (w8.1, told_obeys run8 (record { epoch = 1; report = Numbered fork }) 5 from_child (inr w9.1) child_obeys)

return_obeys : ProcessesObey a run6 from_return
return_obeys = (w7.1, refused_obeys run7 (record { epoch = 0; report = Numbered show }) OtherEpoch (Some a) (Some (decimal 1)) from_fork fork_obeys)

settlement_obeys : ProcessesObey a run5 from_settlement
settlement_obeys = settled_obeys run5 run6 3 (a ∷ []) 1 4 from_return by_line return_obeys

show_obeys : ProcessesObey a run3 from_show
show_obeys = (w4.1, told_obeys run4 (record { epoch = 0; report = Numbered show }) 3 from_settlement (inr w5.1) settlement_obeys)

check_obeys : ProcessesObey a run1 from_check
check_obeys = (w2.1, told_obeys run2 (record { epoch = 0; report = Numbered check }) 2 from_show (inr w3.1) show_obeys)

pub settled_once_is_right : SettledOnceIsRight
settled_once_is_right = told_obeys [] (record { epoch = 0; report = Begin a }) 1 from_check (inl refl) check_obeys

pub its_run_is_once_settled : ItsRunIsOnceSettled
its_run_is_once_settled = (run1, refl, (run3, refl, (run5, refl, (run6, by_line, (run7, refl, (run9, refl, (run11, refl, (run11, refl, refl))))))))
