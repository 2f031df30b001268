-- The account with a settlement and a return, step by step.
use Rattle.std.proofs.Common.{◌≡◌, ◌≢◌, ℕ, ◌≤◌, Some, List, [], ◌∷◌, inl, inr, refl, sym, ap, subst, arith}
use Rattle.std.specs.Prelude.{drop}
use Rattle.id_tree.specs.IdTree.{One}
use Rattle.event_tree.specs.EventTree.{Leaf}
use Rattle.event_tree.specs.Event.{IsEventStep}
use Rattle.report_line.specs.declared.call.Call.TheVariants as calls
use Rattle.report_line.specs.declared.marked.MarkedReport.{MarkedReport}
use Rattle.report_line.specs.declared.reply.Reply.TheVariants.{Accepted}
use Rattle.report_line.specs.declared.report.ReportKind.TheVariants as reported
use Rattle.report_line.specs.declared.report.Report.TheVariants as reports
use Rattle.report_line.specs.declared.step.StepKind.TheVariants as step_kinds
use Rattle.report_line.specs.histories.History.{History, Event, event_of, Living, status}
use Rattle.report_line.specs.histories.Lawful.{IsLawful, start, next}
use Rattle.report_line.specs.histories.StepReports.{reporting_steps}
use Rattle.law_histories.specs.Example.{a, b, right, halves, act, told, forked}
use Rattle.law_histories.specs.Rules.{IsNewest}
use Rattle.law_histories.proofs.Example.{above}
use Rattle.law_histories.proofs.Status.{root_holds}
use Rattle.law_histories.proofs.Rules.{living_is_newest}
use Rattle.law_lines.proofs.Listed.{first_in, later_in}
use Rattle.law_histories.specs.Kept.{kept}
use Rattle.law_lines.specs.Runs.{Run, Accepts, epoch, current}
use Rattle.law_turns.proofs.Following.{one_settlement}
use Rattle.law_turns.proofs.Written.{run1, run2, run3, run4, run5, run6, run7, run8, run9, run10, by_line, settled_once_is_taken}
use Rattle.process.specs.declared.handed.Start.{Start}
use Rattle.process.specs.Steps.{Works, Tells, Forks}
use Rattle.law_process.specs.Accounts.{Work, Check, Present, Fork, Begin, Return, Doing, Took, Account, made}
use Rattle.law_process.specs.Handing.{Past, newest, WasOnce, IsNewName, IsUnbegun, IsAtPosition, IsHandedIn, AreHandedOver}
use Rattle.law_process.specs.Example.{line_of, a0, c1, c2, c3, c4, c5, d0, d1, start_again, returned, AReturnIsPossible}
use Rattle.law_histories.proofs.ExampleForms.{name_a, name_b, on_one, on_left, on_right, flat, halved}
use Rattle.law_process.proofs.Written.{spells, grows, grown_of, counts, one_some, right_some, halves_it, each_is, unbegun}

-- ---- what the calls do

step_1 : IsEventStep One (Leaf 0) (Leaf 1)
step_1 = grows One (Leaf 0) (Leaf 1) refl refl

step_2 : IsEventStep One (Leaf 1) (Leaf 2)
step_2 = grows One (Leaf 1) (Leaf 2) refl refl

step_3 : IsEventStep One (Leaf 2) (Leaf 3)
step_3 = grows One (Leaf 2) (Leaf 3) refl refl

step_of_b : IsEventStep right (Leaf 2) (halves 2 0 1)
step_of_b = grows right (Leaf 2) (halves 2 0 1) refl refl

checks_a : Tells a0 c1 reported.Check (line_of 0 (told a 1 One (Leaf 1) reported.Check))
checks_a = record {
  goes = record { name = refl; epoch = refl; reports = refl };
  stamped = counts One (Leaf 0) (Leaf 1) on_one one_some tt step_1;
  reported = spells 0 a 1 One (Leaf 1) reported.Check (omega arith) name_a (omega arith, omega arith) on_one (flat 1 (omega arith)) tt;
}

presents_a : Tells c1 c2 reported.Present (line_of 0 (told a 2 One (Leaf 2) reported.Present))
presents_a = record {
  goes = record { name = refl; epoch = refl; reports = refl };
  stamped = counts One (Leaf 1) (Leaf 2) on_one one_some tt step_2;
  reported = spells 0 a 2 One (Leaf 2) reported.Present (omega arith) name_a (omega arith, omega arith) on_one (flat 2 (omega arith)) tt;
}

works_a : Works c2 c3
works_a = record { goes = record { name = refl; epoch = refl; reports = refl }; stamped = counts One (Leaf 2) (Leaf 3) on_one one_some tt step_3 }

forks_b : Forks c4 c5 start_again (line_of 1 (told a 2 One (Leaf 2) (forked b)))
forks_b = record {
  goes = record { name = refl; epoch = refl; reports = refl };
  step = step_2;
  grown = grown_of One (Leaf 1) (Leaf 2) on_one one_some tt step_2;
  other_name = above 98 97 (omega arith);
  epoch = refl;
  same = refl;
  split = halves_it;
  reported = spells 1 a 2 One (Leaf 2) (forked b) (omega arith) name_a (omega arith, omega arith) on_one (flat 2 (omega arith)) (on_left, name_b, on_right);
}

checks_b : Tells d0 d1 reported.Check (line_of 1 (told b 1 right (halves 2 0 1) reported.Check))
checks_b = record {
  goes = record { name = refl; epoch = refl; reports = refl };
  stamped = counts right (Leaf 2) (halves 2 0 1) on_right right_some tt step_of_b;
  reported = spells 1 b 1 right (halves 2 0 1) reported.Check (omega arith) name_b (omega arith, omega arith) on_right (halved 2 0 1 refl refl (omega arith)) tt;
}

-- ---- the calls

abbrev check : Doing
check = made (Check (line_of 0 (told a 1 One (Leaf 1) reported.Check))) a0 c1

abbrev present : Doing
present = made (Present (line_of 0 (told a 2 One (Leaf 2) reported.Present))) c1 c2

abbrev work : Doing
work = made Work c2 c3

abbrev goes_back : Doing
goes_back = made (Return 1) c1 c4

abbrev fork : Doing
fork = made (Fork start_again (line_of 1 (told a 2 One (Leaf 2) (forked b)))) c4 c5

abbrev begin : Doing
begin = made (Begin 4 start_again) d0 d0

abbrev child_check : Doing
child_check = made (Check (line_of 1 (told b 1 right (halves 2 0 1) reported.Check))) d0 d1

abbrev q1 : Past
q1 = check ∷ []

abbrev q2 : Past
q2 = present ∷ q1

abbrev q3 : Past
q3 = work ∷ q2

abbrev q4 : Past
q4 = goes_back ∷ q3

abbrev q5 : Past
q5 = fork ∷ q4

abbrev q6 : Past
q6 = begin ∷ q5

abbrev q7 : Past
q7 = child_check ∷ q6

from0 : newest a [] a ≡ Some a0
unfolding newest
from0 = refl

from1 : newest a q1 a ≡ Some c1
unfolding newest
from1 = refl

from2 : newest a q2 a ≡ Some c2
unfolding newest
from2 = refl

from4 : newest a q4 a ≡ Some c4
unfolding newest
from4 = refl

from6 : newest a q6 b ≡ Some d0
unfolding newest
from6 = refl

-- ---- the return

history_7 : current run7 ≡ act a step_kinds.Check One (Leaf 1) ∷ []
unfolding epoch current kept
history_7 = refl

epoch_7 : epoch run7 ≡ 1
unfolding epoch
epoch_7 = refl

abbrev at_checkpoint : Event
at_checkpoint = event_of [] (act a step_kinds.Check One (Leaf 1))

lawful_7 : IsLawful a (act a step_kinds.Check One (Leaf 1) ∷ [])
lawful_7 = next start (root_holds a) (record { same_id = λ t. refl; grown = grown_of One (Leaf 0) (Leaf 1) on_one one_some tt step_1 })

lives_7 : status a (act a step_kinds.Check One (Leaf 1) ∷ []) a ≡ Living at_checkpoint
unfolding status
lives_7 = refl

newest_7 : IsNewest a (current run7) a at_checkpoint
newest_7 = subst (λ (h : History). IsNewest a h a at_checkpoint) (sym history_7) (living_is_newest lawful_7 a at_checkpoint lives_7)

position_7 : IsAtPosition a run7 c1
position_7 = record { event = at_checkpoint; newest_event = newest_7; stamp = refl; reports = ap (λ (h : History). reporting_steps a h) (sym history_7) }

once_7 : WasOnce a q3 c1
once_7 = inr (check, later_in work check q2 (later_in present check q1 (first_in check [])), refl)

within_7 : 1 ≤ epoch run7
within_7 = (let same = epoch_7 in omega arith)

b_is_new : IsNewName a q4 b
b_is_new = (
  above 98 97 (omega arith),
  λ d s line at. each_is (λ act. (t : Start) (l : List ℕ) → act ≡ Fork t l → t.child ≢ b) q4 (λ t l is. absurd (cc), (λ t l is. absurd (cc), (λ t l is. absurd (cc), (λ t l is. absurd (cc), tt)))) d at s line,
)

unbegun_5 : IsUnbegun q5 4
unbegun_5 = unbegun q5 4 (λ s is. cc, (λ s is. cc, (λ s is. cc, (λ s is. cc, (λ s is. cc, tt)))))

-- ---- a turn

pub told_on : (run : Run) (past : Past) (m : MarkedReport) (front : ℕ) (account : Account) → IsHandedIn a past (calls.Report m) (Accepted front)
    → AreHandedOver a (Accepts m.epoch m.report ∷ run) past account → AreHandedOver a run past (Took (calls.Report m) (Accepted front) ∷ account)
told_on run past m front account handed rest = (handed, λ between adds. subst (λ (r : Run). AreHandedOver a r past account) (sym adds) rest)

-- ---- all of it, from the last call back

abbrev line_left : Account
line_left = drop 14 returned

abbrev reported_left : Account
reported_left = drop 13 returned

abbrev begin_left : Account
begin_left = drop 11 returned

abbrev report_of_fork_left : Account
report_of_fork_left = drop 10 returned

abbrev fork_left : Account
fork_left = drop 9 returned

abbrev return_left : Account
return_left = drop 8 returned

abbrev work_left : Account
work_left = drop 6 returned

abbrev settlement_left : Account
settlement_left = drop 5 returned

abbrev present_left : Account
present_left = drop 3 returned

abbrev check_left : Account
check_left = drop 1 returned

line_rest : (run : Run) → AreHandedOver a run q7 line_left
line_rest run = (tt, λ between adds. tt)

reported_rest : AreHandedOver a run10 q7 reported_left
reported_rest =
    told_on run10 q7 (record { epoch = 1; report = told b 1 right (halves 2 0 1) reported.Check }) 6 line_left
    (inr (child_check, line_of 1 (told b 1 right (halves 2 0 1) reported.Check), first_in child_check q6, refl, checks_b.reported)) (line_rest _)

begin_rest : AreHandedOver a run9 q5 begin_left
begin_rest =
    (refl, ((fork, line_of 1 (told a 2 One (Leaf 2) (forked b)), record { later = []; earlier = q4; past_is = refl; number = refl }, refl), unbegun_5), (checks_b, from6, reported_rest))

report_of_fork_rest : AreHandedOver a run8 q5 report_of_fork_left
report_of_fork_rest =
    told_on run8 q5 (record { epoch = 1; report = told a 2 One (Leaf 2) (forked b) }) 5 begin_left
    (inr (fork, line_of 1 (told a 2 One (Leaf 2) (forked b)), first_in fork q4, refl, forks_b.reported)) begin_rest

return_rest : AreHandedOver a run7 q3 return_left
return_rest = (record { later = omega arith; new_is = refl }, (once_7, within_7, λ now. position_7), (forks_b, (from4, b_is_new), report_of_fork_rest))

work_rest : AreHandedOver a run6 q2 work_left
work_rest = (works_a, from2, (tt, λ between adds. subst (λ (r : Run). AreHandedOver a r q3 return_left) (sym adds) return_rest))

settlement_rest : AreHandedOver a run5 q2 settlement_left
settlement_rest = (tt, λ between adds. subst (λ (r : Run). AreHandedOver a r q2 work_left) (one_settlement a run5 (a ∷ []) run6 between by_line adds) work_rest)

present_rest : AreHandedOver a run3 q1 present_left
present_rest = (
  presents_a,
  from1,
  told_on run4 q2 (record { epoch = 0; report = told a 2 One (Leaf 2) reported.Present }) 3 settlement_left
      (inr (present, line_of 0 (told a 2 One (Leaf 2) reported.Present), first_in present q1, refl, presents_a.reported)) settlement_rest,
)

check_rest : AreHandedOver a run1 [] check_left
check_rest = (
  checks_a,
  from0,
  told_on run2 q1 (record { epoch = 0; report = told a 1 One (Leaf 1) reported.Check }) 2 present_left
      (inr (check, line_of 0 (told a 1 One (Leaf 1) reported.Check), first_in check [], refl, checks_a.reported)) present_rest,
)

pub a_return_is_possible : AReturnIsPossible
a_return_is_possible = (settled_once_is_taken, told_on [] [] (record { epoch = 0; report = reports.Begin a }) 1 check_left (inl refl) check_rest)
