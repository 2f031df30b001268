-- Each report of the trace that is written out comes next.
use Rattle.std.proofs.Common.{ℕ, List, [], ◌∷◌, Some, Option, All, refl, sym, subst, arith}
use Rattle.std.specs.Fmt.{decimal}
use Rattle.std.proofs.lemmas.List.Elements.{All-from_recursion}
use Rattle.id_tree.specs.IdTree.{One}
use Rattle.event_tree.specs.EventTree.{Leaf}
use Rattle.report_line.specs.declared.marked.MarkedReport.{MarkedReport}
use Rattle.report_line.specs.declared.call.Call.TheVariants as calls
use Rattle.report_line.specs.declared.code.Code.{Code}
use Rattle.report_line.specs.declared.code.Code.TheVariants.{OtherEpoch}
use Rattle.report_line.specs.declared.reply.Reply.TheVariants.{Accepted, No, Settled}
use Rattle.report_line.specs.declared.report.ReportKind.TheVariants as reported
use Rattle.report_line.specs.declared.report.Report.TheVariants.{Begin, Numbered}
use Rattle.report_line.specs.histories.History.{Name, status}
use Rattle.law_histories.specs.Example.{a, b, right, halves, told, forked}
use Rattle.law_admission.specs.HandedOver.{IsNext, HasLine}
use Rattle.law_histories.proofs.ExampleForms.{name_a, name_b, on_one, on_left, on_right, flat, halved}
use Rattle.law_admission.proofs.Example.{line}
use Rattle.law_histories.specs.Kept.{kept}
use Rattle.law_lines.specs.Runs.{Run, Accepts, epoch, current, accepted}
use Rattle.law_turns.specs.Traces.{Trace, Turned, IsSettledBy}
use Rattle.law_turns.specs.InOrder.{AllComeNext}
use Rattle.law_turns.specs.Example.{SettledOnceIsInOrder, ItsLastReportCanBeNext}
use Rattle.law_turns.proofs.Following.{one_settlement}
use Rattle.law_turns.proofs.Written.{check, show, fork, child_check, run2, run4, run5, run6, run7, run8, run10, from_line, from_child, from_fork, from_return, from_settlement, from_show, from_check, by_line}

-- ---- a turn more

told_next : (run : Run) (m : MarkedReport) (front : ℕ) (trace : Trace) → IsNext a (current run) (accepted run) m.report → AllComeNext a (Accepts m.epoch m.report ∷ run) trace
    → AllComeNext a run (Turned (calls.Report m) (Accepted front) ∷ trace)
told_next run m front trace comes rest = (comes, λ between adds. subst (λ (r : Run). AllComeNext a r trace) (sym adds) rest)

settled_next : (run later : Run) (front : ℕ) (names : List Name) (e now : ℕ) (trace : Trace) → IsSettledBy a run names later → AllComeNext a later trace
    → AllComeNext a run (Turned (calls.Settle front names) (Settled e now) ∷ trace)
settled_next run later front names e now trace by rest =
    (tt, λ between adds. subst (λ (r : Run). AllComeNext a r trace) (one_settlement a run names later between by adds) rest)

refused_next : (run : Run) (m : MarkedReport) (code : Code) (name : Option Name) (value : Option (List ℕ)) (trace : Trace) → AllComeNext a run trace
    → AllComeNext a run (Turned (calls.Report m) (No code name value) ∷ trace)
refused_next run m code name value trace rest = (tt, λ between adds. subst (λ (r : Run). AllComeNext a r trace) (sym adds) rest)

-- ---- each report comes next

begin_comes : IsNext a (current []) (accepted []) (Begin a)
unfolding current accepted
begin_comes = ([], refl)

check_comes : IsNext a (current run2) (accepted run2) (Numbered check)
unfolding epoch current accepted status
check_comes = ([], refl)

show_comes : IsNext a (current run4) (accepted run4) (Numbered show)
unfolding epoch current accepted status
show_comes = ([], refl)

fork_comes : IsNext a (current run8) (accepted run8) (Numbered fork)
unfolding epoch current accepted status kept
fork_comes = ([], refl)

child_comes : IsNext a (current run10) (accepted run10) (Numbered child_check)
unfolding epoch current accepted status kept
child_comes = ([], refl)

-- ---- the trace from each of its turns on

line_next : (run : Run) → AllComeNext a run from_line
line_next run = (tt, λ between adds. tt)

child_next : AllComeNext a run8 (Turned (calls.Report (record { epoch = 1; report = Numbered fork })) (Accepted 5) ∷ from_child)
child_next =
    told_next run8 (record { epoch = 1; report = Numbered fork }) 5 from_child fork_comes
    (told_next run10 (record { epoch = 1; report = Numbered child_check }) 6 from_line child_comes (line_next _))

return_next : AllComeNext a run6 from_return
return_next = refused_next run7 (record { epoch = 0; report = Numbered show }) OtherEpoch (Some a) (Some (decimal 1)) from_fork child_next

show_next : AllComeNext a run4 (Turned (calls.Report (record { epoch = 0; report = Numbered show })) (Accepted 3) ∷ from_settlement)
show_next = told_next run4 (record { epoch = 0; report = Numbered show }) 3 from_settlement show_comes (settled_next run5 run6 3 (a ∷ []) 1 4 from_return by_line return_next)

pub settled_once_is_in_order : SettledOnceIsInOrder
settled_once_is_in_order =
    told_next [] (record { epoch = 0; report = Begin a }) 1 from_check begin_comes
    (told_next run2 (record { epoch = 0; report = Numbered check }) 2 from_show check_comes show_next)

-- ---- the last report

its_lines : All HasLine (Begin a ∷ told a 1 One (Leaf 1) reported.Check ∷ told a 2 One (Leaf 2) (forked b) ∷ told b 1 right (halves 2 0 1) reported.Check ∷ [])
its_lines = All-from_recursion HasLine (Begin a ∷ told a 1 One (Leaf 1) reported.Check ∷ told a 2 One (Leaf 2) (forked b) ∷ told b 1 right (halves 2 0 1) reported.Check ∷ []) (
  (refl, name_a),
  (
    line a 1 One (Leaf 1) reported.Check name_a (omega arith, omega arith) on_one (flat 1 (omega arith)) tt,
    (
      line a 2 One (Leaf 2) (forked b) name_a (omega arith, omega arith) on_one (flat 2 (omega arith)) (on_left, name_b, on_right),
      (line b 1 right (halves 2 0 1) reported.Check name_b (omega arith, omega arith) on_right (halved 2 0 1 refl refl (omega arith)) tt, tt),
    ),
  ),
)

pub its_last_report_can_be_next : ItsLastReportCanBeNext
unfolding epoch current accepted status kept
its_last_report_can_be_next = (([], refl), (((tt, λ is. tt), λ is. tt), λ is. tt), its_lines)
