-- The history with every kind of step can be reported.
use Rattle.std.proofs.Common.{◌≡◌, ℕ, All, refl, sym, subst, arith}
use Rattle.std.specs.Prelude.{Contains, drop, IsTrue}
use Rattle.std.proofs.lemmas.List.Elements.{All-from_recursion, All-weaker, All-contains_itself}
use Rattle.id_tree.specs.IdTree.{IdTree, One}
use Rattle.id_tree.specs.NormalForm.{IsId}
use Rattle.event_tree.specs.EventTree.{EventTree, Leaf}
use Rattle.event_tree.specs.NormalForm.{IsEvents}
use Rattle.report_line.specs.declared.report.ReportKind.{ReportKind}
use Rattle.report_line.specs.declared.report.ReportKind.TheVariants as report_kinds
use Rattle.report_line.specs.declared.report.Report.{Report}
use Rattle.report_line.specs.declared.step.StepKind.TheVariants.{Retire}
use Rattle.report_line.specs.declared.step.Step.{Step}
use Rattle.report_line.specs.Names.{is_letter, is_name_byte, is_name}
use Rattle.report_line.specs.Spelling.{IsCount, IsAction}
use Rattle.report_line.specs.histories.History.{Name, status}
use Rattle.report_line.specs.histories.Lawful.{IsLawful, next}
use Rattle.law_histories.specs.Example.{a, b, c, d, left, right, halves, act, every_step, told, forked}
use Rattle.law_histories.proofs.Example.{below, every_step_is_lawful}
use Rattle.law_histories.proofs.ExampleForms.{name_a, name_b, on_one, on_left, on_right, flat, halved}
use Rattle.law_admission.specs.HandedOver.{handed_over, HasLine, IsTargetBorn, IsReportable}
use Rattle.law_admission.specs.Example.{reported_steps, its_reports}
use Rattle.law_admission.proofs.Changes.{living_not_unborn}
use Rattle.law_admission.proofs.Next.{before_last}
use Rattle.law_histories.proofs.Rules.{last_step}

pub gives_these : handed_over a reported_steps ≡ its_reports
unfolding status
gives_these = refl

-- ---- lines

name_c : IsTrue (is_name c)
unfolding is_letter is_name_byte is_name
name_c = refl

pub line : (p : Name) (n : ℕ) (i : IdTree) (e : EventTree) (x : ReportKind) → IsTrue (is_name p) → IsCount n → IsId i → IsEvents e → IsAction x → HasLine (told p n i e x)
line p n i e x name count id events action = (omega arith, record { name = name; count = count; stamped = record { id = id; events = events }; acted = action })

lines : All HasLine its_reports
lines = All-from_recursion HasLine its_reports (
  (refl, name_a),
  (
    line a 1 One (Leaf 1) (forked b) name_a (omega arith, omega arith) on_one (flat 1 (omega arith)) (on_left, name_b, on_right),
    (
      line b 1 right (halves 1 0 1) report_kinds.Check name_b (omega arith, omega arith) on_right (halved 1 0 1 refl refl (omega arith)) tt,
      (
        line a 2 left (halves 3 2 0) report_kinds.Present name_a (omega arith, omega arith) on_left (halved 3 2 0 refl refl (omega arith)) tt,
        (
          line b 2 right (halves 1 0 4) (report_kinds.Retire a) name_b (omega arith, omega arith) on_right (halved 1 0 4 refl refl (omega arith)) name_a,
          (
            line a 3 One (halves 5 1 0) (report_kinds.Absorb b) name_a (omega arith, omega arith) on_one (halved 5 1 0 refl refl (omega arith)) name_b,
            (
              line a 4 One (Leaf 7) (forked c) name_a (omega arith, omega arith) on_one (flat 7 (omega arith)) (on_left, name_c, on_right),
              (
                line a 5 left (halves 7 1 0) report_kinds.Check name_a (omega arith, omega arith) on_left (halved 7 1 0 refl refl (omega arith)) tt,
                (line c 1 right (halves 7 0 1) (report_kinds.Retire a) name_c (omega arith, omega arith) on_right (halved 7 0 1 refl refl (omega arith)) name_a, tt),
              ),
            ),
          ),
        ),
      ),
    ),
  ),
)

-- ---- targets and rules

target_born : (r : Report) → IsTargetBorn a reported_steps r
unfolding status
target_born r = (((((((((((((tt, λ is. tt), λ is. tt), λ is. tt), λ is. tt), λ is. tt), λ is. tt), λ is. tt), λ is. tt), λ is. living_not_unborn _), λ is. tt), λ is. tt), λ is. tt), λ is. living_not_unborn _)

pub targets : All (IsTargetBorn a reported_steps) its_reports
targets = All-weaker (Contains its_reports) (IsTargetBorn a reported_steps) (λ r at. target_born r) its_reports (All-contains_itself its_reports)

abbrev last : Step
last = act c (Retire d) right (halves 7 0 1)

lawful : IsLawful a reported_steps
lawful =
    let asks = last_step every_step_is_lawful last (drop 1 every_step) refl in
    next (before_last every_step_is_lawful last (drop 1 every_step) refl) asks.1 (record { same_id = asks.2.0.same_id; grown = asks.2.0.grown }, below 97 99 (omega arith))

pub can_be_reported : IsReportable a reported_steps
can_be_reported = record { lawful = lawful; lines = subst (All HasLine) (sym gives_these) lines }
