-- The line that a call gives is that of the report of its step.
use Rattle.std.proofs.Common.{◌≡◌, ℕ, ◌+◌, ◌<◌, Option, Some, None, List, [], ◌∷◌, ◌++◌, inl, inr, refl, sym, ◌∙◌, ap, subst}
use Rattle.std.specs.Prelude.{Contains}
use Rattle.std.specs.List.{cons_option}
use Rattle.id_tree.specs.IdTree.{IdTree}
use Rattle.stamp.specs.declared.stamp.Stamp.{Stamp}
use Rattle.law_lines.proofs.Listed.{in_cases, none_in}
use Rattle.report_line.specs.declared.call.Call.TheVariants as calls
use Rattle.report_line.specs.declared.marked.MarkedReport.{MarkedReport}
use Rattle.report_line.specs.declared.report.ReportKind.{ReportKind}
use Rattle.report_line.specs.declared.report.ReportKind.TheVariants as actions
use Rattle.report_line.specs.declared.report.Report.{Report}
use Rattle.report_line.specs.declared.report.Report.TheVariants.{Numbered}
use Rattle.report_line.specs.declared.step.StepKind.{StepKind}
use Rattle.report_line.specs.declared.step.StepKind.TheVariants as step_kinds
use Rattle.report_line.specs.histories.History.{Name, History, status}
use Rattle.report_line.specs.Reading.{Spells}
use Rattle.report_line.specs.histories.StepReports.{id_of, step_report, report_of}
use Rattle.report_line.proofs.OneCall.{one_call}
use Rattle.law_lines.specs.Runs.{Run, Made, epoch, current, IsMarkedReport, of_current, of_left_behind}
use Rattle.process.specs.declared.process.Process.{Process}
use Rattle.process.specs.Steps.{next_report}
use Rattle.law_process.specs.Accounts.{Act, Work, Send, Again, Receive, Check, Present, Fork, Begin, Retire, Absorb, Return, Doing, DoesSo, step_kind_of}
use Rattle.law_process.specs.Handing.{Past, HasLine}
use Rattle.law_process.specs.Obeying.{line_given, AreLinesOf}
use Rattle.law_process.specs.EachCall.{LivesAs, step_of, IsReportLine}
use Rattle.law_process.proofs.CallKinds.{OnStepKind}

-- ---- each call tells its report

numbered_is : (root : Name) (h : History) (old new : Process) (step_kind : StepKind) (i : IdTree) (action : ReportKind) → LivesAs root h old
    → step_report h (step_of old step_kind new) i action ≡ next_report old (record { id = i; events = new.stamp.events }) action
numbered_is root h old new step_kind i action w =
    ap (λ (k : ℕ). Numbered (record { process = old.name; number = k + 1; stamp = record { id = i; events = new.stamp.events }; action = action })) (sym w.reports)

pub tells : (root : Name) (h : History) (n : ℕ) (a : Act) (old new : Process) → DoesSo a old new → LivesAs root h old
    → OnStepKind (step_kind_of n a) (λ step_kind. IsReportLine old.epoch (report_of root h (step_of old step_kind new)) (line_given a))
tells root h n Work old new does w = refl
tells root h n (Send m) old new does w = refl
tells root h n (Again from sent m) old new does w = tt
tells root h n (Receive from m) old new does w = refl
tells root h n (Check line) old new does w =
    (next_report old new.stamp actions.Check, ap (λ (r : Report). Some r) (numbered_is root h old new step_kinds.Check new.stamp.id actions.Check w), does.reported)
tells root h n (Present line) old new does w =
    (next_report old new.stamp actions.Present, ap (λ (r : Report). Some r) (numbered_is root h old new step_kinds.Present new.stamp.id actions.Present w), does.reported)
tells root h n (Fork s line) old new does w =
    let action = actions.Fork (record { kept = new.stamp.id; child = s.child; given = s.stamp.id }) in
    let step_kind = step_kinds.Fork s.child s.stamp.id in
    let before : id_of (status root h old.name) ≡ old.stamp.id = ap id_of w.lives ∙ ap (λ (t : Stamp). t.id) w.stamp in (
      next_report old (record { id = old.stamp.id; events = new.stamp.events }) action,
      ap (λ (i : IdTree). Some (step_report h (step_of old step_kind new) i action)) before ∙ ap (λ (r : Report). Some r) (numbered_is root h old new step_kind old.stamp.id action w),
      does.reported,
    )
tells root h n (Begin from s) old new does w = tt
tells root h n (Retire target r line) old new does w =
    let action = actions.Retire target in (
      next_report old new.stamp action,
      ap (λ (x : Report). Some x) (numbered_is root h old new (step_kinds.Retire target) new.stamp.id action w),
      subst (λ (t : Stamp). Spells (calls.Report (record { epoch = old.epoch; report = next_report old t action })) line) (sym (ap (λ (p : Process). p.stamp) does.1)) does.0.reported,
    )
tells root h n (Absorb from r line) old new does w =
    let action = actions.Absorb r.process in
    (next_report old new.stamp action, ap (λ (x : Report). Some x) (numbered_is root h old new (step_kinds.Absorb r.process) new.stamp.id action w), does.reported)
tells root h n (Return now) old new does w = tt

-- who makes no step tells nothing
pub silent : (n : ℕ) (a : Act) → step_kind_of n a ≡ None → line_given a ≡ []
silent n Work is = absurd (cc)
silent n (Send m) is = absurd (cc)
silent n (Again from sent m) is = refl
silent n (Receive from m) is = absurd (cc)
silent n (Check line) is = absurd (cc)
silent n (Present line) is = absurd (cc)
silent n (Fork s line) is = absurd (cc)
silent n (Begin from s) is = refl
silent n (Retire target r line) is = absurd (cc)
silent n (Absorb from r line) is = absurd (cc)
silent n (Return now) is = refl

-- ---- the reports of lines that were given

line_is : (a : Act) (line : List ℕ) → HasLine a line → line_given a ≡ line ∷ []
line_is (Check given) line is = ap (λ (l : List ℕ). l ∷ []) (sym is)
line_is (Present given) line is = ap (λ (l : List ℕ). l ∷ []) (sym is)
line_is (Fork s given) line is = ap (λ (l : List ℕ). l ∷ []) (sym is)
line_is (Retire target r given) line is = ap (λ (l : List ℕ). l ∷ []) (sym is)
line_is (Absorb from r given) line is = ap (λ (l : List ℕ). l ∷ []) (sym is)
line_is Work line is = absurd is
line_is (Send m) line is = absurd is
line_is (Again from sent m) line is = absurd is
line_is (Receive from m) line is = absurd is
line_is (Begin from s) line is = absurd is
line_is (Return now) line is = absurd is

-- a line is read as one report
same_marked : (m k : MarkedReport) → calls.Report m ≡ calls.Report k → m ≡ k
same_marked m k is = cc

one_report : (m k : MarkedReport) (line : List ℕ) → Spells (calls.Report m) line → Spells (calls.Report k) line → m ≡ k
one_report m k line first second = same_marked m k (one_call (calls.Report m) (calls.Report k) first.0 second.0 (sym first.1 ∙ second.1))

-- the line of a call has the epoch of its process
epoch_told : (a : Act) (old new : Process) (line : List ℕ) → DoesSo a old new → HasLine a line
    → (r : Report) × Spells (calls.Report (record { epoch = old.epoch; report = r })) line
epoch_told (Check given) old new line does is =
    let r = next_report old new.stamp actions.Check in
    (r, subst (λ (l : List ℕ). Spells (calls.Report (record { epoch = old.epoch; report = r })) l) (sym is) does.reported)
epoch_told (Present given) old new line does is =
    let r = next_report old new.stamp actions.Present in
    (r, subst (λ (l : List ℕ). Spells (calls.Report (record { epoch = old.epoch; report = r })) l) (sym is) does.reported)
epoch_told (Fork s given) old new line does is =
    let r = next_report old (record { id = old.stamp.id; events = new.stamp.events }) (actions.Fork (record { kept = new.stamp.id; child = s.child; given = s.stamp.id })) in
    (r, subst (λ (l : List ℕ). Spells (calls.Report (record { epoch = old.epoch; report = r })) l) (sym is) does.reported)
epoch_told (Retire target q given) old new line does is =
    let r = next_report old q.stamp (actions.Retire target) in
    (r, subst (λ (l : List ℕ). Spells (calls.Report (record { epoch = old.epoch; report = r })) l) (sym is) does.0.reported)
epoch_told (Absorb from q given) old new line does is =
    let r = next_report old new.stamp (actions.Absorb q.process) in
    (r, subst (λ (l : List ℕ). Spells (calls.Report (record { epoch = old.epoch; report = r })) l) (sym is) does.reported)
epoch_told Work old new line does is = absurd is
epoch_told (Send m) old new line does is = absurd is
epoch_told (Again from sent m) old new line does is = absurd is
epoch_told (Receive from m) old new line does is = absurd is
epoch_told (Begin from s) old new line does is = absurd is
epoch_told (Return now) old new line does is = absurd is

-- Each line that was given is that of a report of the run, with its mark.
abbrev pub AreMarked : Name → Run → Past → Type 0
AreMarked root run past =
    (d : Doing) (line : List ℕ) (m : MarkedReport) → Contains past d → HasLine d.act line → Spells (calls.Report m) line → IsMarkedReport root run m.epoch m.report

pub first_marked : (root : Name) (run : Run) → AreMarked root run []
first_marked root run d line m at has spells = absurd (none_in d at)

-- with one call more: of its line it has to be shown alone
abbrev pub IsMarkedNow : Name → Run → Act → Type 0
IsMarkedNow root run a = (line : List ℕ) (m : MarkedReport) → HasLine a line → Spells (calls.Report m) line → IsMarkedReport root run m.epoch m.report

pub marked_more : (root : Name) (run later : Run) (past : Past) (d : Doing) → AreMarked root run past
    → ((mark : ℕ) (r : Report) → IsMarkedReport root run mark r → IsMarkedReport root later mark r) → IsMarkedNow root later d.act → AreMarked root later (d ∷ past)
marked_more root run later past d marked keeps now x line m at has spells =
    elim (in_cases d x past at) [
      | inl same ↦ now line m (subst (λ (y : Doing). HasLine y.act line) (sym same) has) spells
      | inr before ↦ keeps m.epoch m.report (marked x line m before has spells)
    ]

pub marked_silent : (root : Name) (run : Run) (n : ℕ) (a : Act) → step_kind_of n a ≡ None → IsMarkedNow root run a
marked_silent root run n a none line m has spells = (let both : line ∷ [] ≡ [] = sym (line_is a line has) ∙ silent n a none in absurd (cc))

pub marked_left : (root : Name) (run : Run) (a : Act) (old new : Process) (step_kind : StepKind) → DoesSo a old new → old.epoch < epoch run
    → IsMarkedNow root (Made old.epoch (step_of old step_kind new) ∷ run) a
marked_left root run a old new step_kind does less line m has spells =
    let w = epoch_told a old new line does has in
    subst (λ (k : MarkedReport). IsMarkedReport root (Made old.epoch (step_of old step_kind new) ∷ run) k.epoch k.report)
    (sym (one_report m (record { epoch = old.epoch; report = w.0 }) line spells w.1)) (of_left_behind less)

pub marked_now : (root : Name) (run : Run) (a : Act) (old new : Process) (step_kind : StepKind) → old.epoch ≡ epoch run
    → IsReportLine old.epoch (report_of root (current run) (step_of old step_kind new)) (line_given a) → IsMarkedNow root (Made old.epoch (step_of old step_kind new) ∷ run) a
marked_now root run a old new step_kind now told line m has spells =
    let s = step_of old step_kind new in
    let w : IsReportLine old.epoch (report_of root (current run) s) (line ∷ []) = subst (IsReportLine old.epoch (report_of root (current run) s)) (line_is a line has) told in
    subst (λ (k : MarkedReport). IsMarkedReport root (Made old.epoch s ∷ run) k.epoch k.report)
    (sym (one_report m (record { epoch = old.epoch; report = w.0 }) line spells w.2))
    (subst (λ (k : ℕ). IsMarkedReport root (Made k s ∷ run) k w.0) (sym now) (of_current w.1))

-- ---- lists of lines

pub lines_more : (o : Option Report) (given lines : List (List ℕ)) (rest : List Report) → IsReportLine 0 o given → AreLinesOf lines rest
    → AreLinesOf (given ++ lines) (cons_option o [] ++ rest)
lines_more o [] lines rest told are = subst (λ (p : Option Report). AreLinesOf lines (cons_option p [] ++ rest)) (sym told) are
lines_more o (line ∷ []) lines rest told are =
    subst (λ (p : Option Report). AreLinesOf (line ∷ lines) (cons_option p [] ++ rest)) (sym told.1) (told.2, are)
lines_more o (line ∷ other ∷ more) lines rest told are = absurd told
