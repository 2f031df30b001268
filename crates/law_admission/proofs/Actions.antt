-- The action that a kind of step is reported as.
use Rattle.std.proofs.Common.{◌≡◌, ◌≢◌, ◌+◌, true, false, Option, Some, None, refl, sym, ap, subst, arith}
use Rattle.std.specs.Option.{option_map}
use Rattle.std.proofs.lemmas.Bool.{true≢false}
use Rattle.std.proofs.lemmas.Option.{same_Some}
use Rattle.id_tree.specs.IdTree.{IdTree}
use Rattle.id_tree.specs.NormalForm.{IsNormal}
use Rattle.stamp.specs.declared.stamp.Stamp.{Stamp}
use Rattle.report_line.specs.Spelling.{IsAction, AreFields}
use Rattle.report_line.specs.declared.report.ReportKind.{ReportKind}
use Rattle.report_line.specs.declared.report.ReportKind.TheVariants as report_kinds
use Rattle.report_line.specs.declared.report.NumberedReport.{NumberedReport}
use Rattle.report_line.specs.declared.report.Report.TheVariants.{Numbered}
use Rattle.report_line.specs.declared.step.StepKind.{StepKind}
use Rattle.report_line.specs.declared.step.StepKind.TheVariants.{Work, Check, Present, Send, Receive, Fork, Retire, Absorb}
use Rattle.report_line.specs.declared.step.Step.{Step}
use Rattle.report_line.specs.histories.History.{Name, History, status}
use Rattle.report_line.specs.histories.StepReports.{is_reported, reporting_steps, id_of, report_by}
use Rattle.chains.specs.Processes.{child_of, absorbs, target_in, id_kept}
use Rattle.chains.proofs.Stepping.{some_name}
use Rattle.law_histories.proofs.Bytes.{bytes_are}

-- the action of a fork
abbrev pub fork_of : Step → Name → IdTree → ReportKind
fork_of s c i = report_kinds.Fork (record { kept = s.stamp.id; child = c; given = i })

-- the action that the kind of step of a step is reported as, if it is
abbrev pub reported : Step → StepKind → Option ReportKind
reported s Work = None
reported s Check = Some report_kinds.Check
reported s Present = Some report_kinds.Present
reported s (Send m) = None
reported s (Receive m) = None
reported s (Fork c i) = Some (fork_of s c i)
reported s (Retire q) = Some (report_kinds.Retire q)
reported s (Absorb r) = Some (report_kinds.Absorb r)

-- the id of the report's stamp
abbrev pub reported_id : Name → History → Step → StepKind → IdTree
reported_id root h s (Fork c i) = id_of (status root h s.process)
reported_id root h s _ = s.stamp.id

-- the report of the step with this id and action
abbrev pub report_with : History → Step → IdTree → ReportKind → NumberedReport
report_with h s id a = record { process = s.process; number = reporting_steps s.process h + 1; stamp = record { id = id; events = s.stamp.events }; action = a }

pub report_is : (root : Name) (h : History) (s : Step) (d : StepKind)
    → report_by root h s d ≡ option_map (λ a. Numbered (report_with h s (reported_id root h s d) a)) (reported s d)
report_is root h s Work = refl
report_is root h s Check = refl
report_is root h s Present = refl
report_is root h s (Send m) = refl
report_is root h s (Receive m) = refl
report_is root h s (Fork c i) = refl
report_is root h s (Retire q) = refl
report_is root h s (Absorb r) = refl

some_action : (x a : ReportKind) → Some x ≡ Some a → a ≡ x
some_action x a is = sym (same_Some x a is)

none_action : (a : ReportKind) → None ≢ Some a
none_action a is = cc

pub reported_is : (s : Step) (d : StepKind) (a : ReportKind) → reported s d ≡ Some a → is_reported d ≡ true
reported_is s d a is = grind arith

pub unreported : (s : Step) (d : StepKind) → reported s d ≡ None → is_reported d ≡ false
unreported s d is = grind arith

-- ---- the action is a fork, a retirement or an absorption just where the kind of step is

pub fork_fact : (s : Step) (d : StepKind) (a : ReportKind) (q : Name) (i : IdTree) → reported s d ≡ Some a → d ≡ Fork q i → a ≡ fork_of s q i
fork_fact s d a q i is forks = some_action (fork_of s q i) a (subst (λ (x : StepKind). reported s x ≡ Some a) forks is)

pub retire_fact : (s : Step) (d : StepKind) (a : ReportKind) (t : Name) → reported s d ≡ Some a → d ≡ Retire t → a ≡ report_kinds.Retire t
retire_fact s d a t is retires = some_action (report_kinds.Retire t) a (subst (λ (x : StepKind). reported s x ≡ Some a) retires is)

-- what holds of each kind of step with its action holds of these
by_step_kind : (P : StepKind → ReportKind → Type 0) (s : Step) → P Check report_kinds.Check → P Present report_kinds.Present
    → ((c : Name) (i : IdTree) → P (Fork c i) (fork_of s c i)) → ((q : Name) → P (Retire q) (report_kinds.Retire q)) → ((r : Name) → P (Absorb r) (report_kinds.Absorb r))
    → (d : StepKind) (a : ReportKind) → reported s d ≡ Some a → P d a
by_step_kind P s check present forks retires absorbs Work a is = absurd (none_action a is)
by_step_kind P s check present forks retires absorbs (Send m) a is = absurd (none_action a is)
by_step_kind P s check present forks retires absorbs (Receive m) a is = absurd (none_action a is)
by_step_kind P s check present forks retires absorbs Check a is = subst (P Check) (sym (some_action report_kinds.Check a is)) check
by_step_kind P s check present forks retires absorbs Present a is = subst (P Present) (sym (some_action report_kinds.Present a is)) present
by_step_kind P s check present forks retires absorbs (Fork c i) a is = subst (P (Fork c i)) (sym (some_action (fork_of s c i) a is)) (forks c i)
by_step_kind P s check present forks retires absorbs (Retire q) a is = subst (P (Retire q)) (sym (some_action (report_kinds.Retire q) a is)) (retires q)
by_step_kind P s check present forks retires absorbs (Absorb r) a is = subst (P (Absorb r)) (sym (some_action (report_kinds.Absorb r) a is)) (absorbs r)

none_name : {X : Type 0} (q : Name) → None ≡ Some q → X
none_name q is = absurd (cc)

pub child_fact : (s : Step) (d : StepKind) (a : ReportKind) (q : Name) → reported s d ≡ Some a → child_of a ≡ Some q → (i : IdTree) × (d ≡ Fork q i)
child_fact s d a q = by_step_kind (λ d a. child_of a ≡ Some q → (i : IdTree) × (d ≡ Fork q i)) s (none_name q) (none_name q)
    (λ c i is. (i, ap (λ (x : Name). Fork x i) (some_name c q is))) (λ t. none_name q) (λ r. none_name q) d a

false_true : {X : Type 0} → false ≡ true → X
false_true is = absurd (true≢false (sym is))

pub absorb_fact : (s : Step) (d : StepKind) (a : ReportKind) (q : Name) → reported s d ≡ Some a → absorbs q a ≡ true → d ≡ Absorb q
absorb_fact s d a q = by_step_kind (λ d a. absorbs q a ≡ true → d ≡ Absorb q) s false_true false_true
    (λ c i. false_true) (λ t. false_true) (λ r is. ap Absorb (sym (bytes_are q r is))) d a

pub no_target : (s : Step) (d : StepKind) (a : ReportKind) → reported s d ≡ Some a → ((u : Name) → d ≢ Retire u) → target_in a ≡ None
no_target s d a = by_step_kind (λ d a. ((u : Name) → d ≢ Retire u) → target_in a ≡ None) s (λ never. refl) (λ never. refl)
    (λ c i never. refl) (λ t never. absurd (never t refl)) (λ r never. refl) d a

-- ---- the id that is kept

-- it is that of the step
pub kept_is : (root : Name) (h : History) (s : Step) (d : StepKind) (a : ReportKind) (t : Stamp) → reported s d ≡ Some a → t.id ≡ reported_id root h s d → id_kept t a ≡ s.stamp.id
kept_is root h s d a t = by_step_kind (λ d a. t.id ≡ reported_id root h s d → id_kept t a ≡ s.stamp.id) s (λ is. is) (λ is. is) (λ c i is. refl) (λ q is. is) (λ r is. is) d a

-- it is in normal form where the report has a line
pub kept_normal : (r : NumberedReport) (a : ReportKind) → r.action ≡ a → AreFields r → IsNormal (id_kept r.stamp a)
kept_normal r report_kinds.Check is line = line.stamped.id.normal
kept_normal r report_kinds.Present is line = line.stamped.id.normal
kept_normal r (report_kinds.Fork f) is line = (subst IsAction is line.acted).0.normal
kept_normal r (report_kinds.Retire q) is line = line.stamped.id.normal
kept_normal r (report_kinds.Absorb q) is line = line.stamped.id.normal
