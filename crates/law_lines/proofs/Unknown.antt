-- Processes that the accepted list does not know: a fork that is not accepted is in the past of their events.
use Rattle.std.proofs.Common.{◌≡◌, ◌≤◌, Some, List, [], ◌∷◌, refl, sym, ◌∙◌, ap, subst, ◌⊎◌, inl, inr, arith}
use Rattle.std.specs.Prelude.{Contains}
use Rattle.std.proofs.lemmas.List.Elements.{Contains-append_left, Contains-push}
use Rattle.id_tree.specs.IdTree.{IdTree}
use Rattle.report_line.specs.declared.report.Forked.{Forked}
use Rattle.report_line.specs.declared.report.ReportKind.TheVariants as reported
use Rattle.report_line.specs.declared.report.NumberedReport.{NumberedReport}
use Rattle.report_line.specs.declared.report.Report.{Report}
use Rattle.report_line.specs.declared.report.Report.TheVariants.{Begin, Numbered}
use Rattle.chains.specs.Processes.{child_of, newborn, known, IsKnown}
use Rattle.chains.specs.Folded.{IsFolded, nothing_folded, one_folded}
use Rattle.chains.proofs.Certain.{known_or_not}
use Rattle.report_line.specs.declared.step.StepKind.TheVariants.{Fork}
use Rattle.report_line.specs.declared.step.Step.{Step}
use Rattle.report_line.specs.histories.History.{Name, History, Birth, Does, Event, event_of, last_of}
use Rattle.report_line.specs.histories.Lawful.{IsLawful, start, next}
use Rattle.report_line.specs.histories.Events.{Occurs, step, earlier, to_next, to_birth, IsInPast, same, along}
use Rattle.report_line.specs.histories.StepReports.{report_by, IsReportOf, newest, earlier as before_step}
use Rattle.chains.specs.Agrees.{Agrees}
use Rattle.law_lines.proofs.Listed.{in_made, in_at}
use Rattle.law_histories.proofs.Status.{held_occurs, held_process}
use Rattle.law_histories.proofs.Chain.{first_occurs, old, stepped, child, entry, past_earlier}
use Rattle.law_histories.proofs.Later.{birth_first}
use Rattle.law_lines.proofs.Agreeing.{accepted_before}
use Rattle.law_lines.proofs.Placed.{IsAccepted}

process_of : {d e : Event} → e ≡ d → e.process ≡ d.process
process_of is = ap (λ (x : Event). x.process) is

kind_of : {d e : Event} → e ≡ d → e.kind ≡ d.kind
kind_of is = ap (λ (x : Event). x.kind) is

-- ---- the root is known

pub begun : (accepted : List Report) → IsFolded accepted → (p : Name) → IsKnown accepted p → (q : Name) × Contains accepted (Begin q)
begun _ nothing_folded p there = (let lt = there.1 in absurd (omega arith))
begun _ (one_folded before (Begin q) folded fit) p there = (q, Contains-push before (Begin q))
begun _ (one_folded before (Numbered r) folded fit) p there =
    let w = begun before folded r.process fit.is_known in
    (w.0, Contains-append_left before (Numbered r ∷ []) (Begin w.0) w.1)

-- who is born by an accepted report is known
pub known_by : (accepted : List Report) (r : Report) (p : Name) → Contains accepted r → newborn r ≡ Some p → IsKnown accepted p
known_by accepted r p at is = (let w = in_made newborn accepted r p at is in in_at (known accepted) w.0 p w.1)

pub root_known : (root : Name) (h : History) (accepted : List Report) → IsFolded accepted → Agrees root h accepted → (p : Name) → IsKnown accepted p → IsKnown accepted root
root_known root h accepted folded agrees p there =
    let w = begun accepted folded p there in
    known_by accepted (Begin w.0) root w.1 (ap Some (agrees.begins w.0 w.1))

-- ---- a fork that is not accepted

-- a fork of a known process, whose child is not known, in the past of the event
pub record IsAhead (root : Name) (h : History) (accepted : List Report) (a : Event) : Type 0 where
  pub fork : Event
  pub child : Name
  pub given : IdTree
  pub occurs : Occurs root h fork
  pub kind : fork.kind ≡ Does (Fork child given)
  pub unknown : ¬ IsKnown accepted child
  pub parent : IsKnown accepted fork.process
  pub in_past : IsInPast root h fork a

ahead_earlier : (root : Name) (h : History) (s : Step) (accepted : List Report) (a : Event) → IsAhead root h accepted a → IsAhead root (s ∷ h) accepted a
ahead_earlier root h s accepted a w = record {
  fork = w.fork;
  child = w.child;
  given = w.given;
  occurs = earlier w.occurs;
  kind = w.kind;
  unknown = w.unknown;
  parent = w.parent;
  in_past = past_earlier w.in_past;
}

pub known_or_ahead : {root : Name} {h : History} → IsLawful root h → (accepted : List Report) → IsKnown accepted root → (a : Event) → Occurs root h a → IsKnown accepted a.process ⊎ IsAhead root h accepted a
known_or_ahead start accepted of_root a occurs = inl (subst (IsKnown accepted) (sym (process_of (first_occurs occurs))) of_root)
known_or_ahead {root} (next {h = h} {s = s} {before = b} lawful living allowed) accepted of_root a occurs =
    let last : IsKnown accepted b.process ⊎ IsAhead root h accepted b = known_or_ahead lawful accepted of_root b (held_occurs root h s.process b (ap last_of living)) in
    let own : b.process ≡ s.process = held_process root h s.process b (ap last_of living) in
    elim (entry occurs) [
      | old there ↦ elim (known_or_ahead lawful accepted of_root a there) [
        | inl is_known ↦ inl is_known
        | inr ahead ↦ inr (ahead_earlier root h s accepted a ahead)
      ]
      | stepped is ↦ elim last [
        | inl is_known ↦ inl (subst (IsKnown accepted) (own ∙ sym (process_of is)) is_known)
        | inr ahead ↦ inr (record {
          fork = ahead.fork;
          child = ahead.child;
          given = ahead.given;
          occurs = earlier ahead.occurs;
          kind = ahead.kind;
          unknown = ahead.unknown;
          parent = ahead.parent;
          in_past = subst (IsInPast root (s ∷ h) ahead.fork) (sym is) (along (past_earlier ahead.in_past) (to_next living));
        })
      ]
      | child {c = c} {i = i} forks is ↦ elim (known_or_not accepted c) [
        | inl is_known ↦ inl (subst (IsKnown accepted) (sym (process_of is)) is_known)
        | inr unknown ↦ elim last [
          | inl is_known ↦ inr (record {
            fork = event_of h s;
            child = c;
            given = i;
            occurs = step;
            kind = ap Does forks;
            unknown = unknown;
            parent = subst (IsKnown accepted) own is_known;
            in_past = subst (IsInPast root (s ∷ h) (event_of h s)) (sym is) (along same (to_birth forks));
          })
          | inr ahead ↦ inr (record {
            fork = ahead.fork;
            child = ahead.child;
            given = ahead.given;
            occurs = earlier ahead.occurs;
            kind = ahead.kind;
            unknown = ahead.unknown;
            parent = ahead.parent;
            in_past = subst (IsInPast root (s ∷ h) ahead.fork) (sym is) (along (along (past_earlier ahead.in_past) (to_next living)) (to_birth forks));
          })
        ]
      ]
    ]

-- ---- a fork up to an accepted event is accepted

pub record IsForkReport (root : Name) (h : History) (w : Event) (c : Name) : Type 0 where
  pub report : NumberedReport
  pub of_process : report.process ≡ w.process
  pub forked : Forked
  pub forks : report.action ≡ reported.Fork forked
  pub is_child : forked.child ≡ c
  pub is_report : IsReportOf root h (Numbered report) w

pub fork_report : (root : Name) (h : History) (w : Event) (c : Name) (i : IdTree) → Occurs root h w → w.kind ≡ Does (Fork c i) → IsForkReport root h w c
fork_report root [] w c i occurs kind = (let both : Birth ≡ Does (Fork c i) = sym (kind_of (first_occurs occurs)) ∙ kind in absurd (cc))
fork_report root (s ∷ h) w c i occurs kind =
    elim (entry occurs) [
      | old there ↦
          (let r = fork_report root h w c i there kind in
          record { report = r.report; of_process = r.of_process; forked = r.forked; forks = r.forks; is_child = r.is_child; is_report = before_step r.is_report })
      | stepped is ↦
          (let both : Does s.step_kind ≡ Does (Fork c i) = sym (kind_of is) ∙ kind in
          let forks : s.step_kind ≡ Fork c i = cc in
          let r : IsForkReport root (s ∷ h) (event_of h s) c =
          record { report = _; of_process = refl; forked = _; forks = refl; is_child = refl; is_report = newest (ap (report_by root h s) forks) } in
          subst (λ (e : Event). IsForkReport root (s ∷ h) e c) (sym is) r)
      | child {c = d} {i = j} forks is ↦ (let both : Birth ≡ Does (Fork c i) = sym (kind_of is) ∙ kind in absurd (cc))
    ]

-- with an accepted event, or a birth, each fork up to it is accepted: so its child is known
pub child_known : (root : Name) (h : History) (accepted : List Report) → IsLawful root h → Agrees root h accepted → (w e : Event) (c : Name) (i : IdTree)
    → Occurs root h w → w.kind ≡ Does (Fork c i) → Occurs root h e → w.process ≡ e.process → (e.kind ≡ Birth) ⊎ IsAccepted root h accepted e.process e → w.number ≤ e.number
    → IsKnown accepted c
child_known root h accepted lawful agrees w e c i occurs kind occurs_e of_one (inl is_birth) le =
    elim (birth_first lawful e w occurs_e occurs is_birth of_one) [
      | inl is ↦ (let both : Birth ≡ Does (Fork c i) = sym is_birth ∙ (sym (kind_of is) ∙ kind) in absurd (cc))
      | inr less ↦ absurd (omega arith)
    ]
child_known root h accepted lawful agrees w e c i occurs kind occurs_e of_one (inr is_accepted) le =
    let r = fork_report root h w c i occurs kind in
    let same : is_accepted.0.process ≡ r.report.process = is_accepted.1 ∙ (sym of_one ∙ sym r.of_process) in
    let there = accepted_before root h accepted r.report is_accepted.0 w e agrees same is_accepted.2 is_accepted.3 r.is_report le in
    known_by accepted (Numbered r.report) c there (ap child_of r.forks ∙ ap Some r.is_child)
