-- No event of a process follows its retirement.
use Rattle.std.proofs.Common.{◌≡◌, ◌≢◌, ◌≤◌, ◌∷◌, length, sym, ◌∙◌, ap, subst, arith}
use Rattle.report_line.specs.declared.step.StepKind.{StepKind}
use Rattle.report_line.specs.declared.step.StepKind.TheVariants.{Retire}
use Rattle.report_line.specs.histories.History.{Name, History, Birth, Does, Event, event_of, Living, Retired, last_of, status_of_actor, status}
use Rattle.report_line.specs.histories.Lawful.{IsLawful, start, next}
use Rattle.report_line.specs.histories.Events.{Occurs, Edge, to_next, to_birth, to_receive, to_absorption, earlier, step, birth, IsInPast, same, along}
use Rattle.law_histories.proofs.Status.{status_acts, kept, acted, born, origin, held_occurs, is_born, number_within, sent_occurs}
use Rattle.law_histories.proofs.Steps.{fork_of}
use Rattle.law_histories.proofs.Chain.{first_occurs, old, stepped, child, entry}

kind_of : {d e : Event} → e ≡ d → e.kind ≡ d.kind
kind_of is = ap (λ (x : Event). x.kind) is

process_of : {d e : Event} → e ≡ d → e.process ≡ d.process
process_of is = ap (λ (x : Event). x.process) is

number_of : {d e : Event} → e ≡ d → e.number ≡ d.number
number_of is = ap (λ (x : Event). x.number) is

retires_then : (a : StepKind) (q : Name) (d b : Event) → Does a ≡ Does (Retire q) → status_of_actor a d ≡ Living b → ⊥
retires_then a q d b is lives =
    let action : a ≡ Retire q = cc in
    let both : Retired d q ≡ Living b = subst (λ (x : StepKind). status_of_actor x d ≡ Living b) action lives in
    cc

pub not_living : {root : Name} {h : History} → IsLawful root h → (e : Event) (q : Name) → Occurs root h e → e.kind ≡ Does (Retire q) → (b : Event) → status root h e.process ≢ Living b
not_living start e q occurs retires b lives = (let first = kind_of (first_occurs occurs) in let both : Birth ≡ Does (Retire q) = sym first ∙ retires in cc)
not_living {root} (next {h = h} {s = s} {before = before} lawful living allowed) e q occurs retires b lives =
    elim (entry occurs) [
      | old there ↦ elim (origin root h s e.process b (ap last_of lives)) [
        | kept differs absorbs as_before ↦ not_living lawful e q there retires b (sym as_before ∙ lives)
        | acted is event ↦ not_living lawful e q there retires before (ap (status root h) is ∙ living)
        | born {i = i} differs forks event lives' ↦ is_born there (fork_of root h before s e.process i allowed forks).new_name
      ]
      | stepped is ↦ retires_then s.step_kind q (event_of h s) b (sym (kind_of is) ∙ retires) (sym (status_acts root h s e.process (process_of is)) ∙ lives)
      | child {c = c} {i = i} forks is ↦ (let both : Birth ≡ Does (Retire q) = sym (kind_of is) ∙ retires in absurd (cc))
    ]

pub none_after : {root : Name} {h : History} → IsLawful root h → (e : Event) (q : Name) → Occurs root h e → e.kind ≡ Does (Retire q) → (b : Event) → Occurs root h b → b.process ≡ e.process → b.number ≤ e.number
none_after start e q occurs retires b occurs_b of_one = (let first = kind_of (first_occurs occurs) in let both : Birth ≡ Does (Retire q) = sym first ∙ retires in absurd (cc))
none_after {root} (next {h = h} {s = s} {before = before} lawful living allowed) e q occurs retires b occurs_b of_one =
    elim (entry occurs) [
      | old there ↦ elim (entry occurs_b) [
        | old there_b ↦ none_after lawful e q there retires b there_b of_one
        | stepped is ↦ absurd (not_living lawful e q there retires before (ap (status root h) (sym of_one ∙ process_of is) ∙ living))
        | child {c = c} {i = i} forks is ↦
            absurd (is_born there (ap (status root h) (sym of_one ∙ process_of is) ∙ (fork_of root h before s c i allowed forks).new_name))
      ]
      | stepped is ↦
          (let number : e.number ≡ length (s ∷ h) = number_of is in
          let within : b.number ≤ length (s ∷ h) = number_within occurs_b in
          omega arith)
      | child {c = c} {i = i} forks is ↦ (let both : Birth ≡ Does (Retire q) = sym (kind_of is) ∙ retires in absurd (cc))
    ]

-- ---- both ends of an edge occur, and numbers do not fall along it

pub from_occurs : {root : Name} {h : History} {a b : Event} → Edge root h a b → Occurs root h a
from_occurs {root} (to_next {h = h} {s = s} {last = e} lives) = Occurs.earlier (held_occurs root h s.process e (ap last_of lives))
from_occurs (to_birth forks) = step
from_occurs {root} (to_receive {h = h} {m = m} {sent = e} is sent) = Occurs.earlier (sent_occurs root h m e sent)
from_occurs {root} (to_absorption {h = h} {retired = r} {retirement = e} is retired) = Occurs.earlier (held_occurs root h r e (ap last_of retired))
from_occurs (earlier edge) = Occurs.earlier (from_occurs edge)

pub to_occurs : {root : Name} {h : History} {a b : Event} → Edge root h a b → Occurs root h b
to_occurs (to_next lives) = step
to_occurs (to_birth forks) = birth forks
to_occurs (to_receive is sent) = step
to_occurs (to_absorption is retired) = step
to_occurs (earlier edge) = Occurs.earlier (to_occurs edge)

pub edge_number : {root : Name} {h : History} {a b : Event} → Edge root h a b → a.number ≤ b.number
edge_number {root} (to_next {h = h} {s = s} {last = e} lives) = (let within : e.number ≤ length h = number_within (held_occurs root h s.process e (ap last_of lives)) in omega arith)
edge_number (to_birth forks) = omega arith
edge_number {root} (to_receive {h = h} {m = m} {sent = e} is sent) = (let within : e.number ≤ length h = number_within (sent_occurs root h m e sent) in omega arith)
edge_number {root} (to_absorption {h = h} {retired = r} {retirement = e} is retired) = (let within : e.number ≤ length h = number_within (held_occurs root h r e (ap last_of retired)) in omega arith)
edge_number (earlier edge) = edge_number edge

pub past_number : {root : Name} {h : History} {a b : Event} → IsInPast root h a b → a.number ≤ b.number
past_number same = omega arith
past_number {a = a} {b = c} (along {b = b} past edge) =
    let first : a.number ≤ b.number = past_number past in
    let last : b.number ≤ c.number = edge_number edge in
    omega arith

pub past_trans : {root : Name} {h : History} {a b c : Event} → IsInPast root h a b → IsInPast root h b c → IsInPast root h a c
past_trans first same = first
past_trans first (along past edge) = along (past_trans first past) edge
