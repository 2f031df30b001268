-- The clauses are proved in `Placed` and `Ordered`.
use Rattle.law_lines.proofs.Placed.{element_event}
use Rattle.law_lines.proofs.Ordered.{one_event, retirement_event}
use Rattle.law_lines.proofs.Closing.{place_source, in_strict_order}
use Rattle.law_lines.proofs.law.places_have_events.Goals as goal

pub returns-clause-element : goal.returns-clause-element
returns-clause-element c root h accepted premise p k s is = element_event root h accepted premise.agrees p k s is

pub returns-clause-retirement : goal.returns-clause-retirement
returns-clause-retirement c root h accepted premise p is = let w = retirement_event root h accepted premise.agrees p is in (w.0, w.1, w.2)

pub returns-clause-one : goal.returns-clause-one
returns-clause-one c root h accepted premise x d e at_d at_e = one_event root h accepted premise.lawful x d e at_d at_e

pub returns-clause-in_order : goal.returns-clause-in_order
returns-clause-in_order c root h accepted premise p j k d e less at_d at_e = in_strict_order root h accepted premise p j k d e less at_d at_e

pub returns-clause-reported : goal.returns-clause-reported
returns-clause-reported c root h accepted premise p k e at = place_source root h accepted premise p k e at
