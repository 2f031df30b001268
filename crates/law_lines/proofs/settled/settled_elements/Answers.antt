-- The clauses are proved in `Elements` and `Standing`.
use Rattle.law_lines.proofs.Elements.{settled_elements}
use Rattle.law_lines.proofs.Standing.{settled_known, settled_retired}
use Rattle.law_lines.proofs.settled.settled_elements.Goals as goal

pub returns-clause-elements : goal.returns-clause-elements
returns-clause-elements c = settled_elements

pub returns-clause-known : goal.returns-clause-known
returns-clause-known c = settled_known

pub returns-clause-retired : goal.returns-clause-retired
returns-clause-retired c = settled_retired
