-- A process that lives, and one whose retirement waits for it.
use Rattle.std.proofs.Common.{◌≡◌, List, Option, Some, None, sym, ap, ◌∙◌}
use Rattle.std.proofs.lemmas.Bool.{false_from_ne_true}
use Rattle.id_tree.specs.Points.{AreDisjoint}
use Rattle.report_line.specs.declared.report.Report.{Report}
use Rattle.chains.specs.Processes.{Name, IsKnown, registered_id, target_after, target_of, is_absorbed, Waits}
use Rattle.chains.specs.Folded.{IsFolded}
use Rattle.chains.specs.Laws.{ArePartsOfAll}
use Rattle.chains.proofs.Reaching.{well_made}

some_other : (o : Option Name) (q : Name) → o ≡ None → o ≡ Some q → ⊥
some_other o q e f = let g = sym e ∙ f in cc

-- their ids are disjoint
pub apart : (accepted : List Report) (p r : Name) → IsFolded accepted → ArePartsOfAll accepted → IsKnown accepted p → IsKnown accepted r → target_of p accepted ≡ None → Waits accepted r p → AreDisjoint (registered_id p accepted) (registered_id r accepted)
apart accepted p r folded parts known_p known_r lives waits =
    parts.disjoint p r (record { is_known = known_p; unabsorbed = false_from_ne_true (is_absorbed p accepted) (λ e. (well_made accepted folded).retired p e lives) }) (record { is_known = known_r; unabsorbed = waits.1 }) (λ e. some_other (target_of p accepted) p lives (ap (λ (x : Name). target_of x accepted) e ∙ waits.0))

-- nothing waits of a process that is not known
pub unknown_waits : (accepted : List Report) (r q : Name) → IsFolded accepted → ¬ IsKnown accepted r → ¬ Waits accepted r q
unknown_waits accepted r q folded unknown waits = some_other (target_of r accepted) q (ap target_after ((well_made accepted folded).unreported r unknown)) waits.0
