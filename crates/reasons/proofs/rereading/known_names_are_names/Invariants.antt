use Rattle.std.proofs.Common.{◌≡◌, ℕ, ◌<◌, Some, IsTrue}
use Rattle.report_line.specs.Names.{is_name}
use Rattle.chains.specs.Processes.{Name}
use Rattle.chains.specs.Elements.{name_of}
use Rattle.reasons.proofs.rereading.known_names_are_names.Given as goal

abbrev pub invariant-loop-process : goal.invariant-loop-process
invariant-loop-process l = (p : ℕ) (name : Name) → p < l.process → name_of l.chains.accepted p ≡ Some name → IsTrue (is_name name)
