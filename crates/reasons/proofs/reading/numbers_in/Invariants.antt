use Rattle.std.proofs.Common.{ℕ, [], ◌∷◌}
use Rattle.std.specs.Prelude.{Option, Some}
use Rattle.chains.specs.Elements.{name_of}
use Rattle.chains.specs.Processes.{Name}
use Rattle.serde_json.specs.Data.{string}
use Rattle.reasons.specs.working.Reading.{AnyName}
use Rattle.reasons.proofs.Taking.{TakenSoFar}
use Rattle.reasons.proofs.reading.numbers_in.Given as goal

abbrev pub invariant-loop-name : goal.invariant-loop-name
invariant-loop-name l = TakenSoFar Name ℕ (Option Name) l.chains.accepted AnyName string (λ (x : Name). x ∷ []) (name_of l.chains.accepted) Some l.list l.name-index l.numbers.items
