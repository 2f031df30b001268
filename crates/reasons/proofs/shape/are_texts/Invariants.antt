use Rattle.chains.specs.Processes.{Name}
use Rattle.serde_json.specs.Data.{string}
use Rattle.reasons.specs.working.Reading.{AnyName}
use Rattle.reasons.proofs.InLists.{EachStands}
use Rattle.reasons.proofs.shape.are_texts.Given as goal

abbrev pub invariant-loop-name : goal.invariant-loop-name
invariant-loop-name l = EachStands Name AnyName string l.list l.name-index
