use Rattle.std.specs.Prelude.{List, All}
use Rattle.reasons.specs.CertificateReading.{NamedPlace, HasSmallPosition, places_data}
use Rattle.reasons.proofs.InLists.{EachStands}
use Rattle.reasons.proofs.shape.are_chains.Given as goal

abbrev pub invariant-loop-chain : goal.invariant-loop-chain
invariant-loop-chain l = EachStands (List NamedPlace) (All HasSmallPosition) places_data l.list l.chain-index
