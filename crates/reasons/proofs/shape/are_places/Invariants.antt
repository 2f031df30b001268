use Rattle.reasons.specs.CertificateReading.{NamedPlace, HasSmallPosition, place_data}
use Rattle.reasons.proofs.InLists.{EachStands}
use Rattle.reasons.proofs.shape.are_places.Given as goal

abbrev pub invariant-loop-place : goal.invariant-loop-place
invariant-loop-place l = EachStands NamedPlace HasSmallPosition place_data l.list l.place-index
