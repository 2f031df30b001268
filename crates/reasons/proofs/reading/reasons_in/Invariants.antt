use Rattle.std.proofs.Common.{List, map}
use Rattle.std.specs.Prelude.{Option, Some, All}
use Rattle.chains.specs.declared.position.Place.{Place}
use Rattle.reasons.specs.CertificateReading.{NamedPlace, HasSmallPosition, places_data, place_named}
use Rattle.reasons.proofs.Taking.{TakenSoFar}
use Rattle.reasons.proofs.reading.reasons_in.Given as goal

abbrev pub invariant-loop-entry : goal.invariant-loop-entry
invariant-loop-entry l = TakenSoFar (List NamedPlace) (List Place) (List (Option NamedPlace)) l.chains.accepted (All HasSmallPosition) places_data (λ (chain : List NamedPlace). map (λ (x : NamedPlace). x.name) chain) (λ (chain : List Place). map (place_named l.chains.accepted) chain) (λ (chain : List NamedPlace). map Some chain) l.list l.entry-index l.reasons
