use Rattle.std.proofs.Common.{[], ◌∷◌}
use Rattle.std.specs.Prelude.{Option, Some}
use Rattle.chains.specs.declared.position.Place.{Place}
use Rattle.reasons.specs.CertificateReading.{NamedPlace, HasSmallPosition, place_data, place_named}
use Rattle.reasons.proofs.Taking.{TakenSoFar}
use Rattle.reasons.proofs.reading.places_in.Given as goal

abbrev pub invariant-loop-entry : goal.invariant-loop-entry
invariant-loop-entry l = TakenSoFar NamedPlace Place (Option NamedPlace) l.chains.accepted HasSmallPosition place_data (λ (x : NamedPlace). x.name ∷ []) (place_named l.chains.accepted) Some l.list l.entry-index l.places.items
