use Rattle.std.proofs.Common.{arith, List, [], ◌∷◌, map, ap, ◌∙◌, subst, Vec, Global, Err, ◌≡◌}
use Rattle.std.proofs.lemmas.Result.{err_from_is_err_and}
use Rattle.std.specs.Prelude.{Option, Some, All}
use Rattle.chains.specs.declared.position.Place.{Place}
use Rattle.chains.specs.Processes.{Name}
use Rattle.serde_json.specs.View.{view}
use Rattle.reasons.specs.CertificateReading.{NamedPlace, HasSmallPosition, place_data, place_named, IsNameKnown}
use Rattle.reasons.specs.working.Reading.{ReadsAs}
use Rattle.reasons.proofs.Taking.{taken_more, taken_all, taken_fails, each_alone}
use Rattle.reasons.proofs.reading.places_in.Goals as goal

pub loop-entry-preserved : goal.loop-entry-preserved
loop-entry-preserved c =
    rw c.in_ok-push.ensures.items (taken_more NamedPlace Place (Option NamedPlace) c.args.chains.now.accepted HasSmallPosition place_data (λ (x : NamedPlace). x.name ∷ []) (place_named c.args.chains.now.accepted) Some c.in-Some.list.now c.loop-entry.entry-index c.loop-entry.places.items c.in_ok-place.place c.entry-item.result c.loop-entry-test.true c.loop-entry.invariant
    (λ x is same. c.in_ok-place.ensures x is (ap view c.entry-item.is ∙ same)))

pub returns : goal.returns
returns c xs small same =
    let whole = taken_all NamedPlace Place (Option NamedPlace) c.args.chains.now.accepted HasSmallPosition place_data (λ (x : NamedPlace). x.name ∷ []) (place_named c.args.chains.now.accepted) Some _ c.in-Some.list.now c.loop-entry.entry-index c.loop-entry.places.items c.in-Some.ensures (omega (arith, c.loop-entry-test.false)) c.loop-entry.invariant xs small same in
    (subst (λ (ns : List Name). All (IsNameKnown c.args.chains.now.accepted) ns) (each_alone NamedPlace (λ (x : NamedPlace). x.name) xs) whole.0, whole.1)

pub returns-in_err-place : goal.returns-in_err-place
returns-in_err-place c xs small same =
    let p = err_from_is_err_and c.from_residual-in_err-place.result c.from_residual-in_err-place.ensures.1 in
    rw (p.1, p.2) (subst (λ (ns : List Name). ReadsAs {T = Vec Place Global} c.args.chains.now.accepted ns (λ (v : Vec Place Global). map (place_named c.args.chains.now.accepted) v.items ≡ map Some xs) (Err c.in_err-place.field-0.0)) (each_alone NamedPlace (λ (x : NamedPlace). x.name) xs) (
    taken_fails NamedPlace Place (Vec Place Global) (Option NamedPlace) c.args.chains.now.accepted HasSmallPosition place_data (λ (x : NamedPlace). x.name ∷ []) (place_named c.args.chains.now.accepted) Some (λ (v : Vec Place Global). map (place_named c.args.chains.now.accepted) v.items ≡ map Some xs) _ c.in-Some.list.now c.loop-entry.entry-index c.loop-entry.places.items c.in_err-place.field-0.0 c.entry-item.result c.in-Some.ensures c.loop-entry-test.true c.loop-entry.invariant
    (λ x is at. c.in_err-place.ensures x is (ap view c.entry-item.is ∙ at)) xs small same))
