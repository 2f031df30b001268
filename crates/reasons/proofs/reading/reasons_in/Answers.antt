use Rattle.std.proofs.Common.{arith, List, map, ap, ◌∙◌, ◌≡◌}
use Rattle.std.proofs.lemmas.Result.{err_from_is_err_and}
use Rattle.std.specs.Prelude.{Option, Some, All}
use Rattle.chains.specs.declared.position.Place.{Place}
use Rattle.serde_json.specs.View.{view}
use Rattle.reasons.specs.CertificateReading.{NamedPlace, HasSmallPosition, places_data, place_named}
use Rattle.reasons.proofs.Taking.{taken_more, taken_all, taken_fails}
use Rattle.reasons.proofs.reading.reasons_in.Goals as goal

pub loop-entry-preserved : goal.loop-entry-preserved
loop-entry-preserved c =
    rw (c.in_ok-push.ensures.ok, c.from_vec.ensures) (taken_more (List NamedPlace) (List Place) (List (Option NamedPlace)) c.args.chains.now.accepted (All HasSmallPosition) places_data (λ (chain : List NamedPlace). map (λ (x : NamedPlace). x.name) chain) (λ (chain : List Place). map (place_named c.args.chains.now.accepted) chain) (λ (chain : List NamedPlace). map Some chain) c.in-Some.list.now c.loop-entry.entry-index c.loop-entry.reasons c.in_ok-chain.chain.items c.entry-item.result c.loop-entry-test.true c.loop-entry.invariant
    (λ x is same. c.in_ok-chain.ensures x is (ap view c.entry-item.is ∙ same)))

pub returns : goal.returns
returns c xs small same =
    let whole = taken_all (List NamedPlace) (List Place) (List (Option NamedPlace)) c.args.chains.now.accepted (All HasSmallPosition) places_data (λ (chain : List NamedPlace). map (λ (x : NamedPlace). x.name) chain) (λ (chain : List Place). map (place_named c.args.chains.now.accepted) chain) (λ (chain : List NamedPlace). map Some chain) _ c.in-Some.list.now c.loop-entry.entry-index c.loop-entry.reasons c.in-Some.ensures (omega (arith, c.loop-entry-test.false)) c.loop-entry.invariant xs small same in
    whole

pub returns-in_err-chain : goal.returns-in_err-chain
returns-in_err-chain c xs small same =
    let p = err_from_is_err_and c.from_residual.result c.from_residual.ensures.1 in
    rw (p.1, p.2) (taken_fails (List NamedPlace) (List Place) (List (List Place)) (List (Option NamedPlace)) c.args.chains.now.accepted (All HasSmallPosition) places_data (λ (chain : List NamedPlace). map (λ (x : NamedPlace). x.name) chain) (λ (chain : List Place). map (place_named c.args.chains.now.accepted) chain) (λ (chain : List NamedPlace). map Some chain) (λ (v : List (List Place)). map (λ (chain : List Place). map (place_named c.args.chains.now.accepted) chain) v ≡ map (λ (chain : List NamedPlace). map Some chain) xs) _ c.in-Some.list.now c.loop-entry.entry-index c.loop-entry.reasons c.in_err-chain.field-0.0 c.entry-item.result c.in-Some.ensures c.loop-entry-test.true c.loop-entry.invariant
    (λ x is at. c.in_err-chain.ensures x is (ap view c.entry-item.is ∙ at)) xs small same)
