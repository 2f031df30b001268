use Rattle.std.proofs.Common.{arith, ℕ, List, [], ◌∷◌, map, ap, ◌∙◌, subst, Vec, Global, Err, ◌≡◌}
use Rattle.std.proofs.lemmas.Result.{err_from_is_err_and}
use Rattle.std.specs.Prelude.{Option, Some, All}
use Rattle.chains.specs.Elements.{name_of}
use Rattle.chains.specs.Processes.{Name}
use Rattle.serde_json.specs.Data.{string}
use Rattle.serde_json.specs.View.{view}
use Rattle.reasons.specs.CertificateReading.{IsNameKnown}
use Rattle.reasons.specs.working.Reading.{AnyName, ReadsAs}
use Rattle.reasons.proofs.Taking.{taken_more, taken_all, taken_fails, each_alone, map_itself}
use Rattle.reasons.proofs.reading.numbers_in.Goals as goal

pub loop-name-preserved : goal.loop-name-preserved
loop-name-preserved c =
    rw c.in_ok-push.ensures.items (taken_more Name ℕ (Option Name) c.args.chains.now.accepted AnyName string (λ (x : Name). x ∷ []) (name_of c.args.chains.now.accepted) Some c.in-Some.list.now c.loop-name.name-index c.loop-name.numbers.items c.in_ok-number.number c.name-item.result c.loop-name-test.true c.loop-name.invariant
    (λ x is same. c.in_ok-number.ensures x (ap view c.name-item.is ∙ same)))

pub returns : goal.returns
returns c xs same =
    let whole = taken_all Name ℕ (Option Name) c.args.chains.now.accepted AnyName string (λ (x : Name). x ∷ []) (name_of c.args.chains.now.accepted) Some _ c.in-Some.list.now c.loop-name.name-index c.loop-name.numbers.items c.in-Some.ensures (omega (arith, c.loop-name-test.false)) c.loop-name.invariant xs (λ k d l. tt) same in
    (subst (λ (ns : List Name). All (IsNameKnown c.args.chains.now.accepted) ns) (each_alone Name (λ (x : Name). x) xs ∙ map_itself Name xs) whole.0, whole.1)

pub returns-in_err-number : goal.returns-in_err-number
returns-in_err-number c xs same =
    let p = err_from_is_err_and c.from_residual-in_err-number.result c.from_residual-in_err-number.ensures.1 in
    rw (p.1, p.2) (subst (λ (ns : List Name). ReadsAs {T = Vec ℕ Global} c.args.chains.now.accepted ns (λ (v : Vec ℕ Global). map (name_of c.args.chains.now.accepted) v.items ≡ map Some xs) (Err c.in_err-number.field-0.0)) (each_alone Name (λ (x : Name). x) xs ∙ map_itself Name xs) (
    taken_fails Name ℕ (Vec ℕ Global) (Option Name) c.args.chains.now.accepted AnyName string (λ (x : Name). x ∷ []) (name_of c.args.chains.now.accepted) Some (λ (v : Vec ℕ Global). map (name_of c.args.chains.now.accepted) v.items ≡ map Some xs) _ c.in-Some.list.now c.loop-name.name-index c.loop-name.numbers.items c.in_err-number.field-0.0 c.name-item.result c.in-Some.ensures c.loop-name-test.true c.loop-name.invariant
    (λ x is at. c.in_err-number.ensures x (ap view c.name-item.is ∙ at)) xs (λ k d l. tt) same))
