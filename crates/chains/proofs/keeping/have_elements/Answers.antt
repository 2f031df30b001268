use Rattle.std.proofs.Common.{refl, sym, subst, arith, below_more}
use Rattle.std.proofs.lemmas.Bool.{true≢false}
use Rattle.std.proofs.lemmas.List.{length-map}
use Rattle.std.proofs.lemmas.Option.{slice_get_within}
use Rattle.chains.specs.declared.position.Place.{Place}
use Rattle.chains.specs.declared.position.Position.{Position}
use Rattle.chains.specs.Processes.{known}
use Rattle.chains.specs.Positions.{position_in, positions_of}
use Rattle.chains.specs.working.Settling.{HasElementsTo}
use Rattle.chains.proofs.Lists.{refuted}
use Rattle.chains.proofs.LineElements.{position_there, chosen_there}
use Rattle.chains.proofs.keeping.have_elements.Goals as goal

pub has_elements_to-requires-clause-chosen : goal.has_elements_to-requires-clause-chosen
has_elements_to-requires-clause-chosen c = chosen_there c.args.chains.now.accepted c.args.line.now c.loop-i.i c.requires c.loop-i-test.true

pub returns-then-not-has_elements_to : goal.returns-then-not-has_elements_to
returns-then-not-has_elements_to c = (
  λ e. absurd (true≢false (sym e)),
  λ have. absurd (refuted c.has_elements_to.result c.has_elements_to.ensures c.if-not-has_elements_to.true
      (subst (λ (k : Position). HasElementsTo c.args.chains.now.accepted c.loop-i.i k c.args.kept.now.accepted) (position_there c.args.line.now c.loop-i.i c.loop-i-test.true) (have c.loop-i.i))),
)

pub loop-i-preserved : goal.loop-i-preserved
loop-i-preserved c =
    let accepted = c.args.chains.now.accepted in
    let kept = c.args.kept.now.accepted in
    below_more (λ j. HasElementsTo accepted j (position_in (positions_of c.args.line.now) j) kept) c.loop-i.i c.loop-i.invariant
    (subst (λ (k : Position). HasElementsTo accepted c.loop-i.i k kept) (sym (position_there c.args.line.now c.loop-i.i c.loop-i-test.true)) (c.has_elements_to.ensures.0 c.if-not-has_elements_to.false))

pub returns : goal.returns
returns c = (
  λ _ i p named.
      let within = slice_get_within (known c.args.chains.now.accepted) i p named in
      c.loop-i.invariant i (omega (arith, c.loop-i-test.false, c.requires.complete, length-map c.args.line.now (λ (x : Place). x.position))) p named,
  λ _. refl,
)
