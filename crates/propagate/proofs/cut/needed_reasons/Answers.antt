use Rattle.std.proofs.Common.{◌≡◌, ◌<◌, ap, sym, ◌∙◌, arith, refl, length, get_or, []}
use Rattle.std.specs.Prelude.{slice_index}
use Rattle.std.proofs.lemmas.Grind.{get_or_default_zero}
use Rattle.propagate.specs.working.Stages.{chains_at}
use Rattle.std.proofs.lemmas.List.{length-map}
use Rattle.propagate.proofs.Cutting.{due_more, due_same, due_done, chain_at}
use Rattle.propagate.proofs.cut.needed_reasons.Goals.{then-index-surviving_ranks+in_ok-chain+in_ok-push, else-index-surviving_ranks}
use Rattle.propagate.proofs.cut.needed_reasons.Goals as goal

pub loop-i-init : goal.loop-i-init
loop-i-init c = rw c.new-reasons.ensures refl

pub chain-requires : goal.chain-requires
chain-requires c =
    let cut = c.args.stage.now.cut.items in
    let chain_ends = c.args.stage.now.chain_ends.items in
    let cin : c.loop-i.i < length cut = omega (arith, c.loop-i-test.true, c.requires.surviving_ranks) in
    let below : slice_index cut c.loop-i.i < slice_index c.args.surviving_ranks.now c.loop-i.i = omega (arith, c.if-index-surviving_ranks.true, c.index.ensures, get_or_default_zero cut c.loop-i.i c.index.result.now cin) in
    omega (
      arith,
      c.requires.there c.loop-i.i cin below,
      c.index-then-index-surviving_ranks.ensures,
      get_or_default_zero chain_ends c.loop-i.i c.index-then-index-surviving_ranks.result.now (omega (arith, cin, c.requires.chain_ends)),
    )

pub loop-i-preserved : goal.loop-i-preserved
loop-i-preserved c =
    let surviving_ranks = c.args.surviving_ranks.now in
    let cut = c.args.stage.now.cut.items in
    let chain_ends = c.args.stage.now.chain_ends.items in
    let arena = c.args.arena.now in
    let i = c.loop-i.i in
    let cin : i < length cut = omega (arith, c.loop-i-test.true, c.requires.surviving_ranks) in
    let hin : i < length chain_ends = omega (arith, cin, c.requires.chain_ends) in
    let kept : i < length (chains_at arena chain_ends) = omega (arith, hin, length-map chain_ends (λ h. get_or arena h [])) in
    let rank : c.index.result.now ≡ slice_index cut i = c.index.ensures ∙ get_or_default_zero cut i c.index.result.now cin in
    elim c.if-index-surviving_ranks.branch [
      | then-index-surviving_ranks+in_ok-chain+in_ok-push w ↦
          let head : w.index-then-index-surviving_ranks.result.now ≡ slice_index chain_ends i = w.index-then-index-surviving_ranks.ensures ∙ get_or_default_zero chain_ends i w.index-then-index-surviving_ranks.result.now hin in
          let chain : w.in_ok-chain.chain ≡ get_or (chains_at arena chain_ends) i [] = w.in_ok-chain.ensures ∙ ap (λ h. get_or arena h []) head ∙ sym (chain_at arena chain_ends i hin) in
          rw (w.reasons-is, w.in_ok-push.ensures.ok) (due_more surviving_ranks cut (chains_at arena chain_ends) c.loop-i.reasons i w.in_ok-chain.chain c.loop-i-test.true cin kept (omega (arith, rank, w.if-index-surviving_ranks.true)) chain c.loop-i.invariant)
      | else-index-surviving_ranks w ↦ rw w.reasons-is (due_same surviving_ranks cut (chains_at arena chain_ends) c.loop-i.reasons i c.loop-i-test.true cin kept (omega (arith, rank, w.if-index-surviving_ranks.false)) c.loop-i.invariant)
    ]

pub returns : goal.returns
returns c = due_done c.args.surviving_ranks.now c.args.stage.now.cut.items (chains_at c.args.arena.now c.args.stage.now.chain_ends.items) c.loop-i.reasons c.loop-i.i c.loop-i-test.false c.loop-i.invariant
