use Rattle.std.proofs.Common.{sym, arith}
use Rattle.std.proofs.lemmas.Bool.{true≢false}
use Rattle.knows_row.proofs.Lawful.{lawful}
use Rattle.propagate.proofs.Staging.{below_last}
use Rattle.propagate.proofs.Lowering.{look_clear}
use Rattle.propagate.proofs.falls.closer.Goals as goal

pub returns-then-not-knows_one : goal.returns-then-not-knows_one
returns-then-not-knows_one c =
    let s = c.requires.standing in
    let accepted = c.args.chains.now.accepted in
    let cut = c.args.stage.now.cut.items in
    let fell = c.args.stage.now.fell.items in
    let b = c.loop-high.invariant.0 in
    record {
      order = c.next_look-low.ensures;
      within = b.within;
      clear =
          look_clear accepted fell cut c.args.process c.next_look-low.result (lawful accepted c.recall_lawful.ensures.folded) s.clear c.requires.process
          (below_last accepted c.args.surviving_ranks.now cut c.args.stage.now.chain_ends.items fell s c.args.process c.requires.process)
          (omega (arith, c.next_look-low.ensures, b.within)) (λ one. true≢false (sym (c.if-not-knows_one.ensures.1 one)));
      known = b.known;
    }
