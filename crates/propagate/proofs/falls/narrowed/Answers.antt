use Rattle.std.proofs.Common.{◌≡◌, ◌+◌, ◌-◌, ℕ, refl, sym, subst, arith}
use Rattle.knows_row.specs.Looks.{KnowsOne}
use Rattle.propagate.specs.working.Ranks.{IsClearRank}
use Rattle.std.proofs.lemmas.Bool.{true≢false}
use Rattle.knows_row.proofs.Lawful.{lawful}
use Rattle.propagate.proofs.Staging.{below_last}
use Rattle.propagate.proofs.Lowering.{look_clear}
use Rattle.propagate.proofs.falls.narrowed.Goals as goal

pub returns-then-not-knows_one : goal.returns-then-not-knows_one
returns-then-not-knows_one c =
    let s = c.requires.standing in
    let accepted = c.args.chains.now.accepted in
    let cut = c.args.stage.now.cut.items in
    let fell = c.args.stage.now.fell.items in
    let b = c.loop-below.invariant.0 in
    record {
      order = omega arith;
      within = b.within;
      clear =
          look_clear accepted fell cut c.args.process _ (lawful accepted c.recall_lawful.ensures.folded) s.clear c.requires.process
          (below_last accepted c.args.surviving_ranks.now cut c.args.stage.now.chain_ends.items fell s c.args.process c.requires.process)
          (omega (arith, b.within)) (λ one. true≢false (sym (c.if-not-knows_one.ensures.1 one)));
      known = b.known;
    }

pub loop-below-preserved : goal.loop-below-preserved
loop-below-preserved c =
    let b = c.loop-below.invariant.0 in
    let back : c.loop-below.below ≡ c.loop-below.below - 1 + 1 = omega (arith, c.loop-below-test.true) in (
      record {
        order = omega (arith, c.loop-below-test.true);
        within = omega (arith, b.within, c.loop-below-test.true);
        clear = b.clear;
        known = subst (λ (r : ℕ). KnowsOne c.args.chains.now.accepted c.args.stage.now.fell.items c.args.stage.now.cut.items c.args.process r) back (c.if-not-knows_one.ensures.0 refl);
      },
      omega (arith, c.loop-below-test.true),
    )

pub returns : goal.returns
returns c =
    let b = c.loop-below.invariant.0 in
    let same : c.args.wide.low ≡ c.loop-below.below = omega (arith, c.loop-below.invariant.1, c.loop-below-test.false) in
    record {
      order = omega arith;
      within = b.within;
      clear = subst (λ (r : ℕ). IsClearRank c.args.chains.now.accepted c.args.stage.now.cut.items c.args.process r) same b.clear;
      known = b.known;
    }
