use Rattle.std.proofs.Common.{◌≡◌, ◌+◌, length, refl, sym, ◌∙◌, arith}
use Rattle.std.specs.Prelude.{slice_index}
use Rattle.std.proofs.lemmas.Bool.{true≢false}
use Rattle.std.proofs.lemmas.List.{get_or_default}
use Rattle.knows_row.proofs.Lawful.{lawful}
use Rattle.propagate.proofs.Staging.{below_last}
use Rattle.knows_row.proofs.Thresholding.{all_contained}
use Rattle.propagate.proofs.Lowering.{look_clear, next_below, clear_stays}
use Rattle.propagate.proofs.falls.next_rank.Goals as goal

pub returns-then-not-knows_one-clause-rank : goal.returns-then-not-knows_one-clause-rank
returns-then-not-knows_one-clause-rank c =
    let s = c.requires.standing in
    let accepted = c.args.chains.now.accepted in
    let cut = c.args.stage.now.cut.items in
    let fell = c.args.stage.now.fell.items in
    let p = c.args.process in
    let here : c.index-rank.result.now ≡ slice_index cut p = c.index-rank.ensures ∙ get_or_default cut p c.index-rank.result.now 0 c.requires.process in
    let top = below_last accepted c.args.surviving_ranks.now cut c.args.stage.now.chain_ends.items fell s p c.requires.process in
    clear_stays accepted cut p c.index-rank.result.now here
    (rw here at (look_clear accepted fell cut p c.index-rank.result.now (lawful accepted c.recall_lawful.ensures.folded) s.clear c.requires.process top (omega (arith, here)) (λ one. true≢false (sym (c.if-not-knows_one.ensures.1 one)))))

pub returns-clause-rank : goal.returns-clause-rank
returns-clause-rank c =
    let s = c.requires.standing in
    let accepted = c.args.chains.now.accepted in
    let cut = c.args.stage.now.cut.items in
    let fell = c.args.stage.now.fell.items in
    next_below accepted fell cut c.args.process (c.narrowed.result + 1) (lawful accepted c.recall_lawful.ensures.folded) s.clear c.requires.process
    (below_last accepted c.args.surviving_ranks.now cut c.args.stage.now.chain_ends.items fell s c.args.process c.requires.process)
    (all_contained fell (length cut) s.fallen) (record { low = c.narrowed.result; high = c.narrowed.result + 1 }) refl refl c.narrowed.ensures
