use Rattle.std.proofs.Common.{◌≡◌, ◌<◌, ◌∙◌, arith}
use Rattle.std.specs.Prelude.{slice_index}
use Rattle.std.proofs.lemmas.List.{get_or_default}
use Rattle.knows_row.proofs.Lawful.{lawful}
use Rattle.propagate.proofs.Staging.{below_last}
use Rattle.propagate.proofs.Lowering.{cause_of}
use Rattle.propagate.proofs.falls.lower.Goals as goal

pub returns-clause-cause : goal.returns-clause-cause
returns-clause-cause c =
    let s = c.requires.standing in
    let accepted = c.args.chains.now.accepted in
    let cut = c.args.stage.now.cut.items in
    let fell = c.args.stage.now.fell.items in
    let p = c.args.process in
    let r = c.next_rank-rank.result in
    let here : c.index-2.result.now ≡ slice_index cut p = c.index-2.ensures ∙ get_or_default cut p c.index-2.result.now 0 c.requires.process in
    let lower : r < slice_index cut p = omega (arith, c.next_rank-rank.ensures.rank.before, c.if-rank-index.false, here) in
    cause_of accepted fell cut p r (lawful accepted c.recall_lawful.ensures.folded) s.clear c.requires.process
    (below_last accepted c.args.surviving_ranks.now cut c.args.stage.now.chain_ends.items fell s p c.requires.process) lower (c.next_rank-rank.ensures.known lower) c.first_known-cause.result c.first_known-cause.ensures
