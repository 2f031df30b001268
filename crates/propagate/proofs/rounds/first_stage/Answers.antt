use Rattle.std.proofs.Common.{arith}
use Rattle.knows_row.proofs.Lasts.{first_lowered}
use Rattle.knows_row.proofs.Lawful.{lawful}
use Rattle.propagate.proofs.Staging.{first_standing}
use Rattle.propagate.proofs.rounds.first_stage.Goals as goal

pub returns-clause-standing : goal.returns-clause-standing
returns-clause-standing c =
    rw c.in_ok-cut.ensures.items
    (first_standing c.args.chains.now.accepted c.args.surviving_ranks.now c.in_ok-chain_ends.chain_ends.items c.in_ok-fell.fell.items c.requires.complete c.requires.within
    (omega (arith, c.in_ok-chain_ends.ensures.len, c.in_ok-chain_ends.chain_ends.ok.0)) c.in_ok-fell.ensures)

pub returns-clause-from : goal.returns-clause-from
returns-clause-from c =
    rw (c.in_ok-cut.ensures.items, c.in_ok-before.ensures)
    (first_lowered c.args.chains.now.accepted (lawful c.args.chains.now.accepted c.recall_lawful.ensures.folded) c.args.surviving_ranks.now c.requires.complete c.requires.within)
