use Rattle.std.proofs.Common.{length, refl, ap, ◌∙◌, arith}
use Rattle.knows_row.proofs.Lasts.{lasts_len, count_none, count_first}
use Rattle.knows_row.proofs.by_runs.unknown_to.Goals as goal

pub bounds-lasts-process : goal.bounds-lasts-process
bounds-lasts-process c = omega (arith, c.requires.process, ap length c.requires.lasts, lasts_len c.args.chains.now.accepted)

pub first_known-requires-clause-complete : goal.first_known-requires-clause-complete
first_known-requires-clause-complete c = ap length c.requires.lasts ∙ lasts_len c.args.chains.now.accepted

pub first_known-requires-clause-process : goal.first_known-requires-clause-process
first_known-requires-clause-process c = omega (arith, c.requires.process, ap length c.requires.lasts, lasts_len c.args.chains.now.accepted)

pub returns-in-None : goal.returns-in-None
returns-in-None c = count_none c.args.chains.now.accepted c.args.process _ c.args.lasts.now c.args.all.now c.requires.process c.requires.lasts c.requires.all refl c.count.result c.count.ensures c.in-None.ensures

pub returns-in-Some : goal.returns-in-Some
returns-in-Some c = count_first c.args.chains.now.accepted c.args.process _ c.args.lasts.now c.args.all.now c.requires.process c.requires.lasts c.requires.all refl c.in-Some.first c.in-Some.ensures.1
