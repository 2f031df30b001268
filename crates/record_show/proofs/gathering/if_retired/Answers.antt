use Rattle.std.proofs.lemmas.Option.{slice_get_within}
use Rattle.chains.specs.Processes.{known}
use Rattle.record_show.proofs.Lost.{unknown_lives, it_lives}
use Rattle.record_show.proofs.gathering.if_retired.Goals as goal

pub returns-in_default : goal.returns-in_default
returns-in_default c = unknown_lives c.args.chains.now.accepted c.args.name.now c.recall_lawful.ensures.folded c.in_default.ensures

pub target_of-requires : goal.target_of-requires
target_of-requires c = slice_get_within (known c.args.chains.now.accepted) c.in-Some.number c.args.name.now c.in-Some.ensures

pub returns-in-None : goal.returns-in-None
returns-in-None c = it_lives c.args.chains.now.accepted c.args.name.now (c.in-None.ensures c.args.name.now c.in-Some.ensures)
