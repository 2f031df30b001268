-- The clauses are proved in `Following`.
use Rattle.law_turns.proofs.Following.{turns_make_a_run, the_run_is_obeyed, the_run_is_one, from_nothing, headline_of_turns}
use Rattle.law_turns.proofs.turns_make_an_obeyed_run.Goals as goal

pub returns-clause-possible : goal.returns-clause-possible
returns-clause-possible c = turns_make_a_run

pub returns-clause-obeyed : goal.returns-clause-obeyed
returns-clause-obeyed c = the_run_is_obeyed

pub returns-clause-one : goal.returns-clause-one
returns-clause-one c = the_run_is_one

pub returns-clause-from_nothing : goal.returns-clause-from_nothing
returns-clause-from_nothing c = from_nothing

pub returns-clause-headline : goal.returns-clause-headline
returns-clause-headline c = headline_of_turns
