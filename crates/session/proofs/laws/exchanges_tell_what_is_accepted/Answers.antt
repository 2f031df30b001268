use Rattle.session.proofs.Places.{comes_once, served_comes, comes_before}
use Rattle.session.proofs.laws.exchanges_tell_what_is_accepted.Goals as goal

pub returns-clause-comes : goal.returns-clause-comes
returns-clause-comes c = served_comes

pub returns-clause-one : goal.returns-clause-one
returns-clause-one c = comes_once

pub returns-clause-places : goal.returns-clause-places
returns-clause-places c = comes_before
