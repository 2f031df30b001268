use Rattle.session.proofs.Places.{comes_reachable, comes_reached, front_stays}
use Rattle.session.proofs.laws.exchanges_keep_lists.Goals as goal

pub returns-clause-folded : goal.returns-clause-folded
returns-clause-folded c = comes_reached

pub returns-clause-reachable : goal.returns-clause-reachable
returns-clause-reachable c = comes_reachable

pub returns-clause-front : goal.returns-clause-front
returns-clause-front c = front_stays
