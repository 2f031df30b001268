use Rattle.desk.proofs.LawfulTurns.{turns_of_histories}
use Rattle.desk.proofs.desk.Desk.recall_lawful.Goals as goal

pub returns-clause-of_histories : goal.returns-clause-of_histories
returns-clause-of_histories g c = rw (← c.self.view_is) (turns_of_histories _ _ _ c.self.invariant.0.goes c.self.invariant.0.replays)
