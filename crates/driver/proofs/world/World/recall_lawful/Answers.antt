use Rattle.std.proofs.Common.{subst}
use Rattle.law_lines.specs.Places.{IsPremise}
use Rattle.driver.specs.Chronicle.{Chronicle}
use Rattle.driver.specs.Lines.{reported}
use Rattle.driver.specs.working.Tables.{history_in}
use Rattle.driver.proofs.Folds.{premise_of}
use Rattle.driver.proofs.world.World.recall_lawful.Goals as goal

pub returns-clause-premise : goal.returns-clause-premise
returns-clause-premise c =
    let sound = c.self.invariant in
    subst (λ (w : Chronicle). IsPremise w.root w.history (reported w)) c.self.view_is
    (premise_of c.self.inside.tables.root (history_in c.self.inside.tables) (record { lawful = sound.lawful; lines = sound.lines }))
