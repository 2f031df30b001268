use Rattle.std.proofs.Common.{◌≢◌, All, take}
use Rattle.report_line.specs.histories.History.{Unborn, status}
use Rattle.driver.specs.working.Tables.{history_in}
use Rattle.driver.proofs.settling.are_born.Given as goal

abbrev pub invariant-loop-name : goal.invariant-loop-name
invariant-loop-name l = All (λ p. status l.tables.root (history_in l.tables) p ≢ Unborn) (take l.name-index l.names)
