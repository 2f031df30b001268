use Rattle.std.proofs.Common.{◌≢◌, All, take}
use Rattle.report_line.specs.histories.History.{Unborn, status}
use Rattle.driver.specs.working.Tables.{history_in}
use Rattle.driver.proofs.settling.has_born.Given as goal

abbrev pub invariant-loop-x : goal.invariant-loop-x
invariant-loop-x l = All (λ x. status l.tables.root (history_in l.tables) x.name ≢ Unborn) (take l.x-index l.line)
