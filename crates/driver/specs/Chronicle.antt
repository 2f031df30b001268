-- What a world is seen as.
use Rattle.std.specs.Prelude.{ℕ}
use Rattle.report_line.specs.histories.History.{Name, History}

-- the root, the present epoch (how many settlements there were), and the history
pub record Chronicle : Type 0 where
  pub root : Name
  pub epoch : ℕ
  pub history : History
