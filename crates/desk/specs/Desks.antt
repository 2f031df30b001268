-- What a desk is seen as.
use Rattle.std.specs.Prelude.{List, ◌++◌}
use Rattle.record_file.specs.File.{Said}
use Rattle.chains.specs.Held.{Held}
use Rattle.desk.specs.declared.turn.Turn.{Turn}
use Rattle.desk.specs.Records.{recorded}

pub record DeskState (D : Type 0) : Type 0 where
  -- the accepted list with its epochs, the front, the present epoch, and whether the store is stopped
  pub held : Held
  -- what was held when it was opened or renewed
  pub opening : Held
  -- what the records said then
  pub found : List Said
  -- the calls since then, each with its receipt
  pub turns : List Turn
  -- where the record file is
  pub disk : D

-- what all records say: those that were found, and those of the turns since
abbrev pub records_of : {D : Type 0} → DeskState D → List Said
records_of desk = desk.found ++ recorded desk.turns
