-- Working definitions: a world's tables, as they are seen.
use Rattle.driver.specs.Chronicle.{Chronicle}
use Rattle.driver.specs.declared.tables.Tables.{Tables}
use Rattle.driver.specs.working.Tables.{history_in}

abbrev pub chronicle_in : Tables → Chronicle
chronicle_in t = record { root = t.root; epoch = t.epoch; history = history_in t }
