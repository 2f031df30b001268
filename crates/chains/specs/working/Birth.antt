-- Working definitions: what a report that passed all tests is kept as.
use Rattle.std.specs.Prelude.{◌≡◌, ◌≢◌, ◌<◌, [], None, vec_capacity}
use Rattle.chains.specs.declared.prepared.Ready.TheInside.{Inside}
use Rattle.chains.specs.Processes.{newborn}
use Rattle.chains.specs.Ready.{ReadyReport}

abbrev pub ready_in : Inside → ReadyReport
ready_in a = record { report = a.report; process = a.process }

-- there is room for the first element of a process that is born
pub record HasBirthRoom (a : Inside) : Type 0 where
  pub empty : a.stable.items ≡ []
  pub room : newborn a.report.report ≢ None → 0 < vec_capacity a.stable
