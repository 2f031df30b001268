-- How the logic stores reason chains.
use Rattle.std.specs.Prelude.{List}
use Rattle.std.specs.Coded.{Coded, coded_list}
use Rattle.chains.specs.declared.position.Place.{Place}
use Rattle.chains.specs.working.Codes.{place_code}

abbrev pub reasons_code : Coded (List (List Place))
reasons_code = coded_list (coded_list place_code)
