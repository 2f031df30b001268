-- What is left of clients that are let go.
use Rattle.std.specs.Prelude.{ℕ}
use Rattle.client_link.specs.declared.leaving.Leaving.{Leaving}

-- how many bytes were read away
abbrev pub read_away_of : Leaving → ℕ
read_away_of leaving = leaving.away
