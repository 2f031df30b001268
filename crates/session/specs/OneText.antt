-- Runs of which the calls tell all that is shown.
use Rattle.std.specs.Prelude.{◌≢◌, List}
use Rattle.std.specs.List.{AllByRecursion}
use Rattle.chains.specs.Held.{Held}
use Rattle.chains.specs.Turns.{no_memory}
use Rattle.session.specs.Exchanges.{Exchange}
use Rattle.session.specs.Turned.{AreExchanges, ShowsFailure, EachLineIsChosen}

-- what is shown tells of no want of memory, and of no device that failed
abbrev pub HadEnough : Exchange → Type 0
HadEnough exchange = (exchange.shown ≢ no_memory) × ¬ ShowsFailure exchange

-- From what is held the exchanges are turns, one after the other, and each LINE among them is chosen; for each of them memory
-- sufficed, and no device failed.
pub record IsUndisturbed (held : Held) (exchanges : List Exchange) : Type 0 where
  pub after : Held
  pub served : AreExchanges held exchanges after
  pub chosen : EachLineIsChosen held exchanges
  pub enough : AllByRecursion HadEnough exchanges
