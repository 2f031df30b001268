-- Exchanges as turns over what is held, one after the other.
use Rattle.std.specs.Prelude.{◌≡◌, ◌↔◌, ℕ, ◌+◌, List, [], ◌∷◌, ◌++◌, length, ⊤}
use Rattle.report_line.specs.declared.reply.Outcome.{Outcome}
use Rattle.report_line.specs.declared.reply.Reply.TheVariants.{Fail, Line}
use Rattle.chains.specs.Held.{Held}
use Rattle.chains.specs.Turns.{IsTurn}
use Rattle.reasons.specs.Shown.{IsShown}
use Rattle.desk.specs.Desks.{DeskState}
use Rattle.desk.specs.declared.turn.Turn.{Turn}
use Rattle.session.specs.Exchanges.{Exchange}
use Rattle.line_answer.specs.Questions.{IsChosenFor}

-- the call takes its turn with this reply, and what is shown is shown for it
pub record IsExchange (held : Held) (exchange : Exchange) (after : Held) : Type 0 where
  pub turned : IsTurn held exchange.call exchange.reply after
  pub fits : IsShown held exchange.call exchange.reply exchange.shown

-- from what is held the exchanges are turns, one after the other, and this is held then
abbrev pub AreExchanges : Held → List Exchange → Held → Type 0
AreExchanges held [] after = after ≡ held
AreExchanges held (exchange ∷ exchanges) after = (between : Held) × IsExchange held exchange between × AreExchanges between exchanges after

-- what is shown tells that a device failed, or that the store was stopped by then
abbrev pub ShowsFailure : Exchange → Type 0
ShowsFailure exchange = (outcome : Outcome) × (exchange.shown ≡ Fail outcome)

-- what is shown as a LINE is the chosen text for the call
abbrev pub ShowsChosen : Held → Exchange → Type 0
ShowsChosen held exchange = (text : List ℕ) → exchange.shown ≡ Line text → IsChosenFor held exchange.call text

-- each LINE among these exchanges is the chosen text for its call, over what was held at its place
abbrev pub EachLineIsChosen : Held → List Exchange → Type 0
EachLineIsChosen held [] = ⊤
EachLineIsChosen held (e ∷ es) = ShowsChosen held e × ((between : Held) → IsTurn held e.call e.reply between → EachLineIsChosen between es)

-- ---- over a desk

-- the turns of these exchanges, where so many were made before
abbrev pub turns_of : ℕ → List Exchange → List Turn
turns_of made [] = []
turns_of made (e ∷ es) = record { call = e.call; receipt = record { turn = made + 1; reply = e.reply } } ∷ turns_of (made + 1) es

-- The turns that a desk made are just those of these exchanges, in their order.
pub record MakesTurns {D : Type 0} (keeps : D → Type 0) (desk : DeskState D) (exchanges : List Exchange) (after : DeskState D) : Type 0 where
  pub served : AreExchanges desk.held exchanges after.held
  pub chosen : EachLineIsChosen desk.held exchanges
  pub turns : after.turns ≡ desk.turns ++ turns_of (length desk.turns) exchanges
  pub opening : after.opening ≡ desk.opening
  pub found : after.found ≡ desk.found
  -- what is premised of the disk stays so
  pub premise : keeps after.disk ↔ keeps desk.disk
