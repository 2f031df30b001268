-- Turns in a row.
use Rattle.std.specs.Prelude.{◌≡◌, ℕ, ◌+◌, List, [], ◌∷◌}
use Rattle.chains.specs.Held.{Held}
use Rattle.chains.specs.Turns.{IsTurn}
use Rattle.desk.specs.declared.turn.Turn.{Turn}

-- From what is held and so many turns on, these turns, numbered in order, each with the reply to its call, come to what is held
-- then.
abbrev pub ReplaysFrom : ℕ → Held → List Turn → Held → Type 0
ReplaysFrom made held [] after = after ≡ held
ReplaysFrom made held (turn ∷ turns) after =
    (turn.receipt.turn ≡ made + 1) × ((between : Held) × IsTurn held turn.call turn.receipt.reply between × ReplaysFrom (made + 1) between turns after)

-- the turns replay from what was held when the desk was opened, and come to what is held then
abbrev pub Replays : Held → List Turn → Held → Type 0
Replays opening turns after = ReplaysFrom 0 opening turns after
