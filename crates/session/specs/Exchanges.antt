-- Calls that took turns, and what was shown for them.
use Rattle.std.specs.Prelude.{◌≡◌, List, [], ◌∷◌}
use Rattle.report_line.specs.declared.call.Call.{Call}
use Rattle.report_line.specs.declared.reply.Reply.{Reply}
use Rattle.chains.specs.Held.{Held}
use Rattle.chains.specs.Turns.{IsTurn}

-- a call that took a turn, the turn's reply, and the reply that is shown for it
pub record Exchange : Type 0 where
  pub call : Call
  pub reply : Reply
  pub shown : Reply

-- From what is held the calls of these exchanges take turns with their replies, one after the other, and come to this. (They come to
-- one thing: a settlement returns all to the greatest cut, and that is one.)
abbrev pub ReplayTo : Held → List Exchange → Held → Type 0
ReplayTo held [] after = after ≡ held
ReplayTo held (e ∷ es) after = (between : Held) × IsTurn held e.call e.reply between × ReplayTo between es after
