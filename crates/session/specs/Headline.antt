-- The headline for each LINE of a session.
use Rattle.std.specs.Prelude.{◌≡◌, ℕ, List, ◌∷◌, ◌++◌}
use Rattle.report_line.specs.declared.reply.Reply.TheVariants as replies
use Rattle.chains.specs.Processes.{Name}
use Rattle.chains.specs.Held.{Held}
use Rattle.law_lines.specs.Headline.{IsRightLine}
use Rattle.line_answer.specs.Asking.{AsksForLine}
use Rattle.session.specs.Exchanges.{Exchange, ReplayTo}

-- Wherever among the exchanges a LINE is shown, a question for a line asked for it, and it is right over what was held at that
-- place: its line is the greatest closed cut of every lawful history that agrees with what was accepted there.
abbrev pub EachLineIsRight : Held → List Exchange → Type 0
EachLineIsRight held exchanges =
    (before later : List Exchange) (exchange : Exchange) (text : List ℕ) (at : Held) → exchanges ≡ before ++ exchange ∷ later → ReplayTo held before at → exchange.shown ≡ replies.Line text
    → (names : List Name) × AsksForLine at exchange.call names × IsRightLine at names text
