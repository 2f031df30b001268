-- The headline over the reports that were answered OK, for exchanges among which nothing was settled.
use Rattle.std.specs.Prelude.{◌≡◌, ◌↔◌, ℕ, ◌+◌, false, List, [], ◌∷◌, ◌++◌, length, ⊤}
use Rattle.report_line.specs.declared.report.Report.{Report}
use Rattle.report_line.specs.declared.call.Call.{Call}
use Rattle.report_line.specs.declared.call.Call.TheVariants as calls
use Rattle.report_line.specs.declared.reply.Reply.{Reply}
use Rattle.report_line.specs.declared.reply.Reply.TheVariants as replies
use Rattle.chains.specs.Processes.{Name}
use Rattle.chains.specs.Held.{Held}
use Rattle.law_lines.specs.Headline.{IsRightLine}
use Rattle.line_answer.specs.Asking.{AsksForLine}
use Rattle.session.specs.Exchanges.{Exchange, ReplayTo}
use Rattle.session.specs.Headline.{EachLineIsRight}

-- the report, if the call is one and was answered OK
abbrev pub ok_report : Call → Reply → List Report
ok_report (calls.Report m) (replies.Accepted front) = m.report ∷ []
ok_report _ _ = []

-- the reports among these exchanges that were answered OK, in order
abbrev pub ok_reports : List Exchange → List Report
ok_reports [] = []
ok_reports (e ∷ es) = ok_report e.call e.reply ++ ok_reports es

-- this list, if so many lines were accepted
abbrev pub held_list : List Report → ℕ → Held
held_list accepted front = record { accepted = accepted; epochs = []; front = front; epoch = 0; stopped = false }

-- this list with the reports that were answered OK, each of which is one more accepted line
abbrev pub with_ok_reports : List Report → ℕ → List Exchange → Held
with_ok_reports accepted front exchanges = held_list (accepted ++ ok_reports exchanges) (front + length (ok_reports exchanges))

-- If this list was there before, after so many accepted lines, and nothing is settled: wherever among the exchanges a LINE is shown, a
-- question for a line asked for it, and it is right over that list and the reports that were answered OK before it. Its line is the greatest
-- closed cut of every lawful history that agrees with these.
abbrev pub EachLineIsRightOverAnswers : List Report → ℕ → List Exchange → Type 0
EachLineIsRightOverAnswers accepted front exchanges =
    (before later : List Exchange) (exchange : Exchange) (text : List ℕ) → exchanges ≡ before ++ exchange ∷ later → exchange.shown ≡ replies.Line text
    → (names : List Name) × AsksForLine (with_ok_reports accepted front before) exchange.call names × IsRightLine (with_ok_reports accepted front before) names text

-- no settlement was accepted with this reply
abbrev pub IsNoSettlement : Reply → Type 0
IsNoSettlement (replies.Settled epoch front) = ⊥
IsNoSettlement _ = ⊤

-- nothing was settled among these exchanges
abbrev pub AreUnsettled : List Exchange → Type 0
AreUnsettled [] = ⊤
AreUnsettled (e ∷ es) = IsNoSettlement e.reply × AreUnsettled es

-- If nothing was settled, what is accepted is what was there before, and the reports that were answered OK, in order; and the front counts
-- these.
abbrev pub WhatIsAcceptedWasAnswered : Type 0
WhatIsAcceptedWasAnswered =
    (held after : Held) (exchanges : List Exchange) → AreUnsettled exchanges → ReplayTo held exchanges after
    → (after.accepted ≡ held.accepted ++ ok_reports exchanges) × (after.front ≡ held.front + length (ok_reports exchanges))

-- If nothing was settled among exchanges that took turns, the headline over what admission holds and the one over the reports that were
-- answered OK are the same statement.
abbrev pub BothHeadlinesAreOne : Type 0
BothHeadlinesAreOne =
    (held after : Held) (exchanges : List Exchange) → AreUnsettled exchanges → ReplayTo held exchanges after
    → (EachLineIsRight held exchanges ↔ EachLineIsRightOverAnswers held.accepted held.front exchanges)
