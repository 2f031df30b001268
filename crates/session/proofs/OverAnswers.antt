-- What is accepted among exchanges without a settlement is what was answered OK, and so the headline may be said over that.
use Rattle.std.proofs.Common.{◌≡◌, ℕ, ◌+◌, Bool, true, false, List, [], ◌∷◌, ◌++◌, length, ◌∙◌, refl, sym, ap, subst, arith}
use Rattle.std.proofs.lemmas.List.{append_assoc, append-nil, length-append}
use Rattle.report_line.specs.declared.report.Report.{Report}
use Rattle.report_line.specs.declared.marked.MarkedReport.{MarkedReport}
use Rattle.report_line.specs.declared.call.Call.{Call}
use Rattle.report_line.specs.declared.call.Call.TheVariants as calls
use Rattle.report_line.specs.declared.reply.Outcome.TheVariants.{Before, Unknown}
use Rattle.report_line.specs.declared.reply.Reply.{Reply}
use Rattle.report_line.specs.declared.reply.Reply.TheVariants.{Accepted, Settled, Fail}
use Rattle.chains.specs.Processes.{Name, known}
use Rattle.chains.specs.Held.{Held, with_stop}
use Rattle.chains.specs.Admission.{held_after}
use Rattle.chains.specs.Turns.{Fate, fine, memory, before, unknown, LeavesSettled, IsSettleAnswered, IsTurn}
use Rattle.chains.proofs.Turning.{unchanged, after_report_turn}
use Rattle.law_lines.specs.Headline.{IsRightLine}
use Rattle.line_answer.specs.Asking.{AsksForLine}
use Rattle.session.specs.Exchanges.{Exchange, ReplayTo}
use Rattle.session.specs.Headline.{EachLineIsRight}
use Rattle.session.specs.Answered.{ok_report, ok_reports, with_ok_reports, EachLineIsRightOverAnswers, IsNoSettlement, AreUnsettled, WhatIsAcceptedWasAnswered, BothHeadlinesAreOne}

-- ---- one turn

-- these reports were added, and the front counts them
abbrev Adds : Held → List Report → Held → Type 0
Adds held reports after = (after.accepted ≡ held.accepted ++ reports) × (after.front ≡ held.front + length reports)

adds_none : (held : Held) → Adds held [] held
adds_none held = (sym (append-nil held.accepted), omega arith)

adds_nothing : (held after : Held) → after ≡ held → Adds held [] after
adds_nothing held after same = subst (λ (h : Held). Adds held [] h) (sym same) (adds_none held)

stop_adds : (held after : Held) → after ≡ with_stop held → Adds held [] after
stop_adds held after same = subst (λ (h : Held). Adds held [] h) (sym same) (sym (append-nil held.accepted), omega arith)

report_adds : (held : Held) (m : MarkedReport) (reply : Reply) → Adds held (ok_report (calls.Report m) reply) (held_after held m reply)
report_adds held m (Accepted front) = (refl, refl)
report_adds held m (Fail Before) = stop_adds held (with_stop held) refl
report_adds held m (Fail Unknown) = stop_adds held (with_stop held) refl
report_adds held m _ = adds_none held

-- a settlement that is not accepted adds nothing
left_adds : (held : Held) (names : List Name) (reply : Reply) (after : Held) → IsNoSettlement reply → LeavesSettled reply held names after → Adds held [] after
left_adds held names (Settled epoch front) after none left = absurd none
left_adds held names _ after none left = adds_nothing held after left

settle_adds : (stopped : Bool) (fate : Fate) (held : Held) (front : ℕ) (names : List Name) (reply : Reply) (after : Held) → IsNoSettlement reply → IsSettleAnswered stopped fate held front names reply after → Adds held [] after
settle_adds true fate held front names reply after none t = adds_nothing held after t.2
settle_adds false fine held front names reply after none t = left_adds held names reply after none t.1
settle_adds false memory held front names reply after none t = adds_nothing held after t.4
settle_adds false before held front names reply after none t = stop_adds held after t.2
settle_adds false unknown held front names reply after none t = stop_adds held after t.2

turn_adds : (held after : Held) (call : Call) (reply : Reply) → IsNoSettlement reply → IsTurn held call reply after → Adds held (ok_report call reply) after
turn_adds held after (calls.Report m) reply none (fate, t) =
    subst (λ (h : Held). Adds held (ok_report (calls.Report m) reply) h) (sym (after_report_turn held.stopped fate held m reply after t)) (report_adds held m reply)
turn_adds held after (calls.Line names) reply none (fate, t) = adds_nothing held after (unchanged held.stopped fate held _ reply after t)
turn_adds held after calls.Garbage reply none (fate, t) = adds_nothing held after (unchanged held.stopped fate held _ reply after t)
turn_adds held after (calls.Settle front names) reply none (fate, t) = settle_adds held.stopped fate held front names reply after none t
turn_adds held after (calls.State p) reply none (fate, t) = adds_nothing held after (unchanged held.stopped fate held _ reply after t)
turn_adds held after calls.Bye reply none (fate, t) = adds_nothing held after t.2
turn_adds held after (calls.Bad n) reply none (fate, t) = adds_nothing held after t.2
turn_adds held after calls.Unread reply none (fate, t) = adds_nothing held after t.2

-- ---- all turns

adds_on : (held mid after : Held) (first rest : List Report) → Adds held first mid → Adds mid rest after → Adds held (first ++ rest) after
adds_on held mid after first rest here later =
    let both = length-append first rest in
    let front = here.1 in
    let more = later.1 in
    let counted : after.front ≡ held.front + length (first ++ rest) = omega (arith, both, front, more) in
    (later.0 ∙ ap (λ (l : List Report). l ++ rest) here.0 ∙ append_assoc held.accepted first rest, counted)

exchanges_add : (held after : Held) (exchanges : List Exchange) → AreUnsettled exchanges → ReplayTo held exchanges after → Adds held (ok_reports exchanges) after
exchanges_add held after [] none comes = adds_nothing held after comes
exchanges_add held after (e ∷ es) none (mid, turned, later) =
    adds_on held mid after (ok_report e.call e.reply) (ok_reports es) (turn_adds held mid e.call e.reply none.0 turned) (exchanges_add mid after es none.1 later)

pub what_is_accepted_was_answered : WhatIsAcceptedWasAnswered
what_is_accepted_was_answered = exchanges_add

-- ---- the front part of exchanges

unsettled_before : (earlier later : List Exchange) → AreUnsettled (earlier ++ later) → AreUnsettled earlier
unsettled_before [] later none = tt
unsettled_before (e ∷ es) later none = (none.0, unsettled_before es later none.1)

come_before : (held after : Held) (earlier later : List Exchange) → ReplayTo held (earlier ++ later) after → (at : Held) × ReplayTo held earlier at
come_before held after [] later comes = (held, refl)
come_before held after (e ∷ es) later (mid, turned, more) = let rest = come_before mid after es later more in (rest.0, (mid, turned, rest.1))

-- ---- over the list and the front alone

-- what is held, with another list and another front
abbrev over : List Report → ℕ → Held → Held
over accepted front h = record { accepted = accepted; epochs = h.epochs; front = front; epoch = h.epoch; stopped = h.stopped }

-- what a line is right over are the list and the front
same_over : (accepted : List Report) (front : ℕ) (a b : Held) (names : List Name) (text : List ℕ) → IsRightLine (over accepted front a) names text → IsRightLine (over accepted front b) names text
same_over accepted front a b names text r = record {
  certificate = r.certificate;
  text_is = r.text_is;
  for_names = r.for_names;
  line = r.line;
  certifies = record {
    front = r.certifies.front;
    failed = r.certifies.failed;
    known_failed = r.certifies.known_failed;
    in_order = r.certifies.in_order;
    cut = r.certifies.cut;
    consistent = r.certifies.consistent;
    reasons = r.certifies.reasons;
  };
}

right_over : (a b : Held) (names : List Name) (text : List ℕ) → a.accepted ≡ b.accepted → a.front ≡ b.front → IsRightLine a names text → IsRightLine b names text
right_over a b names text list front right =
    same_over b.accepted b.front a b names text
    (subst (λ (l : List Report). IsRightLine (over l b.front a) names text) list
    (subst (λ (n : ℕ). IsRightLine (over a.accepted n a) names text) front right))

asks_over : (a b : Held) (call : Call) (names : List Name) → a.accepted ≡ b.accepted → AsksForLine a call names → AsksForLine b call names
asks_over a b (calls.Line listed) names list asks = asks
asks_over a b calls.Garbage names list asks = asks ∙ ap known list
asks_over a b _ names list asks = absurd asks

moved : (a b : Held) (call : Call) (text : List ℕ) → a.accepted ≡ b.accepted → a.front ≡ b.front
    → (names : List Name) × AsksForLine a call names × IsRightLine a names text → (names : List Name) × AsksForLine b call names × IsRightLine b names text
moved a b call text list front (names, asks, right) = (names, asks_over a b call names list asks, right_over a b names text list front right)

to_answers : (held after : Held) (exchanges : List Exchange) → AreUnsettled exchanges → ReplayTo held exchanges after → EachLineIsRight held exchanges → EachLineIsRightOverAnswers held.accepted held.front exchanges
to_answers held after exchanges none comes each earlier later exchange text split shown =
    let at = come_before held after earlier (exchange ∷ later) (subst (λ (es : List Exchange). ReplayTo held es after) split comes) in
    let adds = exchanges_add held at.0 earlier (unsettled_before earlier (exchange ∷ later) (subst AreUnsettled split none)) at.1 in
    moved at.0 (with_ok_reports held.accepted held.front earlier) exchange.call text adds.0 adds.1 (each earlier later exchange text at.0 split at.1 shown)

from_answers : (held : Held) (exchanges : List Exchange) → AreUnsettled exchanges → EachLineIsRightOverAnswers held.accepted held.front exchanges → EachLineIsRight held exchanges
from_answers held exchanges none each earlier later exchange text at split came shown =
    let adds = exchanges_add held at earlier (unsettled_before earlier (exchange ∷ later) (subst AreUnsettled split none)) came in
    moved (with_ok_reports held.accepted held.front earlier) at exchange.call text (sym adds.0) (sym adds.1) (each earlier later exchange text split shown)

pub both_headlines_are_one : BothHeadlinesAreOne
both_headlines_are_one held after exchanges none comes = (to_answers held after exchanges none comes, from_answers held exchanges none)
