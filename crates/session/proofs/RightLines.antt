-- Each LINE that a session shows is right over what was held at its place.
use Rattle.std.proofs.Common.{◌≡◌, ℕ, List, refl, sym, subst, inl, inr}
use Rattle.report_line.specs.declared.call.Call.{Call}
use Rattle.report_line.specs.declared.call.Call.TheVariants as calls
use Rattle.report_line.specs.declared.reply.Reply.{Reply}
use Rattle.report_line.specs.declared.reply.Reply.TheVariants as replies
use Rattle.chains.specs.Processes.{Name, known}
use Rattle.chains.specs.Held.{Held}
use Rattle.chains.specs.Folded.{IsReached}
use Rattle.chains.specs.Turns.{IsTurn}
use Rattle.chains.proofs.Unfailing.{no_line}
use Rattle.knows_row.proofs.Lawful.{lawful}
use Rattle.reasons.specs.Certificates.{positions_of}
use Rattle.reasons.specs.Shown.{IsLineText, IsLineShown, IsShown}
use Rattle.law_lines.specs.Headline.{IsRightLine}
use Rattle.law_lines.proofs.Lines.{line_of_histories}
use Rattle.propagate.proofs.Certified.{certified_is_greatest}
use Rattle.session.specs.Exchanges.{Exchange}
use Rattle.session.specs.Turned.{IsExchange, AreExchanges}
use Rattle.line_answer.specs.Asking.{AsksForLine}
use Rattle.session.specs.Headline.{EachLineIsRight}
use Rattle.session.proofs.Places.{served_at, comes_reached}

-- the text of a certificate that certifies is right
right_text : (held : Held) (names : List Name) (text : List ℕ) → IsReached held → IsLineText held names text → IsRightLine held names text
right_text held names text reach t =
    let folded = reach.folded in
    record {
      certificate = t.certificate;
      text_is = t.text_is;
      for_names = t.for_names;
      line = line_of_histories held.accepted t.certificate.failed (positions_of t.certificate.line) folded (certified_is_greatest held t.certificate (lawful held.accepted folded) t.certifies);
      certifies = t.certifies;
    }

same_text : (s t : List ℕ) → replies.Line s ≡ replies.Line t → s ≡ t
same_text s t e = cc

-- what is shown as a line for a question
line_shown : (held : Held) (call : Call) (names : List Name) (reply : Reply) (text : List ℕ) (after : Held) → IsReached held → IsTurn held call reply after → IsLineShown held names reply (replies.Line text)
    → IsRightLine held names text
line_shown held call names (replies.Taken front) text after reach turned (inl shown) =
    right_text held names text reach (subst (IsLineText held names) (sym (same_text text shown.0 shown.1)) shown.2)
line_shown held call names (replies.Taken front) text after reach turned (inr e) = absurd (cc)
line_shown held call names reply text after reach turned shown = absurd (no_line held after call text (subst (λ (r : Reply). IsTurn held call r after) (sym shown) turned))

-- no other call shows a line
right_shown : (held : Held) (call : Call) (reply : Reply) (text : List ℕ) (after : Held) → IsReached held → IsTurn held call reply after → IsShown held call reply (replies.Line text)
    → (names : List Name) × AsksForLine held call names × IsRightLine held names text
right_shown held (calls.Line names) reply text after reach turned shown = (names, refl, line_shown held (calls.Line names) names reply text after reach turned shown)
right_shown held calls.Garbage reply text after reach turned shown = (known held.accepted, refl, line_shown held calls.Garbage (known held.accepted) reply text after reach turned shown)
right_shown held (calls.Report m) reply text after reach turned shown = absurd (no_line held after (calls.Report m) text (subst (λ (x : Reply). IsTurn held (calls.Report m) x after) (sym shown) turned))
right_shown held (calls.Settle front names) reply text after reach turned shown = absurd (no_line held after (calls.Settle front names) text (subst (λ (x : Reply). IsTurn held (calls.Settle front names) x after) (sym shown) turned))
right_shown held (calls.State p) reply text after reach turned shown = absurd (no_line held after (calls.State p) text (subst (λ (x : Reply). IsTurn held (calls.State p) x after) (sym shown) turned))
right_shown held calls.Bye reply text after reach turned shown = absurd (no_line held after calls.Bye text (subst (λ (x : Reply). IsTurn held calls.Bye x after) (sym shown) turned))
right_shown held (calls.Bad n) reply text after reach turned shown = absurd (no_line held after (calls.Bad n) text (subst (λ (x : Reply). IsTurn held (calls.Bad n) x after) (sym shown) turned))
right_shown held calls.Unread reply text after reach turned shown = absurd (no_line held after calls.Unread text (subst (λ (x : Reply). IsTurn held calls.Unread x after) (sym shown) turned))

right_exchange : (held between : Held) (exchange : Exchange) (text : List ℕ) → IsReached held → IsExchange held exchange between → exchange.shown ≡ replies.Line text
    → (names : List Name) × AsksForLine held exchange.call names × IsRightLine held names text
right_exchange held between exchange text reach s e = right_shown held exchange.call exchange.reply text between reach s.turned (subst (IsShown held exchange.call exchange.reply) e s.fits)

pub lines_are_right : (held after : Held) (exchanges : List Exchange) → IsReached held → AreExchanges held exchanges after → EachLineIsRight held exchanges
lines_are_right held after exchanges reach served before later exchange text at same comes shown =
    let there = served_at held after at before later exchange (subst (λ (es : List Exchange). AreExchanges held es after) same served) comes in
    right_exchange at there.0 exchange text (comes_reached held at before reach comes) there.1 shown
