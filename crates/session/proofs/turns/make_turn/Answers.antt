use Rattle.std.proofs.Common.{◌≡◌, ◌≢◌, ℕ, List, sym, ap, subst, ◌∙◌}
use Rattle.std.specs.Prelude.{option_copied}
use Rattle.chains.specs.Held.{held_of}
use Rattle.desk.specs.declared.turn.Turn.{Turn}
use Rattle.reasons.specs.Shown.{IsShown}
use Rattle.report_line.specs.declared.reply.Reply.TheVariants as replies
use Rattle.line_answer.specs.Questions.{IsChosenFor}
use Rattle.session.proofs.TurnSteps.{last_turn, makes_turn}
use Rattle.session.proofs.turns.make_turn.Goals as goal

pub returns-in-Some : goal.returns-in-Some
returns-in-Some g c =
    let receipt = c.in_ok-receipt.receipt in
    let made = c.in_ok-receipt.ensures.turn in
    let same = last_turn c.turns.result.now c.args.desk.now.turns (record { call = c.call_of.result; receipt = receipt }) c.in-Some.turn.now (c.turns.ensures ∙ made.turns) (ap option_copied (sym c.in-Some.is) ∙ c.last.ensures.value) in
    let fits = subst (λ (t : Turn). IsShown (held_of c.chains.result.now) t.call receipt.reply c.shown_for.result) same c.shown_for.ensures.shown in
    let chose =
    subst (λ (t : Turn). (text : List ℕ) → receipt.reply ≢ replies.Line text → c.shown_for.result ≡ replies.Line text → IsChosenFor (held_of c.chains.result.now) t.call text) same c.shown_for.ensures.chosen in
    rw (sym c.call_of.ensures) (
      receipt.reply,
      makes_turn g.D.Disk.keeps c.args.desk.now c.turn_read.new.self c.chains.result.now c.call_of.result receipt.reply c.shown_for.result receipt.turn made.step made.turns made.number made.opening made.found made.premise c.chains.ensures.held
          fits chose,
    )
