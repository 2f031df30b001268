use Rattle.std.proofs.Common.{ap, sym, ◌∙◌, length}
use Rattle.std.proofs.lemmas.Bool.{false≢true}
use Rattle.session.specs.SessionText.{at_desk}
use Rattle.session.specs.Turned.{MakesTurns}
use Rattle.session.specs.working.Parts.{call_read}
use Rattle.session.proofs.TurnSteps.{means_read, short_read, read_off, bye_read}
use Rattle.session.proofs.ServeSteps.{said_on, said_bye, said_part}
use Rattle.session.proofs.OverDesk.{desk_lawful, none_said}
use Rattle.session.proofs.over_desk.serve_by_desk.Goals as goal

pub make_turn-requires-clause-short : goal.make_turn-requires-clause-short
make_turn-requires-clause-short g c = short_read c.args.line.now c.read_line-read.result c.requires.short c.read_line-read.ensures.exact

pub make_turn-requires-clause-read : goal.make_turn-requires-clause-read
make_turn-requires-clause-read g c = read_off c.args.line.now c.read_line-read.result c.read_line-read.ensures.exact

pub returns-in-Err : goal.returns-in-Err
returns-in-Err g c =
    let made = rw c.in-Err.is at c.make_turn.ensures in
    rw c.kind_of.ensures (none_said g.D.Disk.keeps _ c.args.line.now _ _ (call_read c.read_line-read.result) c.in-Err.fault (means_read _ _ c.read_line-read.ensures.exact) made.0 made.1)

pub returns-in-Ok-put_reply : goal.returns-in-Ok-put_reply
returns-in-Ok-put_reply g c =
    let made = rw c.in-Ok.is at c.make_turn.ensures in
    said_bye (MakesTurns g.D.Disk.keeps) (λ d. at_desk (length d.turns)) (desk_lawful g.D.Disk.keeps) _ _ c.args.line.now _ _ (record { call = call_read c.read_line-read.result; reply = made.0; shown = c.in-Ok.shown }) _
    (means_read _ _ c.read_line-read.ensures.exact) made.1 c.in-Ok-put_reply.ensures (ap call_read (c.is_bye-last.ensures.0 c.if-last.true))

pub returns-in-Ok-2 : goal.returns-in-Ok-2
returns-in-Ok-2 g c =
    let made = rw c.in-Ok.is at c.make_turn.ensures in
    said_on (MakesTurns g.D.Disk.keeps) (λ d. at_desk (length d.turns)) (desk_lawful g.D.Disk.keeps) _ _ c.args.line.now _ _ (record { call = call_read c.read_line-read.result; reply = made.0; shown = c.in-Ok.shown }) _
    (means_read _ _ c.read_line-read.ensures.exact) made.1 c.in-Ok-2.ensures (λ says. false≢true (sym c.if-last.false ∙ c.is_bye-last.ensures.1 (bye_read _ says)))

pub returns : goal.returns
returns g c =
    let made = rw c.in-Ok.is at c.make_turn.ensures in
    said_part (MakesTurns g.D.Disk.keeps) (λ d. at_desk (length d.turns)) (desk_lawful g.D.Disk.keeps) _ _ c.args.line.now _ _ (record { call = call_read c.read_line-read.result; reply = made.0; shown = c.in-Ok.shown }) c.in-Err-put_reply.field-0
    (means_read _ _ c.read_line-read.ensures.exact) made.1 c.in-Err-put_reply.ensures
