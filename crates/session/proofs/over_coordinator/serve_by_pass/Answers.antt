use Rattle.std.proofs.Common.{ap, sym, ◌∙◌}
use Rattle.std.proofs.lemmas.Bool.{false≢true}
use Rattle.session.specs.working.Parts.{call_read}
use Rattle.session.proofs.TurnSteps.{means_read, short_read, read_off, bye_read}
use Rattle.session.proofs.Gaining.{some_entries, answered_on, answered_bye, answered_part, none_made, untouched}
use Rattle.session.proofs.over_coordinator.serve_by_pass.Goals as goal

pub ask-requires-clause-short : goal.ask-requires-clause-short
ask-requires-clause-short g c κs within = rw c.call_of.ensures (short_read c.args.line.now c.read_line-read.result c.requires.short c.read_line-read.ensures.exact)

pub ask-requires-clause-read : goal.ask-requires-clause-read
ask-requires-clause-read g c κs within = rw c.call_of.ensures (read_off c.args.line.now c.read_line-read.result c.read_line-read.ensures.exact)

pub put_shown-requires : goal.put_shown-requires
put_shown-requires g c = some_entries g.D.Disk.keeps g.D.Disk.view _ _ _ c.in-Ok.ensures.turn.stands

pub returns-in-Err : goal.returns-in-Err
returns-in-Err g c =
    record {
      served = rw c.kind_of.ensures (none_made g.D.Disk.keeps g.D.Disk.view _ c.args.line.now _ _ c.in-Err.fault c.in-Err.ensures.turn.err c.in-Err.ensures.turn.foreign);
      untouched = rw c.kind_of.ensures (untouched c.in-Err.fault _);
    }

pub returns-in-Ok-put_shown-clause-served : goal.returns-in-Ok-put_shown-clause-served
returns-in-Ok-put_shown-clause-served g c =
    answered_bye g.D.Disk.keeps g.D.Disk.view _ _ c.args.line.now _ _ (call_read c.read_line-read.result) _ (means_read _ _ c.read_line-read.ensures.exact) (rw c.call_of.ensures at c.in-Ok.ensures.turn.stands) c.in-Ok-put_shown.ensures
    (ap call_read (c.is_bye-last.ensures.0 c.if-last.true))

pub returns-in-Ok-2-clause-served : goal.returns-in-Ok-2-clause-served
returns-in-Ok-2-clause-served g c =
    answered_on g.D.Disk.keeps g.D.Disk.view _ _ c.args.line.now _ _ (call_read c.read_line-read.result) _ (means_read _ _ c.read_line-read.ensures.exact) (rw c.call_of.ensures at c.in-Ok.ensures.turn.stands) c.in-Ok-2.ensures
    (λ says. false≢true (sym c.if-last.false ∙ c.is_bye-last.ensures.1 (bye_read _ says)))

pub returns-in-Err-put_shown-clause-served : goal.returns-in-Err-put_shown-clause-served
returns-in-Err-put_shown-clause-served g c =
    answered_part g.D.Disk.keeps g.D.Disk.view _ _ c.args.line.now _ _ (call_read c.read_line-read.result) c.in-Err-put_shown.field-0 (means_read _ _ c.read_line-read.ensures.exact) (rw c.call_of.ensures at c.in-Ok.ensures.turn.stands) c.in-Err-put_shown.ensures
