use Rattle.std.proofs.Common.{sym, subst}
use Rattle.std.proofs.lemmas.Result.{IfOk-weaker}
use Rattle.chains.specs.Held.{Held, held_of}
use Rattle.chains.specs.Folded.{IsReached}
use Rattle.coordinator.proofs.Certifying.{IsOnly, is_read, none_read, only_one, only_nothing}
use Rattle.coordinator.proofs.shown_lines.read_in.Goals as goal

pub returns-in-Ok : goal.returns-in-Ok
returns-in-Ok c =
    let held : Held = held_of c.args.chains.now in
    let reach : IsReached held = record { folded = c.recall_lawful.ensures.folded; marked = c.recall_lawful.ensures.marked; past = c.recall_lawful.ensures.past; counted = c.recall_lawful.ensures.counted } in
    only_one held c.args.text.now c.in-Ok.certificate
    (λ x certifies is. is_read held c.args.text.now reach c.recall_lawful.ensures.lines_at_most c.written_certificates_are_read.ensures.only c.in-Ok.certificate x c.in-Ok.ensures certifies is)

pub returns-in-Err : goal.returns-in-Err
returns-in-Err c =
    let held : Held = held_of c.args.chains.now in
    let reach : IsReached held = record { folded = c.recall_lawful.ensures.folded; marked = c.recall_lawful.ensures.marked; past = c.recall_lawful.ensures.past; counted = c.recall_lawful.ensures.counted } in
    IfOk-weaker c.not_read.result _ _
    (λ found h. subst (IsOnly held c.args.text.now) (sym h.0)
    (only_nothing held c.args.text.now (λ x certifies is.
    none_read held c.args.text.now reach c.recall_lawful.ensures.lines_at_most c.written_certificates_are_read.ensures.only c.in-Err.fault x (rw c.in-Err.is at c.from_json.ensures) h.1 certifies is)))
    c.not_read.ensures
