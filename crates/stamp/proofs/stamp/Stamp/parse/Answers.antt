use Rattle.std.proofs.Common.{sym, ◌∙◌}
use Rattle.stamp.specs.declared.fault.StampTextFault.TheVariants.{Syntax}
use Rattle.stamp.proofs.Cuts.{cut_there, cut_nowhere}
use Rattle.stamp.proofs.Told.{no_stamp, fault_of_stamp, told_whole, told_ok, told_err, told_only}
use Rattle.stamp.proofs.stamp.Stamp.parse.Goals as goal

pub returns-in_default-clause-err : goal.returns-in_default-clause-err
returns-in_default-clause-err c = no_stamp c.args.bytes.now (cut_nowhere c.args.bytes.now (sym c.in_default.is ∙ c.first_semicolon.ensures.place))

pub returns-in_default-clause-only : goal.returns-in_default-clause-only
returns-in_default-clause-only c = λ s is e.
    fault_of_stamp Syntax s is (rw e at (no_stamp c.args.bytes.now (cut_nowhere c.args.bytes.now (sym c.in_default.is ∙ c.first_semicolon.ensures.place))))

pub returns-clause-ok : goal.returns-clause-ok
returns-clause-ok c =
    let cut = cut_there c.args.bytes.now c.in-Some.at (sym c.in-Some.is ∙ c.first_semicolon.ensures.place) in
    told_ok c.both.result c.args.bytes.now (told_whole _ _ c.both.result c.in-Some.at c.args.bytes.now cut c.read_id.ensures c.read_events.ensures c.both.ensures)

pub returns-clause-err : goal.returns-clause-err
returns-clause-err c =
    let cut = cut_there c.args.bytes.now c.in-Some.at (sym c.in-Some.is ∙ c.first_semicolon.ensures.place) in
    told_err c.both.result c.args.bytes.now (told_whole _ _ c.both.result c.in-Some.at c.args.bytes.now cut c.read_id.ensures c.read_events.ensures c.both.ensures)

pub returns-clause-only : goal.returns-clause-only
returns-clause-only c =
    let cut = cut_there c.args.bytes.now c.in-Some.at (sym c.in-Some.is ∙ c.first_semicolon.ensures.place) in
    told_only c.both.result c.args.bytes.now (told_whole _ _ c.both.result c.in-Some.at c.args.bytes.now cut c.read_id.ensures c.read_events.ensures c.both.ensures)
