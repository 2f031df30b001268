use Rattle.std.proofs.Common.{◌+◌}
use Rattle.std.specs.Str.{bytes_eq}
use Rattle.indexmap.specs.IndexMap.{get}
use Rattle.driver.specs.working.Marks.{cut_by}
use Rattle.driver.proofs.GoingOver.{nothing_kept, lawful_front, open_front}
use Rattle.driver.proofs.keeping.kept_tables.Goals as goal

pub loop-i-init : goal.loop-i-init
loop-i-init c = nothing_kept c.args.old.now.root c.copy.result c.args.epoch (cut_by (get bytes_eq c.args.marks.now)) c.in_ok-tables.tables c.copy.ensures c.in_ok-tables.ensures

pub go_over-requires-clause-lawful : goal.go_over-requires-clause-lawful
go_over-requires-clause-lawful c =
    lawful_front c.args.old.now.root c.args.old.now.steps.items c.deref.result.now (c.loop-i.i + 1) c.loop-i.tables.root c.deref.ensures.value c.loop-i.invariant.same_root c.requires.lawful

pub returns-in-Err-clause-err : goal.returns-in-Err-clause-err
returns-in-Err-clause-err c = λ other.
    let told = c.in-Err.ensures.err other in (
      told.0,
      open_front c.args.old.now.root c.args.old.now.steps.items c.deref.result.now (c.loop-i.i + 1) c.loop-i.tables.root (cut_by (get bytes_eq c.args.marks.now)) c.deref.ensures.value
          c.loop-i.invariant.same_root told.1,
    )
