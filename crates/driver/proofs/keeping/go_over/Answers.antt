use Rattle.std.proofs.Common.{refl, sym, ◌∙◌}
use Rattle.std.proofs.lemmas.Result.{on_ok_weaker}
use Rattle.std.specs.Str.{bytes_eq}
use Rattle.indexmap.specs.IndexMap.{get}
use Rattle.driver.proofs.GoingOver.{step_left, step_left_is_open, step_taken_is_open, step_is_lawful, step_taken}
use Rattle.driver.proofs.keeping.go_over.Goals as goal

pub returns-then-bears-clause-err : goal.returns-then-bears-clause-err
returns-then-bears-clause-err c = λ other. (
  refl,
  step_left_is_open c.args.tables.now.root c.args.tables.now.epoch (get bytes_eq c.args.marks.now) c.args.steps.now c.args.i c.index-steps-i.result c.args.tables.now c.requires.within c.index-steps-i.is
      c.requires.so_far c.requires.lawful (sym c.is_reached.ensures ∙ c.if-not-is_reached.true) (sym c.bears.ensures ∙ c.if-bears.true),
)

pub returns-then-not-is_reached-clause-ok : goal.returns-then-not-is_reached-clause-ok
returns-then-not-is_reached-clause-ok c =
    step_left c.args.tables.now.root c.args.tables.now.epoch (get bytes_eq c.args.marks.now) c.args.steps.now c.args.i c.index-steps-i.result c.args.tables.now c.requires.within c.index-steps-i.is
    c.requires.so_far c.requires.lawful (sym c.is_reached.ensures ∙ c.if-not-is_reached.true) (sym c.bears.ensures ∙ c.if-bears.false)

pub returns-then-not-is_due-clause-err : goal.returns-then-not-is_due-clause-err
returns-then-not-is_due-clause-err c = λ other. (
  refl,
  step_taken_is_open c.args.tables.now.root c.args.tables.now.epoch (get bytes_eq c.args.marks.now) c.args.steps.now c.args.i c.index-steps-i.result c.args.tables.now c.requires.within c.index-steps-i.is
      c.requires.so_far c.requires.lawful (sym c.is_reached.ensures ∙ c.if-not-is_reached.false) (sym c.is_due.ensures ∙ c.if-not-is_due.true),
)

pub keep-requires-clause-lawful : goal.keep-requires-clause-lawful
keep-requires-clause-lawful c =
    step_is_lawful c.args.tables.now.root c.args.tables.now.epoch (get bytes_eq c.args.marks.now) c.args.steps.now c.args.i c.index-steps-i.result c.args.tables.now c.requires.within c.index-steps-i.is
    c.requires.so_far c.requires.lawful (sym c.is_reached.ensures ∙ c.if-not-is_reached.false) (sym c.is_due.ensures ∙ c.if-not-is_due.false)

pub returns-clause-ok : goal.returns-clause-ok
returns-clause-ok c =
    on_ok_weaker c.keep.result
    (λ added. step_taken c.args.tables.now.root c.args.tables.now.epoch (get bytes_eq c.args.marks.now) c.args.steps.now c.args.i c.index-steps-i.result c.args.tables.now c.requires.within c.index-steps-i.is
    c.requires.so_far c.requires.lawful c.keep.new.tables (sym c.is_reached.ensures ∙ c.if-not-is_reached.false) (sym c.is_due.ensures ∙ c.if-not-is_due.false) added)
    c.keep.ensures.ok
