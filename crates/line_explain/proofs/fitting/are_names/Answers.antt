use Rattle.std.proofs.Common.{◌≢◌, rules}
use Rattle.std.specs.Prelude.{codes}
use Rattle.line_explain.proofs.Named.{right_names, wrong_names}
use Rattle.line_explain.proofs.fitting.are_names.Goals as goal

pub returns-in-None : goal.returns-in-None
returns-in-None c = right_names c.args.word.now c.in-None.ensures

pub returns-in-Some : goal.returns-in-Some
returns-in-Some c =
    let other : c.args.word.now ≢ codes "-" = search rules in
    wrong_names c.args.word.now c.in-Some.field-0.now other c.in-Some.ensures
