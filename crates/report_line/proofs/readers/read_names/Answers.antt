use Rattle.std.proofs.Common.{◌≡◌, ◌≢◌, ◌∷◌, ◌++◌, false, IsTrue, rules}
use Rattle.std.specs.Prelude.{codes}
use Rattle.report_line.specs.Names.{is_name}
use Rattle.report_line.specs.Cuts.{Lacks}
use Rattle.report_line.proofs.Rows.{no_row, no_part, no_last, row_step, row_end}
use Rattle.report_line.proofs.readers.read_names.Goals as goal

pub returns-in_default-from_bytes : goal.returns-in_default-from_bytes
returns-in_default-from_bytes c =
    let cut : Lacks 44 c.in-Some.part.now × (c.loop-part.rest.now ≡ c.in-Some.part.now ++ 44 ∷ c.in-Some.behind.now) = c.in-Some.ensures in
    let other : c.args.word.now ≢ codes "-" = search rules in
    let none : is_name c.in-Some.part.now ≡ false = c.in_default-from_bytes.ensures in
    no_row c.args.word.now c.loop-part.names c.loop-part.rest.now other c.loop-part.invariant.1 c.loop-part.invariant.0 (no_part c.loop-part.rest.now c.in-Some.part.now c.in-Some.behind.now cut.0 cut.1 none)

pub loop-part-preserved : goal.loop-part-preserved
loop-part-preserved c =
    let cut : Lacks 44 c.in-Some.part.now × (c.loop-part.rest.now ≡ c.in-Some.part.now ++ 44 ∷ c.in-Some.behind.now) = c.in-Some.ensures in
    let is : (c.in-Some-from_bytes.name ≡ c.in-Some.part.now) × IsTrue (is_name c.in-Some.part.now) = c.in-Some-from_bytes.ensures in
    row_step c.args.word.now c.loop-part.rest.now c.in-Some.part.now c.in-Some.behind.now c.loop-part.names c.in-Some-from_bytes.name c.push.new.self c.in_ok-push.ensures.ok c.loop-part.invariant.1 cut.1 is.0 c.loop-part.invariant.0 is.1

pub returns-in_default-from_bytes-2 : goal.returns-in_default-from_bytes-2
returns-in_default-from_bytes-2 c =
    let lacks : Lacks 44 c.loop-part.rest.now = c.in_default.ensures in
    let other : c.args.word.now ≢ codes "-" = search rules in
    let none : is_name c.loop-part.rest.now ≡ false = c.in_default-from_bytes-2.ensures in
    no_row c.args.word.now c.loop-part.names c.loop-part.rest.now other c.loop-part.invariant.1 c.loop-part.invariant.0 (no_last c.loop-part.rest.now lacks none)

pub returns : goal.returns
returns c =
    let is : (c.in-Some-from_bytes-2.last ≡ c.loop-part.rest.now) × IsTrue (is_name c.loop-part.rest.now) = c.in-Some-from_bytes-2.ensures in
    row_end c.args.word.now c.loop-part.rest.now c.loop-part.names c.in-Some-from_bytes-2.last c.push-2.new.self c.in_ok-push-2.ensures.ok c.loop-part.invariant.1 is.0 c.loop-part.invariant.0 is.1
