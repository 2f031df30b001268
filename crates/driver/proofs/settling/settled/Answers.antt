use Rattle.std.proofs.Common.{◌+◌, Result, Ok, Err, IfOk, OnOk, refl, sym, ◌∙◌}
use Rattle.std.proofs.lemmas.Result.{IfOk-weaker, IfErr-weaker}
use Rattle.std.specs.Str.{bytes_eq}
use Rattle.indexmap.specs.IndexMap.{get}
use Rattle.driver.specs.working.Seen.{chronicle_in}
use Rattle.driver.proofs.Settlement.{refuses_by, root_unborn, not_standing, not_closed, is_closed_line, settles}
use Rattle.driver.proofs.settling.settled.Goals as goal

on_ok_from : {T E Q : Type 0} (r : Result T E) (P : T → Type 0) → ((x : T) → P x → Q) → IfOk r P → OnOk r Q
on_ok_from (Ok x) P then_q holds = then_q x holds
on_ok_from (Err e) P then_q holds = tt

pub returns-then-not-stays-clause-refused : goal.returns-then-not-stays-clause-refused
returns-then-not-stays-clause-refused c =
    let known = c.are_known.ensures.known c.if-not-are_known.false in (
      known,
      root_unborn (chronicle_in c.args.tables.now) c.args.failed.now c.args.line.now known (get bytes_eq c.in-Ok.marks) c.in-Ok.ensures.marks c.requires.lawful (sym c.stays.ensures ∙ c.if-not-stays.true),
    )

pub returns-then-not-stand-clause-refused : goal.returns-then-not-stand-clause-refused
returns-then-not-stand-clause-refused c =
    let known = c.are_known.ensures.known c.if-not-are_known.false in (
      known,
      not_standing (chronicle_in c.args.tables.now) c.args.failed.now c.args.line.now known (get bytes_eq c.in-Ok.marks) c.in-Ok.ensures.marks c.requires.lawful (sym c.stand.ensures ∙ c.if-not-stand.true),
    )

pub returns-clause-closed : goal.returns-clause-closed
returns-clause-closed c =
    on_ok_from c.kept_tables.result _
    (λ t kept. is_closed_line (chronicle_in c.args.tables.now) c.args.failed.now c.args.line.now (c.are_known.ensures.known c.if-not-are_known.false) (get bytes_eq c.in-Ok.marks) c.in-Ok.ensures.marks
    c.requires.lawful c.in-Ok.ensures.once (sym c.stays.ensures ∙ c.if-not-stays.false) (sym c.stand.ensures ∙ c.if-not-stand.false) kept.closed)
    c.kept_tables.ensures.ok

pub returns-clause-settled : goal.returns-clause-settled
returns-clause-settled c =
    IfOk-weaker c.kept_tables.result _ _
    (λ t kept. settles (chronicle_in c.args.tables.now) c.args.failed.now c.args.line.now (c.are_known.ensures.known c.if-not-are_known.false) (get bytes_eq c.in-Ok.marks) c.in-Ok.ensures.marks
    c.requires.lawful c.in-Ok.ensures.once (sym c.stays.ensures ∙ c.if-not-stays.false) (sym c.stand.ensures ∙ c.if-not-stand.false) (c.args.tables.now.epoch + 1) t refl kept)
    c.kept_tables.ensures.ok

pub returns-clause-refused : goal.returns-clause-refused
returns-clause-refused c =
    let known = c.are_known.ensures.known c.if-not-are_known.false in
    IfErr-weaker c.kept_tables.result _ _
    (λ f told. refuses_by (chronicle_in c.args.tables.now) c.args.failed.now c.args.line.now f known
    (λ other. let t = told other in (
      t.0,
      not_closed (chronicle_in c.args.tables.now) c.args.failed.now c.args.line.now known (get bytes_eq c.in-Ok.marks) c.in-Ok.ensures.marks c.requires.lawful t.1,
    )))
    c.kept_tables.ensures.err
