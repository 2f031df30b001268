use Rattle.std.proofs.Common.{◌-◌, length, sym, subst, arith}
use Rattle.std.proofs.lemmas.Bool.{true≢false}
use Rattle.knows_row.specs.Thresholds.{Passes}
use Rattle.knows_row.proofs.Thresholding.{PassesNone, root_none, none_first, root_at, root_few}
use Rattle.knows_row.proofs.thresholds.first_of_rows.Goals.{then-len-eq0-via-then-len-eq0, then-len-eq0-via-else-len-eq0+then-leq}
use Rattle.knows_row.proofs.thresholds.first_of_rows.Goals as goal

none : (c : goal.Joined-then-len-eq0) → PassesNone c.args.events.now c.index-rows-level.result
none c =
    let few = root_few c.args.rows.now c.requires.rows c.index-rows-level.result c.index-rows-level.is in
    elim c.then-len-eq0.branch [
      | then-len-eq0-via-then-len-eq0 w ↦ root_none c.args.events.now c.index-rows-level.result few (λ some. absurd (omega (arith, some, w.if-len-eq0.true, c.len.ensures)))
      | then-len-eq0-via-else-len-eq0+then-leq w ↦
          root_none c.args.events.now c.index-rows-level.result few (λ some passes. true≢false (w.if-leq.ensures.exceeding.1 (subst (Passes c.args.events.now) (sym w.tree.ensures) passes)))
    ]

pub returns-then-len-eq0 : goal.returns-then-len-eq0
returns-then-len-eq0 c =
    let some = c.requires.rows.some in
    none_first c.args.events.now c.args.rows.now c.requires.rows (length c.args.rows.now - 1) (omega (arith, some))
    (subst (PassesNone c.args.events.now) (root_at c.args.rows.now c.requires.rows c.index-rows-level.result c.index-rows-level.is) (none c))
