use Rattle.std.proofs.Common.{◌-◌, length, refl, sym, subst, arith}
use Rattle.std.proofs.lemmas.Bool.{true≢false}
use Rattle.knows_row.specs.Thresholds.{Passes, PassesOne}
use Rattle.knows_row.proofs.Thresholding.{PassesNone, root_none, none_first, one_first, root_at, root_few}
use Rattle.knows_row.proofs.thresholds.are_passed.Goals.{then-len-eq0-via-then-len-eq0, then-len-eq0-via-else-len-eq0+then-leq}
use Rattle.knows_row.proofs.thresholds.are_passed.Goals as goal

none : (c : goal.Joined-then-len-eq0) → PassesNone c.args.events.now c.index-rows-rows.result
none c =
    let few = root_few c.args.rows.now c.requires.rows c.index-rows-rows.result c.index-rows-rows.is in
    elim c.then-len-eq0.branch [
      | then-len-eq0-via-then-len-eq0 w ↦ root_none c.args.events.now c.index-rows-rows.result few (λ some. absurd (omega (arith, some, w.if-len-eq0.true, c.len.ensures)))
      | then-len-eq0-via-else-len-eq0+then-leq w ↦
          root_none c.args.events.now c.index-rows-rows.result few (λ some passes. true≢false (w.if-leq.ensures.exceeding.1 (subst (Passes c.args.events.now) (sym w.tree.ensures) passes)))
    ]

pub returns-then-len-eq0 : goal.returns-then-len-eq0
returns-then-len-eq0 c =
    let some = c.requires.rows.some in
    let all = none_first c.args.events.now c.args.rows.now c.requires.rows (length c.args.rows.now - 1) (omega (arith, some))
    (subst (PassesNone c.args.events.now) (root_at c.args.rows.now c.requires.rows c.index-rows-rows.result c.index-rows-rows.is) (none c)) in
    (λ yes. absurd (true≢false (sym yes)), λ one. absurd (all one.0 one.1 one.2))

pub returns : goal.returns
returns c =
    let some = c.requires.rows.some in
    let passes = subst (Passes c.args.events.now) c.tree.ensures (c.if-leq.ensures.exceeding.0 refl) in
    let one : PassesOne c.args.events.now c.index-rows-rows.result = (0, omega (arith, c.if-len-eq0.false, c.len.ensures), passes) in
    let first = one_first c.args.events.now c.args.rows.now c.requires.rows (length c.args.rows.now - 1) (omega (arith, some))
    (subst (PassesOne c.args.events.now) (root_at c.args.rows.now c.requires.rows c.index-rows-rows.result c.index-rows-rows.is) one) in
    (λ yes. first, λ one. refl)
