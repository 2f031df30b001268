use Rattle.std.proofs.Common.{◌+◌, ◌∙◌, ap, arith, length, length-set}
use Rattle.event_tree.specs.working.Entries.{entry}
use Rattle.event_tree.proofs.Besides.{is_level, level_written, ended, whole_down}
use Rattle.event_tree.proofs.restriction.one_part.write_down.Goals as goal

pub loop-turn-preserved : goal.loop-turn-preserved
loop-turn-preserved c =
    let at = c.loop-turn.at in
    let inv = c.loop-turn.invariant in
    let level = is_level c.loop-turn.way c.in-Some.behind c.in-Some.turn c.loop-turn.size c.width-at.result c.args.part.now c.in-Some.ensures inv.1 c.width-at.ensures in (
      ap length c.put.ensures ∙ length-set c.loop-turn.out at (entry c.loop-turn.value c.loop-turn.size) ∙ inv.0,
      level.size_behind,
      omega (arith, inv.2, level.some, level.within),
      λ k h.
          level_written c.loop-turn.out c.put.new.out _ c.loop-turn.way c.in-Some.behind c.in-Some.turn at _ c.loop-turn.value c.loop-turn.size k c.args.part.now
          (omega (arith, inv.0, inv.2, level.some, level.within, c.width-at.ensures)) (omega (arith, inv.0, inv.2, level.some)) c.in-Some.ensures inv.1
          (ap (λ n. at + n) c.width-at.ensures) c.put.ensures (inv.3 k h),
    )

pub returns-clause-written : goal.returns-clause-written
returns-clause-written c = λ k h.
    let inv = c.loop-turn.invariant in
    whole_down c.loop-turn.out _ c.args.way c.loop-turn.way c.loop-turn.at c.args.m c.loop-turn.value k c.args.part.now (inv.0 ∙ c.requires.room ∙ c.requires.sized)
    (ended c.loop-turn.way c.loop-turn.at c.loop-turn.size (length c.loop-turn.out) c.args.part.now c.in_default.ensures inv.1 (omega (arith, inv.0, inv.2)))
    c.put_rooted.ensures c.in_default.ensures (inv.3 k h)
