use Rattle.std.specs.Str.{bytes_eq}
use Rattle.indexmap.specs.IndexMap.{get}
use Rattle.driver.proofs.Naming.{failing_none, failing_more, all_failing}
use Rattle.driver.proofs.line_events.mark_all_failed.Goals as goal

pub loop-name-init : goal.loop-name-init
loop-name-init c = λ p. failing_none p (get bytes_eq c.args.marks.now p)

pub loop-name-preserved : goal.loop-name-preserved
loop-name-preserved c = λ p.
    failing_more c.args.failed.now c.loop-name.name-index c.name-item.result p (get bytes_eq c.args.marks.now p) (get bytes_eq c.loop-name.marks p) (get bytes_eq c.mark_failed.new.marks p) c.loop-name-test.true c.name-item.is
    (c.loop-name.invariant p) (c.mark_failed.ensures p)

pub returns : goal.returns
returns c = λ p. all_failing c.args.failed.now c.loop-name.name-index p (get bytes_eq c.args.marks.now p) (get bytes_eq c.loop-name.marks p) c.loop-name-test.false (c.loop-name.invariant p)
