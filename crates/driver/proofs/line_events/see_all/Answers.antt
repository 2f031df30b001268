use Rattle.std.specs.Str.{bytes_eq}
use Rattle.indexmap.specs.IndexMap.{get}
use Rattle.driver.proofs.OneMore.{seen_none, seen_more, all_seen}
use Rattle.driver.proofs.line_events.see_all.Goals as goal

pub loop-i-init : goal.loop-i-init
loop-i-init c = λ p. seen_none p (get bytes_eq c.args.marks.now p)

pub loop-i-preserved : goal.loop-i-preserved
loop-i-preserved c = λ p.
    seen_more c.args.steps.now c.loop-i.i c.index-steps-i.result c.loop-i-test.true c.index-steps-i.is p (get bytes_eq c.args.marks.now p) (get bytes_eq c.loop-i.marks p) (get bytes_eq c.see.new.marks p)
    (c.loop-i.invariant p) (c.see.ensures p)

pub returns : goal.returns
returns c = λ p. all_seen c.args.steps.now c.loop-i.i p (get bytes_eq c.args.marks.now p) (get bytes_eq c.loop-i.marks p) c.loop-i-test.false (c.loop-i.invariant p)
