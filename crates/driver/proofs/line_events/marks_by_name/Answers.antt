use Rattle.std.proofs.Common.{rules, refl}
use Rattle.std.specs.Str.{bytes_eq}
use Rattle.indexmap.specs.IndexMap.{get}
use Rattle.driver.proofs.Naming.{still_once, named_more, twice_by, none_by, all_once}
use Rattle.driver.proofs.line_events.marks_by_name.Goals as goal

pub returns-then-contains_key-clause-twice : goal.returns-then-contains_key-clause-twice
returns-then-contains_key-clause-twice c = λ other. (
  refl,
  twice_by c.args.line.now c.loop-x.x-index c.x-item.result c.loop-x-test.true c.x-item.is c.contains_key.result (get bytes_eq c.loop-x.marks c.x-item.result.name)
      (c.loop-x.invariant.1 c.x-item.result.name) c.contains_key.ensures c.if-contains_key.true,
)

pub loop-x-preserved : goal.loop-x-preserved
loop-x-preserved c =
    let none = none_by c.args.line.now c.loop-x.x-index c.x-item.result c.loop-x-test.true c.x-item.is c.contains_key.result (get bytes_eq c.loop-x.marks c.x-item.result.name)
    (c.loop-x.invariant.1 c.x-item.result.name) c.contains_key.ensures c.if-contains_key.false in (
      still_once c.args.line.now c.loop-x.x-index c.x-item.result c.loop-x-test.true c.x-item.is c.loop-x.invariant.0 none,
      λ p. named_more c.args.line.now c.loop-x.x-index c.x-item.result c.loop-x-test.true c.x-item.is p (get bytes_eq c.loop-x.marks p) (get bytes_eq c.insert.new.self p)
          (c.loop-x.invariant.1 p) none (search rules),
    )

pub returns-clause-once : goal.returns-clause-once
returns-clause-once c = all_once c.args.line.now c.loop-x.x-index c.loop-x-test.false c.loop-x.invariant.0
