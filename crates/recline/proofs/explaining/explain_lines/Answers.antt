use Rattle.std.proofs.Common.{◌≤◌, ◌≢◌, ◌+◌, ℕ, List, None, refl, subst, rules}
use Rattle.recline.specs.Driving.{WritesAll, WritesPart}
use Rattle.recline.proofs.LineByLine.{memory_wanting, write_failed, too_long_told, goes_further}
use Rattle.recline.proofs.explaining.explain_lines.Goals as goal

pub returns-in_default-push-clause-over : goal.returns-in_default-push-clause-over
returns-in_default-push-clause-over g c = memory_wanting _ _ _ c.loop.counter c.in-Ok.n c.loop.told c.read.new.buf c.loop.invariant c.in-Ok.ensures.read

pub returns-in_default-write_all-clause-over : goal.returns-in_default-write_all-clause-over
returns-in_default-write_all-clause-over g c =
    let goes = c.in-Ok-push.ensures.told c.loop.invariant.stream c.loop.invariant.told c.loop.invariant.after in
    let wrote = subst (λ (l : List ℕ). WritesPart (g.K.Link.told c.read.new.self) (g.K.Link.told c.write_all.new.link) l) c.deref.ensures.value c.in_default-write_all.ensures.writes in
    write_failed _ _ _ _ c.loop.counter c.in-Ok.n c.loop.told c.push.new.self c.read.new.buf c.in-Ok-push.text.items c.loop.invariant c.in-Ok.ensures.read goes wrote c.in_default-write_all.ensures.left

pub returns-then-too_long-clause-over : goal.returns-then-too_long-clause-over
returns-then-too_long-clause-over g c =
    let goes = c.in-Ok-push.ensures.told c.loop.invariant.stream c.loop.invariant.told c.loop.invariant.after in
    let wrote = subst (λ (l : List ℕ). WritesAll (g.K.Link.told c.read.new.self) (g.K.Link.told c.write_all.new.link) l) c.deref.ensures.value c.in-Ok-write_all.ensures.writes in
    too_long_told _ _ _ _ c.loop.counter c.in-Ok.n c.loop.told c.push.new.self c.read.new.buf c.in-Ok-push.text.items c.loop.invariant c.in-Ok.ensures.read goes wrote c.in-Ok-write_all.ensures.left (c.if-too_long.ensures.0 refl)

pub loop-preserved : goal.loop-preserved
loop-preserved g c =
    let goes = c.in-Ok-push.ensures.told c.loop.invariant.stream c.loop.invariant.told c.loop.invariant.after in
    let wrote = subst (λ (l : List ℕ). WritesAll (g.K.Link.told c.read.new.self) (g.K.Link.told c.write_all.new.link) l) c.deref.ensures.value c.in-Ok-write_all.ensures.writes in
    let going : c.push.new.self.feed ≢ None = λ none. absurd (let long = c.if-too_long.ensures.1 none in cc) in
    let few : c.push.new.self.told ≤ c.loop.told.told + c.in-Ok.n + 1 = search rules in
    let within : c.in-Ok.n ≤ 8192 = search rules in
    goes_further _ _ _ _ c.loop.counter c.in-Ok.n c.loop.told c.push.new.self c.read.new.buf c.in-Ok-push.text.items c.loop.invariant c.in-Ok.ensures.read goes wrote c.in-Ok-write_all.ensures.left going c.in-Ok-write_all.ensures.reads few
    within
