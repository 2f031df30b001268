use Rattle.std.proofs.Common.{◌≡◌, ◌<◌, ◌++◌, ◌+◌, take, refl, rules}
use Rattle.session.specs.SessionText.{most_reads}
use Rattle.recline.proofs.Reading.{Reading, one_more}
use Rattle.recline.proofs.driving.read_all.Goals as goal

pub returns-in_default-extend_from_slice : goal.returns-in_default-extend_from_slice
returns-in_default-extend_from_slice g c =
    let invariant = c.loop.invariant in
    let within : c.loop.counter < most_reads = search rules in
    let next : Reading (g.K.Link.told c.args.link.now) (g.K.Link.told c.read.new.self) _ (c.loop.counter + 1) =
    one_more _ _ _ c.loop.bytes.items (c.loop.bytes.items ++ take c.in-Ok.n c.read.new.buf) c.read.new.buf c.in-Ok.n c.loop.counter invariant.only invariant.sound invariant.reads within c.in-Ok.ensures.read refl in
    record { bytes = _; only = next.only; why_not_all = next.sound }

pub loop-preserved : goal.loop-preserved
loop-preserved g c =
    let invariant = c.loop.invariant in
    let within : c.loop.counter < most_reads = search rules in
    let items : c.extend_from_slice.new.self.items ≡ c.loop.bytes.items ++ take c.in-Ok.n c.read.new.buf = c.in-Ok-extend_from_slice.ensures.items in
    let next = one_more _ _ _ c.loop.bytes.items c.extend_from_slice.new.self.items c.read.new.buf c.in-Ok.n c.loop.counter invariant.only invariant.sound invariant.reads within c.in-Ok.ensures.read items in
    record { only = next.only; sound = next.sound; reads = next.reads }
