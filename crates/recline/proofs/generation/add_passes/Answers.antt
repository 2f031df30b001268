-- `add_passes`: the pass of one client more.
use Rattle.std.proofs.Common.{List, sym, subst}
use Rattle.coordinator.specs.Passes.{PassState}
use Rattle.recline.specs.Lasting.{ArePassesOfGuests}
use Rattle.recline.proofs.Generations.{one_guest_more}
use Rattle.recline.proofs.generation.add_passes.Goals as goal

pub loop-one-preserved : goal.loop-one-preserved
loop-one-preserved g c = (
  one_guest_more g.D.Disk.keeps g.D.Disk.view g.K.Link.told c.loop-one.passes.items c.push.new.self.items c.in-Some.one.pass c.loop-one.invariant.0 c.in-Some.one.served c.in_ok-push.ensures.items,
  tt,
  tt,
)

pub returns-in_err-push : goal.returns-in_err-push
returns-in_err-push g c =
    subst (λ (l : List PassState). ArePassesOfGuests g.D.Disk.keeps g.D.Disk.view g.K.Link.told l) (sym c.in_err-push.ensures.items) c.loop-one.invariant.0
