-- `add_passes`: the pass of one session more.
use Rattle.std.proofs.Common.{List, sym, subst}
use Rattle.coordinator.specs.Passes.{PassState}
use Rattle.recline.specs.Serving.{AreServed}
use Rattle.recline.proofs.Passes.{of_session, one_counted, one_more, one_taken}
use Rattle.recline.proofs.serving.add_passes.Goals as goal

pub loop-session-preserved : goal.loop-session-preserved
loop-session-preserved g c =
    let session = c.in-Some.session in
    let before = c.loop-session in
    let more = c.in_ok-more.more in
    let served = of_session g.D.Disk.keeps g.D.Disk.view g.K.Link.told session.link session.pass session.end.kind session.end.replies session.served in (
      subst (λ (l : List PassState). AreServed g.D.Disk.keeps g.D.Disk.view g.K.Link.told l more) (sym c.in_ok-push.ensures.items)
          (one_more g.D.Disk.keeps g.D.Disk.view g.K.Link.told before.passes.items session.pass session.end.kind before.dropped more before.invariant.0 served c.in_ok-more.ensures),
      one_taken (λ s. s.pass) before.yielded session c.args.passes.now.items before.passes.items c.push.new.self.items before.invariant.1 c.in_ok-push.ensures.items,
      one_counted (λ s. s.end.kind) before.yielded session c.args.dropped.now before.dropped more before.invariant.2 c.in_ok-more.ensures,
      tt,
      tt,
    )
