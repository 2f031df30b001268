-- `work`: what `serve_link` said of the link and of its new pass is kept.
use Rattle.session.proofs.threads.work.Goals as goal

pub invariant_of-push_reserved : goal.invariant_of-push_reserved
invariant_of-push_reserved g c = record {
  served =
      ∣ record { before = c.in-Ok-recv.link; fresh = c.in-Ok-pass.pass; is_new = c.in-Ok-pass.ensures.ok; served = c.serve_link-end.ensures } ∣₁;
}
