use Rattle.std.proofs.Common.{◌≤◌, ◌*◌}
use Rattle.session.specs.working.Parts.{Going}
use Rattle.session.proofs.session.serve.Given as goal

abbrev pub invariant-loop : goal.invariant-loop
invariant-loop g l = record {
  going : Going g.V.Server.makes g.K.Link.told l.fn.when l.fn.link l.link l.feed l.fn.state l.state l.counter l.replies;
  few : l.replies ≤ l.counter * 8192;
}
