use Rattle.std.proofs.Common.{◌≤◌, take, None}
use Rattle.session.specs.working.Parts.{ServesLines}
use Rattle.session.proofs.serving.serve_lines.Given as goal

abbrev pub invariant-loop-i : goal.invariant-loop-i
invariant-loop-i g l = record {
  served : ServesLines g.V.Server.makes g.V.Server.grounds g.K.Link.told l.fn.when l.fn.link l.link (take l.i l.fn.lines) l.fn.state l.state None l.replies;
  few : l.replies ≤ l.i;
}
