use Rattle.std.proofs.Common.{◌≡◌, ℕ, List, take, Some, None, subst, arith}
use Rattle.std.proofs.lemmas.List.{take_all}
use Rattle.session.specs.working.Parts.{ServesLines, one_reply}
use Rattle.session.proofs.ServeSteps.{line_served, lines_none, lines_to, lines_on}
use Rattle.session.proofs.TurnSteps.{line_at}
use Rattle.session.proofs.serving.serve_lines.Goals as goal

pub serve_line-end-requires-clause-line : goal.serve_line-end-requires-clause-line
serve_line-end-requires-clause-line g c = line_at c.args.lines.now c.loop-i.i c.line.result.now c.requires.lines c.line.ensures

pub loop-i-init : goal.loop-i-init
loop-i-init g c = record { served = lines_none g.V.Server.makes g.V.Server.grounds c.requires.laws g.K.Link.told c.args.when _ _; few = omega arith }

pub returns-in-Some : goal.returns-in-Some
returns-in-Some g c =
    record {
      served = rw c.replies_at.ensures.exact (lines_to g.V.Server.makes g.V.Server.grounds c.requires.laws g.K.Link.told c.args.when (Some c.in-Some.kind) _ _ _ c.args.lines.now c.loop-i.i c.line.result.now _ _ _ c.loop-i.replies (one_reply (Some c.in-Some.kind)) c.line.ensures c.loop-i.invariant.served
          (line_served g.V.Server.makes g.V.Server.grounds g.K.Link.told c.args.when _ _ _ c.line.result.now _ _ c.serve_line-end.result (Some c.in-Some.kind) c.serve_line-end.ensures (rw c.in-Some.is at c.hand_on_reply.ensures)) (λ none. cc));
      at_most = omega (arith, c.loop-i.invariant.few, c.replies_at.ensures.at_most);
    }

pub loop-i-preserved : goal.loop-i-preserved
loop-i-preserved g c =
    record {
      served = lines_on g.V.Server.makes g.V.Server.grounds c.requires.laws g.K.Link.told c.args.when _ _ _ c.args.lines.now c.loop-i.i c.line.result.now _ _ _ c.loop-i.replies 1 c.line.ensures c.loop-i.invariant.served
          (line_served g.V.Server.makes g.V.Server.grounds g.K.Link.told c.args.when _ _ _ c.line.result.now _ _ c.serve_line-end.result None c.serve_line-end.ensures (rw c.in-None.is at c.hand_on_reply.ensures));
      few = omega (arith, c.loop-i.invariant.few);
    }

pub returns-clause-served : goal.returns-clause-served
returns-clause-served g c =
    let all : take c.loop-i.i c.args.lines.now ≡ c.args.lines.now = take_all c.loop-i.i c.args.lines.now (omega (arith, c.len-i-end.ensures, c.loop-i-test.false)) in
    subst (λ (l : List (List ℕ)). ServesLines g.V.Server.makes g.V.Server.grounds g.K.Link.told c.args.when c.args.link.now c.loop-i.link l c.args.state.now c.loop-i.state None c.loop-i.replies) all c.loop-i.invariant.served
