use Rattle.client_link.specs.Outboxes.{unsent}
use Rattle.client_link.proofs.Outgoing.{gone_then, kept_then}
use Rattle.client_link.proofs.outbox.Outbox.send.Goals as goal

pub returns-in-Ok-eq0-clause-rest : goal.returns-in-Ok-eq0-clause-rest
returns-in-Ok-eq0-clause-rest g c = gone_then (unsent c.args.self.now) (unsent c.loop.self) (unsent c.send_some.new.self) c.loop.invariant.rest c.in-Ok-eq0.ensures.rest

pub returns-in-WouldBlock-clause-rest : goal.returns-in-WouldBlock-clause-rest
returns-in-WouldBlock-clause-rest g c = gone_then (unsent c.args.self.now) (unsent c.loop.self) (unsent c.send_some.new.self) c.loop.invariant.rest c.in-Err.ensures.rest

pub returns-in_default : goal.returns-in_default
returns-in_default g c = record {
  all = λ all. absurd cc;
  held = kept_then _ _ _ c.loop.invariant.held c.in-Err.ensures.held;
  rest = gone_then (unsent c.args.self.now) (unsent c.loop.self) (unsent c.send_some.new.self) c.loop.invariant.rest c.in-Err.ensures.rest;
}

pub loop-preserved : goal.loop-preserved
loop-preserved g c = record {
  held = kept_then _ _ _ c.loop.invariant.held c.send_some.ensures.held;
  rest = gone_then (unsent c.args.self.now) (unsent c.loop.self) (unsent c.send_some.new.self) c.loop.invariant.rest c.send_some.ensures.rest;
}
