use Rattle.std.proofs.Common.{◌≡◌, ◌++◌, ℕ, List}
use Rattle.std.specs.Io.KnownBytes.{Keeps}
use Rattle.client_link.specs.Outboxes.{unsent, taken}
use Rattle.client_link.proofs.outbox.Outbox.send.Given as goal

abbrev pub invariant-loop : goal.invariant-loop
invariant-loop g l = record {
  held : Keeps (taken g.W.Write.contents l.fn.self) (taken g.W.Write.contents l.self);
  rest : (gone : List ℕ) × (unsent l.fn.self ≡ gone ++ unsent l.self);
}
