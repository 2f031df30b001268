-- `workers`: so many empty lists are there, and there is room for all.
use Rattle.std.proofs.Common.{◌≡◌, ◌≤◌}
use Rattle.session.proofs.threads.workers.Given as goal

abbrev pub invariant-loop : goal.invariant-loop
invariant-loop g l = (l.lists.len ≡ l.counter) × (l.n ≤ l.lists.cap)
