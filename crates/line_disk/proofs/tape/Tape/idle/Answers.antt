use Rattle.std.proofs.Common.{sym, ◌∙◌, arith, true}
use Rattle.line_disk.proofs.NotedCalls.{one_idle, one_idle_counted}
use Rattle.line_disk.proofs.Pushes.{after_idle, did_nothing}
use Rattle.line_disk.proofs.tape.Tape.idle.Goals as goal

pub invariant_of-self : goal.invariant_of-self
invariant_of-self c =
    let self = c.args.self.now in
    record {
      some = omega (arith, self.some);
      counted = one_idle_counted self.changes.items self.idle self.count self.counted;
      replayed = self.replayed ∙ sym (after_idle self.first.items _ _ true (one_idle self.changes.items self.idle)).1;
    }

pub returns-clause-rests : goal.returns-clause-rests
returns-clause-rests c = let self = c.args.self.now in after_idle self.first.items _ _ true (one_idle self.changes.items self.idle)

pub returns-clause-nothing : goal.returns-clause-nothing
returns-clause-nothing c = let self = c.args.self.now in did_nothing self.first.items _ _ true (one_idle self.changes.items self.idle)
