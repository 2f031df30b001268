use Rattle.std.proofs.Common.{◌≡◌, [], ◌∷◌, ◌++◌, sym, ◌∙◌, rules, arith, true}
use Rattle.line_disk.specs.declared.change.Change.TheVariants.{Sync}
use Rattle.line_disk.proofs.NotedCalls.{noted, one_change, one_change_counted}
use Rattle.line_disk.proofs.Pushes.{after_sync, did_sync}
use Rattle.line_disk.proofs.tape.Tape.sync.Goals as goal

pub invariant_of-self-2 : goal.invariant_of-self-2
invariant_of-self-2 c =
    let self = c.args.self.now in
    let pushed : c.push_reserved.new.self.items ≡ self.changes.items ++ noted self.idle Sync ∷ [] = search rules in
    record {
      some = omega arith;
      counted = one_change_counted self.changes.items c.push_reserved.new.self.items self.idle self.count Sync pushed self.counted;
      replayed = self.replayed ∙ sym (after_sync self.first.items _ _ true (one_change self.changes.items _ self.idle Sync pushed)).1;
    }

pub returns-clause-done : goal.returns-clause-done
returns-clause-done c =
    let self = c.args.self.now in
    let pushed : c.push_reserved.new.self.items ≡ self.changes.items ++ noted self.idle Sync ∷ [] = search rules in
    did_sync self.first.items _ _ (one_change self.changes.items _ self.idle Sync pushed)

pub returns-clause-rests : goal.returns-clause-rests
returns-clause-rests c =
    let self = c.args.self.now in
    let pushed : c.push_reserved.new.self.items ≡ self.changes.items ++ noted self.idle Sync ∷ [] = search rules in
    after_sync self.first.items _ _ true (one_change self.changes.items _ self.idle Sync pushed)
