use Rattle.std.proofs.Common.{◌≡◌, [], ◌∷◌, ◌++◌, take, List, ℕ, ap, sym, ◌∙◌, rules, arith}
use Rattle.line_disk.specs.Calls as calls
use Rattle.line_disk.specs.declared.change.Change.TheVariants.{Cut}
use Rattle.line_disk.proofs.NotedCalls.{noted, one_change, one_change_counted}
use Rattle.line_disk.proofs.Pushes.{after_cut, did_cut, seen}
use Rattle.line_disk.proofs.tape.Tape.cut.Goals as goal

pub invariant_of-self-2 : goal.invariant_of-self-2
invariant_of-self-2 c =
    let self = c.args.self.now in
    let pushed : c.push_reserved.new.self.items ≡ self.changes.items ++ noted self.idle (Cut c.args.len) ∷ [] = search rules in
    record {
      some = omega arith;
      counted = one_change_counted self.changes.items c.push_reserved.new.self.items self.idle self.count (Cut c.args.len) pushed self.counted;
      replayed = c.truncate.ensures.items ∙ ap (λ (l : List ℕ). take c.args.len l) self.replayed
          ∙ sym (seen self.first.items _ _ (calls.Cut c.args.len) (one_change self.changes.items _ self.idle (Cut c.args.len) pushed));
    }

pub returns-clause-crash : goal.returns-clause-crash
returns-clause-crash c =
    let self = c.args.self.now in
    let pushed : c.push_reserved.new.self.items ≡ self.changes.items ++ noted self.idle (Cut c.args.len) ∷ [] = search rules in
    after_cut self.first.items _ _ c.args.len (one_change self.changes.items _ self.idle (Cut c.args.len) pushed)

pub returns-clause-done : goal.returns-clause-done
returns-clause-done c =
    let self = c.args.self.now in
    let pushed : c.push_reserved.new.self.items ≡ self.changes.items ++ noted self.idle (Cut c.args.len) ∷ [] = search rules in
    did_cut self.first.items _ _ c.args.len (one_change self.changes.items _ self.idle (Cut c.args.len) pushed)
