use Rattle.std.proofs.Common.{◌≡◌, [], ◌∷◌, ◌++◌, List, ℕ, ap, sym, ◌∙◌, rules, arith}
use Rattle.line_disk.specs.Disk.{written}
use Rattle.line_disk.specs.declared.change.Change.TheVariants.{Write}
use Rattle.line_disk.proofs.NotedCalls.{noted, one_change, one_change_counted}
use Rattle.line_disk.proofs.Pushes.{after_write, did_write, write_seen, on_ok}
use Rattle.line_disk.proofs.tape.Tape.write.Goals as goal

pub invariant_of-self-2 : goal.invariant_of-self-2
invariant_of-self-2 c =
    let self = c.args.self.now in
    let change = Write c.args.at c.in-Ok.copy in
    let pushed : c.push_reserved.new.self.items ≡ self.changes.items ++ noted self.idle change ∷ [] =
    c.push_reserved.ensures.items ∙ ap (λ (l : List _). l ++ noted self.idle change ∷ []) c.reserve.ensures.items in
    let copied : c.in-Ok.copy.items ≡ c.args.bytes.now = search rules in
    let wrote = on_ok c.overwrite.result (sym c.is_err-else-is_err.ensures.value ∙ c.if-is_err-2.false) c.overwrite.ensures.ok in
    record {
      some = omega arith;
      counted = one_change_counted self.changes.items c.push_reserved.new.self.items self.idle self.count change pushed self.counted;
      replayed = wrote
          ∙ ap (λ (l : List ℕ). written self.bytes.items c.args.at l) (sym copied)
          ∙ ap (λ (l : List ℕ). written l c.args.at c.in-Ok.copy.items) self.replayed
          ∙ sym (write_seen self.first.items _ _ c.args.at c.in-Ok.copy.items c.requires (one_change self.changes.items _ self.idle change pushed));
    }

pub returns-clause-crash : goal.returns-clause-crash
returns-clause-crash c =
    let self = c.args.self.now in
    let change = Write c.args.at c.in-Ok.copy in
    let pushed : c.push_reserved.new.self.items ≡ self.changes.items ++ noted self.idle change ∷ [] =
    c.push_reserved.ensures.items ∙ ap (λ (l : List _). l ++ noted self.idle change ∷ []) c.reserve.ensures.items in
    let copied : c.in-Ok.copy.items ≡ c.args.bytes.now = search rules in
    after_write self.first.items _ _ c.args.at c.args.bytes.now c.in-Ok.copy.items copied (one_change self.changes.items c.push_reserved.new.self.items self.idle change pushed)

pub returns-clause-done : goal.returns-clause-done
returns-clause-done c =
    let self = c.args.self.now in
    let change = Write c.args.at c.in-Ok.copy in
    let pushed : c.push_reserved.new.self.items ≡ self.changes.items ++ noted self.idle change ∷ [] =
    c.push_reserved.ensures.items ∙ ap (λ (l : List _). l ++ noted self.idle change ∷ []) c.reserve.ensures.items in
    let copied : c.in-Ok.copy.items ≡ c.args.bytes.now = search rules in
    did_write self.first.items _ _ c.args.at c.args.bytes.now c.in-Ok.copy.items copied c.requires (one_change self.changes.items c.push_reserved.new.self.items self.idle change pushed)
