use Rattle.std.proofs.Common.{◌≡◌, ◌<◌, length, length-append, List, [], ◌∷◌, ◌++◌, sym, ap, ◌∙◌, arith}
use Rattle.coordinator.specs.Passes.{PassEntry, PassState, last_turn}
use Rattle.coordinator.proofs.Made.{is_made}
use Rattle.coordinator.proofs.Rising.{rises-snoc}
use Rattle.coordinator.proofs.Turns.{entry_of, turn-one}
use Rattle.coordinator.proofs.locked.Locked.turn.Goals as goal

pub invariant_of-pass-2 : goal.invariant_of-pass-2
invariant_of-pass-2 g c =
    let es : List PassEntry = c.pass.inside.entries.items in
    let e : PassEntry = entry_of c.args.copy c.in-Ok.receipt in
    let added : c.push_reserved.new.self.items ≡ es ++ e ∷ [] = rw (← c.reserve.ensures.items, ← c.new.ensures) c.push_reserved.ensures.items in
    let last : last_turn es ≡ c.last_turn-last.result = ap (λ (v : PassState). last_turn v.entries) c.pass.view_is ∙ sym c.last_turn-last.ensures in
    let above : last_turn es < c.in-Ok.receipt.turn = omega (arith, last, c.if-last-turns.false, ap length c.turns.ensures, c.in-Ok.ensures.turn.number, c.recall_lawful.ensures.lawful.few) in (
      c.pass.invariant.0,
      c.add.ensures.parts ∙ c.pass.invariant.1,
      omega (arith, c.add.ensures.amount, c.pass.invariant.2, ap length added, length-append es (e ∷ [])),
      rw added (rises-snoc 0 es e c.pass.invariant.3 above),
    )

pub returns-clause-ok : goal.returns-clause-ok
returns-clause-ok g c =
    let made = c.in-Ok.ensures.turn in
    let es : List PassEntry = c.pass.inside.entries.items in
    let e : PassEntry = entry_of c.args.copy c.in-Ok.receipt in
    let added : c.push_reserved.new.self.items ≡ es ++ e ∷ [] = rw (← c.reserve.ensures.items, ← c.new.ensures) c.push_reserved.ensures.items in
    let last : last_turn es ≡ c.last_turn-last.result = ap (λ (v : PassState). last_turn v.entries) c.pass.view_is ∙ sym c.last_turn-last.ensures in
    rw (← c.pass.view_is, c.seen_after.ensures)
    (turn-one c.args.self.now.desk c.make_turn.new.desk _ c.args.call c.args.copy c.in-Ok.receipt c.add.new.share.amount c.push_reserved.new.self.items
    (_, c.recall_lawful-2.ensures.lawful.admitted)
    (record { step = made.step; turns = made.turns; number = made.number; opening = made.opening; found = made.found })
    (omega (arith, c.if-pass-front.false, c.front-front.ensures)) (omega (arith, last, c.if-last-turns.false, ap length c.turns.ensures, c.recall_lawful.ensures.lawful.few))
    c.pass.invariant.3 c.requires.copy c.add.ensures.amount added)

pub returns-clause-stands : goal.returns-clause-stands
returns-clause-stands g c =
    is_made g.D.Disk.keeps g.D.Disk.view c.args.self.now.desk c.make_turn.new.desk _ c.args.call _ c.recall_lawful.ensures.lawful c.recall_lawful-2.ensures.lawful (returns-clause-ok g c)
