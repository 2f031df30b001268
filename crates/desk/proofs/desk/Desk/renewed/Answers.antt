use Rattle.std.proofs.Common.{◌≡◌, false, sym, ◌∙◌, ap}
use Rattle.record_file.specs.Store.{is_stopped}
use Rattle.chains.specs.Held.{held_of}
use Rattle.desk.specs.Desks.{DeskState}
use Rattle.desk.specs.Lawful.{unstopped}
use Rattle.desk.proofs.NewList.{lawful_again, rests_again}
use Rattle.desk.proofs.desk.Desk.renewed.Goals as goal

pub invariant_of-result : goal.invariant_of-result
invariant_of-result g c =
    let a = c.self.inside in
    let new = c.in-Ok-take_in in
    let ok = c.in-Ok-take_in.ensures in
    let keeps = g.D.Disk.keeps in
    let view = g.D.Disk.view in
    let goes : is_stopped a.store ≡ false = ap (λ (d : DeskState g.row.D.Denot). d.held.stopped) c.self.view_is ∙ sym c.stopped.ensures ∙ c.if-stopped.false in
    let same : held_of c.in-Ok.opening ≡ held_of a.chains = c.in-Ok.ensures.held ∙ ap (λ (d : DeskState g.row.D.Denot). unstopped d.held) (sym c.self.view_is) in (
      lawful_again keeps view a.chains c.in-Ok.opening (held_of a.opening) a.store new.store a.turns.items new.turns.items c.self.invariant.0 c.self.invariant.1 goes same ok.found ok.disk ok.stopped ok.rests ok.none,
      rests_again keeps view a.chains c.in-Ok.opening (held_of a.opening) a.store new.store a.turns.items new.turns.items c.self.invariant.0 c.self.invariant.1 goes same ok.found ok.disk ok.stopped ok.rests ok.none,
      rw ok.room c.self.invariant.2,
    )
