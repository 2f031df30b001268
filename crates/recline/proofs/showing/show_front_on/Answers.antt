use Rattle.std.proofs.Common.{ℕ, List, inl, subst}
use Rattle.recline.specs.Showing.{ShowsFile}
use Rattle.recline.proofs.showing.show_front_on.Goals as goal

pub returns-in-Ok : goal.returns-in-Ok
returns-in-Ok g c =
    let shown = subst (λ (l : List ℕ). ShowsFile g.K.Link.told g.F.Link.told l c.args.form c.args.client.now c.show_on.new.client c.args.faults.now c.show_on.new.faults c.show_on.result) c.deref.ensures.value c.show_on.ensures in
    inl (c.in-Ok.earlier.items, c.in-Ok.ensures.ok, c.in-Ok.ensures.read, shown)
