-- `conclude`: what the audit says of the desk under the lock is said of the disk that it leaves.
use Rattle.std.proofs.Common.{◌≡◌, sym, ap, ◌∙◌, subst}
use Rattle.chains.specs.Held.{held_of}
use Rattle.coordinator.specs.Closing.{IsAudited}
use Rattle.coordinator.proofs.WhatIsLeft.{ended_with}
use Rattle.coordinator.proofs.coordinator.conclude.Goals as goal

pub returns-clause-ok : goal.returns-clause-ok
returns-clause-ok g c =
    let desk = c.into_desk-desk.result in
    let same : c.desk.result.now ≡ desk = c.desk.ensures ∙ sym c.into_desk-desk.ensures in
    let held : desk.opening ≡ held_of c.args.opening.now = sym (c.in_default.ensures.opening ∙ ap (λ d. d.opening) same) in
    let audited = subst (λ d. IsAudited d.opening d.turns c.args.passes.now) same c.in_default.ensures.ok in
    let ends = ended_with g.D.Disk.keeps g.D.Disk.view (held_of c.args.opening.now) c.args.passes.now desk c.recall_lawful.ensures.lawful held audited in
    rw (c.end_desk.ensures.turns, c.end_desk.ensures.front, c.end_desk.ensures.disk) ends.ends
