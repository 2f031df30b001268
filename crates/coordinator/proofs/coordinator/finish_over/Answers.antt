-- `finish_over`: what the audit says of the desk under the lock is said of the desk that comes back, or of its disk.
use Rattle.std.proofs.Common.{◌≡◌, sym, ap, ◌∙◌, subst}
use Rattle.chains.specs.Held.{held_of}
use Rattle.coordinator.specs.Closing.{IsAuditCause, IsAudited}
use Rattle.coordinator.proofs.WhatIsLeft.{ended_with}
use Rattle.coordinator.proofs.coordinator.finish_over.Goals as goal

pub returns-in-Ok-clause-ok : goal.returns-in-Ok-clause-ok
returns-in-Ok-clause-ok g c =
    let desk = c.into_desk-desk.result in
    let same : c.desk.result.now ≡ desk = c.desk.ensures ∙ sym c.into_desk-desk.ensures in
    let held : desk.opening ≡ held_of c.args.opening.now = sym (c.in-Ok.ensures.opening ∙ ap (λ d. d.opening) same) in
    let audited = subst (λ d. IsAudited d.opening d.turns c.args.passes.now) same c.in-Ok.ensures.ok in
    ended_with g.D.Disk.keeps g.D.Disk.view (held_of c.args.opening.now) c.args.passes.now desk c.recall_lawful.ensures.lawful held audited

pub returns-in-Err-clause-left : goal.returns-in-Err-clause-left
returns-in-Err-clause-left g c =
    let desk = c.into_desk-desk.result in
    let same : c.desk.result.now ≡ desk = c.desk.ensures ∙ sym c.into_desk-desk.ensures in
    record {
      desk = desk;
      lawful = c.recall_lawful.ensures.lawful;
      cause = subst (λ d. IsAuditCause (held_of c.args.opening.now) d c.args.passes.now c.in-Err.fault) same c.in-Err.ensures.err;
      turns_are = c.end_desk-ended.ensures.turns;
      front_is = c.end_desk-ended.ensures.front;
      disk_is = c.end_desk-ended.ensures.disk;
    }
