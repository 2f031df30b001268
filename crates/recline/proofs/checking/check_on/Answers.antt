use Rattle.std.proofs.Common.{inl, subst}
use Rattle.chains.specs.Held.{Held}
use Rattle.recline.specs.Checking.{Checks}
use Rattle.recline.proofs.Opened.{held_by_chains}
use Rattle.recline.proofs.checking.check_on.Goals as goal

pub returns-in-Ok : goal.returns-in-Ok
returns-in-Ok g c =
    let opened = c.in-Ok.ensures in
    let held = held_by_chains c.chains.result.now c.in-Ok.desk.held c.chains.ensures.held opened.fresh.2 in
    inl (record {
      desk = c.in-Ok.desk;
      opened = record { records = opened.records; opened = opened.opened; any_moment = opened.any_moment; fresh = opened.fresh; premise = opened.premise };
      checks =
          subst
          (λ (h : Held). Checks g.K.Link.told g.F.Link.told h c.args.client.now c.check_chains-status.new.client c.args.faults.now c.check_chains-status.new.faults c.check_chains-status.result) held c.check_chains-status.ensures;
      lawful = c.recall_lawful.ensures.lawful;
      disk_is = c.close.ensures.disk;
    })
