use Rattle.std.proofs.Common.{sym, ap, ◌∙◌}
use Rattle.report_line.specs.declared.reply.Reply.TheVariants.{Taken}
use Rattle.coordinator.proofs.Made.{made_with}
use Rattle.coordinator.proofs.Turns.{taken-front}
use Rattle.coordinator.proofs.locked.Locked.take.Goals as goal

pub returns-in-Ok-clause-ok : goal.returns-in-Ok-clause-ok
returns-in-Ok-clause-ok g c =
    let made = c.in_ok-turn.ensures.ok in
    record {
      made = made;
      snapshot_is = (
        c.in-Ok.ensures.held,
        taken-front c.args.self.now.desk c.turn.new.self.desk c.args.pass.now c.args.call c.turn.new.pass made c.in-Some._front c.in-Some.ensures
            ∙ ap Taken (sym c.in-Ok.ensures.front),
      );
    }

pub returns-in-Ok-clause-stands : goal.returns-in-Ok-clause-stands
returns-in-Ok-clause-stands g c = made_with g.D.Disk.keeps g.D.Disk.view _ _ _ _ _ _ c.recall_lawful.ensures.lawful c.recall_lawful-2.ensures.lawful (returns-in-Ok-clause-ok g c)
