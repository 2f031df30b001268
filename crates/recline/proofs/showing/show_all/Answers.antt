use Rattle.std.proofs.Common.{ℕ, List, refl, inl, inr, subst, ◌∙◌}
use Rattle.desk.specs.declared.fault.DeskFault.TheVariants.{Memory}
use Rattle.recline.specs.Driving.{WritesPart}
use Rattle.recline.proofs.Faults.{memory_is_not_device}
use Rattle.recline.proofs.showing.show_all.Goals as goal

pub returns-in_default : goal.returns-in_default
returns-in_default g c = inr (inr (refl, Memory, tt, memory_is_not_device, c.tell_unopened.ensures))

pub returns : goal.returns
returns g c =
    inr (inl (record {
      said = c.args.desk.now.found;
      held = c.args.desk.now.held;
      facts = c.args.facts;
      stands = c.requires.desk.0;
      opened = c.requires.desk.1;
      told = c.requires.facts;
      part =
          subst (λ (l : List ℕ). WritesPart (g.K.Link.told c.args.client.now) (g.K.Link.told c.write_all.new.link) l) (c.deref.ensures.value ∙ c.in-Ok.ensures) c.in-Err.ensures.writes;
      status_is = refl;
      faults_are = c.tell_unopened-in-Err.ensures;
    }))
