-- What is left of a coordinator.
use Rattle.std.proofs.Common.{◌≡◌, List, refl, subst}
use Rattle.line_disk.specs.Disk.{View}
use Rattle.chains.specs.Held.{Held}
use Rattle.desk.specs.Desks.{DeskState}
use Rattle.desk.specs.Lawful.{IsLawfulDesk}
use Rattle.desk.specs.Records.{Opens}
use Rattle.desk.specs.Replays.{Replays}
use Rattle.coordinator.specs.Passes.{PassState}
use Rattle.coordinator.specs.Closing.{EndsWith, IsAudited}

pub ended_with : {D : Type 0} (keeps : D → Type 0) (view : D → View) (opening : Held) (passes : List PassState) (desk : DeskState D) → IsLawfulDesk keeps view desk → desk.opening ≡ opening → IsAudited desk.opening desk.turns passes
    → EndsWith keeps view opening passes desk
ended_with keeps view opening passes desk lawful same audited = record {
  ends = record {
    list = desk.turns;
    held = desk.held;
    found = desk.found;
    opened = subst (λ (o : Held). Opens desk.found o) same lawful.opened;
    replay = subst (λ (o : Held). Replays o desk.turns desk.held) same lawful.replays;
    turns_are = refl;
    front_is = refl;
    running = lawful.running;
    left = lawful.left;
    admitted = lawful.admitted;
    pending = lawful.pending;
    audited = subst (λ (o : Held). IsAudited o desk.turns passes) same audited;
  };
  list_is = refl;
  held_is = refl;
  found_is = refl;
}
