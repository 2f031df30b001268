-- One coordinator after the other.
use Rattle.std.proofs.Common.{◌≡◌, ◌⊎◌, inl, inr, ℕ, Bool, true, false, List, [], ◌∷◌, ◌++◌, sym, subst, ◌∙◌}
use Rattle.std.specs.Io.KnownBytes.{Appends}
use Rattle.line_disk.specs.Disk.{View}
use Rattle.chains.specs.Held.{Held}
use Rattle.desk.specs.Desks.{DeskState}
use Rattle.desk.specs.Replays.{ReplaysFrom}
use Rattle.desk.specs.declared.fault.DeskFault.{DeskFault}
use Rattle.desk.specs.declared.fault.DeskFault.TheVariants as faults
use Rattle.desk.specs.declared.turn.Turn.{Turn}
use Rattle.law_turns.specs.Traces.{AreTurns}
use Rattle.coordinator.specs.Passes.{PassState}
use Rattle.coordinator.specs.Closing.{EndsWith, IsRemainder}
use Rattle.coordinator.specs.declared.fault.CloseFault.{CloseFault}
use Rattle.client_link.specs.Links.{LinkState}
use Rattle.session.specs.Current.{trace_of}
use Rattle.session.specs.Guests.{IsPassOfGuest}
use Rattle.session.proofs.OverRuns.{replayed_turns}
use Rattle.recline.specs.Outcome.{IsOpened}
use Rattle.recline.specs.Driving.{WritesAll, WritesPart}
use Rattle.recline.specs.Serving.{end_line, port_line, stopped_by}
use Rattle.recline.specs.declared.serving.Stop.{Stop}
use Rattle.recline.specs.declared.serving.Stop.TheVariants as stops
use Rattle.recline.specs.Lasting.{ArePassesOfGuests, AreOneRun, Generation, IsEndCut, IsGeneration, IsLast, IsNextDesk, IsRenewed, IsStoppedService, IsUnserved, IsUnsettled, LastsToEnd, MayStop, held_before, turns_of}
use Rattle.recline.specs.working.Lasting.{IsLastFront}
use Rattle.recline.proofs.Passes.{appends_then}
use Rattle.recline.proofs.Stopping.{part_then}

turns_then : (held between after : Held) (turns more : List Turn) → AreTurns held (trace_of turns) between → AreTurns between (trace_of more) after → AreTurns held (trace_of (turns ++ more)) after
turns_then held between after [] more is_first later = subst (λ (h : Held). AreTurns h (trace_of more) after) is_first later
turns_then held between after (turn ∷ turns) more (middle, made, rest) later = (middle, made, turns_then middle between after turns more rest later)

-- a desk that does not go on
pub not_renewed : {T : Type 0} (has_failed : T → Type 0) (stopped : Bool) (fault : DeskFault) (stop : Stop) → ((fault ≡ faults.Device) × (stopped ≡ true)) ⊎ ((fault ≡ faults.Memory) × (stopped ≡ false))
    → (fault ≡ faults.Device → stop ≡ stops.Device) → (fault ≡ faults.Memory → stop ≡ stops.Memory) → MayStop has_failed stopped stop
not_renewed has_failed stopped fault stop (inl (same, is)) device memory = subst (λ (s : Stop). MayStop has_failed stopped s) (sym (device same)) (inl is)
not_renewed has_failed stopped fault stop (inr (same, is)) device memory = subst (λ (s : Stop). MayStop has_failed stopped s) (sym (memory same)) tt

module _ {D K : Type 0} (keeps : D → Type 0) (view : D → View) (told : K → LinkState) where
  pub no_guests : (passes : List PassState) → passes ≡ [] → ArePassesOfGuests keeps view told passes
  no_guests passes is = subst (λ (l : List PassState). ArePassesOfGuests keeps view told l) (sym is) tt

  guests_then : (passes : List PassState) (pass : PassState) → ArePassesOfGuests keeps view told passes → ∥ IsPassOfGuest keeps view told pass ∥₁ → ArePassesOfGuests keeps view told (passes ++ pass ∷ [])
  guests_then [] pass are one = (one, tt)
  guests_then (p ∷ passes) pass are one = (are.0, guests_then passes pass are.1 one)

  -- the pass of one client more
  pub one_guest_more : (passes more : List PassState) (pass : PassState) → ArePassesOfGuests keeps view told passes → ∥ IsPassOfGuest keeps view told pass ∥₁ → more ≡ passes ++ pass ∷ [] → ArePassesOfGuests keeps view told more
  one_guest_more passes more pass are one is = subst (λ (l : List PassState). ArePassesOfGuests keeps view told l) (sym is) (guests_then passes pass are one)

  -- a coordinator ended
  pub ended_so : (desk : DeskState D) (coordinator : Held) (after : DeskState D) → coordinator ≡ desk.opening → (shown : List PassState) × (EndsWith keeps view coordinator shown after × ArePassesOfGuests keeps view told shown)
      → IsGeneration keeps view told desk after
  ended_so desk coordinator after is e = record { passes = e.0; ends = subst (λ (h : Held). EndsWith keeps view h e.0 after) is e.1.0; guests = e.1.1 }

  pub unsettled : (desk : DeskState D) (coordinator : Held) (disk : D) (stop : Stop) → coordinator ≡ desk.opening
      → (fault : CloseFault) × ((turns : ℕ) × ((front : ℕ) × ((shown : List PassState) × (IsRemainder keeps view coordinator shown fault turns front disk × (ArePassesOfGuests keeps view told shown × (stop ≡ stopped_by fault))))))
      → IsUnsettled keeps view told desk disk stop
  unsettled desk coordinator disk stop is e =
      inr (record {
        passes = e.1.1.1.0;
        turns = e.1.0;
        front = e.1.1.0;
        fault = e.0;
        stop_is = e.1.1.1.1.1.1;
        guests = e.1.1.1.1.1.0;
        remains = subst (λ (h : Held). IsRemainder keeps view h e.1.1.1.0 e.0 e.1.0 e.1.1.0 disk) is e.1.1.1.1.0;
      })

  -- one generation more
  abbrev generation : (desk after : DeskState D) → Generation D
  generation desk after = record { desk = desk; after = after }

  is_last_of : (first : D) (desk after : DeskState D) (now : D) → IsNextDesk keeps view told first desk → IsGeneration keeps view told desk after → now ≡ after.disk → IsLast keeps view told first now (generation desk after)
  is_last_of first desk after now next is same = record { earlier = next.generations; generations = (is, (next.begins, next.are)); disk_is = same }

  pub next_desk : (first : D) (desk after renewed : DeskState D) → IsNextDesk keeps view told first desk → IsGeneration keeps view told desk after → IsRenewed after renewed → IsNextDesk keeps view told first renewed
  next_desk first desk after renewed next is begins = record { generations = generation desk after ∷ next.generations; are = (is, (next.begins, next.are)); begins = begins }

  pub last_front : {T : Type 0} (is_over : T → Type 0) (first : D) (desk after : DeskState D) (now : D) (front : ℕ) → IsNextDesk keeps view told first desk → IsGeneration keeps view told desk after → now ≡ after.disk → front ≡ after.held.front
      → ∥ ((door : T) × is_over door) ∥₁ × (after.held.stopped ≡ false) → IsLastFront is_over keeps view told first now front
  last_front is_over first desk after now front next is same front_is why =
      record { last = generation desk after; is_last = is_last_of first desk after now next is same; front_is = sym front_is; over = why.0; running = why.1 }

  -- nothing went before
  pub first_desk : (first : D) (desk : DeskState D) → IsOpened keeps view first desk → IsNextDesk keeps view told first desk
  first_desk first desk opened = record { generations = []; are = tt; begins = opened }

  -- it stopped
  pub stopped_after : {T : Type 0} (has_failed : T → Type 0) (first : D) (desk after : DeskState D) (now : D) (stop : Stop) → IsNextDesk keeps view told first desk → IsGeneration keeps view told desk after → now ≡ after.disk
      → MayStop has_failed after.held.stopped stop → IsStoppedService has_failed keeps view told first now stop
  stopped_after has_failed first desk after now stop next is same why =
      inl (record { last = generation desk after; is_last = is_last_of first desk after now next is same; why = why })

  pub stopped_unsettled : {T : Type 0} (has_failed : T → Type 0) (first : D) (desk : DeskState D) (disk : D) (stop : Stop) → IsNextDesk keeps view told first desk → IsUnsettled keeps view told desk disk stop
      → IsStoppedService has_failed keeps view told first disk stop
  stopped_unsettled has_failed first desk disk stop next un = inr (desk, (next, un))

  -- ---- one run

  of_one : (g : Generation D) → IsGeneration keeps view told g.desk g.after → AreTurns g.desk.opening (trace_of g.after.turns) g.after.held
  of_one g is =
      let ends = is.ends.ends in
      let turned = subst (λ (ts : List Turn). ReplaysFrom 0 g.desk.opening ts ends.held) is.ends.list_is ends.replay in
      replayed_turns 0 g.desk.opening g.after.held g.after.turns (subst (λ (h : Held). ReplaysFrom 0 g.desk.opening g.after.turns h) is.ends.held_is turned)

  pub one_run : AreOneRun keeps view told
  one_run first last [] are = of_one last are.0
  one_run first last (g ∷ earlier) are =
      turns_then (held_before g earlier) g.after.held last.after.held (turns_of (g ∷ earlier)) last.after.turns (one_run first g earlier are.1.1)
      (subst (λ (h : Held). AreTurns h (trace_of last.after.turns) last.after.held) are.1.0.opening (of_one last are.0))

  -- ---- what was printed

  pub lasts_to_end : {T : Type 0} (is_over : T → Type 0) (first now : D) (port front : ℕ) (old between new : LinkState) → WritesAll old between (port_line port) → WritesAll between new (end_line front)
      → IsLastFront is_over keeps view told first now front → LastsToEnd is_over keeps view told port first now old new
  lasts_to_end is_over first now port front old between new all wrote last = record {
    last = last.last;
    is_last = last.is_last;
    over = last.over;
    running = last.running;
    written = record {
      written = subst (λ (n : ℕ). Appends old.held new.held (port_line port ++ end_line n)) (sym last.front_is) (appends_then old.held between.held new.held (port_line port) (end_line front) all.written wrote.written);
      nothing_waits = wrote.nothing_waits;
      sound = record { failures = wrote.sound.failures ∙ all.sound.failures; stalls = wrote.sound.stalls ∙ all.sound.stalls; ended = wrote.sound.ended ∙ all.sound.ended };
    };
  }

  pub unserved : (first : D) (desk : DeskState D) (now : D) → IsOpened keeps view first desk → now ≡ desk.disk → IsUnserved keeps view first now
  unserved first desk now opened same = record { desk = desk; opened = opened; disk_is = same }

  pub end_cut : {T : Type 0} (is_over : T → Type 0) (first now : D) (stop : Stop) (port front : ℕ) (old between new : LinkState) → IsLastFront is_over keeps view told first now front → WritesAll old between (port_line port)
      → WritesPart between new (end_line front) → stop ≡ stops.Device → IsEndCut keeps view told port first now old new stop
  end_cut is_over first now stop port front old between new last all cut device = record {
    last = last.last;
    is_last = last.is_last;
    device = device;
    cut = subst (λ (n : ℕ). WritesPart old new (port_line port ++ end_line n)) (sym last.front_is) (part_then old between new (port_line port) (end_line front) all cut);
  }
