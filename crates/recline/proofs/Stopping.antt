-- How a service ends, by how its parts ended.
use Rattle.std.specs.Prelude.{Result, Ok, Err, IfOk, IfErr}
use Rattle.std.proofs.Common.{◌≡◌, ◌⊎◌, inl, inr, ℕ, List, length, ◌++◌, ◌∙◌, sym, ap, append_assoc, subst, Option, Some, None}
use Rattle.line_disk.specs.Disk.{View}
use Rattle.chains.specs.Held.{Held}
use Rattle.coordinator.specs.Passes.{PassState}
use Rattle.coordinator.specs.Closing.{IsEnded, IsRemainder}
use Rattle.coordinator.specs.declared.fault.CloseFault.{CloseFault}
use Rattle.client_link.specs.Links.{LinkState}
use Rattle.recline.specs.Driving.{WritesAll, WritesPart}
use Rattle.std.proofs.Math.Logic.{∥∥₁_elim}
use Rattle.recline.specs.Serving.{AreEnough, AreServed, IsServed, IsStopped, PrintsSome, WritesPort, end_line, port_line}
use Rattle.recline.specs.working.Serving.{EndsNot, EndsShort, EndsWith, PrintsPort, StopsBehind}
use Rattle.recline.specs.declared.serving.Stop.{Stop}
use Rattle.recline.specs.declared.serving.Stop.TheVariants as stops
use Rattle.recline.proofs.Passes.{appends_then}
use Rattle.recline.proofs.Reading.{fault_behind}

-- where no source of clients ever says that the service is to end, all sessions are served
pub all_served : {T : Type 0} (wanted served : ℕ) → AreEnough {T = T} (λ source. ⊥) wanted served → served ≡ wanted
all_served wanted served (inl is) = is
all_served wanted served (inr fewer) = absurd (∥∥₁_elim fewer.1 (λ a b. absurd a) (λ over. over.1))

-- a part of a second text was written behind the first
pub part_then : (old between new : LinkState) (x y : List ℕ) → WritesAll old between x → WritesPart between new y → WritesPart old new (x ++ y)
part_then old between new x y all wrote = record {
  part = x ++ wrote.part;
  more = wrote.more;
  text_is = ap (λ (l : List ℕ). x ++ l) wrote.text_is ∙ sym (append_assoc x wrote.part wrote.more);
  written = appends_then old.held between.held new.held x wrote.part all.written wrote.written;
  fault = fault_behind old between new all.sound wrote.fault;
}

-- what was printed before it is known how the coordinator ends
writes_port : (before : Option Stop) (old new : LinkState) → PrintsPort before old new → WritesPort old new
writes_port None old new (port, all) = (port, inl all)
writes_port (Some stop) old new (port, inl all) = (port, inl all)
writes_port (Some stop) old new (port, inr (device, part)) = (port, inr part)

-- the coordinator ended, where it is not refused
pub ended_so : {E U : Type 0} (Ends Tells : E → Type 0) (closed : Result E U) → IfOk closed Ends → IfOk closed Tells → IfErr closed (λ u. ⊥) → (e : E) × Ends e × Tells e
ended_so Ends Tells (Ok e) ends tells never = (e, ends, tells)
ended_so Ends Tells (Err u) ends tells never = absurd never

-- the sessions were served to their end
pub ends_served : {D K : Type 0} (keeps : D → Type 0) (view : D → View) (client_told : K → LinkState) (opening : Held) (sessions dropped : ℕ) (passes : List PassState) (turns front : ℕ) (ended : D) (before behind : Option Stop) (old between new : LinkState) (disk : D)
    → AreServed keeps view client_told passes dropped → StopsBehind before (length passes) sessions behind → PrintsPort before old between → IsEnded keeps view opening passes turns front ended → EndsWith behind front ended between new disk
    → IsServed keeps view client_told opening sessions dropped old new disk
ends_served {D = D} keeps view client_told opening sessions dropped passes turns front ended before behind old between new disk served why printed ends (none, back, written) =
    let all_served : StopsBehind before (length passes) sessions None = subst (λ (o : Option Stop). StopsBehind before (length passes) sessions o) none why in
    let port : PrintsPort None old between = subst (λ (o : Option Stop). PrintsPort o old between) all_served.0 printed in
    record {
      port = port.0;
      passes = passes;
      turns = turns;
      front = front;
      ends = subst (λ (d : D). IsEnded keeps view opening passes turns front d) (sym back) ends;
      served = served;
      number = all_served.1;
      written = appends_then old.held between.held new.held (port_line port.0) (end_line front) port.1.written written.written;
      nothing_waits = written.nothing_waits;
      sound = record { failures = written.sound.failures ∙ port.1.sound.failures; stalls = written.sound.stalls ∙ port.1.sound.stalls; ended = written.sound.ended ∙ port.1.sound.ended };
    }

-- what was printed where the coordinator ended and nothing was told of it
port_alone : (served sessions front : ℕ) (stop : Stop) (before : Option Stop) (old new : LinkState) → StopsBehind before served sessions (Some stop) → PrintsPort before old new → PrintsSome served sessions front stop old new
port_alone served sessions front stop before old new (inl same) printed = go (subst (λ (o : Option Stop). PrintsPort o old new) same printed)
  where
    go : PrintsPort (Some stop) old new → PrintsSome served sessions front stop old new
    go (port, inl all) = (port, inl all)
    go (port, inr (device, part)) = (port, inr (device, inl part))
port_alone served sessions front stop before old new (inr (none, others, memory)) printed =
    let port : PrintsPort None old new = subst (λ (o : Option Stop). PrintsPort o old new) none printed in
    (port.0, inl port.1)

-- and where a part of the end was told
port_and_part : (served sessions front : ℕ) (stop : Stop) (before : Option Stop) (old between new : LinkState) → StopsBehind before served sessions None → PrintsPort before old between
    → stop ≡ stops.Device → WritesPart between new (end_line front) → PrintsSome served sessions front stop old new
port_and_part served sessions front stop before old between new why printed device part =
    let port : PrintsPort None old between = subst (λ (o : Option Stop). PrintsPort o old between) why.0 printed in
    (port.0, inr (device, inr (why.1, part_then old between new (port_line port.0) (end_line front) port.1 part)))

-- the coordinator ended, and the service stopped
cut_short : {D K : Type 0} (keeps : D → Type 0) (view : D → View) (client_told : K → LinkState) (opening : Held) (sessions dropped : ℕ) (passes : List PassState) (turns front : ℕ) (ended : D) (before behind : Option Stop) (old between new : LinkState) (disk : D) (stop : Stop)
    → AreServed keeps view client_told passes dropped → StopsBehind before (length passes) sessions behind → PrintsPort before old between → IsEnded keeps view opening passes turns front ended → EndsShort behind front ended between new disk stop
    → IsStopped keeps view client_told opening sessions old new disk stop
cut_short {D = D} keeps view client_told opening sessions dropped passes turns front ended before behind old between new disk stop served why printed ends (back, told) =
    subst (λ (d : D). IsStopped keeps view client_told opening sessions old new d stop) (sym back)
    (inl (record { passes = passes; dropped = dropped; turns = turns; front = front; ends = ends; served = served; printed = go told }))
  where
    go : ((behind ≡ Some stop) × (new ≡ between)) ⊎ ((behind ≡ None) × (stop ≡ stops.Device) × WritesPart between new (end_line front))
        → PrintsSome (length passes) sessions front stop old new
    go (inl (is, same)) =
        subst (λ (s : LinkState). PrintsSome (length passes) sessions front stop old s) (sym same)
        (port_alone (length passes) sessions front stop before old between (subst (λ (o : Option Stop). StopsBehind before (length passes) sessions o) is why) printed)
    go (inr (none, device, part)) =
        port_and_part (length passes) sessions front stop before old between new (subst (λ (o : Option Stop). StopsBehind before (length passes) sessions o) none why) printed device part

-- or its passes are not those of all turns
unended : {D K : Type 0} (keeps : D → Type 0) (view : D → View) (client_told : K → LinkState) (opening : Held) (sessions dropped : ℕ) (passes : List PassState) (fault : CloseFault) (turns front : ℕ) (ended : D) (before : Option Stop) (old between new : LinkState) (disk : D) (stop : Stop)
    → AreServed keeps view client_told passes dropped → PrintsPort before old between → IsRemainder keeps view opening passes fault turns front ended → EndsNot fault ended between new disk stop
    → IsStopped keeps view client_told opening sessions old new disk stop
unended {D = D} keeps view client_told opening sessions dropped passes fault turns front ended before old between new disk stop served printed remains (back, is, same) =
    inr (record {
      passes = passes;
      dropped = dropped;
      turns = turns;
      front = front;
      fault = fault;
      served = served;
      remains = subst (λ (d : D). IsRemainder keeps view opening passes fault turns front d) (sym back) remains;
      stop_is = is;
      printed = subst (λ (s : LinkState). WritesPort old s) (sym same) (writes_port before old between printed);
    })

-- the service stopped
pub ends_stopped : {D E U K : Type 0} (keeps : D → Type 0) (view : D → View) (client_told : K → LinkState) (opening : Held) (sessions dropped : ℕ) (passes : List PassState) (turns_of front_of : E → ℕ) (disk_of : E → D) (fault_of : U → CloseFault) (turns_left front_left : U → ℕ) (disk_left : U → D) (finished : Result E U) (before behind : Option Stop) (old between new : LinkState) (disk : D) (stop : Stop)
    → AreServed keeps view client_told passes dropped → StopsBehind before (length passes) sessions behind → PrintsPort before old between
    → IfOk finished (λ e. IsEnded keeps view opening passes (turns_of e) (front_of e) (disk_of e)) → IfErr finished (λ u. IsRemainder keeps view opening passes (fault_of u) (turns_left u) (front_left u) (disk_left u))
    → IfOk finished (λ e. EndsShort behind (front_of e) (disk_of e) between new disk stop) → IfErr finished (λ u. EndsNot (fault_of u) (disk_left u) between new disk stop)
    → IsStopped keeps view client_told opening sessions old new disk stop
ends_stopped keeps view client_told opening sessions dropped passes turns_of front_of disk_of fault_of turns_left front_left disk_left (Ok e) before behind old between new disk stop served why printed ends remains short not =
    cut_short keeps view client_told opening sessions dropped passes (turns_of e) (front_of e) (disk_of e) before behind old between new disk stop served why printed ends short
ends_stopped keeps view client_told opening sessions dropped passes turns_of front_of disk_of fault_of turns_left front_left disk_left (Err u) before behind old between new disk stop served why printed ends remains short not =
    unended keeps view client_told opening sessions dropped passes (fault_of u) (turns_left u) (front_left u) (disk_left u) before old between new disk stop served printed remains not
