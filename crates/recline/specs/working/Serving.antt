-- Parts of what the command `serve` answers.
use Rattle.std.specs.Prelude.{◌≡◌, ◌≢◌, ◌⊎◌, ℕ, Option, Some, None}
use Rattle.coordinator.specs.declared.fault.CloseFault.{CloseFault}
use Rattle.client_link.specs.Links.{LinkState}
use Rattle.recline.specs.Driving.{WritesAll, WritesPart}
use Rattle.recline.specs.declared.serving.Stop.{Stop}
use Rattle.recline.specs.declared.serving.Stop.TheVariants as stops
use Rattle.recline.specs.Serving.{end_line, port_line, stopped_by}

-- the port was printed; or the service stops, and a line that is not whole says that a device failed
abbrev pub PrintsPort : Option Stop → LinkState → LinkState → Type 0
PrintsPort None old new = (port : ℕ) × WritesAll old new (port_line port)
PrintsPort (Some stop) old new = (port : ℕ) × (WritesAll old new (port_line port) ⊎ ((stop ≡ stops.Device) × WritesPart old new (port_line port)))

-- why a service stops behind its sessions: as it did before, or for memory where there were others than were wanted
abbrev pub StopsBehind : Option Stop → ℕ → ℕ → Option Stop → Type 0
StopsBehind before served wanted None = (before ≡ None) × (served ≡ wanted)
StopsBehind before served wanted (Some stop) = (before ≡ Some stop) ⊎ ((before ≡ None) × (served ≢ wanted) × (stop ≡ stops.Memory))

-- the coordinator ended with this front and left this disk, which comes back, and that was told
abbrev pub EndsWith : {D : Type 0} → Option Stop → ℕ → D → LinkState → LinkState → D → Type 0
EndsWith before front disk old new back = (before ≡ None) × (back ≡ disk) × WritesAll old new (end_line front)

-- nothing was told of it, since the service stops; or a part of the end
abbrev pub EndsShort : {D : Type 0} → Option Stop → ℕ → D → LinkState → LinkState → D → Stop → Type 0
EndsShort before front disk old new back stop =
    (back ≡ disk) × (((before ≡ Some stop) × (new ≡ old)) ⊎ ((before ≡ None) × (stop ≡ stops.Device) × WritesPart old new (end_line front)))

-- the passes are not those of all turns, for this fault
abbrev pub EndsNot : {D : Type 0} → CloseFault → D → LinkState → LinkState → D → Stop → Type 0
EndsNot fault disk old new back stop = (back ≡ disk) × (stop ≡ stopped_by fault) × (new ≡ old)
