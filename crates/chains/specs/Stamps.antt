-- An element that is shown, as a stamp.
use Rattle.stamp.specs.declared.stamp.Stamp.{Stamp}
use Rattle.chains.specs.declared.elements.Element.{Element}

-- its id and events
abbrev pub stamp_of : Element → Stamp
stamp_of e = record { id = e.id.now; events = e.events.now }
