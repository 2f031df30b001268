-- What is written of a fault line is what is told of it, whether a call failed or not.
use Rattle.std.proofs.Common.{◌≡◌, ℕ, List, Result, Ok, Err, inl, inr}
use Rattle.client_link.specs.Links.{LinkState}
use Rattle.client_link.specs.declared.link.LinkFault.{LinkFault}
use Rattle.recline.specs.working.Driving.{Writes}
use Rattle.recline.specs.Outcome.{Tells}
use Rattle.recline.proofs.telling.tell_all.Goals as goal

told_by : (old new : LinkState) (result : Result (Unit {0}) LinkFault) (text : List ℕ) → Writes old new result text → new.left ≡ old.left → new.reads ≡ old.reads → Tells old new text
told_by old new (Ok u) text writes left reads = record { left = left; reads = reads; told = inl (writes.written, writes.nothing_waits, writes.sound) }
told_by old new (Err fault) text writes left reads = record { left = left; reads = reads; told = inr (writes.part, writes.more, writes.text_is, writes.written, writes.fault) }

pub returns : goal.returns
returns g c = told_by _ _ c.write_pieces-written.result _ c.write_pieces-written.ensures.writes c.write_pieces-written.ensures.left c.write_pieces-written.ensures.reads
