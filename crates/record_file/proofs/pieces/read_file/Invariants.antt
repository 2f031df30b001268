use Rattle.std.proofs.Common.{◌≡◌, ◌↔◌, ◌-◌}
use Rattle.line_disk.specs.Disk.{Rests}
use Rattle.record_file.specs.Kept.{said_in}
use Rattle.record_file.specs.Reading.{IsReadTo}
use Rattle.record_file.proofs.pieces.read_file.Given as goal

abbrev pub invariant-loop-reading : goal.invariant-loop-reading
invariant-loop-reading g l = record {
  so_far : g.D.Disk.keeps l.fn.disk → IsReadTo (g.D.Disk.view l.fn.disk).seen l.version (said_in l.reading.records.items) l.reading.at;
  rests : g.D.Disk.keeps l.fn.disk → Rests (g.D.Disk.view l.fn.disk) (g.D.Disk.view l.disk);
  premise : g.D.Disk.keeps l.disk ↔ g.D.Disk.keeps l.fn.disk;
  cause : g.D.Disk.failed l.disk ≡ g.D.Disk.failed l.fn.disk;
  version : l.reading.version ≡ l.version;
  len : l.reading.len ≡ l.len;
}

abbrev pub decreases-loop-reading : goal.decreases-loop-reading
decreases-loop-reading g l = l.len - l.reading.end
