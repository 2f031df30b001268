use Rattle.line_disk.specs.working.FileShadow.{first_of, calls_of}
use Rattle.line_disk.proofs.Devices.{after_write}
use Rattle.line_disk.proofs.file.FileDiskDisk.write_at.Goals as goal

pub returns-in-Err-clause-crash : goal.returns-in-Err-clause-crash
returns-in-Err-clause-crash g c = λ keeps.
    after_write g.P.Device.leaves (first_of g.P.Device.unread c.args.self.now.shadow) (first_of g.P.Device.unread c.wrote.new.self) (calls_of c.args.self.now.shadow) (calls_of c.wrote.new.self) (c.wrote.ensures.first g.P.Device.unread) keeps
    c.args.at c.args.bytes.now c.is_ok-done.result (c.requires keeps) c.wrote.ensures.calls

pub returns-in-Ok-clause-crash : goal.returns-in-Ok-clause-crash
returns-in-Ok-clause-crash g c = λ keeps.
    after_write g.P.Device.leaves (first_of g.P.Device.unread c.args.self.now.shadow) (first_of g.P.Device.unread c.wrote.new.self) (calls_of c.args.self.now.shadow) (calls_of c.wrote.new.self) (c.wrote.ensures.first g.P.Device.unread) keeps
    c.args.at c.args.bytes.now c.is_ok-done.result (c.requires keeps) c.wrote.ensures.calls
