use Rattle.std.proofs.lemmas.Result.{IfOk-weaker}
use Rattle.line_disk.specs.Tape.{calls_on}
use Rattle.line_disk.proofs.Images.{image_made, image_crash}
use Rattle.line_disk.proofs.memory.MemoryDisk.image.Goals as goal

pub returns-clause-crash : goal.returns-clause-crash
returns-clause-crash c =
    let tape = c.args.self.now.tape in
    IfOk-weaker c.image_of.result _ _
    (λ image is. image_crash tape.first.items (calls_on tape) c.args.k c.args.n image.items
    (image_made tape.first.items c.deref.result.now tape.changes.items c.deref-2.result.now tape.idle c.args.k c.args.n image.items c.deref.ensures.value c.deref-2.ensures.value is))
    c.image_of.ensures

pub returns-clause-bytes : goal.returns-clause-bytes
returns-clause-bytes c =
    let tape = c.args.self.now.tape in
    IfOk-weaker c.image_of.result _ _
    (λ image is. image_made tape.first.items c.deref.result.now tape.changes.items c.deref-2.result.now tape.idle c.args.k c.args.n image.items c.deref.ensures.value c.deref-2.ensures.value is)
    c.image_of.ensures
