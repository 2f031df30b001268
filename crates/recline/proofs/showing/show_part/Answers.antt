use Rattle.std.proofs.Common.{refl}
use Rattle.recline.proofs.showing.show_part.Goals as goal

pub returns : goal.returns
returns g c = (refl, c.args.fault, c.requires.refuses, c.requires.file, c.tell_unopened.ensures)
