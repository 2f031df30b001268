-- `write_all`: one piece alone.
use Rattle.std.proofs.Common.{List, ℕ, append-nil, subst}
use Rattle.recline.specs.working.Driving.{Writes}
use Rattle.recline.proofs.telling.write_all.Goals as goal

pub returns-clause-writes : goal.returns-clause-writes
returns-clause-writes g c =
    subst (λ (l : List ℕ). Writes (g.K.Link.told c.args.link.now) (g.K.Link.told c.write_pieces.new.link) c.write_pieces.result l) (append-nil c.args.text.now) c.write_pieces.ensures.writes
