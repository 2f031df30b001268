-- `tell`: one piece alone.
use Rattle.std.proofs.Common.{List, ℕ, append-nil, subst}
use Rattle.recline.specs.Outcome.{Tells}
use Rattle.recline.proofs.telling.tell.Goals as goal

pub returns : goal.returns
returns g c = subst (λ (l : List ℕ). Tells (g.F.Link.told c.args.faults.now) (g.F.Link.told c.tell_all.new.faults) l) (append-nil c.args.line.now) c.tell_all.ensures
