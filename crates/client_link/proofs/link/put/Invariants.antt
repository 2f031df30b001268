use Rattle.std.proofs.Common.{◌≡◌, ◌++◌, List, ℕ, length}
use Rattle.std.specs.Io.KnownBytes.{Appends}
use Rattle.client_link.specs.Links.{IsSound}
use Rattle.client_link.proofs.link.put.Given as goal

abbrev pub invariant-loop-rest : goal.invariant-loop-rest
invariant-loop-rest g l = record {
  sent : (done : List ℕ) × (l.bytes ≡ done ++ l.rest) × Appends (g.K.Link.told l.fn.link).held (g.K.Link.told l.link).held done;
  sound : IsSound (g.K.Link.told l.fn.link) (g.K.Link.told l.link);
  left : (g.K.Link.told l.link).left ≡ (g.K.Link.told l.fn.link).left;
  reads : (g.K.Link.told l.link).reads ≡ (g.K.Link.told l.fn.link).reads;
}

abbrev pub decreases-loop-rest : goal.decreases-loop-rest
decreases-loop-rest g l = length l.rest
