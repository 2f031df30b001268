-- What the chains of a desk hold.
use Rattle.std.proofs.Common.{◌≡◌, false, sym, ◌∙◌}
use Rattle.chains.specs.Kept.{Kept}
use Rattle.chains.specs.Held.{Held, held_of}
use Rattle.desk.specs.Lawful.{unstopped}
use Rattle.desk.proofs.Running.{is_unstopped}

-- chains that hold what is held, where no store is stopped
pub held_by_chains : (k : Kept) (h : Held) → held_of k ≡ unstopped h → h.stopped ≡ false → held_of k ≡ h
held_by_chains k h holds stopped = holds ∙ sym (is_unstopped h stopped)
