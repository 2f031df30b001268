use Rattle.std.proofs.Common.{◌≡◌, take}
use Rattle.chains.proofs.copies.copy_names.Given as goal

abbrev pub invariant-loop-name : goal.invariant-loop-name
invariant-loop-name l = l.copy.keys ≡ take l.name-index l.names
