use Rattle.chains.proofs.chains.Chains.keep.Goals as goal

pub returns-in-Ok-clause-ok : goal.returns-in-Ok-clause-ok
returns-in-Ok-clause-ok c = rw c.as_slice.ensures at c.in-Ok.ensures.ok
