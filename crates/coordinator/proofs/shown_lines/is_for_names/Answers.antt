use Rattle.std.proofs.Common.{List, Bool, sym, subst}
use Rattle.chains.specs.Failures.{AreMarked}
use Rattle.coordinator.proofs.shown_lines.is_for_names.Goals as goal

pub returns : goal.returns
returns c = c.are_told.ensures c.args.names.now (subst (λ (l : List Bool). AreMarked c.args.chains.now.accepted c.args.names.now l) (sym c.deref.ensures.value) c.in_ok-named.ensures)
