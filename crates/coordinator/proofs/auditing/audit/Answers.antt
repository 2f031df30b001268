use Rattle.std.proofs.Common.{List, sym, ◌∙◌, subst}
use Rattle.chains.specs.Held.{held_of}
use Rattle.desk.specs.declared.turn.Turn.{Turn}
use Rattle.coordinator.specs.Closing.{IsCause}
use Rattle.coordinator.specs.working.Marks.{IsCauseWithFits}
use Rattle.coordinator.proofs.Fitting.{audit_cause}
use Rattle.coordinator.proofs.auditing.audit.Goals as goal

pub returns-in-Err-clause-err : goal.returns-in-Err-clause-err
returns-in-Err-clause-err g c =
    let desk = c.args.desk.now in
    let passes = c.args.passes.now in
    let same = c.hold_the_same.ensures.0 c.if-not-hold_the_same.false ∙ c.opened_with.ensures in
    let told = subst (λ (ts : List Turn). IsCause desk.opening ts passes c.in-Err.fault) (sym c.turns.ensures) c.in-Err.ensures.err in
    let fits = subst (λ (ts : List Turn). IsCauseWithFits desk.opening ts passes c.fault_with_fits.result) c.turns.ensures (c.fault_with_fits.ensures desk.opening told) in
    audit_cause (held_of c.args.opening.now) desk passes c.fault_with_fits.result same fits
