use Rattle.std.proofs.Common.{ℕ, List, refl, ◌∙◌, arith}
use Rattle.chains.specs.Held.{held_of}
use Rattle.coordinator.specs.Closing.{entries_of}
use Rattle.coordinator.specs.working.Marks.{IsMarked}
use Rattle.coordinator.proofs.Marked.{sum_small, marked_all, marked_once}
use Rattle.coordinator.proofs.Checked.{wrong_cause}
use Rattle.coordinator.proofs.Owned.{all_right}
use Rattle.coordinator.proofs.auditing.audit_marked.Goals as goal

pub returns-in-Err-clause-err : goal.returns-in-Err-clause-err
returns-in-Err-clause-err g c = c.in-Err.ensures.err (held_of c.args.opening.now)

pub returns-in-Err-check_lines-clause-err : goal.returns-in-Err-check_lines-clause-err
returns-in-Err-check_lines-clause-err g c = wrong_cause (held_of c.args.opening.now) c.args.turns.now c.args.passes.now c.in-Err-check_lines.fault c.in-Err-check_lines.ensures.err

pub total-shares-requires : goal.total-shares-requires
total-shares-requires g c =
    omega (arith, sum_small c.mark_all.new.marks c.in-Ok.ensures.ok.once, c.in-Ok.ensures.length, c.requires.at_most)

pub returns-then-shares-turns-clause-err : goal.returns-then-shares-turns-clause-err
returns-then-shares-turns-clause-err g c =
    let ts = c.args.turns.now in
    let passes = c.args.passes.now in
    let marks : List ℕ = c.mark_all.new.marks in
    let marked : IsMarked ts marks (entries_of passes) = c.in-Ok.ensures.ok in
    record {
      shares_are = c.total-shares.ensures ∙ marked.total;
      turns_are = refl;
      fewer = omega (arith, c.if-shares-turns.true);
      fits = marked.fits;
      once = marked_once ts (entries_of passes) marks marked c.in-Ok.ensures.length;
      lines = all_right (held_of c.args.opening.now) ts passes marks c.mark_all.new.owners c.in-Ok.ensures.owned c.in-Ok-check_lines.ensures.ok;
    }

pub returns-clause-ok : goal.returns-clause-ok
returns-clause-ok g c =
    let ts = c.args.turns.now in
    let passes = c.args.passes.now in
    let marks : List ℕ = c.mark_all.new.marks in
    let marked : IsMarked ts marks (entries_of passes) = c.in-Ok.ensures.ok in
    record {
      fits = marked.fits;
      once = marked_all ts (entries_of passes) marks marked c.in-Ok.ensures.length (omega (arith, c.total-shares.ensures, c.if-shares-turns.false));
      lines = all_right (held_of c.args.opening.now) ts passes marks c.mark_all.new.owners c.in-Ok.ensures.owned c.in-Ok-check_lines.ensures.ok;
    }
