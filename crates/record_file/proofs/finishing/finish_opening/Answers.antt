use Rattle.std.proofs.Common.{ℕ, List, length, sym, ap, subst, arith, rules}
use Rattle.line_disk.specs.Disk.{LeavesAlways}
use Rattle.record_file.specs.Kept.{said_in}
use Rattle.record_file.specs.Opening.{KeepsFile}
use Rattle.record_file.specs.Reading.{IsReading}
use Rattle.record_file.specs.Resting.{IsAtRest}
use Rattle.record_file.proofs.Openings.{IsSettled, settled, settled_more, new_always, cut_always, cut_rests, whole_rests, new_rests}
use Rattle.record_file.proofs.finishing.finish_opening.Goals as goal
use Rattle.record_file.proofs.finishing.finish_opening.Goals.{In_ok-len, In_ok-version, then-end-len+in_ok-cut_durably, else-end-len}

-- after the length was asked
after_len : (g : _) (c : In_ok-len g) → g.D.Disk.keeps c.args.disk.now → IsSettled (g.D.Disk.view c.args.disk.now) (g.D.Disk.view c.len.new.self)
after_len g c keeps = settled_more _ _ _ (settled (g.D.Disk.view c.args.disk.now) (c.requires keeps)) (c.len.ensures.rests keeps)

-- after the file was read
after_read : (g : _) (c : In_ok-version g) → g.D.Disk.keeps c.args.disk.now → IsSettled (g.D.Disk.view c.args.disk.now) (g.D.Disk.view c.read_file.new.disk)
after_read g c keeps =
    settled_more _ _ _ (settled_more _ _ _ (settled (g.D.Disk.view c.args.disk.now) (c.requires keeps)) (c.len.ensures.rests keeps)) (c.read_file.ensures.rests (c.len.ensures.premise.1 keeps))

reading : (g : _) (c : In_ok-version g) → g.D.Disk.keeps c.args.disk.now → IsReading (g.D.Disk.view c.args.disk.now).seen c.in_ok-version.version (said_in c.in_ok-version.records.items) c.in_ok-version.end
reading g c keeps =
    subst (λ (f : List ℕ). IsReading f c.in_ok-version.version (said_in c.in_ok-version.records.items) c.in_ok-version.end) (c.len.ensures.rests keeps).1 (c.in_ok-version.ensures.ok (c.len.ensures.premise.1 keeps))

pub returns-in_err-write_durably-clause-any_moment : goal.returns-in_err-write_durably-clause-any_moment
returns-in_err-write_durably-clause-any_moment g c = λ keeps.
    new_always _ _ _ (after_len g (goal.at.returns-in_err-write_durably-clause-any_moment g c).In_ok-len keeps) (omega (arith, c.in_ok-len.ensures.len keeps)) (c.write_durably.ensures.crash (c.len.ensures.premise.1 keeps))

pub returns-then-len-le9-clause-any_moment : goal.returns-then-len-le9-clause-any_moment
returns-then-len-le9-clause-any_moment g c = λ keeps.
    new_always _ _ _ (after_len g (goal.at.returns-then-len-le9-clause-any_moment g c).In_ok-len keeps) (omega (arith, c.in_ok-len.ensures.len keeps)) (c.write_durably.ensures.crash (c.len.ensures.premise.1 keeps))

pub returns-in_err-cut_durably-clause-any_moment : goal.returns-in_err-cut_durably-clause-any_moment
returns-in_err-cut_durably-clause-any_moment g c = λ keeps.
    let here = (goal.at.returns-in_err-cut_durably-clause-any_moment g c).In_ok-version in
    cut_always _ _ _ _ (reading g here keeps) _ _ (after_read g here keeps) (c.cut_durably.ensures.crash (c.read_file.ensures.premise.1 (c.len.ensures.premise.1 keeps)))

pub returns-clause-at_rest : goal.returns-clause-at_rest
returns-clause-at_rest g c = λ keeps.
    let here = (goal.at.returns-clause-at_rest g c).In_ok-version in
    let still = c.read_file.ensures.premise.1 (c.len.ensures.premise.1 keeps) in
    let P = λ (d : _). IsAtRest c.in_ok-version.version (said_in c.in_ok-version.records.items) c.in_ok-version.end (g.D.Disk.view d) in
    elim c.if-end-len.branch [
      | then-end-len+in_ok-cut_durably w ↦ subst P (sym w.disk-is) (cut_rests _ _ _ _ (reading g here keeps) _ _ (after_read g here keeps) (w.in_ok-cut_durably.ensures.cut still) (w.in_ok-cut_durably.ensures.durable still))
      | else-end-len w ↦ subst P (sym w.disk-is) (whole_rests _ _ _ _ (reading g here keeps) _ (after_read g here keeps) (omega (arith, c.in_ok-len.ensures.len keeps, w.if-end-len.false)))
    ]

pub returns-clause-any_moment : goal.returns-clause-any_moment
returns-clause-any_moment g c = λ keeps.
    let here = (goal.at.returns-clause-any_moment g c).In_ok-version in
    let still = c.read_file.ensures.premise.1 (c.len.ensures.premise.1 keeps) in
    let P = λ (d : _). LeavesAlways (KeepsFile (g.D.Disk.view c.args.disk.now).seen) (g.D.Disk.view c.args.disk.now) (g.D.Disk.view d) in
    elim c.if-end-len.branch [
      | then-end-len+in_ok-cut_durably w ↦ subst P (sym w.disk-is) (cut_always _ _ _ _ (reading g here keeps) _ _ (after_read g here keeps) (w.cut_durably.ensures.crash still))
      | else-end-len w ↦ subst P (sym w.disk-is) (after_read g here keeps).always
    ]

pub returns-then-len-le9-clause-at_rest : goal.returns-then-len-le9-clause-at_rest
returns-then-len-le9-clause-at_rest g c = λ keeps.
    let still = c.len.ensures.premise.1 keeps in
    new_rests (g.D.Disk.view c.len.new.self).seen _ (g.D.Disk.view c.write_durably.new.disk) (omega (arith, c.in_ok-len.ensures.len keeps, ap length (c.len.ensures.rests keeps).1)) (search rules) (c.in_ok-write_durably.ensures.written still) (c.in_ok-write_durably.ensures.durable still)
