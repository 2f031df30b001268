use Rattle.std.proofs.Common.{◌≤◌, length, ap, sym, subst, ℕ, List}
use Rattle.desk.specs.Records.{said_of, report_recorded}
use Rattle.desk.proofs.Spelled.{some_line}
use Rattle.desk.proofs.Writing.{says, told_same, appends, writes_done, writes_before, writes_unknown, accepted_placed, accepted_uses, accepted_counts}
use Rattle.desk.proofs.placing.append.Goals as goal

pub append-requires-clause-some : goal.append-requires-clause-some
append-requires-clause-some g c =
    subst (λ (l : List ℕ). 1 ≤ length l) (sym c.requires.line) (some_line c.args.ready.report.report)

pub returns-in-Done-clause-writes : goal.returns-in-Done-clause-writes
returns-in-Done-clause-writes g c =
    let m = c.args.ready.report in
    let told = says c.epoch.result c.args.line.now in
    let is = told_same c.epoch.result c.args.line.now (said_of m) c.epoch.ensures c.requires.line in
    let tells = appends g.D.Disk.keeps g.D.Disk.view g.D.Disk.failed _ _ told (said_of m) is c.append.ensures.append.found c.append.ensures.append.any_moment c.append.ensures.append.premise in
    writes_done g.D.Disk.keeps g.D.Disk.view g.D.Disk.failed _ _ told (said_of m) is tells (report_recorded m c.accepted.result) c.accepted.result (ap (report_recorded m) c.accepted.ensures)
    (λ said a b. accepted_placed c.accepted.result _ c.accepted.ensures said (said_of m) a b) (accepted_uses c.accepted.result _ c.accepted.ensures) (accepted_counts c.accepted.result _ c.accepted.ensures)
    c.in-Done.ensures.append.done c.in-Done.ensures.append.after c.in-Done.ensures.append.so_far c.in-Done.ensures.append.cause

pub returns-in-Before-clause-writes : goal.returns-in-Before-clause-writes
returns-in-Before-clause-writes g c =
    let m = c.args.ready.report in
    let told = says c.epoch.result c.args.line.now in
    let is = told_same c.epoch.result c.args.line.now (said_of m) c.epoch.ensures c.requires.line in
    let tells = appends g.D.Disk.keeps g.D.Disk.view g.D.Disk.failed _ _ told (said_of m) is c.append.ensures.append.found c.append.ensures.append.any_moment c.append.ensures.append.premise in
    writes_before g.D.Disk.keeps g.D.Disk.view g.D.Disk.failed _ _ told (said_of m) is tells (report_recorded m c.failed.result) c.failed.result c.failed.ensures (ap (report_recorded m) c.failed.ensures)
    (λ runs. let e = c.in-Before.ensures.append.stops.0 runs in cc) c.in-Before.ensures.append.after c.in-Before.ensures.append.so_far c.in-Before.ensures.append.cause

pub returns-in-Unknown-clause-writes : goal.returns-in-Unknown-clause-writes
returns-in-Unknown-clause-writes g c =
    let m = c.args.ready.report in
    let told = says c.epoch.result c.args.line.now in
    let is = told_same c.epoch.result c.args.line.now (said_of m) c.epoch.ensures c.requires.line in
    let tells = appends g.D.Disk.keeps g.D.Disk.view g.D.Disk.failed _ _ told (said_of m) is c.append.ensures.append.found c.append.ensures.append.any_moment c.append.ensures.append.premise in
    let x = c.failed-in-Unknown in
    writes_unknown g.D.Disk.keeps g.D.Disk.view g.D.Disk.failed _ _ told (said_of m) is tells (report_recorded m x.result) x.result x.ensures (ap (report_recorded m) x.ensures)
    (λ runs. let e = c.in-Unknown.ensures.append.stops.0 runs in cc) c.in-Unknown.ensures.append.after c.in-Unknown.ensures.append.so_far c.in-Unknown.ensures.append.cause
