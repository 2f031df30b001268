use Rattle.std.proofs.Common.{◌≤◌, length, ap, sym, refl, ◌∙◌, subst, ℕ, List}
use Rattle.chains.specs.Held.{held_of}
use Rattle.record_file.specs.Store.{is_stopped}
use Rattle.desk.specs.Records.{said_settled, settlement_recorded}
use Rattle.desk.proofs.Spelled.{some_settle_line}
use Rattle.desk.proofs.Passing.{tested, settle_spelled, turn_before, turn_unknown, turn_unread, turn_done, follows, recorded_settled}
use Rattle.desk.proofs.Writing.{says, told_same, appends, writes_nothing, writes_done, writes_before, writes_unknown, settled_placed, settled_uses, settled_counts}
use Rattle.desk.proofs.returning.return_all.Goals as goal

pub settle_named-requires-clause-known : goal.settle_named-requires-clause-known
settle_named-requires-clause-known g c =
    (tested (held_of c.args.chains.now) c.args.front c.args.names.now c.requires.passes).all_known

pub returns-in_default-write_settle-clause-turn : goal.returns-in_default-write_settle-clause-turn
returns-in_default-write_settle-clause-turn g c =
    turn_unread c.args.chains.now (is_stopped c.args.store.now) c.args.front c.args.names.now c.refused-in_default-write_settle.result c.requires.passes c.refused-in_default-write_settle.ensures c.requires.running

pub returns-in_default-write_settle-clause-writes : goal.returns-in_default-write_settle-clause-writes
returns-in_default-write_settle-clause-writes g c =
    let x = c.refused-in_default-write_settle in
    writes_nothing g.D.Disk.keeps g.D.Disk.view g.D.Disk.failed c.args.store.now _ _ x.result (ap (settlement_recorded c.args.front c.args.names.now) x.ensures) (rw x.ensures (λ uses. uses))

pub append-requires-clause-some : goal.append-requires-clause-some
append-requires-clause-some g c =
    subst (λ (l : List ℕ). 1 ≤ length l) (sym (c.deref.ensures.value ∙ c.in-Ok-write_settle.ensures)) (some_settle_line c.args.front c.args.names.now)

pub returns-in-Done-clause-turn : goal.returns-in-Done-clause-turn
returns-in-Done-clause-turn g c =
    let settled = c.in-Ok.ensures in
    turn_done c.args.chains.now c.in-Ok.returned (is_stopped c.append.new.self) c.args.front c.args.names.now _ _ c.settled.result c.requires.passes settled c.epoch-in-Done.ensures c.front.ensures c.settled.ensures (c.in-Done.ensures.append.stops.1 refl)

pub returns-in-Done-clause-spelled : goal.returns-in-Done-clause-spelled
returns-in-Done-clause-spelled g c = λ uses.
    settle_spelled (held_of c.args.chains.now) c.args.front c.args.names.now c.args.names.now c.requires.passes c.recall_lawful.ensures.counted c.ranges.front.fits refl c.recall_facts.ensures

pub returns-in-Done-clause-writes : goal.returns-in-Done-clause-writes
returns-in-Done-clause-writes g c =
    let names = c.args.names.now in
    let one = said_settled c.args.chains.now.epoch c.args.front names in
    let told = says c.epoch.result c.deref.result.now in
    let is = told_same c.epoch.result c.deref.result.now one c.epoch.ensures (c.deref.ensures.value ∙ c.in-Ok-write_settle.ensures) in
    let tells = appends g.D.Disk.keeps g.D.Disk.view g.D.Disk.failed _ _ told one is c.append.ensures.append.found c.append.ensures.append.any_moment c.append.ensures.append.premise in
    let settled = c.in-Ok.ensures in
    let x = c.settled in
    writes_done g.D.Disk.keeps g.D.Disk.view g.D.Disk.failed _ _ told one is tells (settlement_recorded c.args.front names x.result) x.result
    (recorded_settled c.args.chains.now c.in-Ok.returned c.args.front names _ _ x.result settled c.epoch-in-Done.ensures x.ensures)
    (λ said a b. settled_placed x.result _ _ x.ensures said one a b) (settled_uses x.result _ _ x.ensures) (settled_counts x.result _ _ x.ensures)
    c.in-Done.ensures.append.done c.in-Done.ensures.append.after c.in-Done.ensures.append.so_far c.in-Done.ensures.append.cause

pub returns-in-Before-clause-turn : goal.returns-in-Before-clause-turn
returns-in-Before-clause-turn g c =
    turn_before c.args.chains.now (is_stopped c.append.new.self) c.args.front c.args.names.now c.failed.result c.requires.passes c.failed.ensures (λ runs. let e = c.in-Before.ensures.append.stops.0 runs in cc)

pub returns-in-Before-clause-spelled : goal.returns-in-Before-clause-spelled
returns-in-Before-clause-spelled g c = λ uses.
    settle_spelled (held_of c.args.chains.now) c.args.front c.args.names.now c.args.names.now c.requires.passes c.recall_lawful.ensures.counted c.ranges.front.fits refl c.recall_facts.ensures

pub returns-in-Before-clause-writes : goal.returns-in-Before-clause-writes
returns-in-Before-clause-writes g c =
    let names = c.args.names.now in
    let one = said_settled c.args.chains.now.epoch c.args.front names in
    let told = says c.epoch.result c.deref.result.now in
    let is = told_same c.epoch.result c.deref.result.now one c.epoch.ensures (c.deref.ensures.value ∙ c.in-Ok-write_settle.ensures) in
    let tells = appends g.D.Disk.keeps g.D.Disk.view g.D.Disk.failed _ _ told one is c.append.ensures.append.found c.append.ensures.append.any_moment c.append.ensures.append.premise in
    writes_before g.D.Disk.keeps g.D.Disk.view g.D.Disk.failed _ _ told one is tells (settlement_recorded c.args.front names c.failed.result) c.failed.result c.failed.ensures (ap (settlement_recorded c.args.front names) c.failed.ensures)
    (λ runs. let e = c.in-Before.ensures.append.stops.0 runs in cc) c.in-Before.ensures.append.after c.in-Before.ensures.append.so_far c.in-Before.ensures.append.cause

pub returns-in-Unknown-clause-turn : goal.returns-in-Unknown-clause-turn
returns-in-Unknown-clause-turn g c =
    turn_unknown c.args.chains.now (is_stopped c.append.new.self) c.args.front c.args.names.now c.failed-in-Unknown.result c.requires.passes c.failed-in-Unknown.ensures (λ runs. let e = c.in-Unknown.ensures.append.stops.0 runs in cc)

pub returns-in-Unknown-clause-spelled : goal.returns-in-Unknown-clause-spelled
returns-in-Unknown-clause-spelled g c = λ uses.
    settle_spelled (held_of c.args.chains.now) c.args.front c.args.names.now c.args.names.now c.requires.passes c.recall_lawful.ensures.counted c.ranges.front.fits refl c.recall_facts.ensures

pub returns-in-Unknown-clause-followed : goal.returns-in-Unknown-clause-followed
returns-in-Unknown-clause-followed g c =
    let settled = c.in-Ok.ensures in
    follows c.args.chains.now c.in-Ok.returned c.args.front c.args.names.now c.failed-in-Unknown.result
    (settle_spelled (held_of c.args.chains.now) c.args.front c.args.names.now c.args.names.now c.requires.passes c.recall_lawful.ensures.counted c.ranges.front.fits refl c.recall_facts.ensures)
    c.requires.passes settled c.failed-in-Unknown.ensures

pub returns-in-Unknown-clause-writes : goal.returns-in-Unknown-clause-writes
returns-in-Unknown-clause-writes g c =
    let names = c.args.names.now in
    let one = said_settled c.args.chains.now.epoch c.args.front names in
    let told = says c.epoch.result c.deref.result.now in
    let is = told_same c.epoch.result c.deref.result.now one c.epoch.ensures (c.deref.ensures.value ∙ c.in-Ok-write_settle.ensures) in
    let tells = appends g.D.Disk.keeps g.D.Disk.view g.D.Disk.failed _ _ told one is c.append.ensures.append.found c.append.ensures.append.any_moment c.append.ensures.append.premise in
    let x = c.failed-in-Unknown in
    writes_unknown g.D.Disk.keeps g.D.Disk.view g.D.Disk.failed _ _ told one is tells (settlement_recorded c.args.front names x.result) x.result x.ensures (ap (settlement_recorded c.args.front names) x.ensures)
    (λ runs. let e = c.in-Unknown.ensures.append.stops.0 runs in cc) c.in-Unknown.ensures.append.after c.in-Unknown.ensures.append.so_far c.in-Unknown.ensures.append.cause
