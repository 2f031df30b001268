use Rattle.std.proofs.Common.{◌≡◌, ◌+◌, true, false, refl, sym, ◌∙◌, ap, subst, arith, rules}
use Rattle.record_file.specs.Store.{is_stopped}
use Rattle.report_line.specs.declared.reply.Reply.{Reply}
use Rattle.chains.specs.Held.{held_of}
use Rattle.desk.specs.Files.{UsesDevice}
use Rattle.desk.specs.Records.{IsRecordOf, IsRecordedCall}
use Rattle.desk.specs.working.Parts.{IsFollowed, WritesBy}
use Rattle.desk.specs.declared.turn.Turn.{Turn}
use Rattle.desk.proofs.Deciding.{stopped_only, before_left}
use Rattle.desk.proofs.Turning.{step_same, placed_same, always_by}
use Rattle.desk.proofs.Turned.{rests, lawful_then, placed_then}
use Rattle.desk.proofs.LawfulTurns.{turn_of_histories}
use Rattle.desk.proofs.desk.Desk.turn_by.Goals as goal

pub invariant_of-self-2 : goal.invariant_of-self-2
invariant_of-self-2 g c =
    let a = c.self.inside in
    let made : Turn = record { call = c.args.call; receipt = record { turn = c.len-2.result + 1; reply = c.into_parts-given.result.1 } } in
    let same : c.in_ok-answered.field-0 ≡ c.into_parts-given.result.1 = sym c.into_parts-given.ensures.second in
    let ok = c.in_ok-answered.ensures in
    let step = step_same _ _ c.args.call _ _ same ok.turn in
    let spelled = subst (λ (x : Reply). UsesDevice x → IsRecordedCall c.args.call) same ok.spelled in
    let follows = subst (λ (x : Reply). is_stopped a.store ≡ false → (one : _) → IsRecordOf a.chains.epoch c.args.call one → IsFollowed (held_of a.chains) one x) same ok.followed in
    let writes = subst (λ (x : Reply). WritesBy g.D.Disk.keeps g.D.Disk.view g.D.Disk.failed a.store c.answered.new.store a.chains.epoch c.args.call x) same ok.writes in
    let stays = λ (down : is_stopped a.store ≡ true). (c.answered.ensures.stopped down).0 in (
      rw c.push_reserved.ensures.items
          (lawful_then g.D.Disk.keeps g.D.Disk.view g.D.Disk.failed a.chains c.answered.new.chains (held_of a.opening) a.store c.answered.new.store _ made c.self.invariant.0 c.self.invariant.1 (omega (arith, c.len.ensures, c.if-len-ge-TURN_LIMIT.false)) (omega (arith, c.len-2.ensures)) step spelled follows writes stays),
      rw c.push_reserved.ensures.items
          (rests g.D.Disk.keeps g.D.Disk.view g.D.Disk.failed a.chains c.answered.new.chains (held_of a.opening) a.store c.answered.new.store _ made c.self.invariant.0 c.self.invariant.1 (omega (arith, c.len.ensures, c.if-len-ge-TURN_LIMIT.false)) (omega (arith, c.len-2.ensures)) step spelled follows writes stays),
      rw c.push_reserved.ensures.capacity c.self.invariant.2,
    )

pub returns-then-len-ge-TURN_LIMIT : goal.returns-then-len-ge-TURN_LIMIT
returns-then-len-ge-TURN_LIMIT g c = record {
  turn = record {
    step = search rules;
    turns = search rules;
    number = search rules;
    opening = search rules;
    found = search rules;
    worn = search rules;
    err = search rules;
    cause_err = search rules;
    memory = search rules;
    of_histories = search rules;
    any_moment = search rules;
    before = search rules;
    placed = search rules;
    unmoved = search rules;
    stopped_only = search rules;
    stopped = search rules;
    cause = search rules;
    premise = search rules;
  };
}

pub returns-in_err-answered : goal.returns-in_err-answered
returns-in_err-answered g c = record {
  turn = record {
    step = search rules;
    turns = search rules;
    number = search rules;
    opening = search rules;
    found = search rules;
    worn = search rules;
    err = search rules;
    cause_err = search rules;
    memory = search rules;
    of_histories = search rules;
    any_moment = search rules;
    before = search rules;
    placed = search rules;
    unmoved = search rules;
    stopped_only = search rules;
    stopped = search rules;
    cause = search rules;
    premise = search rules;
  };
}

pub returns : goal.returns
returns g c =
    let ok = c.in_ok-answered.ensures in
    let same = sym c.into_parts-given.ensures.first in
    let step = step_same _ _ c.args.call _ _ same ok.turn in
    record {
      turn = record {
        step = search rules;
        turns = search rules;
        number = search rules;
        opening = search rules;
        found = search rules;
        worn = search rules;
        err = search rules;
        cause_err = search rules;
        memory = search rules;
        of_histories = rw (← c.self.view_is) (turn_of_histories _ _ c.args.call _ step);
        any_moment = rw (← c.self.view_is) (λ keeps. always_by g.D.Disk.keeps g.D.Disk.view _ c.self.invariant.0 c.args.call c.answered.new.store.disk
            (λ runs. ok.writes.any_moment _ keeps (c.self.invariant.1 runs keeps)) (λ is. ap (λ s. s.disk) (c.answered.ensures.stopped is).0) keeps);
        before = rw (← c.self.view_is) (λ says keeps file left. before_left _ _ _ c.args.call _ file (same ∙ says) ok.turn (λ runs. ok.writes.left _ keeps (c.self.invariant.1 runs keeps) file left));
        placed = rw (← c.self.view_is) (λ keeps. placed_same _ _ c.args.call _ _ _ _ same
            (placed_then (is_stopped c.self.inside.store) _ _ c.args.call _ _ _ _ refl ok.turn (λ runs one is. ok.writes.placed _ one keeps (c.self.invariant.1 runs keeps) is)));
        unmoved = search rules;
        stopped_only = rw (← c.self.view_is) (λ says. stopped_only _ _ c.args.call (step_same _ _ c.args.call _ _ (same ∙ says) ok.turn));
        stopped = search rules;
        cause = search rules;
        premise = search rules;
      };
    }
