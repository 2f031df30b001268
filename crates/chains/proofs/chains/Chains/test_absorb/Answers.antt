use Rattle.std.proofs.Common.{◌≢◌, subst, None, Some}
use Rattle.std.proofs.lemmas.Bool.{both_ways}
use Rattle.std.proofs.lemmas.Option.{slice_get_within}
use Rattle.id_tree.specs.Spelling.{spelling}
use Rattle.id_tree.specs.Sum.{sum_of}
use Rattle.event_tree.specs.Values.{IsAtOrBelow}
use Rattle.event_tree.specs.EventTree.{EventTree}
use Rattle.report_line.specs.declared.code.Code.TheVariants.{WrongId, NotGrown, NotJoined}
use Rattle.report_line.specs.View.{numbered_of}
use Rattle.report_line.specs.declared.report.ReportKind.TheVariants.{Absorb}
use Rattle.report_line.specs.declared.report.Report.{Report}
use Rattle.report_line.specs.declared.report.Report.TheVariants.{Numbered}
use Rattle.report_line.specs.declared.reply.Reply.TheVariants.{No}
use Rattle.chains.specs.Processes.{known, registered_id, last_events}
use Rattle.chains.specs.Held.{held_of}
use Rattle.chains.specs.Admission.{Decides, AreGrown, FitsOrNot, IsActionReply}
use Rattle.chains.specs.working.Keeping.{Tests}
use Rattle.chains.proofs.Tested.{refuses, passed_on, told_sum}
use Rattle.chains.proofs.chains.Chains.test_absorb.Goals as goal

pub sum_text-requires : goal.sum_text-requires
sum_text-requires c = rw (c.registered_id-registered.ensures c.args.fields.process.now c.requires.place, c.registered_id-other.ensures c.args.retired.now c.requires.partner) c.requires.apart

pub returns-then-not-is_sum_of : goal.returns-then-not-is_sum_of
returns-then-not-is_sum_of c =
    let held = held_of c.args.self.now in
    let accepted = held.accepted in
    let front = held.front in
    let report = numbered_of c.args.fields in
    let p = report.process in
    let r = c.args.retired.now in
    let s = report.stamp in
    let left = c.registered_id-registered.ensures p c.requires.place in
    let right = c.registered_id-other.ensures r c.requires.partner in
    let expected = sum_of (registered_id p accepted) (registered_id r accepted) in
    refuses (s.id ≢ expected) (λ a. Decides (¬ AreGrown (last_events p accepted) (registered_id p accepted) s.events) (No NotGrown (Some p) None) a (IsActionReply held report (Absorb r) a))
    front c.refusal_with.result WrongId p (spelling expected) c.sum_text.result c.refusal_with.ensures (rw (← left, ← right) c.sum_text.ensures)
    (λ e. both_ways c.is_sum_of.result c.if-not-is_sum_of.true ((told_sum _ _ (registered_id p accepted) (registered_id r accepted) s.id c.is_sum_of.result left right c.requires.apart c.is_sum_of.ensures.sum).1 e))

pub is_grown-requires-clause-place : goal.is_grown-requires-clause-place
is_grown-requires-clause-place c = slice_get_within (known c.args.self.now.accepted) c.args.place c.args.fields.process.now c.requires.place

pub last_events-requires : goal.last_events-requires
last_events-requires c = slice_get_within (known c.args.self.now.accepted) c.args.partner c.args.retired.now c.requires.partner

pub returns : goal.returns
returns c =
    let held = held_of c.args.self.now in
    let accepted = held.accepted in
    let front = held.front in
    let report = numbered_of c.args.fields in
    let p = report.process in
    let r = c.args.retired.now in
    let s = report.stamp in
    let expected = sum_of (registered_id p accepted) (registered_id r accepted) in
    let grown = AreGrown (last_events p accepted) (registered_id p accepted) s.events in
    let joined = IsAtOrBelow (last_events r accepted) s.events in
    let action = IsActionReply held report (Absorb r) in
    let left = c.registered_id-registered.ensures p c.requires.place in
    let right = c.registered_id-other.ensures r c.requires.partner in
    let told = told_sum _ _ (registered_id p accepted) (registered_id r accepted) s.id c.is_sum_of.result left right c.requires.apart c.is_sum_of.ensures.sum in
    let room = subst (λ (x : Report). Tests (FitsOrNot held x) front c.test_room.result) c.requires.fields c.test_room.ensures in
    passed_on (s.id ≢ expected) (No WrongId (Some p) (Some (spelling expected))) (λ a. Decides (¬ grown) (No NotGrown (Some p) None) a (action a)) front c.test_room.result (λ h. h (told.0 c.if-not-is_sum_of.false))
    (passed_on (¬ grown) (No NotGrown (Some p) None) action front c.test_room.result (λ h. h ((c.is_grown.ensures p c.requires.place).0 c.if-not-is_grown.false))
    (passed_on (¬ joined) (No NotJoined (Some r) None) (FitsOrNot held (Numbered report)) front c.test_room.result
    (λ h. h (subst (λ (e : EventTree). IsAtOrBelow e s.events) (c.last_events.ensures r c.requires.partner) (c.leq.ensures.pointwise.0 c.if-not-leq.false))) room))
