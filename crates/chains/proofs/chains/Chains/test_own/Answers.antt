use Rattle.std.proofs.Common.{◌≡◌, ◌≢◌, sym, subst, ◌∙◌, None, Some}
use Rattle.std.specs.Prelude.{IfOk}
use Rattle.std.proofs.lemmas.Bool.{both_ways}
use Rattle.std.proofs.lemmas.Option.{slice_get_within}
use Rattle.id_tree.specs.IdTree.{IdTree}
use Rattle.id_tree.specs.Spelling.{spelling}
use Rattle.report_line.specs.declared.code.Code.TheVariants.{WrongId, NotGrown}
use Rattle.report_line.specs.declared.reply.Reply.TheVariants.{No}
use Rattle.report_line.specs.View.{numbered_of}
use Rattle.chains.specs.Processes.{known, expected_id, registered_id, last_events}
use Rattle.chains.specs.Held.{held_of}
use Rattle.chains.specs.Admission.{Decides, AreGrown, IsActionReply}
use Rattle.chains.proofs.Tested.{refuses, passed_on, own_id}
use Rattle.chains.proofs.chains.Chains.test_own.Goals as goal

pub returns-then-not-equal : goal.returns-then-not-equal
returns-then-not-equal c =
    let held = held_of c.args.self.now in
    let accepted = held.accepted in
    let front = held.front in
    let r = numbered_of c.args.fields in
    let p = r.process in
    let same : c.registered_id-registered.result.now ≡ expected_id accepted p r.action = c.registered_id-registered.ensures p c.requires.place ∙ sym (own_id accepted p r.action c.requires.own) in
    refuses (r.stamp.id ≢ expected_id accepted p r.action) (λ x. Decides (¬ AreGrown (last_events p accepted) (registered_id p accepted) r.stamp.events) (No NotGrown (Some p) None) x (IsActionReply held r r.action x))
    front c.refusal_with.result WrongId p (spelling (expected_id accepted p r.action)) c.id_text.result c.refusal_with.ensures
    (subst (λ (i : IdTree). IfOk c.id_text.result (λ t. t ≡ spelling i)) same c.id_text.ensures) (λ e. both_ways c.equal.result c.if-not-equal.true (c.equal.ensures.1 (e ∙ sym same)))

pub is_grown-requires-clause-place : goal.is_grown-requires-clause-place
is_grown-requires-clause-place c = slice_get_within (known c.args.self.now.accepted) c.args.place c.args.fields.process.now c.requires.place

pub returns : goal.returns
returns c =
    let held = held_of c.args.self.now in
    let accepted = held.accepted in
    let front = held.front in
    let r = numbered_of c.args.fields in
    let p = r.process in
    let grown = AreGrown (last_events p accepted) (registered_id p accepted) r.stamp.events in
    let same : c.registered_id-registered.result.now ≡ expected_id accepted p r.action = c.registered_id-registered.ensures p c.requires.place ∙ sym (own_id accepted p r.action c.requires.own) in
    passed_on (r.stamp.id ≢ expected_id accepted p r.action) (No WrongId (Some p) (Some (spelling (expected_id accepted p r.action)))) (λ x. Decides (¬ grown) (No NotGrown (Some p) None) x (IsActionReply held r r.action x))
    front c.test_action.result (λ h. h (c.equal.ensures.0 c.if-not-equal.false ∙ same))
    (passed_on (¬ grown) (No NotGrown (Some p) None) (IsActionReply held r r.action) front c.test_action.result (λ h. h ((c.is_grown.ensures p c.requires.place).0 c.if-not-is_grown.false)) c.test_action.ensures)
