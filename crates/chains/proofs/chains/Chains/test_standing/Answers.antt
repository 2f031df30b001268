use Rattle.std.proofs.Common.{subst, Option, Err}
use Rattle.report_line.specs.View.{numbered_of}
use Rattle.chains.specs.Processes.{Name}
use Rattle.chains.specs.Held.{held_of}
use Rattle.chains.specs.Admission.{IsStandingReply}
use Rattle.chains.specs.working.Keeping.{Tests}
use Rattle.chains.proofs.Tested.{refuses_ended}
use Rattle.chains.proofs.chains.Chains.test_standing.Goals as goal

pub returns-in-Some : goal.returns-in-Some
returns-in-Some c =
    let held = held_of c.args.self.now in
    let r = numbered_of c.args.fields in
    let refusal = c.refusal_with.result in
    subst (λ (o : Option Name). Tests (IsStandingReply o held r) held.front (Err refusal)) (c.in-Some.ensures r.process c.requires.place)
    (refuses_ended c.in-Some.target.now held r refusal c.name_text.result c.refusal_with.ensures c.name_text.ensures)

pub returns-in-None : goal.returns-in-None
returns-in-None c =
    let held = held_of c.args.self.now in
    let r = numbered_of c.args.fields in
    subst (λ (o : Option Name). Tests (IsStandingReply o held r) held.front c.test_number.result) (c.in-None.ensures r.process c.requires.place) c.test_number.ensures
