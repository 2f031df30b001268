use Rattle.std.proofs.Common.{ℕ, List, subst, ◌∙◌}
use Rattle.recline.specs.Asking.{AsksOn}
use Rattle.recline.proofs.OneReply.{answered, refused}
use Rattle.recline.proofs.asking.ask_on.Goals as goal

pub returns-clause-answered : goal.returns-clause-answered
returns-clause-answered g c = λ is zero.
    let client = g.K.Link.told c.args.client.now in
    let client_after = g.K.Link.told c.ask_by.new.client in
    answered g.F.Link.told c.args.bytes.now c.args.question.now client client_after c.args.faults.now c.ask_by.new.faults c.ask_by.result
    (subst (λ (sent : List ℕ). AsksOn g.F.Link.told c.args.bytes.now sent client client_after c.args.faults.now c.ask_by.new.faults c.ask_by.result) (c.deref.ensures.value ∙ c.in-Ok.ensures) c.ask_by.ensures) is zero

pub returns-clause-refused : goal.returns-clause-refused
returns-clause-refused g c = λ is four.
    let client = g.K.Link.told c.args.client.now in
    let client_after = g.K.Link.told c.ask_by.new.client in
    refused g.F.Link.told c.args.bytes.now c.args.question.now client client_after c.args.faults.now c.ask_by.new.faults c.ask_by.result
    (subst (λ (sent : List ℕ). AsksOn g.F.Link.told c.args.bytes.now sent client client_after c.args.faults.now c.ask_by.new.faults c.ask_by.result) (c.deref.ensures.value ∙ c.in-Ok.ensures) c.ask_by.ensures) is four
