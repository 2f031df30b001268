use Rattle.chains.proofs.LineElements.{has_none, has_some}
use Rattle.chains.proofs.keeping.has_elements_to.Goals as goal

pub returns-in-None : goal.returns-in-None
returns-in-None c =
    has_none c.args.chains.now.accepted c.args.kept.now.accepted c.args.process c.element_rank-upto.result c.args.position c.name_of.result.now c.name_of.ensures c.element_rank-upto.ensures.at_most c.element_rank-upto.ensures.rank
    c.recall_lawful.ensures.folded c.in-None.ensures

pub returns-in-Some : goal.returns-in-Some
returns-in-Some c =
    has_some c.args.chains.now.accepted c.args.kept.now.accepted c.args.process c.in-Some.q c.element_rank-upto.result c.args.position c.name_of.result.now c.elements.result c.elements-in-Some.result c.are_first.result c.name_of.ensures
    c.in-Some.ensures c.element_rank-upto.ensures.rank c.elements.ensures c.elements-in-Some.ensures c.are_first.ensures
