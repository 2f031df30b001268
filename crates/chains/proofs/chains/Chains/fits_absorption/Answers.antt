use Rattle.chains.proofs.LookUps.{known_from}
use Rattle.chains.proofs.Partners.{apart}
use Rattle.chains.proofs.chains.Chains.fits_absorption.Goals as goal

pub fits_joined-requires-clause-apart : goal.fits_joined-requires-clause-apart
fits_joined-requires-clause-apart c =
    let accepted = c.args.self.now.accepted in
    let p = c.args.fields.process.now in
    let retired = c.args.retired.now in
    apart accepted p retired c.recall_lawful.ensures.folded c.recall_lawful.ensures.parts (known_from accepted c.args.place p c.requires.place) (known_from accepted c.in-Some.partner retired c.in-Some.ensures.1) c.requires.lives c.in-Some.ensures.0
