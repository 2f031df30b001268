use Rattle.chains.proofs.Keeps.{named, is_newborn}
use Rattle.chains.proofs.chains.Chains.registered_id.Goals as goal

pub id_at_birth-requires-clause-birth : goal.id_at_birth-requires-clause-birth
id_at_birth-requires-clause-birth c =
    let there = named c.args.self.now.accepted c.args.process c.requires in
    is_newborn there.0 c.args.self.now.accepted c.birth_report.result.now (c.birth_report.ensures there.0 there.1)
