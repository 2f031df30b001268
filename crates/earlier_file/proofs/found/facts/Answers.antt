use Rattle.earlier_file.proofs.Exactly.{facts_stand, facts_damaged}
use Rattle.earlier_file.proofs.found.facts.Goals as goal

pub returns-clause-stands : goal.returns-clause-stands
returns-clause-stands c = facts_stand c.args.file.now c.read_facts.result c.read_facts.ensures.ok c.read_facts.ensures.refused

pub returns-clause-damaged : goal.returns-clause-damaged
returns-clause-damaged c = facts_damaged c.args.file.now c.read_facts.result c.read_facts.ensures.ok c.read_facts.ensures.refused
