use Rattle.std.proofs.Common.{sym, subst}
use Rattle.driver.specs.working.Making.{HasLineIfCounted}
use Rattle.driver.proofs.Lined.{fields_if_counted}
use Rattle.driver.proofs.proof_facts.know_report.Goals as goal

pub returns-in-Numbered : goal.returns-in-Numbered
returns-in-Numbered c =
    subst HasLineIfCounted (sym c.in-Numbered.is)
    (fields_if_counted c.in-Numbered.fields c.as_bytes-name-in-Numbered.ensures.name c.know_number.ensures c.recall_facts.ensures c.know_action.ensures)
