use Rattle.reasons.proofs.WrittenRead.{read_again, broken_read_again, read_only}
use Rattle.reasons.proofs.rereading.written_certificates_are_read.Goals as goal

pub returns-clause-read : goal.returns-clause-read
returns-clause-read c = read_again c.args.chains.now.accepted c.known_names_are_names.ensures

pub returns-clause-broken : goal.returns-clause-broken
returns-clause-broken c = broken_read_again c.args.chains.now.accepted c.known_names_are_names.ensures

pub returns-clause-only : goal.returns-clause-only
returns-clause-only c = read_only c.args.chains.now.accepted c.known_names_are_names.ensures c.recall_lawful.ensures.folded
