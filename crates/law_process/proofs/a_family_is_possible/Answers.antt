-- The accounts are gone through in `Written`, `GoneBack` and `Waiting`.
use Rattle.law_process.proofs.Written.{a_family_is_possible}
use Rattle.law_process.proofs.GoneBack.{a_return_is_possible}
use Rattle.law_process.proofs.Waiting.{a_kept_retirement_is_possible}
use Rattle.law_process.proofs.a_family_is_possible.Goals as goal

pub returns-clause-family : goal.returns-clause-family
returns-clause-family c = a_family_is_possible

pub returns-clause-returned : goal.returns-clause-returned
returns-clause-returned c = a_return_is_possible

pub returns-clause-kept : goal.returns-clause-kept
returns-clause-kept c = a_kept_retirement_is_possible
