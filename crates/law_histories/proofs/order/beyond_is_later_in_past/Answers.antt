-- The law is proved in `Later`.
use Rattle.law_histories.proofs.Later.{beyond_is_seen_later, beyond_birth_is_seen}
use Rattle.law_histories.proofs.order.beyond_is_later_in_past.Goals as goal

pub returns-clause-later : goal.returns-clause-later
returns-clause-later c = beyond_is_seen_later

pub returns-clause-birth : goal.returns-clause-birth
returns-clause-birth c = beyond_birth_is_seen
