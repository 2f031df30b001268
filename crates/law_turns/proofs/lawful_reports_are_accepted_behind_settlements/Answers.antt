-- The clauses are proved in `Settling` and `Orderly`.
use Rattle.law_turns.proofs.Orderly.{order_is_kept, all_stays_of_now, in_order_is_obeyed, in_order_from_nothing, next_is_accepted, other_epochs_are_set_aside}
use Rattle.law_turns.proofs.Settling.{kept_hands_over_the_settled, settlement_keeps_order}
use Rattle.law_turns.proofs.lawful_reports_are_accepted_behind_settlements.Goals as goal

pub returns-clause-kept : goal.returns-clause-kept
returns-clause-kept c = kept_hands_over_the_settled

pub returns-clause-settled : goal.returns-clause-settled
returns-clause-settled c = settlement_keeps_order

pub returns-clause-order : goal.returns-clause-order
returns-clause-order c = order_is_kept

pub returns-clause-of_now : goal.returns-clause-of_now
returns-clause-of_now c = all_stays_of_now

pub returns-clause-obeyed : goal.returns-clause-obeyed
returns-clause-obeyed c = in_order_is_obeyed

pub returns-clause-from_nothing : goal.returns-clause-from_nothing
returns-clause-from_nothing c = in_order_from_nothing

pub returns-clause-next : goal.returns-clause-next
returns-clause-next c = next_is_accepted

pub returns-clause-set_aside : goal.returns-clause-set_aside
returns-clause-set_aside c = other_epochs_are_set_aside
