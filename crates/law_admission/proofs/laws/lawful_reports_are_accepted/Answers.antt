use Rattle.law_admission.proofs.Next.{only_room_is_tested}
use Rattle.law_admission.proofs.Going.{turns_refuse_for_room_alone, all_are_accepted_in_order}
use Rattle.law_admission.proofs.laws.lawful_reports_are_accepted.Goals as goal

pub returns-clause-tests : goal.returns-clause-tests
returns-clause-tests c = only_room_is_tested

pub returns-clause-turn : goal.returns-clause-turn
returns-clause-turn c = turns_refuse_for_room_alone

pub returns-clause-in_order : goal.returns-clause-in_order
returns-clause-in_order c = all_are_accepted_in_order
