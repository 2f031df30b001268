use Rattle.desk.proofs.OneOpening.{one_opening, one_of_file}
use Rattle.desk.proofs.OpensAgain.{opens_again, with_one}
use Rattle.desk.proofs.laws.files_open_to_one.Goals as goal

pub returns-clause-records : goal.returns-clause-records
returns-clause-records c = one_opening

pub returns-clause-files : goal.returns-clause-files
returns-clause-files c = one_of_file

pub returns-clause-again : goal.returns-clause-again
returns-clause-again c = opens_again

pub returns-clause-of_a_call : goal.returns-clause-of_a_call
returns-clause-of_a_call c = with_one
