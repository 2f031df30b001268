use Rattle.record_file.proofs.Openings.{one_list}
use Rattle.record_file.proofs.Exclusion.{foreign_stands, damaged_stands, damaged_foreign, one_damage}
use Rattle.record_file.proofs.kinds.files_are_of_one_kind.Goals as goal

pub returns-clause-one_list : goal.returns-clause-one_list
returns-clause-one_list c = λ file said others a b. one_list said others file a b

pub returns-clause-foreign : goal.returns-clause-foreign
returns-clause-foreign c = foreign_stands

pub returns-clause-damaged : goal.returns-clause-damaged
returns-clause-damaged c = damaged_stands

pub returns-clause-not_both : goal.returns-clause-not_both
returns-clause-not_both c = damaged_foreign

pub returns-clause-one_record : goal.returns-clause-one_record
returns-clause-one_record c = one_damage
