use Rattle.earlier_file.proofs.Exactly.{reads_so, damaged_alone, short_alone, kept_else, behind_else}
use Rattle.earlier_file.proofs.cutting.first_records.Goals as goal

pub returns-clause-read : goal.returns-clause-read
returns-clause-read c = reads_so c.args.front c.args.file.now c.cut.result c.cut.ensures.ok

pub returns-clause-damaged : goal.returns-clause-damaged
returns-clause-damaged c = damaged_alone c.args.front c.args.file.now c.cut.result c.cut.ensures.ok c.cut.ensures.refused

pub returns-clause-short : goal.returns-clause-short
returns-clause-short c = short_alone c.args.front c.args.file.now c.cut.result c.cut.ensures.ok c.cut.ensures.refused

pub returns-clause-kept : goal.returns-clause-kept
returns-clause-kept c = kept_else c.args.front c.args.file.now c.cut.result c.cut.ensures.refused

pub returns-clause-behind : goal.returns-clause-behind
returns-clause-behind c = behind_else c.args.front c.args.file.now c.cut.result c.cut.ensures.refused
