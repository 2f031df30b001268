use Rattle.id_tree.proofs.Forms.{fault_found, fault_of_id, part_fault, part_only, unnormal_is_no_id}
use Rattle.id_tree.proofs.fault_of.Goals as goal

pub returns-in-NoTree-clause-err : goal.returns-in-NoTree-clause-err
returns-in-NoTree-clause-err c = rw c.in-NoTree.is at c.requires

pub returns-in-NoTree-clause-only : goal.returns-in-NoTree-clause-only
returns-in-NoTree-clause-only c = λ t n e. absurd ((rw c.in-NoTree.is at c.requires) t e)

pub returns-in-NotNormal-clause-err : goal.returns-in-NotNormal-clause-err
returns-in-NotNormal-clause-err c = rw c.in-NotNormal.is at c.requires

pub returns-in-NotNormal-clause-only : goal.returns-in-NotNormal-clause-only
returns-in-NotNormal-clause-only c = λ t n e. absurd (unnormal_is_no_id c.args.bytes.now t (rw c.in-NotNormal.is at c.requires) n e)

pub returns-in-Ok-clause-err : goal.returns-in-Ok-clause-err
returns-in-Ok-clause-err c = part_fault c.fault_of_part.result c.in-Ok.part c.args.bytes.now c.in-Ok.ensures.ok c.fault_of_part.ensures

pub returns-in-Ok-clause-only : goal.returns-in-Ok-clause-only
returns-in-Ok-clause-only c = λ t n e. part_only c.fault_of_part.result c.in-Ok.part c.args.bytes.now t c.in-Ok.ensures.ok c.fault_of_part.ensures n e

pub returns-in-Err-clause-err : goal.returns-in-Err-clause-err
returns-in-Err-clause-err c = fault_found c.in-Err.fault c.args.bytes.now c.in-Err.ensures.err

pub returns-in-Err-clause-only : goal.returns-in-Err-clause-only
returns-in-Err-clause-only c = λ t n e. fault_of_id c.in-Err.fault c.args.bytes.now t n e c.in-Err.ensures.err
