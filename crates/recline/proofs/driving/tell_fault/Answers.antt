use Rattle.recline.proofs.driving.tell_fault.Goals as goal

pub returns-in-Err : goal.returns-in-Err
returns-in-Err g c = rw c.in-Err.is c.tell.ensures
