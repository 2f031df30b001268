use Rattle.recline.proofs.earlier.tell_no_front.Goals as goal

pub returns-in-Foreign : goal.returns-in-Foreign
returns-in-Foreign g c = rw c.in-Foreign.is c.tell.ensures

pub returns-in-Damaged : goal.returns-in-Damaged
returns-in-Damaged g c = rw c.in-Damaged.is c.tell_damaged.ensures

pub returns-in-Short : goal.returns-in-Short
returns-in-Short g c = rw c.in-Short.is c.tell_short.ensures

pub returns-in-Memory : goal.returns-in-Memory
returns-in-Memory g c = rw c.in-Memory.is c.tell-in-Memory.ensures
