use Rattle.recline.proofs.telling.tell_unopened.Goals as goal

pub returns-in-Foreign : goal.returns-in-Foreign
returns-in-Foreign g c = rw c.in-Foreign.is c.tell.ensures

pub returns-in-Damaged : goal.returns-in-Damaged
returns-in-Damaged g c = rw c.in-Damaged.is c.tell_damaged.ensures

pub returns-in-Line : goal.returns-in-Line
returns-in-Line g c = rw c.in-Line.is c.tell_line.ensures

pub returns-in-Refused : goal.returns-in-Refused
returns-in-Refused g c = rw c.in-Refused.is c.tell_refused.ensures

pub returns-in-Device : goal.returns-in-Device
returns-in-Device g c = rw c.in-Device.is c.tell-in-Device.ensures

pub returns-in-Memory : goal.returns-in-Memory
returns-in-Memory g c = rw c.in-Memory.is c.tell-in-Memory.ensures
