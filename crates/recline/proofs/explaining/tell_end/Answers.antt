use Rattle.recline.proofs.explaining.tell_end.Goals as goal

pub returns-in-Memory : goal.returns-in-Memory
returns-in-Memory g c = rw c.in-Memory.is c.tell-in-Memory.ensures

pub returns-in-Device : goal.returns-in-Device
returns-in-Device g c = rw c.in-Device.is c.tell-in-Device.ensures
