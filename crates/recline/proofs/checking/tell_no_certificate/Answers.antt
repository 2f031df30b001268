use Rattle.recline.proofs.checking.tell_no_certificate.Goals as goal

pub returns-in-NotJson : goal.returns-in-NotJson
returns-in-NotJson g c = rw c.in-NotJson.is c.tell.ensures

pub returns-in-Shape : goal.returns-in-Shape
returns-in-Shape g c = rw c.in-Shape.is c.tell-in-Shape.ensures

pub returns-in-Unknown : goal.returns-in-Unknown
returns-in-Unknown g c = rw c.in-Unknown.is c.tell_unknown.ensures

pub returns-in-Memory : goal.returns-in-Memory
returns-in-Memory g c = rw c.in-Memory.is c.tell-in-Memory.ensures
