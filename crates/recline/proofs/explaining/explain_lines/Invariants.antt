use Rattle.recline.proofs.LineByLine.{IsGoing}
use Rattle.recline.proofs.explaining.explain_lines.Given as goal

abbrev pub invariant-loop : goal.invariant-loop
invariant-loop g l = IsGoing (g.K.Link.told l.fn.client) (g.K.Link.told l.client) l.counter l.told
