-- There is one choice.
use Rattle.propagate.proofs.Once.{chosen_once, one_certificate}
use Rattle.propagate.proofs.cut.the_rounds_choose_once.Goals as goal

pub returns-clause-cut : goal.returns-clause-cut
returns-clause-cut c = λ accepted failed line other reasons others n m first second. chosen_once accepted failed line other reasons others n m first second

pub returns-clause-certificate : goal.returns-clause-certificate
returns-clause-certificate c = λ held failed a b first second. one_certificate held failed a b first second
