use Rattle.chains.proofs.Making.{makers_make}
use Rattle.chains.proofs.laws.makers_make_the_elements.Goals as goal

pub returns : goal.returns
returns c = makers_make
