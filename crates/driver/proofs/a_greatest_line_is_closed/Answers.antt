use Rattle.driver.proofs.Recovery.{greatest_line_is_closed}
use Rattle.driver.proofs.a_greatest_line_is_closed.Goals as goal

pub returns : goal.returns
returns c = greatest_line_is_closed
