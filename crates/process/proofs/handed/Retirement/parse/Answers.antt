use Rattle.process.specs.declared.handed.Retirement.{Retirement}
use Rattle.process.specs.Texts.{IsRetirement, retirement_words}
use Rattle.process.proofs.WordLists.{finds_line}
use Rattle.process.proofs.OneText.{retirement_again}
use Rattle.process.proofs.handed.Retirement.parse.Goals as goal

pub returns : goal.returns
returns c = finds_line Retirement IsRetirement retirement_words retirement_again c.args.bytes.now c.read_retirement.result (rw c.of-words.ensures at c.read_retirement.ensures)
