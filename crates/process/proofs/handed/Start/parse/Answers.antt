use Rattle.process.specs.declared.handed.Start.{Start}
use Rattle.process.specs.Texts.{IsStart, start_words}
use Rattle.process.proofs.WordLists.{finds_line}
use Rattle.process.proofs.OneText.{start_again}
use Rattle.process.proofs.handed.Start.parse.Goals as goal

pub returns : goal.returns
returns c = finds_line Start IsStart start_words start_again c.args.bytes.now c.read_start.result (rw c.of-words.ensures at c.read_start.ensures)
