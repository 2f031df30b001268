use Rattle.process.specs.declared.process.Process.{Process}
use Rattle.process.specs.Texts.{IsProcess, process_words}
use Rattle.process.proofs.WordLists.{finds_line}
use Rattle.process.proofs.OneText.{process_again}
use Rattle.process.proofs.process.Process.parse.Goals as goal

pub returns : goal.returns
returns c = finds_line Process IsProcess process_words process_again c.args.bytes.now c.read_process.result (rw c.of-words.ensures at c.read_process.ensures)
