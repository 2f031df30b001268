use Rattle.process.specs.declared.handed.Message.{Message}
use Rattle.process.specs.Texts.{IsMessage, message_words}
use Rattle.process.proofs.WordLists.{finds_line}
use Rattle.process.proofs.OneText.{message_again}
use Rattle.process.proofs.handed.Message.parse.Goals as goal

pub returns : goal.returns
returns c = finds_line Message IsMessage message_words message_again c.args.bytes.now c.read_message.result (rw c.of-words.ensures at c.read_message.ensures)
