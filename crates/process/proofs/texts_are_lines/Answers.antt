use Rattle.process.proofs.OneText.{process_line, message_line, start_line, retirement_line}
use Rattle.process.proofs.texts_are_lines.Goals as goal

pub returns : goal.returns
returns c = record { process = process_line; message = message_line; start = start_line; retirement = retirement_line }
