use Rattle.process.proofs.OneText.{one_process, one_message, one_start, one_retirement}
use Rattle.process.proofs.each_has_one_text.Goals as goal

pub returns : goal.returns
returns c = record { process = one_process; message = one_message; start = one_start; retirement = one_retirement }
