-- A report that passed all tests may be put behind the accepted ones.
use Rattle.std.proofs.Common.{◌≤◌, ◌+◌, length, arith}
use Rattle.chains.specs.Processes.{known}
use Rattle.chains.specs.Kept.{Kept}
use Rattle.chains.specs.Ready.{ReadyReport}
use Rattle.chains.specs.Held.{held_of}
use Rattle.chains.specs.Admission.{process_limit}
use Rattle.chains.specs.Answers.{MayBeAccepted}
use Rattle.chains.specs.Folded.{IsFolded}
use Rattle.chains.specs.working.Fitting.{MayBePut}
use Rattle.chains.proofs.Folding.{fit_of}
use Rattle.chains.proofs.Passed.{present_epoch}
use Rattle.chains.proofs.InOrder.{few_after, few_known_after}

pub may_be_put : (k : Kept) (ready : ReadyReport) → IsFolded k.accepted → length (known k.accepted) ≤ process_limit → MayBeAccepted k ready → MayBePut k ready
may_be_put k ready folded few may = record {
  fit = fit_of (held_of k) ready.report.epoch ready.report.report (k.front + 1) folded may.admitted;
  past = omega (arith, present_epoch (held_of k) ready.report.epoch ready.report.report (k.front + 1) may.admitted);
  few = omega (arith, few_after (held_of k) ready.report may.admitted);
  few_known = few_known_after (held_of k) ready.report may.admitted few;
  process = may.process;
  room = may.room;
  element_room = may.element_room;
}
