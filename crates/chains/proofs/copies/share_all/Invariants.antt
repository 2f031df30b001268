use Rattle.std.proofs.Common.{◌≡◌, take}
use Rattle.chains.proofs.copies.share_all.Given as goal

abbrev pub invariant-loop-report : goal.invariant-loop-report
invariant-loop-report l = l.copy.items ≡ take l.report-index l.reports
