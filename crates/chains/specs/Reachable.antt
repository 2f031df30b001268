-- What admission and settlements reach from nothing.
use Rattle.std.specs.Prelude.{ℕ, List, []}
use Rattle.report_line.specs.declared.marked.MarkedReport.{MarkedReport}
use Rattle.chains.specs.Processes.{Name}
use Rattle.chains.specs.Held.{Held, counting, with_report}
use Rattle.chains.specs.Admission.{Passes}
use Rattle.chains.specs.Settled.{IsSettled}
use Rattle.chains.specs.Turns.{PassesSettle}

pub data IsReachable : Held → Type 0 where
  nothing_accepted : IsReachable (counting [])
  one_more : (held : Held) (m : MarkedReport) → IsReachable held → Passes held m → IsReachable (with_report held m)
  all_returned : (held after : Held) (front : ℕ) (names : List Name) → IsReachable held → PassesSettle held front names → IsSettled held names after → IsReachable after
