-- What a turn starts from and leaves.
use Rattle.std.specs.Prelude.{ℕ, ◌+◌, Bool, true, false, List, [], ◌∷◌, ◌++◌, length, map}
use Rattle.report_line.specs.declared.marked.MarkedReport.{MarkedReport}
use Rattle.report_line.specs.declared.report.Report.{Report}
use Rattle.chains.specs.Kept.{Kept}

-- The accepted list, and beside each report its epoch; the front, which counts the accepted lines, which replies tell and by which
-- room is measured; the present epoch, which counts the settlements; and whether the store is stopped.
pub record Held : Type 0 where
  pub accepted : List Report
  pub epochs : List ℕ
  pub front : ℕ
  pub epoch : ℕ
  pub stopped : Bool

-- what chains hold beside a store that is stopped, or is not
abbrev pub held_with : Kept → Bool → Held
held_with k stopped = record { accepted = k.accepted; epochs = k.epochs; front = k.front; epoch = k.epoch; stopped = stopped }

-- what chains hold: no store stands behind them that could stop
abbrev pub held_of : Kept → Held
held_of k = held_with k false

-- this list, of epoch 0, where the front counts its reports
abbrev pub counting : List Report → Held
counting accepted = record { accepted = accepted; epochs = map (λ r. 0) accepted; front = length accepted; epoch = 0; stopped = false }

-- the report with the present epoch
abbrev pub present : Held → Report → MarkedReport
present held r = record { epoch = held.epoch; report = r }

-- with one more report accepted
abbrev pub with_report : Held → MarkedReport → Held
with_report held m = record {
  accepted = held.accepted ++ m.report ∷ [];
  epochs = held.epochs ++ m.epoch ∷ [];
  front = held.front + 1;
  epoch = held.epoch;
  stopped = held.stopped;
}

-- with one more line accepted, which is a settlement
abbrev pub with_settlement : Held → Held
with_settlement held = record { accepted = held.accepted; epochs = held.epochs; front = held.front + 1; epoch = held.epoch + 1; stopped = held.stopped }

-- with the store stopped
abbrev pub with_stop : Held → Held
with_stop held = record { accepted = held.accepted; epochs = held.epochs; front = held.front; epoch = held.epoch; stopped = true }
