-- Working definitions: room for elements.
use Rattle.std.specs.Prelude.{◌≡◌, ℕ, ◌-◌, ◌^◌, ◌<◌, Bool, true, false, List, length, slice_index_or, vec_len, vec_capacity}
use Rattle.report_line.specs.declared.report.Report.{Report}
use Rattle.report_line.specs.declared.report.Report.TheVariants.{Begin, Numbered}
use Rattle.chains.specs.Processes.{Name}
use Rattle.chains.specs.declared.process.Process.{Process}

-- how many more elements find room
abbrev pub element_room : Process → ℕ
element_room k = vec_capacity k.stable - vec_len k.stable

-- whether the report is a BEGIN
abbrev pub is_begin : Report → Bool
is_begin (Begin p) = true
is_begin (Numbered r) = false

-- one more report may be noted of the process at this place
pub record HasNoteRoom (processes : List Process) (i : ℕ) : Type 0 where
  pub within : i < length processes
  pub counted : (k : Process) → (slice_index_or processes i k).reports < 2 ^ 32 - 1
  pub room : (k : Process) → 0 < element_room (slice_index_or processes i k)

-- the report may be kept: its process, if it has a number, is at this place and has room
pub record MayBeKept (names : List Name) (processes : List Process) (r : Report) (i : ℕ) : Type 0 where
  pub complete : length names ≡ length processes
  pub noted : is_begin r ≡ false → HasNoteRoom processes i
