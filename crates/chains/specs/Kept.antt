-- What chains are seen as.
use Rattle.std.specs.Prelude.{ℕ, ◌<◌, List, slice_index_or, ⊤}
use Rattle.report_line.specs.declared.report.Report.{Report}
use Rattle.report_line.specs.declared.report.Report.TheVariants.{Begin, Numbered}

-- The accepted list with the epoch of each report, the front and the present epoch, how many more reports find room without memory, and how many more elements of each known
-- process, in order of birth.
pub record Kept : Type 0 where
  pub accepted : List Report
  pub epochs : List ℕ
  pub front : ℕ
  pub epoch : ℕ
  pub room : ℕ
  pub rooms : List ℕ

-- there is room for one more element of the process of this number, if the report has a number
abbrev pub HasRoomFor : Kept → Report → ℕ → Type 0
HasRoomFor k (Begin p) i = ⊤
HasRoomFor k (Numbered r) i = 0 < slice_index_or k.rooms i 0
