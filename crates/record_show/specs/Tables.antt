-- The table of what a record file holds, for people.
use Rattle.std.specs.Prelude.{ℕ, ◌-◌, max, List, [], ◌∷◌, ◌++◌, Option, Some, None, length, codes, replicate}
use Rattle.std.specs.List.{flat_map}
use Rattle.std.specs.Fmt.{decimal}
use Rattle.record_show.specs.declared.shown.ShownState.{ShownState}
use Rattle.record_show.specs.declared.shown.ShownState.TheVariants.{Live, Waiting, Absorbed}
use Rattle.record_show.specs.declared.shown.ShownProcess.{ShownProcess}
use Rattle.record_show.specs.declared.shown.ShownFile.{ShownFile}
use Rattle.record_show.specs.declared.columns.Column.{Column}
use Rattle.record_show.specs.declared.columns.Column.TheVariants as column
use Rattle.record_show.specs.declared.columns.Padded.{Padded}

-- ---- what stands in front of the table

abbrev pub fact : List ℕ → ℕ → List ℕ
fact word number = word ++ (decimal number ++ 10 ∷ [])

-- a line each
abbrev pub file_text : ShownFile → List ℕ
file_text file =
    fact (codes "version ") file.version ++ (fact (codes "records ") file.records ++ (fact (codes "front ") file.front ++ (fact (codes "epoch ") file.epoch ++ fact (codes "tail ") file.tail)))

-- ---- the columns

abbrev pub state_word : ShownState → List ℕ
state_word Live = codes "live"
state_word Waiting = codes "waiting"
state_word Absorbed = codes "absorbed"

abbrev pub title : Column → List ℕ
title column.Process = codes "PROCESS"
title column.State = codes "STATE"
title column.Reports = codes "REPORTS"
title column.Elements = codes "ELEMENTS"
title column.Depth = codes "DEPTH"
title column.Size = codes "SIZE"

abbrev pub cell : ShownProcess → Column → List ℕ
cell p column.Process = p.name
cell p column.State = state_word p.state
cell p column.Reports = decimal p.reports
cell p column.Elements = decimal p.elements
cell p column.Depth = decimal p.depth
cell p column.Size = decimal p.size

-- that of the widest cell, the title among them
abbrev pub width : List ShownProcess → Column → ℕ
width [] c = length (title c)
width (p ∷ ps) c = max (width ps c) (length (cell p c))

abbrev pub as_wide : List ShownProcess → Column → Padded
as_wide processes c = record { column = c; width = width processes c }

-- each with its width
abbrev pub columns : List ShownProcess → List Padded
columns processes =
    as_wide processes column.Process ∷ as_wide processes column.State ∷ as_wide processes column.Reports
    ∷ as_wide processes column.Elements ∷ as_wide processes column.Depth ∷ as_wide processes column.Size ∷ []

-- ---- the lines

-- a cell, spaces up to this width, and two more
abbrev pub in_width : ℕ → List ℕ → List ℕ
in_width wide text = text ++ (replicate (wide - length text) 32 ++ codes "  ")

abbrev pub titles_line : List Padded → List ℕ
titles_line cs = flat_map (λ c. in_width c.width (title c.column)) cs ++ codes "LAST ELEMENT\n"

-- what is told of a retirement that is never absorbed, since its target retired
abbrev pub lost_text : Option (List ℕ) → List ℕ
lost_text None = []
lost_text (Some target) = codes "  never absorbed: " ++ (target ++ codes " is retired")

abbrev pub process_line : List Padded → ShownProcess → List ℕ
process_line cs p = flat_map (λ c. in_width c.width (cell p c.column)) cs ++ (p.last ++ (lost_text p.lost_in ++ 10 ∷ []))

abbrev pub processes_text : List ShownProcess → List ℕ
processes_text processes = titles_line (columns processes) ++ flat_map (process_line (columns processes)) processes

-- the whole
abbrev pub table_text : ShownFile → List ShownProcess → List ℕ
table_text file processes = file_text file ++ processes_text processes
