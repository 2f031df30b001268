-- What a table of needs holds.
use Rattle.std.specs.Prelude.{◌≡◌, ℕ, ◌<◌, List, length, slice_index, refl}
use Rattle.std.specs.Coded.{Coded, code_by, coded×, coded_list}
use Rattle.event_tree.specs.EventTree.{EventTree, event_tree_code}
use Rattle.report_line.specs.working.Codes.{report_code}
use Rattle.report_line.specs.declared.report.Report.{Report}
use Rattle.chains.specs.Processes.{known}
use Rattle.chains.specs.Positions.{last_rank}
use Rattle.knows_row.specs.Knowing.{KnowsRank}
use Rattle.knows_row.specs.Looks.{AreBoundsOf, all_known, last_ranks}

-- A table as callers see it: of which accepted list it is, and the thresholds of the last elements.
pub record NeedsTable : Type 0 where
  pub accepted : List Report
  pub rows : List (List EventTree)

abbrev pub table_code : Coded NeedsTable
table_code =
    code_by (List Report × List (List EventTree)) (coded× (coded_list report_code) (coded_list (coded_list event_tree_code))) (λ t. (t.accepted, t.rows))
    (λ p. record { accepted = p.0; rows = p.1 }) (λ _. refl)

-- the last place of p knows nothing of q after its last place
abbrev pub IsUnknownAtLast : List Report → ℕ → ℕ → Type 0
IsUnknownAtLast accepted p q = ¬ KnowsRank accepted p (last_rank accepted p) q (last_rank accepted q)

-- of so many processes, the first ones in order of birth, the last place of p knows nothing so; and of the next one it does, if there is one
pub record IsUnknownCount (accepted : List Report) (p n : ℕ) : Type 0 where
  pub none : (q : ℕ) → q < n → q < length (known accepted) → IsUnknownAtLast accepted p q
  pub next : n < length (known accepted) → ¬ IsUnknownAtLast accepted p n

-- for each process its number of these
pub record AreUnknown (accepted : List Report) (unknown : List ℕ) : Type 0 where
  pub complete : length unknown ≡ length (known accepted)
  pub each : (p : ℕ) → p < length unknown → IsUnknownCount accepted p (slice_index unknown p)

-- the table was made of this list
pub record IsTableOf (accepted : List Report) (t : NeedsTable) : Type 0 where
  pub of_list : t.accepted ≡ accepted
  pub bounds : AreBoundsOf accepted (last_ranks accepted) (all_known accepted) t.rows
