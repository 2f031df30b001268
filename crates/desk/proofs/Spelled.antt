-- Lines of reports and of settlements.
use Rattle.std.proofs.Common.{ℕ, ◌≤◌, List, [], ◌∷◌, ◌++◌, length, arith, length-append}
use Rattle.std.specs.Prelude.{codes}
use Rattle.std.specs.List.{join_with_byte}
use Rattle.std.specs.Fmt.{decimal}
use Rattle.stamp.specs.Stamps.{stamp_text}
use Rattle.report_line.specs.Spelling.{spelling, names_text, mark_text, action_word, action_fields}
use Rattle.report_line.specs.declared.report.Report.{Report}
use Rattle.report_line.specs.declared.marked.MarkedReport.{MarkedReport}
use Rattle.report_line.specs.declared.report.Report.TheVariants.{Begin, Numbered}
use Rattle.report_line.specs.declared.call.Call.TheVariants as calls
use Rattle.desk.specs.Records.{line_of, settle_line}

some_joined : (word next : List ℕ) (words : List (List ℕ)) → 1 ≤ length (join_with_byte 32 (word ∷ next ∷ words))
some_joined word next words = omega (arith, length-append word (32 ∷ join_with_byte 32 (next ∷ words)))

-- the line of a report has a byte
pub some_line : (r : Report) → 1 ≤ length (line_of r)
unfolding spelling
some_line (Begin p) = some_joined (codes "BEGIN") p []
some_line (Numbered r) = some_joined (action_word r.action ++ []) r.process (decimal r.number ∷ stamp_text r.stamp ∷ action_fields r.action)

-- and so has that of a settlement
pub some_settle_line : (front : ℕ) (names : List (List ℕ)) → 1 ≤ length (settle_line front names)
unfolding spelling
some_settle_line front names = some_joined (codes "SETTLE") (decimal front) (names_text names ∷ [])

marked_longer : (word mark next : List ℕ) (words : List (List ℕ)) → length (join_with_byte 32 ((word ++ []) ∷ next ∷ words)) ≤ length (join_with_byte 32 ((word ++ mark) ∷ next ∷ words))
marked_longer word mark next words =
    let rest = 32 ∷ join_with_byte 32 (next ∷ words) in
    omega (arith, length-append (word ++ []) rest, length-append word [], length-append (word ++ mark) rest, length-append word mark)

no_longer_in : (epoch : ℕ) (r : Report) → length (line_of r) ≤ length (spelling (calls.Report (record { epoch = epoch; report = r })))
unfolding spelling
no_longer_in epoch (Begin p) = omega arith
no_longer_in epoch (Numbered r) = marked_longer (action_word r.action) (mark_text epoch) r.process (decimal r.number ∷ stamp_text r.stamp ∷ action_fields r.action)

-- the line of a report without its mark is no longer than with it
pub no_longer : (m : MarkedReport) → length (line_of m.report) ≤ length (spelling (calls.Report m))
no_longer m = no_longer_in m.epoch m.report
