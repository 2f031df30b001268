-- A thing that was read twice.
use Rattle.std.proofs.Common.{◌≡◌, ℕ, List, get_or, sym, subst}
use Rattle.report_line.specs.declared.report.Report.{Report}

-- what was got of what stands at an index stands there
pub got : (accepted : List Report) (j : ℕ) (r x : Report) → r ≡ x → x ≡ get_or accepted j x → r ≡ get_or accepted j r
got accepted j r x same at = subst (λ (y : Report). y ≡ get_or accepted j y) (sym same) at
