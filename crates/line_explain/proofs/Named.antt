-- Whether a word is names with commas between them.
use Rattle.std.proofs.Common.{◌≡◌, ◌≢◌, ℕ, true, false, List, Some, None, refl, sym, IsTrue}
use Rattle.std.specs.Prelude.{◌↔◌, codes}
use Rattle.report_line.specs.Names.{wrong_part}
use Rattle.report_line.proofs.Rows.{right_row, wrong_row}
use Rattle.line_explain.specs.declared.wanted.Wanted.TheVariants as wanted
use Rattle.line_explain.specs.Wanting.{Fits}

pub right_names : (word : List ℕ) → None ≡ wrong_part word → IsTrue true ↔ Fits wanted.Names word
right_names word none = ((λ yes. right_row word (sym none)), (λ fits. refl))

pub wrong_names : (word part : List ℕ) → word ≢ codes "-" → Some part ≡ wrong_part word → IsTrue false ↔ Fits wanted.Names word
wrong_names word part other wrong = ((λ no. absurd cc), (λ fits. absurd (wrong_row word part other (sym wrong) fits.0 (fits.1, fits.2))))
