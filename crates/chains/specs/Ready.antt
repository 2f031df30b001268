-- A report that passed all tests.
use Rattle.std.specs.Prelude.{ℕ, refl}
use Rattle.std.specs.Coded.{Coded, code_by, coded×, coded_ℕ}
use Rattle.report_line.specs.declared.marked.MarkedReport.{MarkedReport}
use Rattle.report_line.specs.working.SessionCodes.{marked_code}

-- the report, and the number of its process, where one is known
pub record ReadyReport : Type 0 where
  pub report : MarkedReport
  pub process : ℕ

abbrev pub ready_code : Coded ReadyReport
ready_code = code_by (MarkedReport × ℕ) (coded× marked_code coded_ℕ) (λ r. (r.report, r.process)) (λ p. record { report = p.0; process = p.1 }) (λ _. refl)
