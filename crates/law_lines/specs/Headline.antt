-- The headline: an answered line is the greatest closed cut of every lawful history that agrees with what was accepted.
use Rattle.std.specs.Prelude.{◌≡◌, ℕ, List}
use Rattle.report_line.specs.declared.report.Report.{Report}
use Rattle.report_line.specs.histories.History.{Name, History}
use Rattle.report_line.specs.histories.Lawful.{IsLawful}
use Rattle.chains.specs.declared.position.Position.{Position}
use Rattle.chains.specs.Held.{Held}
use Rattle.chains.specs.Agrees.{Agrees}
use Rattle.chains.specs.Greatest.{IsAtOrBefore}
use Rattle.reasons.specs.declared.certificate.Certificate.{Certificate}
use Rattle.reasons.specs.Certificates.{Certifies, IsForNames, positions_of}
use Rattle.reasons.specs.CertificateText.{certificate_text}
use Rattle.law_lines.specs.Places.{IsClosedCut}

-- The cut is closed, each process unborn, at a surviving element or retired; and every such cut is at or before it in every
-- process.
pub record IsGreatestClosedCut (root : Name) (h : History) (accepted : List Report) (failed : List ℕ) (cut : List Position) : Type 0 where
  pub is_one : IsClosedCut root h accepted failed cut
  pub greatest : (d : List Position) → IsClosedCut root h accepted failed d → IsAtOrBefore accepted d cut

-- In every lawful history that agrees with the accepted list, the line is the greatest closed cut.
abbrev pub IsLineOfHistories : List Report → List ℕ → List Position → Type 0
IsLineOfHistories accepted failed line =
    (root : Name) (h : History) → IsLawful root h → Agrees root h accepted → IsGreatestClosedCut root h accepted failed line

-- The headline, for the text that answers a question for a line, over what was held when it was asked: the text is that of a
-- certificate for just the names that were asked; its line is the greatest closed cut of every lawful history that agrees with
-- what was accepted; and its reason chains certify, which is what the check of a certificate says yes to.
pub record IsRightLine (held : Held) (names : List Name) (text : List ℕ) : Type 0 where
  pub certificate : Certificate
  pub text_is : text ≡ certificate_text held.accepted certificate
  pub for_names : IsForNames held.accepted names certificate
  pub line : IsLineOfHistories held.accepted certificate.failed (positions_of certificate.line)
  pub certifies : Certifies held certificate
