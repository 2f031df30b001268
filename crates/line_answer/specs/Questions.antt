-- The text of the line that a question asks for.
use Rattle.std.specs.Prelude.{◌≡◌, ℕ, List}
use Rattle.report_line.specs.declared.call.Call.{Call}
use Rattle.report_line.specs.declared.call.Call.TheVariants as calls
use Rattle.chains.specs.Processes.{Name, known}
use Rattle.chains.specs.Held.{Held}
use Rattle.reasons.specs.declared.certificate.Certificate.{Certificate}
use Rattle.reasons.specs.Certificates.{IsForNames}
use Rattle.reasons.specs.CertificateText.{certificate_text}
use Rattle.reasons.specs.Shown.{IsLineText}
use Rattle.propagate.specs.Choice.{IsChosenCertificate}
use Rattle.line_answer.specs.Asking.{AsksForLine}

-- the text is that of the line that the call asks for
abbrev pub IsLineFor : Held → Call → List ℕ → Type 0
IsLineFor held call text = (names : List Name) × AsksForLine held call names × IsLineText held names text

-- the text of the certificate for these names that the rounds choose over what is held
pub record IsChosenText (held : Held) (names : List Name) (text : List ℕ) : Type 0 where
  pub certificate : Certificate
  pub for_names : IsForNames held.accepted names certificate
  pub chosen : IsChosenCertificate held certificate.failed certificate
  pub text_is : text ≡ certificate_text held.accepted certificate

-- the chosen text for a call that asks for a line: for the processes that it names, or for GARBAGE for all that are known
abbrev pub IsChosenFor : Held → Call → List ℕ → Type 0
IsChosenFor held (calls.Line names) text = IsChosenText held names text
IsChosenFor held calls.Garbage text = IsChosenText held (known held.accepted) text
IsChosenFor held _ text = ⊥

-- the text is that of the line that the call asks for, and the one that the rounds choose
pub record IsAnswer (held : Held) (call : Call) (text : List ℕ) : Type 0 where
  pub line : IsLineFor held call text
  pub chosen : IsChosenFor held call text
