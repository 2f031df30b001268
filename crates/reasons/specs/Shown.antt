-- What is shown for the reply of a turn.
use Rattle.std.specs.Prelude.{◌≡◌, ◌⊎◌, ℕ, List}
use Rattle.report_line.specs.declared.call.Call.{Call}
use Rattle.report_line.specs.declared.call.Call.TheVariants as calls
use Rattle.report_line.specs.declared.reply.Reply.{Reply}
use Rattle.report_line.specs.declared.reply.Reply.TheVariants as replies
use Rattle.chains.specs.Processes.{Name, known}
use Rattle.chains.specs.Held.{Held}
use Rattle.chains.specs.Turns.{no_memory}
use Rattle.reasons.specs.declared.certificate.Certificate.{Certificate}
use Rattle.reasons.specs.Certificates.{Certifies, IsForNames}
use Rattle.reasons.specs.CertificateText.{certificate_text}

-- the text of a certificate for these names, which certifies for what is held
pub record IsLineText (held : Held) (names : List Name) (text : List ℕ) : Type 0 where
  pub certificate : Certificate
  pub for_names : IsForNames held.accepted names certificate
  pub certifies : Certifies held certificate
  pub text_is : text ≡ certificate_text held.accepted certificate

-- what is shown for a question for a line: where it was taken the line, or that memory was wanting; else the reply itself
abbrev pub IsLineShown : Held → List Name → Reply → Reply → Type 0
IsLineShown held names (replies.Taken front) shown =
    ((text : List ℕ) × (shown ≡ replies.Line text) × IsLineText held names text) ⊎ (shown ≡ no_memory)
IsLineShown held names reply shown = shown ≡ reply

-- The reply that is shown for a turn's, call by call: each question that is taken says what is shown for it. GARBAGE asks for
-- the line of all known processes.
abbrev pub IsShown : Held → Call → Reply → Reply → Type 0
IsShown held (calls.Line names) reply shown = IsLineShown held names reply shown
IsShown held calls.Garbage reply shown = IsLineShown held (known held.accepted) reply shown
IsShown held (calls.Report m) reply shown = shown ≡ reply
IsShown held (calls.Settle front names) reply shown = shown ≡ reply
IsShown held (calls.State p) reply shown = shown ≡ reply
IsShown held calls.Bye reply shown = shown ≡ reply
IsShown held (calls.Bad n) reply shown = shown ≡ reply
IsShown held calls.Unread reply shown = shown ≡ reply
