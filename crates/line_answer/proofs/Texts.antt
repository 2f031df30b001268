-- The text of a certificate for names.
use Rattle.std.proofs.Common.{◌≡◌, ◌<◌, ◌↔◌, ℕ, List, length, inl, refl, subst}
use Rattle.std.specs.Prelude.{Contains}
use Rattle.std.proofs.lemmas.Option.{slice_get_within}
use Rattle.report_line.specs.declared.call.Call.{Call}
use Rattle.report_line.specs.declared.call.Call.TheVariants as calls
use Rattle.report_line.specs.declared.reply.Reply.TheVariants.{Line, Taken}
use Rattle.chains.specs.Processes.{Name, known}
use Rattle.chains.specs.Held.{Held}
use Rattle.chains.specs.Failures.{IsFailedSet}
use Rattle.reasons.specs.declared.certificate.Certificate.{Certificate}
use Rattle.reasons.specs.Certificates.{Certifies, IsForNames}
use Rattle.reasons.specs.CertificateText.{certificate_text}
use Rattle.reasons.specs.Shown.{IsLineText, IsShown}
use Rattle.propagate.specs.Choice.{IsChosenCertificate}
use Rattle.propagate.specs.Cuts.{IsCertificateFor}
use Rattle.garbage_line.specs.Garbage.{IsGarbageLine}
use Rattle.line_answer.specs.Questions.{IsAnswer, IsLineFor}
use Rattle.line_answer.specs.working.Questions.{IsTextFor}

-- it is chosen for its own numbers
own_numbers : (held : Held) (failed : List ℕ) (c : Certificate) → IsChosenCertificate held failed c → IsChosenCertificate held c.failed c
own_numbers held failed c h = record {
  front = h.front;
  in_order = h.in_order;
  just_these = λ p. (λ has. (has, ((h.just_these p).0 has).1), λ both. both.0);
  rounds = h.rounds;
  chosen = h.chosen;
}

-- one for a failed set that these names have is one for the names
for_set : (held : Held) (names : List Name) (failed : List ℕ) (c : Certificate) → IsFailedSet held.accepted names failed
    → ((p : ℕ) → (Contains c.failed p ↔ (Contains failed p × (p < length (known held.accepted))))) → IsForNames held.accepted names c
for_set held names failed c set just p name at = (
  λ there. (set.just_named p name at).0 ((just p).0 there).0,
  λ named. (just p).1 ((set.just_named p name at).1 named, slice_get_within (known held.accepted) p name at),
)

text_for : (held : Held) (names : List Name) (failed text : List ℕ) (c : Certificate) → IsForNames held.accepted names c → Certifies held c → IsChosenCertificate held failed c → text ≡ certificate_text held.accepted c → IsTextFor held names text
text_for held names failed text c for certifies chosen is = record {
  line = record { certificate = c; for_names = for; certifies = certifies; text_is = is };
  chosen = record { certificate = c; for_names = for; chosen = own_numbers held failed c chosen; text_is = is };
}

-- of the certificate of a failed set that these names have
pub text_for_failed : (held : Held) (names : List Name) (failed text : List ℕ) (c : Certificate) → IsCertificateFor held failed c → text ≡ certificate_text held.accepted c → IsFailedSet held.accepted names failed → IsTextFor held names text
text_for_failed held names failed text c h is set = text_for held names failed text c (for_set held names failed c set h.failed) h.certifies h.chosen is

-- of that of the garbage line
pub text_for_known : (held : Held) (text : List ℕ) (c : Certificate) → IsGarbageLine held c → text ≡ certificate_text held.accepted c → IsTextFor held (known held.accepted) text
text_for_known held text c h is = text_for held (known held.accepted) _ text c h.for_names h.certifies h.chosen is

-- ---- calls

pub answers_line : (held : Held) (names : List Name) (text : List ℕ) → IsTextFor held names text → IsAnswer held (calls.Line names) text
answers_line held names text t = record { line = (names, refl, t.line); chosen = t.chosen }

pub answers_garbage : (held : Held) (text : List ℕ) → IsTextFor held (known held.accepted) text → IsAnswer held calls.Garbage text
answers_garbage held text t = record { line = (known held.accepted, refl, t.line); chosen = t.chosen }

-- a line that a call asks for may be shown for it
pub shows_taken : (held : Held) (call : Call) (text : List ℕ) (n : ℕ) → IsLineFor held call text → IsShown held call (Taken n) (Line text)
shows_taken held (calls.Line listed) text n (names, asks, fits) = inl (text, refl, subst (λ (ns : List Name). IsLineText held ns text) asks fits)
shows_taken held calls.Garbage text n (names, asks, fits) = inl (text, refl, subst (λ (ns : List Name). IsLineText held ns text) asks fits)
shows_taken held (calls.Report m) text n (names, asks, fits) = absurd asks
shows_taken held (calls.Settle front listed) text n (names, asks, fits) = absurd asks
shows_taken held (calls.State p) text n (names, asks, fits) = absurd asks
shows_taken held calls.Bye text n (names, asks, fits) = absurd asks
shows_taken held (calls.Bad m) text n (names, asks, fits) = absurd asks
shows_taken held calls.Unread text n (names, asks, fits) = absurd asks
