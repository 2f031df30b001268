-- The text that the rounds choose: there is one, and where it holds.
use Rattle.std.proofs.Common.{◌≡◌, ◌<◌, ℕ, List, length, sym, ap, subst, ◌∙◌, inl, inr, arith}
use Rattle.std.specs.Prelude.{Contains}
use Rattle.std.proofs.lemmas.Option.{slice_get_cases}
use Rattle.report_line.specs.declared.report.Report.{Report}
use Rattle.report_line.specs.declared.call.Call.{Call}
use Rattle.report_line.specs.declared.call.Call.TheVariants as calls
use Rattle.report_line.specs.declared.reply.Reply.{Reply}
use Rattle.chains.specs.Processes.{Name, known}
use Rattle.chains.specs.Kept.{Kept}
use Rattle.chains.specs.Held.{Held, held_of}
use Rattle.chains.specs.Turns.{IsTurn}
use Rattle.chains.proofs.Turning.{unchanged}
use Rattle.reasons.specs.declared.certificate.Certificate.{Certificate}
use Rattle.reasons.specs.Certificates.{IsForNames}
use Rattle.reasons.specs.CertificateText.{certificate_text}
use Rattle.desk.specs.Lawful.{unstopped}
use Rattle.propagate.specs.Choice.{IsChosenCertificate}
use Rattle.propagate.proofs.Once.{one_certificate}
use Rattle.line_answer.specs.Questions.{IsChosenText, IsChosenFor}

-- ---- one text

module _ (held : Held) (names : List Name) (c d : Certificate) (ours : IsForNames held.accepted names c) (theirs : IsForNames held.accepted names d) where
  has_too : (p : ℕ) → p < length (known held.accepted) → Contains c.failed p → Contains d.failed p
  has_too p lt has = elim (slice_get_cases (known held.accepted) p).1 [
    | inl s ↦ (theirs p s.0 s.2).1 ((ours p s.0 s.2).0 has)
    | inr past ↦ absurd (omega (arith, past.0))
  ]

-- one for the same names is chosen for the same numbers
for_same : (held : Held) (names : List Name) (c d : Certificate) → IsForNames held.accepted names c → IsForNames held.accepted names d → IsChosenCertificate held c.failed c → IsChosenCertificate held d.failed d → IsChosenCertificate held c.failed d
for_same held names c d ours theirs first second = record {
  front = second.front;
  in_order = second.in_order;
  just_these = λ p. (
    λ has. let lt = ((second.just_these p).0 has).1 in (has_too held names d c theirs ours p lt has, lt),
    λ both. has_too held names c d ours theirs p both.1 both.0,
  );
  rounds = second.rounds;
  chosen = second.chosen;
}

pub one_text : (held : Held) (names : List Name) (text other : List ℕ) → IsChosenText held names text → IsChosenText held names other → text ≡ other
one_text held names text other a b =
    let same = one_certificate held a.certificate.failed a.certificate b.certificate a.chosen (for_same held names a.certificate b.certificate a.for_names b.for_names a.chosen b.chosen) in
    a.text_is ∙ ap (certificate_text held.accepted) same ∙ sym b.text_is

-- ---- over chains behind a turn

-- whether a store is stopped is not asked
over_stopped : (held : Held) (names : List Name) (text : List ℕ) → IsChosenText (unstopped held) names text → IsChosenText held names text
over_stopped held names text h = record {
  certificate = h.certificate;
  for_names = h.for_names;
  chosen = record { front = h.chosen.front; in_order = h.chosen.in_order; just_these = h.chosen.just_these; rounds = h.chosen.rounds; chosen = h.chosen.chosen };
  text_is = h.text_is;
}

over_held : (held after : Held) (k : Kept) (names : List Report → List Name) (text : List ℕ) → after ≡ held → held_of k ≡ unstopped after → IsChosenText (held_of k) (names k.accepted) text → IsChosenText held (names held.accepted) text
over_held held after k names text same holds h =
    over_stopped held (names held.accepted) text (subst (λ (x : Held). IsChosenText x (names x.accepted) text) (holds ∙ ap unstopped same) h)

-- what is chosen over the chains behind a turn is chosen over what was held before it
pub chosen_at : (held after : Held) (k : Kept) (call : Call) (reply : Reply) (text : List ℕ) → IsTurn held call reply after → held_of k ≡ unstopped after → IsChosenFor (held_of k) call text → IsChosenFor held call text
chosen_at held after k (calls.Line names) reply text (fate, t) holds h = over_held held after k (λ l. names) text (unchanged held.stopped fate held _ reply after t) holds h
chosen_at held after k calls.Garbage reply text (fate, t) holds h = over_held held after k known text (unchanged held.stopped fate held _ reply after t) holds h
chosen_at held after k (calls.Settle n names) reply text t holds h = absurd h
chosen_at held after k (calls.Report m) reply text t holds h = absurd h
chosen_at held after k (calls.State p) reply text t holds h = absurd h
chosen_at held after k calls.Bye reply text t holds h = absurd h
chosen_at held after k (calls.Bad n) reply text t holds h = absurd h
chosen_at held after k calls.Unread reply text t holds h = absurd h

-- one text for each call
pub one_for : (held : Held) (call : Call) (text other : List ℕ) → IsChosenFor held call text → IsChosenFor held call other → text ≡ other
one_for held (calls.Line names) text other a b = one_text held names text other a b
one_for held calls.Garbage text other a b = one_text held (known held.accepted) text other a b
one_for held (calls.Report m) text other a b = absurd a
one_for held (calls.Settle front names) text other a b = absurd a
one_for held (calls.State p) text other a b = absurd a
one_for held calls.Bye text other a b = absurd a
one_for held (calls.Bad n) text other a b = absurd a
one_for held calls.Unread text other a b = absurd a
