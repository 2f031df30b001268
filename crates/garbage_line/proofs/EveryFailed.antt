-- What the certificate of all known processes says.
use Rattle.std.proofs.Common.{◌≡◌, ◌<◌, ◌↔◌, ℕ, List, length, inl, inr, subst, arith}
use Rattle.std.specs.Prelude.{Contains}
use Rattle.std.specs.List.{range_with_len}
use Rattle.std.proofs.lemmas.Option.{slice_get_within, slice_get_cases}
use Rattle.chains.specs.Processes.{known}
use Rattle.chains.specs.Failures.{IsFailedSet}
use Rattle.chains.specs.Folded.{IsFolded}
use Rattle.chains.specs.Held.{Held}
use Rattle.chains.specs.Greatest.{IsGreatestCut}
use Rattle.chains.proofs.LookUps.{known_from}
use Rattle.knows_row.proofs.Lawful.{lawful}
use Rattle.reasons.specs.declared.certificate.Certificate.{Certificate}
use Rattle.reasons.specs.Certificates.{IsForNames, positions_of}
use Rattle.law_lines.proofs.GarbageLine.{garbage_line_never_falls}
use Rattle.propagate.specs.Choice.{IsChosenCertificate}
use Rattle.propagate.specs.Cuts.{IsCertificateFor}
use Rattle.propagate.proofs.Certified.{certified_is_greatest}
use Rattle.garbage_line.specs.LaterLines.{IsBeforeLaterLines}
use Rattle.garbage_line.specs.Garbage.{IsGarbageLine}
use Rattle.garbage_line.proofs.AllInOrder.{all_in_order}

module _ (held : Held) (all : List ℕ) (c : Certificate) (set : IsFailedSet held.accepted (known held.accepted) all) (made : IsCertificateFor held all c) (folded : IsFolded held.accepted) where
  there : (p : ℕ) → p < length (known held.accepted) → Contains c.failed p
  there p lt = elim (slice_get_cases (known held.accepted) p).1 [
    | inl s ↦ (made.failed p).1 ((set.just_named p s.0 s.2).1 (known_from held.accepted p s.0 s.2), lt)
    | inr past ↦ absurd (omega (arith, past.0))
  ]

  all_failed : c.failed ≡ range_with_len 0 (length (known held.accepted))
  all_failed = all_in_order c.failed (length (known held.accepted)) made.certifies.failed (λ p. (made.certifies.known_failed p, there p))

  in_range : (p : ℕ) → (Contains c.failed p ↔ (Contains (range_with_len 0 (length (known held.accepted))) p × (p < length (known held.accepted))))
  in_range p = (λ has. (subst (λ (ps : List ℕ). Contains ps p) all_failed has, made.certifies.known_failed p has), λ within. there p within.1)

  -- the same certificate is chosen for all numbers in order
  chosen_for_all : IsChosenCertificate held (range_with_len 0 (length (known held.accepted))) c
  chosen_for_all =
      let chosen = made.chosen in
      record { front = chosen.front; in_order = chosen.in_order; just_these = in_range; rounds = chosen.rounds; chosen = chosen.chosen }

  for_all_names : IsForNames held.accepted (known held.accepted) c
  for_all_names p name at = (λ contains. known_from held.accepted p name at, λ named. there p (slice_get_within (known held.accepted) p name at))

  greatest_line : IsGreatestCut held.accepted c.failed (positions_of c.line)
  greatest_line = certified_is_greatest held c (lawful held.accepted folded) made.certifies

  before_later_lines : IsBeforeLaterLines held.accepted (positions_of c.line)
  before_later_lines =
      λ root h later folded' lawful' agrees failed line line_is. garbage_line_never_falls root h held.accepted later folded' lawful' agrees c.failed failed (positions_of c.line) line there greatest_line line_is

  pub is_garbage_line : IsGarbageLine held c
  is_garbage_line = record {
    certifies = made.certifies;
    failed = all_failed;
    for_names = for_all_names;
    chosen = chosen_for_all;
    line = greatest_line;
    of_histories = made.of_histories;
    never_falls = before_later_lines;
  }
