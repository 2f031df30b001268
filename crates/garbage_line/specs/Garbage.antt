-- The certificate of the garbage line.
use Rattle.std.specs.Prelude.{◌≡◌, length}
use Rattle.std.specs.List.{range_with_len}
use Rattle.chains.specs.Processes.{known}
use Rattle.chains.specs.Held.{Held}
use Rattle.chains.specs.Greatest.{IsGreatestCut}
use Rattle.reasons.specs.declared.certificate.Certificate.{Certificate}
use Rattle.reasons.specs.Certificates.{Certifies, IsForNames, positions_of}
use Rattle.law_lines.specs.Headline.{IsLineOfHistories}
use Rattle.propagate.specs.Choice.{IsChosenCertificate}
use Rattle.garbage_line.specs.LaterLines.{IsBeforeLaterLines}

-- the certificate of the line over what is held with every known process failed
pub record IsGarbageLine (held : Held) (c : Certificate) : Type 0 where
  pub certifies : Certifies held c
  -- their numbers in order of birth, and so just their names
  pub failed : c.failed ≡ range_with_len 0 (length (known held.accepted))
  pub for_names : IsForNames held.accepted (known held.accepted) c
  -- it is the one that the rounds choose for them
  pub chosen : IsChosenCertificate held (range_with_len 0 (length (known held.accepted))) c
  pub line : IsGreatestCut held.accepted c.failed (positions_of c.line)
  pub of_histories : IsLineOfHistories held.accepted c.failed (positions_of c.line)
  -- it is at or before the line for every failed set of every longer list that agrees with a lawful history
  pub never_falls : IsBeforeLaterLines held.accepted (positions_of c.line)
