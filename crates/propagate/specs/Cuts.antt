-- What a cut that is found and its certificate say.
use Rattle.std.specs.Prelude.{◌≡◌, ◌<◌, ◌≤◌, ◌+◌, ◌↔◌, ℕ, List, Contains, length, map, sum}
use Rattle.std.specs.List.{range_with_len}
use Rattle.report_line.specs.declared.report.Report.{Report}
use Rattle.chains.specs.declared.position.Place.{Place}
use Rattle.chains.specs.Processes.{known}
use Rattle.chains.specs.Held.{Held}
use Rattle.reasons.specs.declared.certificate.Certificate.{Certificate}
use Rattle.reasons.specs.Certificates.{AreReasons, Certifies, positions_of}
use Rattle.law_lines.specs.Headline.{IsLineOfHistories}
use Rattle.propagate.specs.declared.cut.Cut.{Cut}
use Rattle.propagate.specs.Greatest.{IsGreatestCut}
use Rattle.propagate.specs.Rounds.{AreSurvivingRanks, AreRounds}
use Rattle.propagate.specs.Choice.{AreChosen, IsChosenCertificate}

-- The line of the greatest cut over a list for these failed processes. In every lawful history that agrees with the list it is that
-- of the greatest closed cut.
pub record IsGreatestLine (accepted : List Report) (numbers : List ℕ) (places : List Place) : Type 0 where
  pub in_order : map (λ (x : Place). x.process) places ≡ range_with_len 0 (length (known accepted))
  pub line : IsGreatestCut accepted numbers (positions_of places)
  pub of_histories : IsLineOfHistories accepted numbers (positions_of places)

-- The greatest cut over a list for these failed processes, with its reason chains and the number of rounds. In every lawful
-- history that agrees with the list it is the greatest closed cut.
pub record IsCutFor (accepted : List Report) (numbers : List ℕ) (cut : Cut) : Type 0 where
  pub in_order : map (λ (x : Place). x.process) cut.line ≡ range_with_len 0 (length (known accepted))
  pub line : IsGreatestCut accepted numbers (positions_of cut.line)
  pub of_histories : IsLineOfHistories accepted numbers (positions_of cut.line)
  pub reasons : AreReasons accepted numbers (positions_of cut.line) cut.reasons
  pub rounds : AreRounds accepted numbers cut.rounds (positions_of cut.line)
  pub chosen : AreChosen accepted numbers cut.line cut.reasons cut.rounds
  -- the sum counts the surviving positions above 0
  pub few : (surviving_ranks : List ℕ) → AreSurvivingRanks accepted numbers surviving_ranks → cut.rounds ≤ sum surviving_ranks + 1

-- the certificate of the greatest cut over what is held, for those of these failed processes that are known
pub record IsCertificateFor (held : Held) (numbers : List ℕ) (c : Certificate) : Type 0 where
  pub certifies : Certifies held c
  pub of_histories : IsLineOfHistories held.accepted c.failed (positions_of c.line)
  pub failed : (p : ℕ) → (Contains c.failed p ↔ (Contains numbers p × (p < length (known held.accepted))))
  pub chosen : IsChosenCertificate held numbers c
