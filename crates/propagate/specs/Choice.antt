-- Which chains the rounds choose.
use Rattle.std.specs.Prelude.{◌≡◌, ◌≢◌, ◌⊎◌, ℕ, zero, suc, ◌+◌, ◌≤◌, ◌<◌, ◌↔◌, List, [], ◌∷◌, ◌++◌, length, map, get_or, Contains}
use Rattle.std.specs.List.{range_with_len}
use Rattle.std.specs.List.Sorted.{IsStrictlyIncreasing}
use Rattle.report_line.specs.declared.report.Report.{Report}
use Rattle.chains.specs.declared.position.Place.{Place}
use Rattle.chains.specs.declared.position.Position.{Position}
use Rattle.chains.specs.Held.{Held}
use Rattle.chains.specs.Processes.{Name, known}
use Rattle.chains.specs.Positions.{rank, position_in, place_at, IsLastSurviving}
use Rattle.chains.specs.Knowledge.{Knows}
use Rattle.reasons.specs.Certificates.{positions_of}
use Rattle.reasons.specs.declared.certificate.Certificate.{Certificate}
use Rattle.propagate.specs.Rounds.{AreLastSurviving, IsRound}

-- the place of a process right after its position in the cut
abbrev pub place_after : List Report → List Position → ℕ → Place
place_after accepted cut p = place_at accepted p (rank accepted p (position_in cut p) + 1)

-- of all processes q is the first, in order of birth, that the place knows after that process's position in the cut
pub record IsFirstCause (accepted : List Report) (cut : List Position) (x : Place) (q : ℕ) : Type 0 where
  pub one : q < length (known accepted)
  pub knows : Knows accepted x q (position_in cut q)
  pub first : (j : ℕ) → j < length (known accepted) → Knows accepted x j (position_in cut j) → q ≤ j

-- The chain goes on from q to x: from the last surviving position of q, where the cut has that, and else from the chain of q.
abbrev pub GoesOn : List Report → List ℕ → List Position → List (List Place) → ℕ → Place → List Place → Type 0
GoesOn accepted failed cut chains q x chain =
    (IsLastSurviving accepted failed q (position_in cut q) × (chain ≡ (record { process = q; position = position_in cut q }) ∷ x ∷ []))
    ⊎ ((¬ IsLastSurviving accepted failed q (position_in cut q)) × (chain ≡ get_or chains q [] ++ x ∷ []))

-- The chain of p after a round: as before where p stays; where it falls, from the first process that the place above knows
-- too far to that place.
abbrev pub IsNextChain : List Report → List ℕ → List Position → List (List Place) → List Position → ℕ → List Place → Type 0
IsNextChain accepted failed cut chains next p chain =
    ((position_in next p ≡ position_in cut p) × (chain ≡ get_or chains p []))
    ⊎ ((position_in next p ≢ position_in cut p) × ((q : ℕ) × IsFirstCause accepted cut (place_after accepted next p) q × GoesOn accepted failed cut chains q (place_after accepted next p) chain))

pub record AreNextChains (accepted : List Report) (failed : List ℕ) (cut : List Position) (chains : List (List Place)) (next : List Position) (later : List (List Place)) : Type 0 where
  pub complete : length later ≡ length (known accepted)
  pub each : (p : ℕ) → p < length (known accepted) → IsNextChain accepted failed cut chains next p (get_or later p [])

-- no process has a chain
abbrev pub no_chains : List Name → List (List Place)
no_chains [] = []
no_chains (name ∷ names) = [] ∷ no_chains names

-- the cut and the chain of each process after so many rounds, each of which changed something
abbrev pub ChainsAfter : List Report → List ℕ → ℕ → List Position → List (List Place) → Type 0
ChainsAfter accepted failed zero cut chains = AreLastSurviving accepted failed cut × (chains ≡ no_chains (known accepted))
ChainsAfter accepted failed (suc t) cut chains =
    (before : List Position) × (earlier : List (List Place)) × ChainsAfter accepted failed t before earlier
    × IsRound accepted before cut × (before ≢ cut) × AreNextChains accepted failed before earlier cut chains

-- those of the processes that have one
abbrev pub given : List (List Place) → List (List Place)
given [] = []
given ([] ∷ chains) = given chains
given ((x ∷ xs) ∷ chains) = (x ∷ xs) ∷ given chains

-- the line, the reason chains and the number of rounds that the rounds choose
pub record AreChosen (accepted : List Report) (failed : List ℕ) (line : List Place) (reasons : List (List Place)) (rounds : ℕ) : Type 0 where
  pub in_order : map (λ x. x.process) line ≡ range_with_len 0 (length (known accepted))
  pub changing : ℕ
  pub counted : rounds ≡ changing + 1
  pub chains : List (List Place)
  pub after : ChainsAfter accepted failed changing (positions_of line) chains
  pub settled : IsRound accepted (positions_of line) (positions_of line)
  pub reasons_are : reasons ≡ given chains

-- the certificate of this failed set, with what the rounds choose
pub record IsChosenCertificate (held : Held) (failed : List ℕ) (c : Certificate) : Type 0 where
  pub front : c.front ≡ held.front
  pub in_order : IsStrictlyIncreasing c.failed
  pub just_these : (p : ℕ) → (Contains c.failed p ↔ (Contains failed p × (p < length (known held.accepted))))
  pub rounds : ℕ
  pub chosen : AreChosen held.accepted c.failed c.line c.reasons rounds
