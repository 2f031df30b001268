-- Certificates: a recovery line with a reason chain for each process that falls below its last surviving position.
use Rattle.std.specs.Prelude.{◌≡◌, ◌≢◌, ℕ, ◌+◌, ◌-◌, ◌<◌, List, [], ◌∷◌, ◌++◌, length, map, All, Contains, ⊤, ◌↔◌, Some, false}
use Rattle.std.specs.List.{range_with_len}
use Rattle.std.specs.List.Sorted.{IsStrictlyIncreasing}
use Rattle.report_line.specs.declared.report.Report.{Report}
use Rattle.chains.specs.declared.position.Position.{Position}
use Rattle.chains.specs.declared.position.Position.TheVariants.{At, Retired}
use Rattle.chains.specs.Processes.{Name, known}
use Rattle.chains.specs.Held.{Held}
use Rattle.chains.specs.Elements.{elements, name_of}
use Rattle.chains.specs.declared.position.Place.{Place}
use Rattle.chains.specs.Positions.{IsLastSurviving, position_in, IsCut, is_retired, rank}
use Rattle.chains.specs.Knowledge.{Knows, IsStampConsistent}
pub use Rattle.chains.specs.Positions.{positions_of}
use Rattle.reasons.specs.declared.certificate.Certificate.{Certificate}

-- the position below
abbrev pub position_below : List Report → Place → Position
position_below accepted x = below x.position
  where
    below : Position → Position
    below (At k) = At (k - 1)
    below Retired = At (length (elements accepted x.process))

-- each place knows the process of the one before after the position below that one's; the first, q after k
abbrev pub AreLinked : List Report → ℕ → Position → List Place → Type 0
AreLinked accepted q k [] = ⊤
AreLinked accepted q k (x ∷ xs) = Knows accepted x q k × AreLinked accepted x.process (position_below accepted x) xs

-- no two are equal
abbrev pub AreDistinct : List Place → Type 0
AreDistinct [] = ⊤
AreDistinct (x ∷ xs) = All (λ y. x ≢ y) xs × AreDistinct xs

-- A first place that is the last surviving one of a process that is not retired, and then one or more places, all
-- distinct, each of which knows the one before.
abbrev pub IsReasonChain : List Report → List ℕ → List Place → Type 0
IsReasonChain accepted failed [] = ⊥
IsReasonChain accepted failed (first ∷ []) = ⊥
IsReasonChain accepted failed (first ∷ x ∷ xs) =
    (is_retired accepted first.process ≡ false) × IsLastSurviving accepted failed first.process first.position
    × AreLinked accepted first.process first.position (x ∷ xs) × AreDistinct (x ∷ xs)

-- the chain ends at the position after this one of the process
abbrev pub EndsAfter : List Report → ℕ → Position → List Place → Type 0
EndsAfter accepted p k chain =
    (front : List Place) × (last : Place) × (chain ≡ front ++ last ∷ []) × (last.process ≡ p)
    × (rank accepted p last.position ≡ rank accepted p k + 1)

-- the process falls below its last surviving position
abbrev pub Falls : List Report → List ℕ → List Position → ℕ → Type 0
Falls accepted failed cut p = (p < length (known accepted)) × (¬ IsLastSurviving accepted failed p (position_in cut p))

-- these processes have these chains, one each
abbrev pub HaveReasons : List Report → List ℕ → List Position → List ℕ → List (List Place) → Type 0
HaveReasons accepted failed cut [] [] = ⊤
HaveReasons accepted failed cut (p ∷ ps) (chain ∷ chains) =
    IsReasonChain accepted failed chain × EndsAfter accepted p (position_in cut p) chain × HaveReasons accepted failed cut ps chains
HaveReasons accepted failed cut [] (chain ∷ chains) = ⊥
HaveReasons accepted failed cut (p ∷ ps) [] = ⊥

-- these are the chains of just the processes that fall, in order of birth
pub record AreReasons (accepted : List Report) (failed : List ℕ) (cut : List Position) (chains : List (List Place)) : Type 0 where
  pub fallen : List ℕ
  pub in_order : IsStrictlyIncreasing fallen
  pub just_these : (p : ℕ) → (Contains fallen p ↔ Falls accepted failed cut p)
  pub each : HaveReasons accepted failed cut fallen chains

pub record Certifies (held : Held) (c : Certificate) : Type 0 where
  pub front : c.front ≡ held.front
  pub failed : IsStrictlyIncreasing c.failed
  pub known_failed : (p : ℕ) → Contains c.failed p → p < length (known held.accepted)
  pub in_order : map (λ x. x.process) c.line ≡ range_with_len 0 (length (known held.accepted))
  pub cut : IsCut held.accepted c.failed (positions_of c.line)
  pub consistent : IsStampConsistent held.accepted (positions_of c.line)
  pub reasons : AreReasons held.accepted c.failed (positions_of c.line) c.reasons

-- the failed processes are just those that are named
abbrev pub IsForNames : List Report → List Name → Certificate → Type 0
IsForNames accepted names c =
    (p : ℕ) (name : Name) → name_of accepted p ≡ Some name → (Contains c.failed p ↔ Contains names name)
