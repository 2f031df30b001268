-- How the logic stores what chains are seen as.
use Rattle.std.specs.Prelude.{◌≡◌, ℕ, zero, suc, List, refl}
use Rattle.std.specs.Coded.{Coded, code_by, coded×, coded_ℕ, coded_list}
use Rattle.report_line.specs.working.Codes.{report_code}
use Rattle.report_line.specs.declared.report.Report.{Report}
use Rattle.chains.specs.declared.position.Position.{Position}
use Rattle.chains.specs.declared.position.Position.TheVariants.{At, Retired}
use Rattle.chains.specs.declared.position.Place.{Place}
use Rattle.chains.specs.Kept.{Kept}

abbrev pub kept_code : Coded Kept
kept_code =
    code_by (List Report × (List ℕ × (ℕ × (ℕ × (ℕ × List ℕ))))) (coded× (coded_list report_code) (coded× (coded_list coded_ℕ) (coded× coded_ℕ (coded× coded_ℕ (coded× coded_ℕ (coded_list coded_ℕ))))))
    (λ k. (k.accepted, (k.epochs, (k.front, (k.epoch, (k.room, k.rooms))))))
    (λ p. record { accepted = p.0; epochs = p.1.0; front = p.1.1.0; epoch = p.1.1.1.0; room = p.1.1.1.1.0; rooms = p.1.1.1.1.1 }) (λ _. refl)

-- a position by one number
abbrev pub position_number : Position → ℕ
position_number Retired = 0
position_number (At k) = suc k

abbrev pub numbered_position : ℕ → Position
numbered_position zero = Retired
numbered_position (suc k) = At k

pub numbered_position-position_number : (k : Position) → numbered_position (position_number k) ≡ k
numbered_position-position_number (At k) = refl
numbered_position-position_number Retired = refl

abbrev pub position_code : Coded Position
position_code = code_by ℕ coded_ℕ position_number numbered_position numbered_position-position_number

abbrev pub place_code : Coded Place
place_code = code_by (ℕ × Position) (coded× coded_ℕ position_code) (λ x. (x.process, x.position)) (λ p. record { process = p.0; position = p.1 }) (λ _. refl)
