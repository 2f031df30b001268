-- The text of a certificate: compact JSON with its keys in this order.
use Rattle.std.specs.Prelude.{ℕ, List, [], ◌∷◌, ◌++◌, map, codes, unwrap_or}
use Rattle.std.specs.List.{join_with_byte}
use Rattle.std.specs.Fmt.{decimal}
use Rattle.report_line.specs.declared.report.Report.{Report}
use Rattle.chains.specs.declared.position.Position.{Position}
use Rattle.chains.specs.declared.position.Position.TheVariants.{At, Retired}
use Rattle.chains.specs.Processes.{Name}
use Rattle.chains.specs.Elements.{name_of}
use Rattle.chains.specs.declared.position.Place.{Place}
use Rattle.reasons.specs.declared.certificate.Certificate.{Certificate}

-- between double quotes; a name needs no escapes
abbrev pub quoted : List ℕ → List ℕ
quoted text = 34 ∷ (text ++ 34 ∷ [])

-- a key and its colon
abbrev pub key : List ℕ → List ℕ
key text = quoted text ++ 58 ∷ []

-- a list of texts
abbrev pub bracketed : List (List ℕ) → List ℕ
bracketed items = 91 ∷ (join_with_byte 44 items ++ 93 ∷ [])

abbrev pub position_text : Position → List ℕ
position_text (At k) = decimal k
position_text Retired = quoted (codes "retired")

abbrev pub entry_text : Name → Position → List ℕ
entry_text name k = bracketed (quoted name ∷ position_text k ∷ [])

-- the name of a process; a number that none has is shown as an empty one
abbrev pub shown_name : List Report → ℕ → Name
shown_name accepted p = unwrap_or (name_of accepted p) []

abbrev pub place_text : List Report → Place → List ℕ
place_text accepted x = entry_text (shown_name accepted x.process) x.position

abbrev pub certificate_text : List Report → Certificate → List ℕ
certificate_text accepted c =
    codes "{" ++ key (codes "failed") ++ bracketed (map (λ p. quoted (shown_name accepted p)) c.failed)
    ++ codes "," ++ key (codes "front") ++ decimal c.front
    ++ codes "," ++ key (codes "line") ++ bracketed (map (place_text accepted) c.line)
    ++ codes "," ++ key (codes "reasons") ++ bracketed (map (λ chain. bracketed (map (place_text accepted) chain)) c.reasons)
    ++ codes "}"
