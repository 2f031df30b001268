-- What a text says as a certificate. Reading has the names of processes where a certificate has their numbers.
use Rattle.std.specs.Prelude.{◌≡◌, ◌<◌, ◌^◌, ℕ, List, [], ◌∷◌, ◌++◌, length, map, flat_map, All, Option, Some, Result, Ok, Err, codes, string_bytes, ⊤, IsTrue, IsUtf8}
use Rattle.std.specs.Option.{option_map}
use Rattle.report_line.specs.Names.{is_name}
use Rattle.report_line.specs.declared.report.Report.{Report}
use Rattle.chains.specs.declared.position.Position.{Position}
use Rattle.chains.specs.declared.position.Position.TheVariants.{At, Retired}
use Rattle.chains.specs.declared.position.Place.{Place}
use Rattle.chains.specs.Processes.{Name, IsKnown, known}
use Rattle.chains.specs.Elements.{name_of}
use Rattle.serde_json.specs.Data.{Data, number, unsigned, string, array, Items, no_items, item}
use Rattle.serde_json.specs.Events.{members_len}
use Rattle.serde_json.specs.Find.{as_object, get}
use Rattle.serde_json.specs.Read.{read}
use Rattle.reasons.specs.declared.certificate.Certificate.{Certificate}
use Rattle.reasons.specs.declared.fault.CertificateFault.{CertificateFault}
use Rattle.reasons.specs.declared.fault.CertificateFault.TheVariants.{NotJson, Shape, Unknown, Memory}

-- a place by the name of its process
pub record NamedPlace : Type 0 where
  pub name : Name
  pub position : Position

-- a certificate with names in the place of numbers
pub record NamedCertificate : Type 0 where
  pub failed : List Name
  pub front : ℕ
  pub line : List NamedPlace
  pub reasons : List (List NamedPlace)

-- ---- which JSON values these are

-- a list of such values
abbrev pub items_by : {T : Type 0} → (T → Data) → List T → Items
items_by f [] = no_items
items_by f (x ∷ xs) = item (f x) (items_by f xs)

abbrev pub position_data : Position → Data
position_data (At k) = number (unsigned k)
position_data Retired = string (codes "retired")

abbrev pub place_data : NamedPlace → Data
place_data x = array (item (string x.name) (item (position_data x.position) no_items))

abbrev pub places_data : List NamedPlace → Data
places_data xs = array (items_by place_data xs)

-- the limits of the numbers: 32 bits for a position, 64 bits for a front
abbrev pub IsSmall : Position → Type 0
IsSmall (At k) = k < 2 ^ 32
IsSmall Retired = ⊤

abbrev pub HasSmallPosition : NamedPlace → Type 0
HasSmallPosition x = IsSmall x.position

-- an object with just the four members
pub record IsValueOf (d : Data) (c : NamedCertificate) : Type 0 where
  pub four : option_map members_len (as_object d) ≡ Some 4
  pub failed : get (codes "failed") d ≡ Some (array (items_by string c.failed))
  pub front : get (codes "front") d ≡ Some (number (unsigned c.front))
  pub line : get (codes "line") d ≡ Some (places_data c.line)
  pub reasons : get (codes "reasons") d ≡ Some (array (items_by places_data c.reasons))
  pub small_front : c.front < 2 ^ 64
  pub small_line : All HasSmallPosition c.line
  pub small_reasons : All (All HasSmallPosition) c.reasons

-- ---- names and numbers

-- the names that it has, in the order failed, line, reasons
abbrev pub names_in : NamedCertificate → List Name
names_in c = c.failed ++ map (λ x. x.name) c.line ++ flat_map (λ chain. map (λ x. x.name) chain) c.reasons

-- the text is a name, and a process has it
abbrev pub IsNameKnown : List Report → Name → Type 0
IsNameKnown accepted name = IsTrue (is_name name) × IsKnown accepted name

-- the first of these that is no name of a process
pub record IsFirstUnknownText (accepted : List Report) (names : List Name) (text : Name) : Type 0 where
  pub before : List Name
  pub rest : List Name
  pub parts : names ≡ before ++ text ∷ rest
  pub known_before : All (IsNameKnown accepted) before
  pub unknown : ¬ IsNameKnown accepted text

-- the place with its process's name
abbrev pub place_named : List Report → Place → Option NamedPlace
place_named accepted x = option_map (λ name. record { name = name; position = x.position }) (name_of accepted x.process)

-- the certificate's numbers are those of the processes of these names
pub record IsNumbered (accepted : List Report) (named : NamedCertificate) (c : Certificate) : Type 0 where
  pub failed : map (name_of accepted) c.failed ≡ map Some named.failed
  pub front : c.front ≡ named.front
  pub line : map (place_named accepted) c.line ≡ map Some named.line
  pub reasons : map (λ chain. map (place_named accepted) chain) c.reasons ≡ map (λ chain. map Some chain) named.reasons

-- the place is one of a known process, and its position within the limit
abbrev pub IsKnownPlace : List Report → Place → Type 0
IsKnownPlace accepted x = (x.process < length (known accepted)) × IsSmall x.position

-- all numbers of the certificate are those of known processes, and within their limits
pub record HasKnownNumbers (accepted : List Report) (c : Certificate) : Type 0 where
  pub failed : All (λ p. p < length (known accepted)) c.failed
  pub front : c.front < 2 ^ 64
  pub line : All (IsKnownPlace accepted) c.line
  pub reasons : All (All (IsKnownPlace accepted)) c.reasons

-- ---- what a text is read as

-- the bytes are a JSON text of this value
abbrev pub IsJsonOf : List ℕ → Data → Type 0
IsJsonOf bytes d = IsUtf8 bytes × (read bytes ≡ Some d)

-- the bytes are a text of this certificate
abbrev pub IsCertificateText : List ℕ → NamedCertificate → Type 0
IsCertificateText bytes named = (d : Data) × IsJsonOf bytes d × IsValueOf d named

-- The certificate that the bytes are a text of; or they are no JSON; or JSON, but not of that shape; or they have a name
-- that no process has, the first such; or memory was wanting.
abbrev pub IsReadAs : List Report → List ℕ → Result Certificate CertificateFault → Type 0
IsReadAs accepted bytes (Ok c) =
    (named : NamedCertificate) × IsCertificateText bytes named × All (IsNameKnown accepted) (names_in named) × IsNumbered accepted named c
IsReadAs accepted bytes (Err NotJson) = (d : Data) → ¬ IsJsonOf bytes d
IsReadAs accepted bytes (Err Shape) = ((d : Data) × IsJsonOf bytes d) × ((named : NamedCertificate) → ¬ IsCertificateText bytes named)
IsReadAs accepted bytes (Err (Unknown text)) =
    (named : NamedCertificate) × IsCertificateText bytes named × IsFirstUnknownText accepted (names_in named) (string_bytes text)
IsReadAs accepted bytes (Err Memory) = ⊤
