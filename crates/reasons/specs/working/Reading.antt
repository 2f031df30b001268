-- Working definitions: what the parts of a certificate's text are read as.
use Rattle.std.specs.Prelude.{◌≡◌, List, All, Result, Ok, Err, string_bytes, ⊤}
use Rattle.report_line.specs.declared.report.Report.{Report}
use Rattle.chains.specs.Processes.{Name}
use Rattle.serde_json.specs.Data.{Data, string}
use Rattle.reasons.specs.declared.fault.CertificateFault.{CertificateFault}
use Rattle.reasons.specs.declared.fault.CertificateFault.TheVariants.{NotJson, Shape, Unknown, Memory}
use Rattle.reasons.specs.CertificateReading.{NamedPlace, NamedCertificate, place_data, places_data, HasSmallPosition, IsNameKnown, IsFirstUnknownText, IsValueOf}

-- any text may stand for a name
abbrev pub AnyName : Name → Type 0
AnyName name = ⊤

-- the value is such a part
abbrev pub IsText : Data → Type 0
IsText d = (name : Name) × AnyName name × (d ≡ string name)

abbrev pub IsPlace : Data → Type 0
IsPlace d = (x : NamedPlace) × HasSmallPosition x × (d ≡ place_data x)

abbrev pub ArePlaces : Data → Type 0
ArePlaces d = (xs : List NamedPlace) × All HasSmallPosition xs × (d ≡ places_data xs)

abbrev pub IsCertificate : Data → Type 0
IsCertificate d = (named : NamedCertificate) × IsValueOf d named

-- a part with these names is read: where all are known, and else the fault is the first unknown one, or want of memory
abbrev pub ReadsAs : {T : Type 0} → List Report → List Name → (T → Type 0) → Result T CertificateFault → Type 0
ReadsAs accepted names is (Ok x) = All (IsNameKnown accepted) names × is x
ReadsAs accepted names is (Err NotJson) = ⊥
ReadsAs accepted names is (Err Shape) = ⊥
ReadsAs accepted names is (Err (Unknown text)) = IsFirstUnknownText accepted names (string_bytes text)
ReadsAs accepted names is (Err Memory) = ⊤
