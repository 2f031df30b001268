-- Which JSON values are written as which texts.
use Rattle.std.specs.Prelude.{◌≡◌, ℕ, zero, suc, List, [], ◌∷◌, ◌++◌, codes, false, ⊤}
use Rattle.reasons.specs.CertificateText.{key}
use Rattle.serde_json.specs.Data.{Data, Items, no_items, item}
use Rattle.serde_json.specs.Written.{has_float, compact_text}

-- the value has no float, and this is its text
pub record IsJsonText (d : Data) (text : List ℕ) : Type 0 where
  pub no_float : has_float d ≡ false
  pub text_is : compact_text d ≡ text

-- values with their texts, one each
abbrev pub AreWritten : Items → List (List ℕ) → Type 0
AreWritten no_items [] = ⊤
AreWritten (item d ds) (text ∷ texts) = IsJsonText d text × AreWritten ds texts
AreWritten no_items (text ∷ texts) = ⊥
AreWritten (item d ds) [] = ⊥

-- what stands in front of the entry of this number in a list
abbrev pub comma_before : ℕ → List ℕ
comma_before zero = []
comma_before (suc i) = 44 ∷ []

-- what a certificate's text begins with
abbrev pub first_key : List ℕ
first_key = codes "{" ++ key (codes "failed")
