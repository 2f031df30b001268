-- Words that are as they are wanted, one for one.
use Rattle.std.proofs.Common.{◌≡◌, ℕ, List, [], ◌∷◌, ◌++◌, refl}
use Rattle.line_explain.specs.declared.wanted.Wanted.{Wanted}
use Rattle.line_explain.specs.Wanting.{Fits}
use Rattle.line_explain.specs.working.Shapes.{FitAll}
use Rattle.line_explain.proofs.Samples.{sample}

-- there is a first word, and it is as wanted
pub record Parted (kind : Wanted) (kinds : List Wanted) (words : List (List ℕ)) : Type 0 where
  pub word : List ℕ
  pub behind : List (List ℕ)
  pub is : words ≡ word ∷ behind
  pub fits : Fits kind word
  pub others : FitAll kinds behind

pub part : (kind : Wanted) (kinds : List Wanted) (words : List (List ℕ)) → FitAll (kind ∷ kinds) words → Parted kind kinds words
part kind kinds [] fit = absurd fit
part kind kinds (word ∷ words) fit = record { word = word; behind = words; is = refl; fits = fit.0; others = fit.1 }

pub none_left : (words : List (List ℕ)) → FitAll [] words → words ≡ []
none_left [] fit = refl
none_left (word ∷ words) fit = absurd fit

pub FitAll-append : (kinds more : List Wanted) (words behind : List (List ℕ)) → FitAll kinds words → FitAll more behind → FitAll (kinds ++ more) (words ++ behind)
FitAll-append [] more [] behind fit others = others
FitAll-append [] more (word ∷ words) behind fit others = absurd fit
FitAll-append (kind ∷ kinds) more [] behind fit others = absurd fit
FitAll-append (kind ∷ kinds) more (word ∷ words) behind fit others = (fit.0, FitAll-append kinds more words behind fit.1 others)

-- what stands behind words that fit has to fit, too
pub FitAll-behind : (kinds more : List Wanted) (words behind : List (List ℕ)) → FitAll kinds words → FitAll (kinds ++ more) (words ++ behind) → FitAll more behind
FitAll-behind [] more [] behind fit whole = whole
FitAll-behind [] more (word ∷ words) behind fit whole = absurd fit
FitAll-behind (kind ∷ kinds) more [] behind fit whole = absurd fit
FitAll-behind (kind ∷ kinds) more (word ∷ words) behind fit whole = FitAll-behind kinds more words behind fit.1 whole.1

pub samples : (kinds : List Wanted) → (words : List (List ℕ)) × FitAll kinds words
samples [] = ([], tt)
samples (kind ∷ kinds) = ((sample kind).0 ∷ (samples kinds).0, ((sample kind).1, (samples kinds).1))
