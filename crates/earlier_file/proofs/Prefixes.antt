-- What a file begins with is told by its bytes.
use Rattle.std.proofs.Common.{◌≡◌, ◌≢◌, ℕ, ◌<◌, ◌≤◌, List, [], ◌∷◌, ◌++◌, length, take, drop, refl, sym, ◌∙◌, ap, subst, arith, append_assoc, length-append}
use Rattle.std.proofs.lemmas.List.{take-map, length-map}
use Rattle.record_file.specs.File.{Said, Spelled, AreFit, header, opened, record_of, all_said, said_by, IsNoRecord}
use Rattle.record_file.proofs.Records.{split_record, is_record}

-- two readings that begin with a record: it is the same one, and the rest of both is the same
first_two : (version : ℕ) (r s : Spelled) (rs ss : List Spelled) (x y : List ℕ) → AreFit version (r ∷ rs) → AreFit version (s ∷ ss) → opened (r ∷ rs) ++ x ≡ opened (s ∷ ss) ++ y → (r ≡ s) × (opened rs ++ x ≡ opened ss ++ y)
first_two version r s rs ss x y fit fit' same =
    let rest : (record_of r ++ opened rs) ++ x ≡ (record_of s ++ opened ss) ++ y = cc in
    split_record version version r s (opened rs ++ x) (opened ss ++ y) fit.0 fit'.0 (sym (append_assoc (record_of r) (opened rs) x) ∙ rest ∙ append_assoc (record_of s) (opened ss) y)

-- Records that bytes begin with are the first of all that they begin with.
pub prefix : (version : ℕ) (rs ss : List Spelled) (x y : List ℕ) → AreFit version rs → AreFit version ss → length rs ≤ length ss → opened rs ++ x ≡ opened ss ++ y
    → (rs ≡ take (length rs) ss) × (x ≡ opened (drop (length rs) ss) ++ y)
prefix version [] ss x y fit fit' few same = (refl, same)
prefix version (r ∷ rs) [] x y fit fit' few same = absurd (omega (arith, few))
prefix version (r ∷ rs) (s ∷ ss) x y fit fit' few same =
    let parts = first_two version r s rs ss x y fit fit' same in
    let later = prefix version rs ss x y fit.1 fit'.1 (omega (arith, few)) parts.1 in
    ((λ i. parts.0 i ∷ later.0 i), later.1)

-- a record, and more behind it
pub record Going (version : ℕ) (x y : List ℕ) : Type 0 where
  pub first : Spelled
  pub later : List Spelled
  pub fit : AreFit version (first ∷ later)
  pub is : x ≡ opened (first ∷ later) ++ y

-- behind fewer records the next gate is open, and a record stands behind it
goes_on : (version : ℕ) (rs ss : List Spelled) (x y : List ℕ) → AreFit version rs → AreFit version ss → length rs < length ss → opened rs ++ x ≡ opened ss ++ y → Going version x y
goes_on version [] [] x y fit fit' few same = absurd (omega (arith, few))
goes_on version [] (s ∷ ss) x y fit fit' few same = record { first = s; later = ss; fit = fit'; is = same }
goes_on version (r ∷ rs) [] x y fit fit' few same = absurd (omega (arith, few))
goes_on version (r ∷ rs) (s ∷ ss) x y fit fit' few same = goes_on version rs ss x y fit.1 fit'.1 (omega (arith, few)) (first_two version r s rs ss x y fit fit' same).1

-- so it is no closed gate
pub not_closed : (version : ℕ) (rs ss : List Spelled) (gate : ℕ) (rest y : List ℕ) → AreFit version rs → AreFit version ss → length rs < length ss → gate ≢ 1 → opened rs ++ gate ∷ rest ≡ opened ss ++ y → ⊥
not_closed version rs ss gate rest y fit fit' few shut same =
    let on = goes_on version rs ss (gate ∷ rest) y fit fit' few same in
    let is : gate ∷ rest ≡ 1 ∷ ((record_of on.first ++ opened on.later) ++ y) = on.is in
    let through : gate ≡ 1 = cc in
    shut through

-- and no gate with no record behind it
pub not_broken : (version : ℕ) (rs ss : List Spelled) (rest y : List ℕ) → AreFit version rs → AreFit version ss → length rs < length ss → 0 < length y → IsNoRecord version rest → opened rs ++ 1 ∷ rest ≡ opened ss ++ y → ⊥
not_broken version rs ss rest y fit fit' few some none same =
    let on = goes_on version rs ss (1 ∷ rest) y fit fit' few same in
    let both : 1 ∷ rest ≡ 1 ∷ ((record_of on.first ++ opened on.later) ++ y) = on.is in
    let all : rest ≡ (record_of on.first ++ opened on.later) ++ y = cc in
    is_record version on.first (opened on.later ++ y) on.fit.0 (omega (arith, some, length-append (opened on.later) y))
    (subst (IsNoRecord version) (all ∙ append_assoc (record_of on.first) (opened on.later) y) none)

-- a file has one version
pub same_version : (file : List ℕ) (version other : ℕ) (x y : List ℕ) → file ≡ header version ++ x → file ≡ header other ++ y → version ≡ other
same_version file version other x y is is' =
    let both : header version ++ x ≡ header other ++ y = sym is ∙ is' in
    cc

-- the first of what records say is what the first of them say
pub first_said : (n : ℕ) (rs ss : List Spelled) → rs ≡ take n ss → all_said rs ≡ take n (all_said ss)
first_said n rs ss is = ap all_said is ∙ sym (take-map said_by n ss)

pub count_said : (rs : List Spelled) (said : List Said) → all_said rs ≡ said → length rs ≡ length said
count_said rs said say = sym (length-map rs said_by) ∙ ap length say
