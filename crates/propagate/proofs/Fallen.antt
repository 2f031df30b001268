-- The processes that stand below their last surviving ranks.
use Rattle.std.proofs.Common.{◌≡◌, ◌⊎◌, inl, inr, ℕ, zero, suc, ◌+◌, ◌<◌, Bool, true, false, cond, List, [], ◌∷◌, length, refl, sym, subst, arith}
use Rattle.std.specs.Prelude.{slice_index, nat_lt, Contains}
use Rattle.std.specs.List.Sorted.{IsStrictlyIncreasing}
use Rattle.std.proofs.lemmas.Bool.{ltb-true, lt-ltb, true≢false}

-- the processes from the i-th on that are below
abbrev pub fallen_from : ℕ → List ℕ → List ℕ → List ℕ
fallen_from i [] cut = []
fallen_from i (top ∷ surviving_ranks) [] = []
fallen_from i (top ∷ surviving_ranks) (r ∷ rs) = cond (nat_lt r top) (i ∷ fallen_from (suc i) surviving_ranks rs) (fallen_from (suc i) surviving_ranks rs)

-- ---- what a list contains

pub no_member : (q : ℕ) → ¬ Contains [] q
no_member q h = omega (arith, h.1)

pub member_first : (x : ℕ) (xs : List ℕ) → Contains (x ∷ xs) x
member_first x xs = (0, omega arith, refl)

pub member_more : (x q : ℕ) (xs : List ℕ) → Contains xs q → Contains (x ∷ xs) q
member_more x q xs (k, lt, e) = (suc k, omega (arith, lt), e)

pub member_cases : (x q : ℕ) (xs : List ℕ) → Contains (x ∷ xs) q → (x ≡ q) ⊎ Contains xs q
member_cases x q xs (zero, lt, e) = inl e
member_cases x q xs (suc k, lt, e) = inr (k, omega (arith, lt), e)

module _ (b : Bool) (i q : ℕ) (xs : List ℕ) where
  if_member : Contains (cond b (i ∷ xs) xs) q → ((b ≡ true) × (q ≡ i)) ⊎ Contains xs q
  if_member h = at b refl h
    where
      at : (c : Bool) → b ≡ c → Contains (cond c (i ∷ xs) xs) q → ((b ≡ true) × (q ≡ i)) ⊎ Contains xs q
      at true e h = elim (member_cases i q xs h) [ inl same ↦ inl (e, sym same) | inr there ↦ inr there ]
      at false e h = inr h

later_member : (b : Bool) (i q : ℕ) (xs : List ℕ) → Contains xs q → Contains (cond b (i ∷ xs) xs) q
later_member true i q xs h = member_more i q xs h
later_member false i q xs h = h

first_member : (b : Bool) (i : ℕ) (xs : List ℕ) → b ≡ true → Contains (cond b (i ∷ xs) xs) i
first_member true i xs e = member_first i xs
first_member false i xs e = absurd (true≢false (sym e))

-- they are those below
pub fallen_below : (i p : ℕ) (surviving_ranks cut : List ℕ) → Contains (fallen_from i surviving_ranks cut) p → (j : ℕ) × (p ≡ i + j) × (j < length cut) × (slice_index cut j < slice_index surviving_ranks j)
fallen_below i p [] cut h = absurd (no_member p h)
fallen_below i p (top ∷ surviving_ranks) [] h = absurd (no_member p h)
fallen_below i p (top ∷ surviving_ranks) (r ∷ rs) h = elim (if_member (nat_lt r top) i p (fallen_from (suc i) surviving_ranks rs) h) [
  | inl (below, e) ↦ (0, omega (arith, e), omega arith, ltb-true r top below)
  | inr there ↦ let more = fallen_below (suc i) p surviving_ranks rs there in (suc more.0, omega (arith, more.1), omega (arith, more.2), more.3)
]

pub below_fallen : (i j : ℕ) (surviving_ranks cut : List ℕ) → length cut ≡ length surviving_ranks → j < length cut → slice_index cut j < slice_index surviving_ranks j → Contains (fallen_from i surviving_ranks cut) (i + j)
below_fallen i j [] cut same lt below = absurd (omega arith)
below_fallen i j (top ∷ surviving_ranks) [] same lt below = absurd (omega arith)
below_fallen i zero (top ∷ surviving_ranks) (r ∷ rs) same lt below =
    let e : i ≡ i + 0 = omega arith in
    subst (Contains (cond (nat_lt r top) (i ∷ fallen_from (suc i) surviving_ranks rs) (fallen_from (suc i) surviving_ranks rs))) e (first_member (nat_lt r top) i (fallen_from (suc i) surviving_ranks rs) (lt-ltb r top below))
below_fallen i (suc j) (top ∷ surviving_ranks) (r ∷ rs) same lt below =
    let e : suc i + j ≡ i + suc j = omega arith in
    later_member (nat_lt r top) i (i + suc j) (fallen_from (suc i) surviving_ranks rs)
    (subst (Contains (fallen_from (suc i) surviving_ranks rs)) e (below_fallen (suc i) j surviving_ranks rs (omega arith) (omega arith) below))

-- ---- in order

increasing_more : (x : ℕ) (xs : List ℕ) → ((y : ℕ) → Contains xs y → x < y) → IsStrictlyIncreasing xs → IsStrictlyIncreasing (x ∷ xs)
increasing_more x [] less h k lt = absurd (omega arith)
increasing_more x (y ∷ xs) less h zero lt = less y (member_first y xs)
increasing_more x (y ∷ xs) less h (suc k) lt = let e : suc k + 1 ≡ suc (k + 1) = omega arith in rw e (h k (omega arith))

increasing_if : (b : Bool) (i : ℕ) (xs : List ℕ) → ((y : ℕ) → Contains xs y → i < y) → IsStrictlyIncreasing xs → IsStrictlyIncreasing (cond b (i ∷ xs) xs)
increasing_if true i xs less h = increasing_more i xs less h
increasing_if false i xs less h = h

pub fallen_increasing : (i : ℕ) (surviving_ranks cut : List ℕ) → IsStrictlyIncreasing (fallen_from i surviving_ranks cut)
fallen_increasing i [] cut = λ k lt. absurd (omega arith)
fallen_increasing i (top ∷ surviving_ranks) [] = λ k lt. absurd (omega arith)
fallen_increasing i (top ∷ surviving_ranks) (r ∷ rs) =
    increasing_if (nat_lt r top) i (fallen_from (suc i) surviving_ranks rs) (λ y h. let there = fallen_below (suc i) y surviving_ranks rs h in omega (arith, there.1)) (fallen_increasing (suc i) surviving_ranks rs)
