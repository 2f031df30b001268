-- The last element that passes a test, and its index.
use Rattle.std.proofs.Common.{◌≡◌, ◌≢◌, ℕ, suc, ◌<◌, Bool, true, false, cond, List, [], ◌∷◌, ◌++◌, length, Option, Some, None, MatchOption, refl, sym, ap, ◌∙◌, arith, IsTrue, ◌↔◌}
use Rattle.std.specs.Prelude.{slice_get, option_and_then, nat_eq, ⊤}
use Rattle.std.specs.Option.{option_map}
use Rattle.std.proofs.lemmas.Option.{slice_get-get_or}
use Rattle.std.proofs.lemmas.Bool.{true≢false}
use Rattle.chains.specs.Processes.{first_of, last_passing}
use Rattle.chains.specs.working.Keeping.{last_index}

-- an index is within a length, if there is one
abbrev pub IsWithin : Option ℕ → ℕ → Type 0
IsWithin o n = MatchOption o ⊤ (λ i. i < n)

within_step : (o : Option ℕ) (b : Bool) (n : ℕ) → IsWithin o n → IsWithin (first_of (option_map (λ i. suc i) o) (cond b (Some 0) None)) (suc n)
within_step None true n h = omega arith
within_step None false n h = tt
within_step (Some i) b n h = omega arith

pub last_index-within : {X : Type 0} (test : X → Bool) (xs : List X) → IsWithin (last_index test xs) (length xs)
last_index-within test [] = tt
last_index-within test (x ∷ xs) = within_step (last_index test xs) (test x) (length xs) (last_index-within test xs)

get_step : {X : Type 0} (x : X) (xs : List X) (o : Option ℕ) (b : Bool) → IsWithin o (length xs)
    → option_and_then (λ i. slice_get (x ∷ xs) i) (first_of (option_map (λ i. suc i) o) (cond b (Some 0) None)) ≡ first_of (option_and_then (λ i. slice_get xs i) o) (cond b (Some x) None)
get_step x xs None true h = refl
get_step x xs None false h = refl
get_step x xs (Some i) b h = let there = slice_get-get_or xs i x h in rw there refl

-- what stands at the last index is the last that passes
pub last_index-get : {X : Type 0} (test : X → Bool) (xs : List X) → option_and_then (λ i. slice_get xs i) (last_index test xs) ≡ last_passing test xs
last_index-get test [] = refl
last_index-get test (x ∷ xs) =
    get_step x xs (last_index test xs) (test x) (last_index-within test xs)
    ∙ ap (λ o. first_of o (cond (test x) (Some x) None)) (last_index-get test xs)

first_of-more : {X : Type 0} (o : Option X) (b : Bool) (x : X) (p : Option X) → first_of (first_of o (cond b (Some x) None)) p ≡ first_of o (first_of (cond b (Some x) None) p)
first_of-more (Some y) b x p = refl
first_of-more None b x p = refl

mapped_first : (o : Option ℕ) (b : Bool) (n : ℕ) → option_map (λ i. suc i) (first_of (cond b (Some n) None) o) ≡ first_of (cond b (Some (suc n)) None) (option_map (λ i. suc i) o)
mapped_first o true n = refl
mapped_first o false n = refl

first_of-fixed : {X : Type 0} (b : Bool) (x : X) (o p : Option X) → first_of (first_of (cond b (Some x) None) o) p ≡ first_of (cond b (Some x) None) (first_of o p)
first_of-fixed true x o p = refl
first_of-fixed false x o p = refl

first_of-none : {X : Type 0} (o : Option X) → first_of o None ≡ o
first_of-none None = refl
first_of-none (Some x) = refl

-- one more element
pub last_index-push : {X : Type 0} (test : X → Bool) (xs : List X) (y : X) → last_index test (xs ++ y ∷ []) ≡ first_of (cond (test y) (Some (length xs)) None) (last_index test xs)
last_index-push test [] y = sym (first_of-none (cond (test y) (Some 0) None))
last_index-push test (x ∷ xs) y =
    ap (λ o. first_of (option_map (λ i. suc i) o) (cond (test x) (Some 0) None)) (last_index-push test xs y)
    ∙ ap (λ o. first_of o (cond (test x) (Some 0) None)) (mapped_first (last_index test xs) (test y) (length xs))
    ∙ first_of-fixed (test y) (suc (length xs)) (option_map (λ i. suc i) (last_index test xs)) (cond (test x) (Some 0) None)

-- a test for equality that fails
pub other : {X : Type 0} (b : Bool) (x y z : X) → IsTrue b ↔ (x ≡ y) → b ≡ false → y ≡ z → x ≢ z
other b x y z test fails same e = true≢false (sym (test.1 (e ∙ sym same)) ∙ fails)

-- a test that fails
pub refuted : {P : Type 0} (b : Bool) → IsTrue b ↔ P → b ≡ false → ¬ P
refuted b test fails h = true≢false (sym (test.1 h) ∙ fails)

-- a list that has elements
pub filled : (X : Type 0) (xs : List X) (b : Bool) → b ≡ nat_eq (length xs) 0 → b ≡ false → xs ≢ []
filled X xs b is fails e = true≢false (sym (is ∙ ap (λ (ys : List X). nat_eq (length ys) 0) e) ∙ fails)
