-- Lists that are the same, and what is held with them.
use Rattle.std.proofs.Common.{◌≡◌, ℕ, zero, suc, ◌<◌, ◌≤◌, List, [], ◌∷◌, length, false, refl, arith}
use Rattle.std.specs.Prelude.{slice_get}
use Rattle.std.proofs.lemmas.Option.{same_Some}
use Rattle.chains.specs.Kept.{Kept}
use Rattle.chains.specs.Held.{held_of}

-- lists with the same elements up to their lengths
pub same_by_get : {X : Type 0} (n : ℕ) (xs ys : List X) → length xs ≤ n → length ys ≤ n → ((j : ℕ) → j < n → slice_get xs j ≡ slice_get ys j) → xs ≡ ys
same_by_get n [] [] few fewer same = refl
same_by_get n [] (y ∷ ys) few fewer same = absurd (let e = same 0 (omega (arith, fewer)) in cc)
same_by_get n (x ∷ xs) [] few fewer same = absurd (let e = same 0 (omega (arith, few)) in cc)
same_by_get zero (x ∷ xs) (y ∷ ys) few fewer same = absurd (omega (arith, few))
same_by_get (suc n) (x ∷ xs) (y ∷ ys) few fewer same =
    let first : x ≡ y = same_Some x y (same 0 (omega arith)) in
    let rest : xs ≡ ys = same_by_get n xs ys (omega (arith, few)) (omega (arith, fewer)) (λ j lt. same (suc j) (omega (arith, lt))) in
    λ i. first i ∷ rest i

-- what chains hold with the same parts
pub same_held : (a b : Kept) → a.front ≡ b.front → a.epoch ≡ b.epoch → a.accepted ≡ b.accepted → a.epochs ≡ b.epochs → held_of a ≡ held_of b
same_held a b front epoch list epochs = λ i. record { accepted = list i; epochs = epochs i; front = front i; epoch = epoch i; stopped = false }
