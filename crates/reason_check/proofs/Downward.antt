-- Chains whose places of a process go down.
use Rattle.std.proofs.Common.{◌≡◌, ◌≢◌, inl, inr, ℕ, ◌+◌, ◌<◌, ◌≤◌, List, sym, ap, ◌∙◌, subst, arith}
use Rattle.std.proofs.lemmas.Bool.{cases_lt}
use Rattle.chains.specs.declared.position.Position.{Position}
use Rattle.chains.specs.declared.position.Position.TheVariants.{At, Retired}
use Rattle.chains.specs.declared.position.Place.{Place}
use Rattle.reason_check.specs.Causes.{entry}
use Rattle.reason_check.specs.working.Falling.{IsBelow, IsFalling}

below_apart : (j k : Position) → IsBelow j k → j ≢ k
below_apart (At j) (At k) less same = let is : j ≡ k = cc in omega (arith, less)
below_apart (At j) Retired less same = cc
below_apart Retired k less same = absurd less

below_through : (i j k : Position) → IsBelow i j → IsBelow j k → IsBelow i k
below_through (At i) (At j) (At k) low high = omega (arith, low, high)
below_through (At i) (At j) Retired low high = tt
below_through (At i) Retired k low high = absurd high
below_through Retired j k low high = absurd low

-- one entry more, which is below those of its process
pub falls_more : (chain : List Place) (e : ℕ) → IsFalling chain e
    → ((i : ℕ) → 0 < i → i < e → (entry chain i).process ≡ (entry chain e).process → IsBelow (entry chain e).position (entry chain i).position) → IsFalling chain (e + 1)
unfolding IsFalling
falls_more chain e falls last i j a b c same =
    elim (cases_lt j e) [
      | inl earlier ↦ falls i j a b earlier same
      | inr here ↦ (let is : j ≡ e = omega arith in subst (λ (k : ℕ). IsBelow (entry chain k).position (entry chain i).position) (sym is) (last i a (omega arith) (subst (λ (k : ℕ). (entry chain i).process ≡ (entry chain k).process) is same)))
    ]

-- where no entry before is of its process
pub falls_first : (chain : List Place) (e i : ℕ) → i ≤ 1 → ((k : ℕ) → i ≤ k → k < e → (entry chain k).process ≢ (entry chain e).process) → IsFalling chain e → IsFalling chain (e + 1)
falls_first chain e i low none falls = falls_more chain e falls (λ k a b same. absurd (none k (omega arith) b same))

-- where the last one before that is of its process is above it
pub falls_next : (chain : List Place) (e i : ℕ) → 0 < i → i < e → ((k : ℕ) → i < k → k < e → (entry chain k).process ≢ (entry chain e).process)
    → (entry chain i).process ≡ (entry chain e).process → IsBelow (entry chain e).position (entry chain i).position → IsFalling chain e → IsFalling chain (e + 1)
unfolding IsFalling
falls_next chain e i above within none here below falls =
    falls_more chain e falls (λ k a b same.
    elim (cases_lt k i) [
      | inl earlier ↦ below_through _ _ _ below (falls k i a earlier within (same ∙ sym here))
      | inr later ↦ elim (cases_lt i k) [
        | inl after ↦ absurd (none k after b same)
        | inr past ↦ (let is : i ≡ k = omega arith in subst (λ (m : ℕ). IsBelow (entry chain e).position (entry chain m).position) is below)
      ]
    ])

-- so no entry stands among those before it
pub falls_apart : (chain : List Place) (e : ℕ) → IsFalling chain (e + 1) → (i : ℕ) → 0 < i → i < e → entry chain i ≢ entry chain e
unfolding IsFalling
falls_apart chain e falls i above before same =
    below_apart _ _ (falls i e above before (omega arith) (ap (λ (x : Place). x.process) same)) (ap (λ (x : Place). x.position) (sym same))
