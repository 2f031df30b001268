-- What an export answers, from what its call makes. The answer is passed on as 64 bits, and read back from them.
use Rattle.std.proofs.Common.{ℕ, ℤ, List, Result, Ok, Err, inl, inr, subst, sym, SFits, w64, to_z, of_z, to_z-of_z}
use Rattle.std.specs.Prelude.{MatchResult}
use Rattle.process_c.specs.declared.fault.Fault.{Fault}
use Rattle.process_c.specs.Answers.{IsGiven, IsFaultAnswer, IsAnswer}

answered : {X : Type 0} (made : Result X Fault) (items : X → List ℕ) (gives : List ℕ → Type 0) (refuses : Fault → Type 0) (n : ℤ) (old new : List ℕ)
    → MatchResult made (λ v. gives (items v)) refuses → MatchResult made (λ v. IsGiven (items v) n old new) (λ fault. IsFaultAnswer fault n old new) → IsAnswer gives refuses n old new
answered (Ok v) items gives refuses n old new is told = inl (items v, is, told)
answered (Err fault) items gives refuses n old new is told = inr (fault, is, told)

pub exported : {X : Type 0} (n : ℤ) → SFits w64 n → (made : Result X Fault) (items : X → List ℕ) (gives : List ℕ → Type 0) (refuses : Fault → Type 0) (old new : List ℕ)
    → MatchResult made (λ v. gives (items v)) refuses → MatchResult made (λ v. IsGiven (items v) n old new) (λ fault. IsFaultAnswer fault n old new) → IsAnswer gives refuses (to_z w64 (of_z w64 n)) old new
exported n fits made items gives refuses old new is told =
    subst (λ (m : ℤ). IsAnswer gives refuses m old new) (sym (to_z-of_z fits)) (answered made items gives refuses n old new is told)
