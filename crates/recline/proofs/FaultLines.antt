-- The pieces of a fault line.
use Rattle.std.proofs.Common.{◌≡◌, ℕ, List, [], ◌∷◌, ◌++◌, refl, sym, ap, append_assoc, codes}
use Rattle.std.specs.Fmt.{decimal}
use Rattle.report_line.specs.Cutting.{ended}
use Rattle.desk.specs.declared.fault.DeskFault.TheVariants.{Refused}
use Rattle.recline.specs.Outcome.{open_fault_line}

pub refusal_line : (a b c d e words : List ℕ) (step : ℕ) → a ≡ codes "recline: step " → b ≡ decimal step → c ≡ codes " " → d ≡ words → e ≡ 10 ∷ []
    → a ++ (b ++ (c ++ (d ++ (e ++ [])))) ≡ ended (codes "recline: step " ++ decimal step ++ 32 ∷ words)
refusal_line a b c d e words step f g h i j =
    rw (f, g, h, i, j) (ap (λ (l : List ℕ). codes "recline: step " ++ l) (sym (append_assoc (decimal step) (32 ∷ words) (10 ∷ []))))

-- a number behind some words
pub numbered_line : (a b e front : List ℕ) (n : ℕ) → a ≡ front → b ≡ decimal n → e ≡ 10 ∷ [] → a ++ (b ++ (e ++ [])) ≡ front ++ (decimal n ++ 10 ∷ [])
numbered_line a b e front n f g h = rw (f, g, h) refl

pub refused_line : (a b c d e : List ℕ) (number code : ℕ) → a ≡ codes "recline: refused " → b ≡ decimal number → c ≡ codes " " → d ≡ decimal code → e ≡ 10 ∷ []
    → a ++ (b ++ (c ++ (d ++ (e ++ [])))) ≡ open_fault_line (Refused number code)
refused_line a b c d e number code f g h i j =
    rw (f, g, h, i, j) (ap (λ (l : List ℕ). codes "recline: refused " ++ l) (sym (append_assoc (decimal number) (32 ∷ decimal code) (10 ∷ []))))

-- a name behind some words
pub named_line : (a b e front name : List ℕ) → a ≡ front → b ≡ name → e ≡ 10 ∷ [] → a ++ (b ++ (e ++ [])) ≡ front ++ (name ++ 10 ∷ [])
named_line a b e front name f g h = rw (f, g, h) refl
