-- Words that lack the byte that parts them, cut again.
use Rattle.std.proofs.Common.{◌≡◌, ℕ, Bool, true, false, eqb, List, [], ◌∷◌, ◌++◌, refl, sym, ◌∙◌}
use Rattle.std.specs.Prelude.{◌&&◌}
use Rattle.std.specs.List.{list_all}
use Rattle.std.proofs.lemmas.Bool.{eqb-true, eq-eqb, true≢false}
use Rattle.report_line.specs.Cuts.{Lacks}

-- ---- tests

pub and_both : (a b : Bool) → (a && b) ≡ true → (a ≡ true) × (b ≡ true)
and_both true b e = (refl, e)
and_both false b e = absurd cc

pub not_true : (b : Bool) → (b ≡ true → ⊥) → b ≡ false
not_true true h = absurd (h refl)
not_true false h = refl

-- what passes a test that c does not pass is not c
pub passes_other : (p : ℕ → Bool) (b c : ℕ) → p b ≡ true → p c ≡ false → eqb b c ≡ false
passes_other p b c passes fails = not_true (eqb b c) (λ e. let same : b ≡ c = eqb-true b c e in let both : p c ≡ true = rw (← same) passes in cc)

-- ---- words

pub Lacks-passing : (p : ℕ → Bool) (c : ℕ) (word : List ℕ) → p c ≡ false → list_all p word ≡ true → Lacks c word
Lacks-passing p c [] fails passes = tt
Lacks-passing p c (b ∷ bs) fails passes = let both = and_both (p b) (list_all p bs) passes in (passes_other p b c both.0 fails, Lacks-passing p c bs fails both.1)

-- a word that lacks the byte ends where the byte first stands
pub cut_same : (c : ℕ) (v w x y : List ℕ) → Lacks c v → Lacks c w → v ++ c ∷ x ≡ w ++ c ∷ y → (v ≡ w) × (x ≡ y)
cut_same c [] [] x y g h e = (refl, cc)
cut_same c [] (b ∷ bs) x y g h e = absurd (let same : b ≡ c = cc in let t : eqb b c ≡ true = eq-eqb b c same in let f : eqb b c ≡ false = h.0 in true≢false (sym t ∙ f))
cut_same c (b ∷ bs) [] x y g h e = absurd (let same : b ≡ c = cc in let t : eqb b c ≡ true = eq-eqb b c same in let f : eqb b c ≡ false = g.0 in true≢false (sym t ∙ f))
cut_same c (b ∷ bs) (d ∷ ds) x y g h e =
    let first : b ≡ d = cc in
    let rest : bs ++ c ∷ x ≡ ds ++ c ∷ y = cc in
    let both = cut_same c bs ds x y g.1 h.1 rest in
    (let r : bs ≡ ds = both.0 in cc, both.1)

-- what lacks the byte has no part in front of it
pub Lacks-uncut : (c : ℕ) (v x : List ℕ) → Lacks c (v ++ c ∷ x) → ⊥
Lacks-uncut c [] x h = let t : eqb c c ≡ true = eq-eqb c c refl in let f : eqb c c ≡ false = h.0 in true≢false (sym t ∙ f)
Lacks-uncut c (b ∷ bs) x h = Lacks-uncut c bs x h.1
