-- The names that a line settles for.
use Rattle.std.proofs.Common.{◌≡◌, ◌≢◌, ℕ, List, [], ◌∷◌, Option, Some, None, sym, ap, ◌∙◌}
use Rattle.std.specs.Prelude.{codes}
use Rattle.std.specs.List.{join_with_byte}
use Rattle.report_line.specs.Cuts.{words_in}
use Rattle.report_line.specs.Spelling.{AreNames, names_text}
use Rattle.report_line.proofs.Parting.{words_joined}
use Rattle.script.specs.Spelling.{FindsOne, SpellsSettle}
use Rattle.script.proofs.OneStep.{parts, words_of_settle}

-- the names that this list has
abbrev Lists : List ℕ → List (List ℕ) → Type 0
Lists list names = AreNames names × (list ≡ names_text names)

pub no_list : (line : List ℕ) (words : List (List ℕ)) → words ≡ words_in line → ((list : List ℕ) → words ≢ codes "settle" ∷ list ∷ []) → (names : List (List ℕ)) → ¬ SpellsSettle names line
no_list line words is none names h = none (names_text names) (is ∙ words_of_settle line names h)

pub settle_found : (line list : List ℕ) (words : List (List ℕ)) → words ≡ words_in line → words ≡ codes "settle" ∷ list ∷ [] → (r : Option (List (List ℕ))) → FindsOne r (Lists list)
    → FindsOne r (λ names. SpellsSettle names line)
settle_found line list words is has (Some names) h =
    (h.0, sym (words_joined line) ∙ ap (join_with_byte 32) (sym is ∙ (has ∙ ap (λ (l : List ℕ). codes "settle" ∷ l ∷ []) h.1)))
settle_found line list words is has None none = λ names h.
    none names (h.0, (parts _ _ _ _ (parts _ _ _ _ (sym has ∙ (is ∙ words_of_settle line names h))).1).0)
