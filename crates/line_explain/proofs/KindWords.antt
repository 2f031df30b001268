-- First words: one shape for each.
use Rattle.std.proofs.Common.{◌≡◌, ◌≢◌, inl, inr, ℕ, ◌+◌, ◌*◌, eqb, List, [], ◌∷◌, ◌++◌, cond, refl, sym, ap, subst, ◌∙◌}
use Rattle.std.specs.Prelude.{codes}
use Rattle.report_line.specs.Spelling.{mark_text}
use Rattle.report_line.specs.Cuts.{Lacks}
use Rattle.line_explain.specs.declared.kind.Shape.{Shape}
use Rattle.line_explain.specs.declared.kind.Shape.TheVariants.{Bare, Named, Failed, Settling, Reported, Handing, Forking}
use Rattle.line_explain.specs.working.Shapes.{IsUnmarked, IsMarkable, IsMarkedKind, IsKindOf}

-- the first two letters of a word, by which the words of the shapes differ
abbrev letters : List ℕ → ℕ
letters [] = 0
letters (x ∷ []) = 0
letters (x ∷ y ∷ zs) = x * 256 + y

abbrev shape_by : ℕ → Shape
shape_by n =
    cond (eqb n (letters (codes "GARBAGE"))) Bare
    (cond (eqb n (letters (codes "BYE"))) Bare
    (cond (eqb n (letters (codes "BEGIN"))) Named
    (cond (eqb n (letters (codes "STATE"))) Named
    (cond (eqb n (letters (codes "LINE"))) Failed
    (cond (eqb n (letters (codes "SETTLE"))) Settling
    (cond (eqb n (letters (codes "CHECK"))) Reported
    (cond (eqb n (letters (codes "PRESENT"))) Reported
    (cond (eqb n (letters (codes "FORK"))) Forking Handing))))))))

-- the shape of a word is told by its letters, also with something behind it
unmarked_by : (s : Shape) (word : List ℕ) → IsUnmarked s word → shape_by (letters word) ≡ s
unmarked_by Bare word (inl is) = ap (λ (w : List ℕ). shape_by (letters w)) is
unmarked_by Bare word (inr is) = ap (λ (w : List ℕ). shape_by (letters w)) is
unmarked_by Named word (inl is) = ap (λ (w : List ℕ). shape_by (letters w)) is
unmarked_by Named word (inr is) = ap (λ (w : List ℕ). shape_by (letters w)) is
unmarked_by Failed word is = ap (λ (w : List ℕ). shape_by (letters w)) is
unmarked_by Settling word is = ap (λ (w : List ℕ). shape_by (letters w)) is
unmarked_by Reported word is = absurd is
unmarked_by Handing word is = absurd is
unmarked_by Forking word is = absurd is

markable_by : (s : Shape) (word text : List ℕ) → IsMarkable s word → shape_by (letters (word ++ text)) ≡ s
markable_by Reported word text (inl is) = ap (λ (w : List ℕ). shape_by (letters (w ++ text))) is
markable_by Reported word text (inr is) = ap (λ (w : List ℕ). shape_by (letters (w ++ text))) is
markable_by Handing word text (inl is) = ap (λ (w : List ℕ). shape_by (letters (w ++ text))) is
markable_by Handing word text (inr is) = ap (λ (w : List ℕ). shape_by (letters (w ++ text))) is
markable_by Forking word text is = ap (λ (w : List ℕ). shape_by (letters (w ++ text))) is
markable_by Bare word text is = absurd is
markable_by Named word text is = absurd is
markable_by Failed word text is = absurd is
markable_by Settling word text is = absurd is

shape_told : (s : Shape) (kind : List ℕ) → IsKindOf s kind → shape_by (letters kind) ≡ s
shape_told s kind (inl is) = unmarked_by s kind is
shape_told s kind (inr is) = ap (λ (w : List ℕ). shape_by (letters w)) is.marked.2 ∙ markable_by s is.word (mark_text is.epoch) is.markable

pub one_shape : (s t : Shape) (kind : List ℕ) → IsKindOf s kind → IsKindOf t kind → s ≡ t
one_shape s t kind is as_well = sym (shape_told s kind is) ∙ shape_told t kind as_well

-- a word that may bear a mark has none
pub markable_lacks : (s : Shape) (word : List ℕ) → IsMarkable s word → Lacks 64 word
markable_lacks Reported word (inl is) = subst (Lacks 64) (sym is) (refl, (refl, (refl, (refl, (refl, tt)))))
markable_lacks Reported word (inr is) = subst (Lacks 64) (sym is) (refl, (refl, (refl, (refl, (refl, (refl, (refl, tt)))))))
markable_lacks Handing word (inl is) = subst (Lacks 64) (sym is) (refl, (refl, (refl, (refl, (refl, (refl, tt))))))
markable_lacks Handing word (inr is) = subst (Lacks 64) (sym is) (refl, (refl, (refl, (refl, (refl, (refl, tt))))))
markable_lacks Forking word is = subst (Lacks 64) (sym is) (refl, (refl, (refl, (refl, tt))))
markable_lacks Bare word is = absurd is
markable_lacks Named word is = absurd is
markable_lacks Failed word is = absurd is
markable_lacks Settling word is = absurd is

-- ---- what is found word by word

pub no_unmarked : (word : List ℕ) → word ≢ codes "GARBAGE" → word ≢ codes "BYE" → word ≢ codes "BEGIN" → word ≢ codes "STATE" → word ≢ codes "LINE" → word ≢ codes "SETTLE"
    → (s : Shape) → ¬ IsUnmarked s word
no_unmarked word a b c d e f Bare (inl is) = a is
no_unmarked word a b c d e f Bare (inr is) = b is
no_unmarked word a b c d e f Named (inl is) = c is
no_unmarked word a b c d e f Named (inr is) = d is
no_unmarked word a b c d e f Failed is = e is
no_unmarked word a b c d e f Settling is = f is
no_unmarked word a b c d e f Reported is = is
no_unmarked word a b c d e f Handing is = is
no_unmarked word a b c d e f Forking is = is

pub no_markable : (word : List ℕ) → word ≢ codes "CHECK" → word ≢ codes "PRESENT" → word ≢ codes "RETIRE" → word ≢ codes "ABSORB" → word ≢ codes "FORK" → (s : Shape) → ¬ IsMarkable s word
no_markable word a b c d e Reported (inl is) = a is
no_markable word a b c d e Reported (inr is) = b is
no_markable word a b c d e Handing (inl is) = c is
no_markable word a b c d e Handing (inr is) = d is
no_markable word a b c d e Forking is = e is
no_markable word a b c d e Bare is = is
no_markable word a b c d e Named is = is
no_markable word a b c d e Failed is = is
no_markable word a b c d e Settling is = is

pub no_shape : (kind : List ℕ) → ((s : Shape) → ¬ IsUnmarked s kind) → ((s : Shape) → ¬ IsMarkedKind s kind) → (s : Shape) → ¬ IsKindOf s kind
no_shape kind none others s (inl is) = none s is
no_shape kind none others s (inr is) = others s is
