-- The first word of a report's line, with the mark of its epoch.
use Rattle.std.proofs.Common.{◌≡◌, ◌≢◌, ℕ, zero, suc, ◌<◌, ◌^◌, true, false, eqb, List, [], ◌∷◌, ◌++◌, refl, sym, ap, subst, ◌∙◌, arith}
use Rattle.std.specs.Fmt.{decimal}
use Rattle.std.proofs.lemmas.Bool.{eq-eqb, true≢false}
use Rattle.std.proofs.lemmas.Fmt.{decimal_injective}
use Rattle.std.proofs.lemmas.List.{append-nil}
use Rattle.report_line.specs.Cuts.{Lacks}
use Rattle.report_line.specs.Reading.{IsMarkedWord}
use Rattle.report_line.specs.Spelling.{IsCount, mark_text}
use Rattle.report_line.proofs.Cutting.{cut_same, Lacks-uncut}
use Rattle.report_line.proofs.Numerals.{Lacks-decimal}

pub Lacks-append : (c : ℕ) (v w : List ℕ) → Lacks c v → Lacks c w → Lacks c (v ++ w)
Lacks-append c [] w g h = h
Lacks-append c (b ∷ bs) w g h = (g.0, Lacks-append c bs w g.1 h)

pub plain_mark : (epoch : ℕ) → epoch < 2 ^ 32 → Lacks 32 (mark_text epoch)
plain_mark zero lt = tt
plain_mark (suc k) lt = (refl, Lacks-decimal 32 (suc k) refl lt)

-- the mark of an epoch above 0
mark_of : (epoch : ℕ) → IsCount epoch → mark_text epoch ≡ 64 ∷ decimal epoch
mark_of zero is = absurd (omega (arith, is.0))
mark_of (suc k) is = refl

-- ---- one word and one epoch

first_mark : (b : ℕ) (x y : List ℕ) → 64 ∷ x ≡ b ∷ y → eqb b 64 ≡ false → ⊥
first_mark b x y e f = let same : b ≡ 64 = cc in let t : eqb b 64 ≡ true = eq-eqb b 64 same in true≢false (sym t ∙ f)

one_mark : (k l : ℕ) → k < 2 ^ 32 → l < 2 ^ 32 → mark_text k ≡ mark_text l → k ≡ l
one_mark zero zero f g e = refl
one_mark zero (suc l) f g e = absurd cc
one_mark (suc k) zero f g e = absurd cc
one_mark (suc k) (suc l) f g e = let same : decimal (suc k) ≡ decimal (suc l) = cc in decimal_injective (suc k) (suc l) (omega (arith, f)) (omega (arith, g)) same

pub one_word_and_epoch : (v w : List ℕ) (k l : ℕ) → Lacks 64 v → Lacks 64 w → k < 2 ^ 32 → l < 2 ^ 32 → v ++ mark_text k ≡ w ++ mark_text l → (v ≡ w) × (k ≡ l)
one_word_and_epoch [] [] k l g h f i e = (refl, one_mark k l f i e)
one_word_and_epoch [] (b ∷ bs) zero l g h f i e = absurd cc
one_word_and_epoch [] (b ∷ bs) (suc k) l g h f i e = absurd (first_mark b (decimal (suc k)) (bs ++ mark_text l) e h.0)
one_word_and_epoch (b ∷ bs) [] k zero g h f i e = absurd cc
one_word_and_epoch (b ∷ bs) [] k (suc l) g h f i e = absurd (first_mark b (decimal (suc l)) (bs ++ mark_text k) (sym e) g.0)
one_word_and_epoch (b ∷ bs) (d ∷ ds) k l g h f i e =
    let first : b ≡ d = cc in
    let rest : bs ++ mark_text k ≡ ds ++ mark_text l = cc in
    let both = one_word_and_epoch bs ds k l g.1 h.1 f i rest in
    (let r : bs ≡ ds = both.0 in cc, both.1)

-- ---- what is cut off

pub no_mark : (kind : List ℕ) → Lacks 64 kind → IsMarkedWord kind kind 0
no_mark kind lacks = (lacks, omega arith, sym (append-nil kind))

pub some_mark : (kind word digits : List ℕ) (epoch : ℕ) → Lacks 64 word → kind ≡ word ++ 64 ∷ digits → IsCount epoch → digits ≡ decimal epoch → IsMarkedWord kind word epoch
some_mark kind word digits epoch lacks e is f = (lacks, is.1, e ∙ ap (λ (ds : List ℕ). word ++ 64 ∷ ds) f ∙ ap (λ (m : List ℕ). word ++ m) (sym (mark_of epoch is)))

pub wrong_mark : (kind word digits : List ℕ) → Lacks 64 word → kind ≡ word ++ 64 ∷ digits → ((n : ℕ) → IsCount n → digits ≢ decimal n) → (v : List ℕ) (k : ℕ) → ¬ IsMarkedWord kind v k
wrong_mark kind word digits lacks e none v zero is =
    let whole : v ≡ word ++ 64 ∷ digits = sym (append-nil v) ∙ sym is.2 ∙ e in
    let bare : Lacks 64 (word ++ 64 ∷ digits) = subst (λ (x : List ℕ). Lacks 64 x) whole is.0 in
    Lacks-uncut 64 word digits bare
wrong_mark kind word digits lacks e none v (suc k) is = none (suc k) (omega arith, is.1) (cut_same 64 word v digits (decimal (suc k)) lacks is.0 (sym e ∙ is.2)).1
