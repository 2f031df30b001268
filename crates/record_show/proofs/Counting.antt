-- Texts of things that are counted, one by one.
use Rattle.std.proofs.Common.{◌≡◌, ℕ, ◌+◌, ◌<◌, List, [], ◌∷◌, ◌++◌, length, get_or, take, sym, ap, ◌∙◌, arith, append_assoc, append-nil}
use Rattle.std.specs.Prelude.{Vec}
use Rattle.std.specs.declared.alloc.Global.{Global}
use Rattle.std.proofs.Math.Seq.{take-length}
use Rattle.std.proofs.lemmas.List.{take_more, length-take-le, get_or-map, length-map}
use Rattle.record_file.specs.File.{Said}
use Rattle.record_file.specs.Kept.{said_in}
use Rattle.record_show.specs.Numbered.{numbered}

numbered_push : {X : Type 0} (text : ℕ → X → List ℕ) (n : ℕ) (xs : List X) (x : X) → numbered text n (xs ++ x ∷ []) ≡ numbered text n xs ++ text (n + length xs) x
numbered_push text n [] x = append-nil (text n x) ∙ ap (λ (m : ℕ). text m x) (omega arith)
numbered_push text n (y ∷ ys) x =
    ap (λ (l : List ℕ). text n y ++ l) (numbered_push text (n + 1) ys x ∙ ap (λ (m : ℕ). numbered text (n + 1) ys ++ text m x) (omega arith))
    ∙ sym (append_assoc (text n y) (numbered text (n + 1) ys) (text (n + length (y ∷ ys)) x))

pub one_more : {X : Type 0} (text : ℕ → X → List ℕ) (xs : List X) (i : ℕ) (x : X) (before out new : List ℕ) → i < length xs → x ≡ get_or xs i x → out ≡ before ++ numbered text 0 (take i xs) → new ≡ out ++ text i x
    → new ≡ before ++ numbered text 0 (take (i + 1) xs)
one_more {X = X} text xs i x before out new lt is e f =
    let count : length (take i xs) ≡ i = length-take-le i xs (omega (arith, lt)) in
    let more : take (i + 1) xs ≡ take i xs ++ x ∷ [] = take_more xs i x lt ∙ ap (λ (y : X). take i xs ++ y ∷ []) (sym is) in
    let text_is : numbered text 0 (take (i + 1) xs) ≡ numbered text 0 (take i xs) ++ text i x =
    ap (λ (ys : List X). numbered text 0 ys) more ∙ numbered_push text 0 (take i xs) x ∙ ap (λ (m : ℕ). numbered text 0 (take i xs) ++ text m x) (omega (arith, count)) in
    f ∙ ap (λ (l : List ℕ). l ++ text i x) e ∙ append_assoc before (numbered text 0 (take i xs)) (text i x) ∙ ap (λ (l : List ℕ). before ++ l) (sym text_is)

-- all of them
pub all_taken : {X : Type 0} (text : ℕ → X → List ℕ) (xs : List X) (i : ℕ) (before out : List ℕ) → i ≡ length xs → out ≡ before ++ numbered text 0 (take i xs) → out ≡ before ++ numbered text 0 xs
all_taken {X = X} text xs i before out all e = e ∙ ap (λ (ys : List X). before ++ numbered text 0 ys) (ap (λ (n : ℕ). take n xs) all ∙ take-length xs)

-- ---- the same of what records say

abbrev said_by : (ℕ × Vec ℕ Global) → Said
said_by r = (r.0, r.1.items)

count_said : (rs : List (ℕ × Vec ℕ Global)) → length (said_in rs) ≡ length rs
count_said rs = length-map rs said_by

pub one_more_said : (text : ℕ → Said → List ℕ) (rs : List (ℕ × Vec ℕ Global)) (i : ℕ) (r : ℕ × Vec ℕ Global) (before out new : List ℕ) → i < length rs → r ≡ get_or rs i r → out ≡ before ++ numbered text 0 (take i (said_in rs)) → new ≡ out ++ text i (said_by r)
    → new ≡ before ++ numbered text 0 (take (i + 1) (said_in rs))
one_more_said text rs i r before out new lt is e f =
    let at : get_or (said_in rs) i (said_by r) ≡ said_by r = get_or-map said_by rs i r (said_by r) lt ∙ ap said_by (sym is) in
    one_more text (said_in rs) i (said_by r) before out new (omega (arith, lt, count_said rs)) (sym at) e f

pub all_said : (text : ℕ → Said → List ℕ) (rs : List (ℕ × Vec ℕ Global)) (i : ℕ) (before out : List ℕ) → i ≡ length rs → out ≡ before ++ numbered text 0 (take i (said_in rs)) → out ≡ before ++ numbered text 0 (said_in rs)
all_said text rs i before out all e = all_taken text (said_in rs) i before out (all ∙ sym (count_said rs)) e
