-- The characters of a name, one by one.
use Rattle.std.proofs.Common.{◌≡◌, ℕ, ◌+◌, ◌-◌, ◌<◌, ◌≤◌, true, false, List, [], ◌∷◌, ◌++◌, length, get_or, drop, refl, sym, ap, subst, ◌∙◌, arith, codes, append_assoc, append-nil, length-append}
use Rattle.std.specs.Prelude.{nat_le}
use Rattle.std.proofs.lemmas.Bool.{le-leb, lt-leb}
use Rattle.std.proofs.lemmas.List.{at_drop_more, at_drop_all}
use Rattle.recline.specs.Escaped.{escaped, most_shown, shown_in}

fits_first : (room c : ℕ) (cs : List ℕ) → length (escaped c) ≤ room → shown_in room (c ∷ cs) ≡ escaped c ++ shown_in (room - length (escaped c)) cs
unfolding shown_in
fits_first room c cs fits = let t : nat_le (length (escaped c)) room ≡ true = le-leb (length (escaped c)) room fits in rw t refl

ends_first : (room c : ℕ) (cs : List ℕ) → room < length (escaped c) → shown_in room (c ∷ cs) ≡ codes ".."
unfolding shown_in
ends_first room c cs more = let t : nat_le (length (escaped c)) room ≡ false = lt-leb (length (escaped c)) room more in rw t refl

none_left : (room : ℕ) → shown_in room [] ≡ []
unfolding shown_in
none_left room = refl

-- the rest begins with this character
first_left : (room n c : ℕ) (cs : List ℕ) → (n < length cs) × (c ≡ get_or cs n c) → shown_in room (drop n cs) ≡ shown_in room (c ∷ drop (n + 1) cs)
first_left room n c cs h = at_drop_more (shown_in room) cs n c h.0 ∙ ap (λ (x : ℕ). shown_in room (x ∷ drop (n + 1) cs)) (sym h.1)

-- this text, and behind it what stands for the rest, is the whole
abbrev pub IsSoFar : List ℕ → ℕ → List ℕ → Type 0
IsSoFar text n cs = (length text ≤ most_shown) × (text ++ shown_in (most_shown - length text) (drop n cs) ≡ shown_in most_shown cs)

pub ended_at : (text : List ℕ) (n c long : ℕ) (cs : List ℕ) → IsSoFar text n cs → (n < length cs) × (c ≡ get_or cs n c) → long ≡ length (escaped c) → most_shown - length text < long → text ++ codes ".." ≡ shown_in most_shown cs
ended_at text n c long cs so h is over =
    let more : most_shown - length text < length (escaped c) = subst (λ (l : ℕ). most_shown - length text < l) is over in
    let room : ℕ = most_shown - length text in
    ap (λ (l : List ℕ). text ++ l) (sym (ends_first room c (drop (n + 1) cs) more) ∙ sym (first_left room n c cs h)) ∙ so.1

pub one_more : (text : List ℕ) (n c long : ℕ) (cs : List ℕ) → IsSoFar text n cs → (n < length cs) × (c ≡ get_or cs n c) → long ≡ length (escaped c) → long ≤ most_shown - length text → IsSoFar (text ++ escaped c) (n + 1) cs
one_more text n c long cs so h is within =
    let fits : length (escaped c) ≤ most_shown - length text = subst (λ (l : ℕ). l ≤ most_shown - length text) is within in
    let room : ℕ = most_shown - length text in
    let more : List ℕ = escaped c in
    let long : length (text ++ more) ≡ length text + length more = length-append text more in
    let left : most_shown - length (text ++ more) ≡ room - length more = omega (arith, long) in (
      omega (arith, long, fits, so.0),
      ap (λ (k : ℕ). (text ++ more) ++ shown_in k (drop (n + 1) cs)) left ∙ append_assoc text more (shown_in (room - length more) (drop (n + 1) cs))
          ∙ ap (λ (l : List ℕ). text ++ l) (sym (fits_first room c (drop (n + 1) cs) fits) ∙ sym (first_left room n c cs h)) ∙ so.1,
    )

pub all_shown : (text : List ℕ) (n : ℕ) (cs : List ℕ) → IsSoFar text n cs → n ≡ length cs → text ≡ shown_in most_shown cs
all_shown text n cs so all =
    let none : shown_in (most_shown - length text) (drop n cs) ≡ [] = at_drop_all (shown_in (most_shown - length text)) cs n (omega (arith, all)) ∙ none_left (most_shown - length text) in
    sym (append-nil text) ∙ ap (λ (l : List ℕ). text ++ l) (sym none) ∙ so.1
