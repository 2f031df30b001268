-- A number that is read is spelled in decimal, and what is spelled so is read.
use Rattle.std.proofs.Common.{◌≡◌, ◌≢◌, ℕ, ◌+◌, ◌-◌, ◌*◌, ◌/◌, ◌%◌, ◌^◌, ◌<◌, ◌≤◌, Bool, true, false, cond, eqb, ltb, List, [], ◌∷◌, ◌++◌, length, get_or, Option, Some, None, refl, sym, ap, ◌∙◌, arith, rules, inl, inr}
use Rattle.std.specs.Prelude.{◌&&◌, MatchOption}
use Rattle.std.specs.Char.{is_ascii_digit}
use Rattle.std.specs.Str.{all_ascii_digits}
use Rattle.std.specs.List.{list_all}
use Rattle.std.specs.Fmt.{decimal}
use Rattle.std.proofs.lemmas.Bool.{lt-ltb, ltb-true, ltb-false, eqb-true, eq-eqb, cases_eq}
use Rattle.std.proofs.lemmas.Str.Parse.{IsNumeralModel, numerals_by_fold, tells_all_ascii_digits}
use Rattle.std.proofs.lemmas.Fmt.{decimal_digit, decimal_by_steps, decimal_nonempty, first_decimal, decimal-digits_value, digits_decimal}
use Rattle.std.proofs.lemmas.Bool.Decides.{nat_tests}
use Rattle.report_line.specs.working.Numbers.{digits_from, number}
use Rattle.report_line.specs.Cuts.{Lacks}
use Rattle.report_line.specs.Spelling.{IsCount}
use Rattle.report_line.proofs.Cutting.{and_both, not_true, Lacks-passing}

infixl 10 ◌>>=◌
abbrev ◌>>=◌ : {A B : Type 0} → Option A → (A → Option B) → Option B
(Some x) >>= f = f x
None >>= f = None

abbrev value_from : ℕ → List ℕ → ℕ
value_from n [] = n
value_from n (b ∷ bs) = value_from (n * 10 + (b - 48)) bs

own : IsNumeralModel (λ ds. all_ascii_digits ds ≡ true) (value_from 0)
own = numerals_by_fold _ tells_all_ascii_digits value_from (search rules)

-- ---- what is read

given : (b : Bool) (x : Option ℕ) (m : ℕ) → cond b x None ≡ Some m → (b ≡ true) × (x ≡ Some m)
given true x m e = (refl, e)
given false x m e = absurd cc

refused : (b : Bool) (x : Option ℕ) (m : ℕ) → cond b None x ≡ Some m → (b ≡ false) × (x ≡ Some m)
refused true x m e = absurd cc
refused false x m e = (refl, e)

some_is : (n m : ℕ) → Some n ≡ Some m → n ≡ m
some_is n m e = cc

digits_say : (n : ℕ) (ds : List ℕ) (m : ℕ) → n < 2 ^ 32 → digits_from n ds ≡ Some m → (all_ascii_digits ds ≡ true) × (value_from n ds ≡ m) × (m < 2 ^ 32)
unfolding digits_from
digits_say n [] m lt e = let is : n ≡ m = some_is n m e in (refl, is, omega arith)
digits_say n (b ∷ bs) m lt e =
    let g = given (is_ascii_digit b && ltb (n * 10 + (b - 48)) (2 ^ 32)) (digits_from (n * 10 + (b - 48)) bs) m e in
    let both = and_both (is_ascii_digit b) (ltb (n * 10 + (b - 48)) (2 ^ 32)) g.0 in
    let rest = digits_say (n * 10 + (b - 48)) bs m (ltb-true _ _ both.1) g.1 in
    (rw (both.0) rest.0, rest.1, rest.2)

first_zero : (b k : ℕ) → (eqb b 48 && ltb 0 k) ≡ false → b ≡ 48 → k ≤ 0
first_zero b k e is = let t : eqb b 48 ≡ true = eq-eqb b 48 is in let f : ltb 0 k ≡ false = (rw t at e) in ltb-false 0 k f

pub number_takes : (ds : List ℕ) (n : ℕ) → number ds ≡ Some n → (ds ≡ decimal n) × (n < 2 ^ 32)
unfolding number
number_takes [] n e = absurd cc
number_takes (b ∷ bs) n e =
    let g = refused (eqb b 48 && ltb 0 (length bs)) (digits_from 0 (b ∷ bs)) n e in
    let said = digits_say 0 (b ∷ bs) n (omega arith) g.1 in
    let single : b ≡ 48 → length (b ∷ bs) ≡ 1 = λ zero_first. omega (arith, first_zero b (length bs) g.0 zero_first) in
    let again : decimal (value_from 0 (b ∷ bs)) ≡ b ∷ bs = decimal-digits_value own (b ∷ bs) said.0 (omega arith) single (omega (arith, said.1, said.2)) in
    (sym again ∙ ap decimal said.1, said.2)

-- ---- what is spelled

bind-cond : (b : Bool) (x : Option ℕ) (f : ℕ → Option ℕ) → (cond b x None >>= f) ≡ cond b (x >>= f) None
bind-cond true x f = refl
bind-cond false x f = refl

digits_from-append : (n : ℕ) (ds es : List ℕ) → digits_from n (ds ++ es) ≡ (digits_from n ds >>= λ m. digits_from m es)
unfolding digits_from
digits_from-append n [] es = refl
digits_from-append n (b ∷ bs) es =
    ap (λ (x : Option ℕ). cond (is_ascii_digit b && ltb (n * 10 + (b - 48)) (2 ^ 32)) x None) (digits_from-append (n * 10 + (b - 48)) bs es)
    ∙ sym (bind-cond (is_ascii_digit b && ltb (n * 10 + (b - 48)) (2 ^ 32)) (digits_from (n * 10 + (b - 48)) bs) (λ m. digits_from m es))

one_digit : (n d : ℕ) → d < 10 → n * 10 + d < 2 ^ 32 → digits_from n ((48 + d) ∷ []) ≡ Some (n * 10 + d)
unfolding digits_from
one_digit n d lt small =
    let digit : is_ascii_digit (48 + d) ≡ true = grind (arith, nat_tests) in
    let back : n * 10 + (48 + d - 48) ≡ n * 10 + d = omega arith in
    let fits : ltb (n * 10 + d) (2 ^ 32) ≡ true = lt-ltb _ _ small in
    rw (digit, back, fits) refl

digits_again : (n : ℕ) → n < 2 ^ 64 → n < 2 ^ 32 → digits_from 0 (decimal n) ≡ Some n
digits_again n lt = decimal_by_steps (λ m ds. m < 2 ^ 32 → digits_from 0 ds ≡ Some m)
    (λ m d small. one_digit 0 m d (omega arith) ∙ ap (λ (k : ℕ). Some k) (omega arith))
    (λ m ds large h small.
    let e : m / 10 * 10 + m % 10 ≡ m = omega arith in
    digits_from-append 0 ds ((48 + m % 10) ∷ []) ∙ rw (h (omega arith)) (one_digit (m / 10) (m % 10) (omega arith) (omega arith) ∙ ap (λ (k : ℕ). Some k) e))
    n lt

number_is : (ds : List ℕ) → 0 < length ds → (get_or ds 0 0 ≡ 48 → length ds ≤ 1) → number ds ≡ digits_from 0 ds
unfolding number
number_is [] some single = absurd (omega arith)
number_is (b ∷ bs) some single =
    let no : (eqb b 48 && ltb 0 (length bs)) ≡ false = not_true _ (λ e. let both = and_both (eqb b 48) (ltb 0 (length bs)) e in let is : b ≡ 48 = eqb-true _ _ both.0 in let more : 0 < length bs = ltb-true _ _ both.1 in let few : length (b ∷ bs) ≤ 1 = single is in omega arith) in
    rw no refl

pub number_again : (n : ℕ) → n < 2 ^ 32 → number (decimal n) ≡ Some n
number_again n lt =
    number_is (decimal n) (decimal_nonempty n (omega arith))
    (elim (cases_eq n 0) [
      | inl is ↦ λ _. rw is (let zero_is = decimal_digit 0 (omega arith) in omega (arith, ap length zero_is))
      | inr other ↦ λ is. absurd (let first : 48 < get_or (decimal n) 0 0 = first_decimal n (omega arith) (omega arith) in omega arith)
    ])
    ∙ digits_again n (omega arith) lt

-- ---- no other byte is in a number

all_digits_are : (ds : List ℕ) → all_ascii_digits ds ≡ list_all is_ascii_digit ds
all_digits_are [] = refl
all_digits_are (b ∷ bs) = ap (λ (t : Bool). is_ascii_digit b && t) (all_digits_are bs)

pub Lacks-decimal : (c n : ℕ) → is_ascii_digit c ≡ false → n < 2 ^ 32 → Lacks c (decimal n)
Lacks-decimal c n fails lt = Lacks-passing is_ascii_digit c (decimal n) fails (sym (all_digits_are (decimal n)) ∙ digits_decimal own n (omega arith))

-- ---- what no number from 1 to 2 ^ 32 - 1 spells

pub no_number : (word : List ℕ) → number word ≡ None → (n : ℕ) → IsCount n → word ≢ decimal n
no_number word e n is same = absurd (let f : number word ≡ Some n = ap number same ∙ number_again n is.1 in cc)

pub no_count : (word : List ℕ) → number word ≡ Some 0 → (n : ℕ) → IsCount n → word ≢ decimal n
no_count word e n is same = absurd (let f : number word ≡ Some n = ap number same ∙ number_again n is.1 in let zero_is : n ≡ 0 = cc in omega (arith, is.0))

pub count_is : (word : List ℕ) (n : ℕ) → number word ≡ Some n → n ≢ 0 → IsCount n × (word ≡ decimal n)
count_is word n e other =
    let t = number_takes word n e in
    ((elim (cases_eq n 0) [ inl is ↦ absurd (other is) | inr is ↦ omega arith ], t.1), t.0)

-- ---- what a number below 2 ^ 32 spells

pub number_told : (r : Option ℕ) (word : List ℕ) → r ≡ number word → MatchOption r ((n : ℕ) → n < 2 ^ 32 → word ≢ decimal n) (λ n. (n < 2 ^ 32) × (word ≡ decimal n))
number_told None word e = λ n small is. absurd (let f : None ≡ Some n = e ∙ ap number is ∙ number_again n small in cc)
number_told (Some n) word e = let t = number_takes word n (sym e) in (t.1, t.0)
