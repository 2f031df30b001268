-- What stays of lists from which elements are taken away, where what is wanted lies on one side of a place.
use Rattle.std.proofs.Common.{◌≡◌, ℕ, zero, suc, Bool, true, false, cond, List, [], ◌∷◌, ◌++◌, Option, Some, None, length, refl, sym, ◌∙◌, ap, inl, inr, arith}
use Rattle.std.specs.Prelude.{Contains, slice_get, filter}
use Rattle.std.specs.List.{filter_map, cons_option}
use Rattle.std.specs.Option.{is_some}
use Rattle.std.proofs.lemmas.Bool.{cases_Bool, cond-true, cond-false, true≢false}
use Rattle.std.proofs.lemmas.Option.{same_Some}
use Rattle.chains.specs.Processes.{first_of, last_passing}
use Rattle.chains.proofs.Keeps.{passes}
use Rattle.law_lines.proofs.Listed.{first_in, later_in, in_filter, last_in, made_in}

-- where the element of this number that passes stands
pub record StandsAt {X : Type 0} (f : X → Bool) (xs : List X) (k : ℕ) (x : X) : Type 0 where
  pub before : List X
  pub after : List X
  pub parts : xs ≡ before ++ x ∷ after
  pub count : length (filter f before) ≡ k
  pub passing : f x ≡ true

stands_next : {X : Type 0} (f : X → Bool) (y : X) (ys : List X) (x : X) → f y ≡ true → ((k : ℕ) → slice_get (filter f ys) k ≡ Some x → StandsAt f ys k x)
    → (k : ℕ) → slice_get (y ∷ filter f ys) k ≡ Some x → StandsAt f (y ∷ ys) k x
stands_next f y ys x passes_it later zero here =
    let same : y ≡ x = same_Some y x here in
    record { before = []; after = ys; parts = ap (λ z. z ∷ ys) same; count = refl; passing = ap f (sym same) ∙ passes_it }
stands_next f y ys x passes_it later (suc k) there =
    let rest = later k there in
    let count : length (filter f rest.before) ≡ k = rest.count in
    let here : length (filter f (y ∷ rest.before)) ≡ suc (length (filter f rest.before)) = ap (λ l. length l) (cond-true (f y) (y ∷ filter f rest.before) (filter f rest.before) passes_it) in
    record { before = y ∷ rest.before; after = rest.after; parts = ap (λ l. y ∷ l) rest.parts; count = omega arith; passing = rest.passing }

pub stands_at : {X : Type 0} (f : X → Bool) (xs : List X) (k : ℕ) (x : X) → slice_get (filter f xs) k ≡ Some x → StandsAt f xs k x
stands_at f [] k x is = absurd (cc)
stands_at f (y ∷ ys) k x is =
    elim (cases_Bool (f y)) [
      | inl passes_it ↦
          stands_next f y ys x passes_it (λ j there. stands_at f ys j x there) k (sym (ap (λ l. slice_get l k) (cond-true (f y) (y ∷ filter f ys) (filter f ys) passes_it)) ∙ is)
      | inr fails ↦
          (let rest = stands_at f ys k x (sym (ap (λ l. slice_get l k) (cond-false (f y) (y ∷ filter f ys) (filter f ys) fails)) ∙ is) in
          record {
            before = y ∷ rest.before;
            after = rest.after;
            parts = ap (λ l. y ∷ l) rest.parts;
            count = ap (λ l. length l) (cond-false (f y) (y ∷ filter f rest.before) (filter f rest.before) fails) ∙ rest.count;
            passing = rest.passing;
          })
    ]

cons_length : {X Y : Type 0} (x : X) (xs : List X) (ys : List Y) (o : Option Y) → length xs ≡ length ys → length (cond (is_some o) (x ∷ xs) xs) ≡ length (cons_option o ys)
cons_length x xs ys None same = same
cons_length x xs ys (Some y) same = omega (arith, same)

pub as_many : {X Y : Type 0} (f : X → Option Y) (xs : List X) → length (filter (λ x. is_some (f x)) xs) ≡ length (filter_map f xs)
as_many f [] = refl
as_many f (x ∷ xs) = cons_length x (filter (λ y. is_some (f y)) xs) (filter_map f xs) (f x) (as_many f xs)

none_if : {Y : Type 0} (o : Option Y) → ((y : Y) → o ≡ Some y → ⊥) → o ≡ None
none_if None never = refl
none_if (Some y) never = absurd (never y refl)

-- what makes something is kept: what it makes stays
pub all_made_kept : {X Y : Type 0} (f : X → Option Y) (keep : X → Bool) (xs : List X) → ((x : X) (y : Y) → Contains xs x → f x ≡ Some y → keep x ≡ true)
    → filter_map f (filter keep xs) ≡ filter_map f xs
all_made_kept f keep [] all = refl
all_made_kept f keep (x ∷ xs) all =
    let rest = all_made_kept f keep xs (λ z y at. all z y (later_in x z xs at)) in
    elim (cases_Bool (keep x)) [
      | inl stays ↦ ap (filter_map f) (cond-true (keep x) (x ∷ filter keep xs) (filter keep xs) stays) ∙ ap (λ l. cons_option (f x) l) rest
      | inr goes ↦
          (let none : f x ≡ None = none_if (f x) (λ y is. true≢false (sym (all x y (first_in x xs) is) ∙ goes)) in
          ap (filter_map f) (cond-false (keep x) (x ∷ filter keep xs) (filter keep xs) goes) ∙ (rest ∙ sym (ap (λ o. cons_option o (filter_map f xs)) none)))
    ]

-- nothing that makes something is kept
pub none_made_kept : {X Y : Type 0} (f : X → Option Y) (keep : X → Bool) (xs : List X) → ((x : X) (y : Y) → Contains xs x → f x ≡ Some y → keep x ≡ false)
    → filter_map f (filter keep xs) ≡ []
none_made_kept {Y = Y} f keep xs none = by (filter_map f (filter keep xs)) refl
  where
    by : (l : List Y) → filter_map f (filter keep xs) ≡ l → filter_map f (filter keep xs) ≡ []
    by [] is = is
    by (y ∷ ys) is =
        let made = made_in f (filter keep xs) 0 y (ap (λ l. slice_get l 0) is) in
        let there = in_filter keep xs made.0 made.1 in
        absurd (true≢false (sym there.1 ∙ none made.0 y there.0 made.2))

-- nothing that passes is kept
pub none_passing_kept : {X : Type 0} (test keep : X → Bool) (xs : List X) → ((x : X) → Contains xs x → test x ≡ true → keep x ≡ false) → last_passing test (filter keep xs) ≡ None
none_passing_kept {X = X} test keep xs none = by (last_passing test (filter keep xs)) refl
  where
    by : (o : Option X) → last_passing test (filter keep xs) ≡ o → last_passing test (filter keep xs) ≡ None
    by None is = is
    by (Some x) is =
        let there = in_filter keep xs x (last_in test (filter keep xs) x is) in
        absurd (true≢false (sym there.1 ∙ none x there.0 (passes test (filter keep xs) x is)))

-- the last that passes, where none behind it does
pub last_middle : {X : Type 0} (test : X → Bool) (xs : List X) (x : X) (ys : List X) → test x ≡ true → last_passing test ys ≡ None → last_passing test (xs ++ x ∷ ys) ≡ Some x
last_middle test [] x ys is none = ap (λ o. first_of o (cond (test x) (Some x) None)) none ∙ cond-true (test x) (Some x) None is
last_middle test (z ∷ zs) x ys is none = ap (λ o. first_of o (cond (test z) (Some z) None)) (last_middle test zs x ys is none)
