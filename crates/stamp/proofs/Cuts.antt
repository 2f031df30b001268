-- Where a text is cut: at its first semicolon.
use Rattle.std.proofs.Common.{◌≡◌, inl, inr, ℕ, suc, ◌+◌, ◌≤◌, ◌==◌, Bool, cond, true, false, List, [], ◌∷◌, ◌++◌, length, take, drop, Some, None, IsTrue, refl, sym, ap, arith}
use Rattle.std.specs.List.{position, position_or_len, before_first}
use Rattle.std.specs.Prelude.{nat_lt}
use Rattle.std.proofs.lemmas.Bool.{and_parts, cases_Bool, both_ways, true≢false, eqb-true, ltb-true, ltb-false}
use Rattle.std.proofs.lemmas.List.Sums.{split_at_first, passes_at_first}
use Rattle.std.specs.List.{list_all}
use Rattle.id_tree.specs.Spelling.{is_tree_byte}
use Rattle.stamp.specs.working.Answers.{IsFree}

abbrev is_semicolon : ℕ → Bool
is_semicolon b = b == 59

-- the first semicolon stands there
pub record IsCut (at : ℕ) (bytes : List ℕ) : Type 0 where
  pub parts : bytes ≡ take at bytes ++ 59 ∷ drop (at + 1) bytes
  pub free : IsFree (take at bytes)

free_behind : (b : ℕ) (bytes : List ℕ) (n : ℕ) → (b == 59) ≡ false → IsFree (take n bytes) → IsFree (take (1 + n) (b ∷ bytes))
free_behind b bytes n e h = let one : 1 + n ≡ suc n = omega arith in rw (one, e) h

free_before : (bytes : List ℕ) → IsFree (before_first is_semicolon bytes)
free_before [] = refl
free_before (b ∷ bytes) = elim (cases_Bool (b == 59)) [ inl e ↦ rw e refl | inr e ↦ rw e (free_behind b bytes (position_or_len is_semicolon bytes) e (free_before bytes)) ]

free_whole : (bytes : List ℕ) → length bytes ≤ position_or_len is_semicolon bytes → IsFree bytes
free_whole [] h = refl
free_whole (b ∷ bytes) h =
    elim (cases_Bool (b == 59)) [
      | inl e ↦ absurd (let none : length (b ∷ bytes) ≤ 0 = rw e at h in omega arith)
      | inr e ↦ let rest : length (b ∷ bytes) ≤ 1 + position_or_len is_semicolon bytes = rw e at h in rw e (free_whole bytes (omega arith))
    ]

found : (b : Bool) (m at : ℕ) → Some at ≡ cond b (Some m) None → (b ≡ true) × (at ≡ m)
found true m at e = (refl, cc)
found false m at e = absurd (cc)

not_found : (b : Bool) (m : ℕ) → None ≡ cond b (Some m) None → b ≡ false
not_found true m e = absurd (cc)
not_found false m e = refl

pub cut_there : (bytes : List ℕ) (at : ℕ) → Some at ≡ position is_semicolon bytes → IsCut at bytes
cut_there bytes at e =
    let h = found (nat_lt (position_or_len is_semicolon bytes) (length bytes)) (position_or_len is_semicolon bytes) at e in
    let within = ltb-true _ _ h.0 in
    let semicolon = eqb-true _ _ (passes_at_first is_semicolon bytes 0 within) in
    rw h.1 (record { parts = rw semicolon at (split_at_first is_semicolon bytes 0 within); free = free_before bytes })

pub cut_nowhere : (bytes : List ℕ) → None ≡ position is_semicolon bytes → IsFree bytes
cut_nowhere bytes e = free_whole bytes (ltb-false _ _ (not_found _ _ e))

-- what has a semicolon is not free of it
pub not_free : (a x : List ℕ) → ¬ IsFree (a ++ 59 ∷ x)
not_free [] x h = true≢false (sym h)
not_free (b ∷ a) x h = not_free a x (and_parts _ _ h).1

cons_first : (x y : ℕ) (xs ys : List ℕ) → x ∷ xs ≡ y ∷ ys → x ≡ y
cons_first x y xs ys e = cc

cons_rest : (x y : ℕ) (xs ys : List ℕ) → x ∷ xs ≡ y ∷ ys → xs ≡ ys
cons_rest x y xs ys e = cc

-- there is one first semicolon
pub one_cut : (a b x y : List ℕ) → IsFree a → IsFree b → a ++ 59 ∷ x ≡ b ++ 59 ∷ y → (a ≡ b) × (x ≡ y)
one_cut [] [] x y g h e = (refl, cons_rest 59 59 x y e)
one_cut [] (c ∷ cs) x y g h e = absurd (let is : 59 ≡ c = cons_first 59 c _ _ e in not_free [] cs (rw (← is) at h))
one_cut (d ∷ ds) [] x y g h e = absurd (let is : d ≡ 59 = cons_first d 59 _ _ e in not_free [] ds (rw is at g))
one_cut (d ∷ ds) (c ∷ cs) x y g h e =
    let one : d ≡ c = cons_first d c _ _ e in
    let rest = one_cut ds cs x y (and_parts _ _ g).1 (and_parts _ _ h).1 (cons_rest d c _ _ e) in
    let two : ds ≡ cs = rest.0 in
    (cc, rest.1)

-- no byte of a tree's text is a semicolon
pub tree_free : (text : List ℕ) → IsTrue (list_all is_tree_byte text) → IsFree text
tree_free [] h = refl
tree_free (b ∷ text) h =
    let both = and_parts (is_tree_byte b) _ h in
    elim (cases_Bool (b == 59)) [
      | inl e ↦ absurd (both_ways (is_tree_byte b) (ap is_tree_byte (eqb-true b 59 e)) both.0)
      | inr e ↦ rw e (tree_free text both.1)
    ]
