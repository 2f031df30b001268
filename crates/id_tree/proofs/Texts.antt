-- The bytes of a text, and that each tree has one.
use Rattle.std.proofs.Common.{◌≡◌, ℕ, Bool, List, [], ◌∷◌, ◌++◌, IsTrue, refl, sym, ◌∙◌, arith, append_assoc, append-nil}
use Rattle.std.specs.List.{list_all}
use Rattle.std.proofs.lemmas.Bool.{and_parts}
use Rattle.id_tree.specs.IdTree.{IdTree, Zero, One, Pair}
use Rattle.id_tree.specs.Spelling.{spelling, is_tree_byte}

pub list_all-append_true : (p : ℕ → Bool) (xs ys : List ℕ) → IsTrue (list_all p xs) → IsTrue (list_all p ys) → IsTrue (list_all p (xs ++ ys))
list_all-append_true p [] ys h k = k
list_all-append_true p (x ∷ xs) ys h k = let both = and_parts (p x) (list_all p xs) h in rw both.0 (list_all-append_true p xs ys both.1 k)

pub plain : (i : IdTree) → IsTrue (list_all is_tree_byte (spelling i))
plain Zero = refl
plain One = refl
plain (Pair l r) = list_all-append_true is_tree_byte (spelling l) (44 ∷ (spelling r ++ 41 ∷ [])) (plain l) (list_all-append_true is_tree_byte (spelling r) (41 ∷ []) (plain r) refl)

pub cons_first : (x y : ℕ) (xs ys : List ℕ) → x ∷ xs ≡ y ∷ ys → x ≡ y
cons_first x y xs ys e = cc

pub cons_rest : (x y : ℕ) (xs ys : List ℕ) → x ∷ xs ≡ y ∷ ys → xs ≡ ys
cons_rest x y xs ys e = cc

-- no spelling begins another
pub spelling_front : (a b : IdTree) (x y : List ℕ) → spelling a ++ x ≡ spelling b ++ y → (a ≡ b) × (x ≡ y)
spelling_front Zero Zero x y e = (refl, cons_rest 48 48 x y e)
spelling_front Zero One x y e = absurd (let h : 48 ≡ 49 = cons_first 48 49 x y e in omega arith)
spelling_front Zero (Pair c d) x y e = absurd (let h : 48 ≡ 40 = cons_first 48 40 _ _ e in omega arith)
spelling_front One Zero x y e = absurd (let h : 49 ≡ 48 = cons_first 49 48 x y e in omega arith)
spelling_front One One x y e = (refl, cons_rest 49 49 x y e)
spelling_front One (Pair c d) x y e = absurd (let h : 49 ≡ 40 = cons_first 49 40 _ _ e in omega arith)
spelling_front (Pair a b) Zero x y e = absurd (let h : 40 ≡ 48 = cons_first 40 48 _ _ e in omega arith)
spelling_front (Pair a b) One x y e = absurd (let h : 40 ≡ 49 = cons_first 40 49 _ _ e in omega arith)
spelling_front (Pair a b) (Pair c d) x y e =
    let regrouped : spelling a ++ 44 ∷ (spelling b ++ 41 ∷ x) ≡ spelling c ++ 44 ∷ (spelling d ++ 41 ∷ y) =
    simp append_assoc at (cons_rest 40 40 ((spelling a ++ 44 ∷ (spelling b ++ 41 ∷ [])) ++ x) ((spelling c ++ 44 ∷ (spelling d ++ 41 ∷ [])) ++ y) e) in
    let left : (a ≡ c) × (44 ∷ (spelling b ++ 41 ∷ x) ≡ 44 ∷ (spelling d ++ 41 ∷ y)) = spelling_front a c (44 ∷ (spelling b ++ 41 ∷ x)) (44 ∷ (spelling d ++ 41 ∷ y)) regrouped in
    let right : (b ≡ d) × (41 ∷ x ≡ 41 ∷ y) = spelling_front b d (41 ∷ x) (41 ∷ y) (cons_rest 44 44 (spelling b ++ 41 ∷ x) (spelling d ++ 41 ∷ y) left.1) in
    (let h : a ≡ c = left.0 in let k : b ≡ d = right.0 in cc, cons_rest 41 41 x y right.1)

pub one_spelling : (a b : IdTree) → spelling a ≡ spelling b → a ≡ b
one_spelling a b e = (spelling_front a b [] [] (append-nil (spelling a) ∙ e ∙ sym (append-nil (spelling b)))).0
