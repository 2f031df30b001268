-- Ids that are read from the front of a text.
use Rattle.std.proofs.Common.{◌≡◌, ◌≢◌, ℕ, ◌+◌, ◌==◌, false, List, [], ◌∷◌, ◌++◌, length, true, refl, sym, ap, ◌∙◌, eq-eqb, arith, append_assoc, append-nil}
use Rattle.std.proofs.lemmas.Bool.{both_ways}
use Rattle.id_tree.specs.IdTree.{IdTree, Zero, One, Pair}
use Rattle.id_tree.specs.NormalForm.{IsNormal, are_equal_leaves, depth}
use Rattle.id_tree.specs.Spelling.{spelling}
use Rattle.id_tree.specs.working.Marks.{preorder}
use Rattle.id_tree.specs.Faults.{SpellsUnnormal}
use Rattle.id_tree.specs.working.Taking.{IsFormOf, pair_form, is_normal, IsTaken, IsWhole, BeginsNot, IsLeafPut, IsHalt, IsHaltOfWhole}
use Rattle.id_tree.specs.declared.marks.Mark.{Mark}
use Rattle.id_tree.specs.declared.marks.Mark.TheVariants as marks
use Rattle.id_tree.specs.declared.reading.into_marks.Taken.{Taken}
use Rattle.id_tree.specs.declared.reading.into_marks.Halt.{Halt}
use Rattle.id_tree.specs.declared.reading.into_marks.Halt.TheVariants.{NoTree, NotNormal, Other}
use Rattle.id_tree.specs.declared.reading.into_marks.Form.{Form}
use Rattle.id_tree.specs.declared.reading.into_marks.Form.TheVariants as forms
use Rattle.id_tree.proofs.Texts.{spelling_front, cons_first, cons_rest}
use Rattle.id_tree.proofs.Preorder.{tree_of_preorder, are_of}

-- ---- a pair

pair_apart : (l c d : IdTree) → are_equal_leaves l (Pair c d) ≡ false
pair_apart Zero c d = refl
pair_apart One c d = refl
pair_apart (Pair a b) c d = refl

normal_pair : (l r : IdTree) → IsNormal l → IsNormal r → are_equal_leaves l r ≡ false → IsFormOf forms.Pair (Pair l r)
normal_pair l r n m apart = ((n, m, apart), l, r, refl)

-- a pair has the form of a pair of these
pair_formed : (f g : Form) (l r : IdTree) → IsFormOf f l → IsFormOf g r → IsFormOf (pair_form f g) (Pair l r)
pair_formed forms.NotNormal g l r h k = λ n. h n.0
pair_formed forms.Zero forms.NotNormal l r h k = λ n. k n.1
pair_formed forms.One forms.NotNormal l r h k = λ n. k n.1
pair_formed forms.Pair forms.NotNormal l r h k = λ n. k n.1
pair_formed forms.Zero forms.Zero l r h k = λ n. both_ways (are_equal_leaves l r) n.2 (rw (h, k) refl)
pair_formed forms.One forms.One l r h k = λ n. both_ways (are_equal_leaves l r) n.2 (rw (h, k) refl)
pair_formed forms.Zero forms.One l r h k = normal_pair l r (rw h tt) (rw k tt) (rw (h, k) refl)
pair_formed forms.One forms.Zero l r h k = normal_pair l r (rw h tt) (rw k tt) (rw (h, k) refl)
pair_formed forms.Zero forms.Pair l r h k = normal_pair l r (rw h tt) k.0 (rw k.3 (pair_apart l k.1 k.2))
pair_formed forms.One forms.Pair l r h k = normal_pair l r (rw h tt) k.0 (rw k.3 (pair_apart l k.1 k.2))
pair_formed forms.Pair forms.Zero l r h k = normal_pair l r h.0 (rw k tt) (rw h.3 refl)
pair_formed forms.Pair forms.One l r h k = normal_pair l r h.0 (rw k tt) (rw h.3 refl)
pair_formed forms.Pair forms.Pair l r h k = normal_pair l r h.0 k.0 (rw h.3 refl)

normal_form : (f : Form) (t : IdTree) → IsFormOf f t → is_normal f ≡ true → IsNormal t
normal_form forms.Zero t h e = rw h tt
normal_form forms.One t h e = rw h tt
normal_form forms.Pair t h e = h.0
normal_form forms.NotNormal t h e = absurd (both_ways (is_normal forms.NotNormal) refl e)

no_normal_form : (f : Form) (t : IdTree) → IsFormOf f t → is_normal f ≡ false → ¬ IsNormal t
no_normal_form forms.Zero t h e = absurd (both_ways (is_normal forms.Zero) e refl)
no_normal_form forms.One t h e = absurd (both_ways (is_normal forms.One) e refl)
no_normal_form forms.Pair t h e = absurd (both_ways (is_normal forms.Pair) e refl)
no_normal_form forms.NotNormal t h e = h

spelled_pair : (a b : IdTree) (text inside left_rest right_text right_rest rest : List ℕ)
    → text ≡ 40 ∷ inside → inside ≡ spelling a ++ left_rest → left_rest ≡ 44 ∷ right_text → right_text ≡ spelling b ++ right_rest → right_rest ≡ 41 ∷ rest
    → text ≡ spelling (Pair a b) ++ rest
spelled_pair a b text inside left_rest right_text right_rest rest e f g h i = rw (e, f, g, h, i) (simp append_assoc)

-- what was read of a pair
pub record IsRead (levels less : ℕ) (text : List ℕ) (before final : List Mark) (left right taken : Taken) : Type 0 where
  pub inside : List ℕ
  pub right_text : List ℕ
  pub opened : List Mark
  pub halfway : List Mark
  pub one : IsTaken less inside opened halfway left
  pub other : IsTaken less right_text halfway final right
  pub bracket : text ≡ 40 ∷ inside
  pub comma : left.rest.now ≡ 44 ∷ right_text
  pub end_bracket : right.rest.now ≡ 41 ∷ taken.rest.now
  pub opened_is : opened ≡ before ++ marks.Pair ∷ []
  pub level : less + 1 ≡ levels
  pub told : taken.form ≡ pair_form left.form right.form

pub pair_taken : (levels less : ℕ) (text : List ℕ) (before final : List Mark) (left right taken : Taken) → IsRead levels less text before final left right taken → IsTaken levels text before final taken
pair_taken levels less text before final left right taken r =
    let a = r.one.tree in
    let b = r.other.tree in
    record {
      tree = Pair a b;
      spelled = spelled_pair a b text r.inside left.rest.now r.right_text right.rest.now taken.rest.now r.bracket r.one.spelled r.comma r.other.spelled r.end_bracket;
      are = rw (r.other.are, r.one.are, r.opened_is) (simp append_assoc);
      shallow = omega (arith, r.one.shallow, r.other.shallow, r.level);
      form_is = rw r.told (pair_formed left.form right.form a b r.one.form_is r.other.form_is);
    }

-- ---- the whole text

no_length : (xs : List ℕ) → length xs ≡ 0 → xs ≡ []
no_length [] e = refl
no_length (x ∷ xs) e = absurd (omega (arith, e))

pub whole : (text : List ℕ) (before after : List Mark) (taken : Taken) → IsTaken 40 text before after taken → before ≡ [] → length taken.rest.now ≡ 0 → is_normal taken.form ≡ true → IsWhole text after
whole text before after taken h none ends normal =
    let are : after ≡ preorder h.tree = h.are ∙ ap (λ (ms : List Mark). ms ++ preorder h.tree) none in
    record {
      are = are_of h.tree after are (record { normal = normal_form taken.form h.tree h.form_is normal; shallow = h.shallow });
      spelled = h.spelled ∙ rw (no_length taken.rest.now ends, tree_of_preorder h.tree after are) (append-nil (spelling h.tree));
    }

-- a tree that is not in normal form
pub unnormal : (levels : ℕ) (text : List ℕ) (before after : List Mark) (taken : Taken) → IsTaken levels text before after taken → length taken.rest.now ≡ 0 → is_normal taken.form ≡ false → SpellsUnnormal text
unnormal levels text before after taken h ends none = record {
  tree = h.tree;
  spelled = h.spelled ∙ rw (no_length taken.rest.now ends) (append-nil (spelling h.tree));
  unnormal = no_normal_form taken.form h.tree h.form_is none;
}

-- ---- where none stands

pub no_tree : (text : List ℕ) → BeginsNot 40 text → BeginsNot 48 text → BeginsNot 49 text → (t : IdTree) (rest : List ℕ) → text ≢ spelling t ++ rest
no_tree text h k m Zero rest e = k rest e
no_tree text h k m One rest e = m rest e
no_tree text h k m (Pair l r) rest e = h ((spelling l ++ 44 ∷ (spelling r ++ 41 ∷ [])) ++ rest) e

pub leaf_taken : (levels : ℕ) (text rest : List ℕ) (mark : Mark) (form : Form) (before after : List Mark) (taken : Taken) (t : IdTree) → text ≡ spelling t ++ rest → IsFormOf form t → depth t ≡ 0 → preorder t ≡ mark ∷ [] → IsLeafPut rest mark form before after taken
    → IsTaken levels text before after taken
leaf_taken levels text rest mark form before after taken t e f d p put = record {
  tree = t;
  spelled = e ∙ ap (λ (xs : List ℕ). spelling t ++ xs) (sym put.rest_is);
  are = put.are ∙ ap (λ (ms : List Mark). before ++ ms) (sym p);
  shallow = omega (arith, d);
  form_is = rw put.form_is f;
}

-- what a pair's text has behind its bracket
inside_pair : (inside rest : List ℕ) (l r : IdTree) → 40 ∷ inside ≡ spelling (Pair l r) ++ rest → inside ≡ spelling l ++ 44 ∷ (spelling r ++ 41 ∷ rest)
inside_pair inside rest l r e = simp append_assoc at (cons_rest 40 40 inside _ e)

-- no pair stands where its first half does not
pub no_left : (halt : Halt) (inside : List ℕ) → IsHalt halt inside → IsHalt halt (40 ∷ inside)
no_left Other inside h = tt
no_left NotNormal inside h = absurd h
no_left NoTree inside h = λ t rest e. none t rest e
  where
    none : (t : IdTree) (rest : List ℕ) → 40 ∷ inside ≢ spelling t ++ rest
    none Zero rest e = absurd (let f : 40 ≡ 48 = cons_first 40 48 _ _ e in omega arith)
    none One rest e = absurd (let f : 40 ≡ 49 = cons_first 40 49 _ _ e in omega arith)
    none (Pair l r) rest e = h l (44 ∷ (spelling r ++ 41 ∷ rest)) (inside_pair inside rest l r e)

-- nor where nothing that a pair has stands behind its first half
no_pair : (inside behind_left : List ℕ) (a : IdTree) → inside ≡ spelling a ++ behind_left → ((r : IdTree) (rest : List ℕ) → behind_left ≢ 44 ∷ (spelling r ++ 41 ∷ rest)) → (t : IdTree) (rest : List ℕ) → 40 ∷ inside ≢ spelling t ++ rest
no_pair inside behind_left a is h Zero rest e = absurd (let f : 40 ≡ 48 = cons_first 40 48 _ _ e in omega arith)
no_pair inside behind_left a is h One rest e = absurd (let f : 40 ≡ 49 = cons_first 40 49 _ _ e in omega arith)
no_pair inside behind_left a is h (Pair l r) rest e = h r rest (spelling_front a l behind_left (44 ∷ (spelling r ++ 41 ∷ rest)) (sym is ∙ inside_pair inside rest l r e)).1

pub no_comma : (levels : ℕ) (inside : List ℕ) (before after : List Mark) (left : Taken) → IsTaken levels inside before after left → BeginsNot 44 left.rest.now → (t : IdTree) (rest : List ℕ) → 40 ∷ inside ≢ spelling t ++ rest
no_comma levels inside before after left one h = no_pair inside left.rest.now one.tree one.spelled (λ r rest e. h (spelling r ++ 41 ∷ rest) e)

pub no_right : (halt : Halt) (levels : ℕ) (inside second : List ℕ) (before after : List Mark) (left : Taken) → IsTaken levels inside before after left → left.rest.now ≡ 44 ∷ second → IsHalt halt second → IsHalt halt (40 ∷ inside)
no_right Other levels inside second before after left one comma h = tt
no_right NotNormal levels inside second before after left one comma h = absurd h
no_right NoTree levels inside second before after left one comma h =
    no_pair inside left.rest.now one.tree one.spelled (λ r rest e. h r (41 ∷ rest) (cons_rest 44 44 second (spelling r ++ 41 ∷ rest) (sym comma ∙ e)))

pub no_end : (levels : ℕ) (inside second : List ℕ) (before halfway after : List Mark) (left right : Taken) → IsTaken levels inside before halfway left → left.rest.now ≡ 44 ∷ second → IsTaken levels second halfway after right → BeginsNot 41 right.rest.now
    → (t : IdTree) (rest : List ℕ) → 40 ∷ inside ≢ spelling t ++ rest
no_end levels inside second before halfway after left right one comma other h =
    no_pair inside left.rest.now one.tree one.spelled (λ r rest e.
    h rest (spelling_front other.tree r right.rest.now (41 ∷ rest) (sym other.spelled ∙ cons_rest 44 44 second (spelling r ++ 41 ∷ rest) (sym comma ∙ e))).1)

-- the whole text is none's with more behind one
pub no_whole : (levels : ℕ) (text : List ℕ) (before after : List Mark) (taken : Taken) → IsTaken levels text before after taken → (length taken.rest.now == 0) ≡ false → (t : IdTree) → text ≢ spelling t
no_whole levels text before after taken h more t e =
    let ends = spelling_front h.tree t taken.rest.now [] (sym h.spelled ∙ e ∙ sym (append-nil (spelling t))) in
    both_ways (length taken.rest.now == 0) more (eq-eqb (length taken.rest.now) 0 (ap length ends.1))

pub halt_of_whole : (halt : Halt) (text : List ℕ) → IsHalt halt text → IsHaltOfWhole halt text
halt_of_whole Other text h = tt
halt_of_whole NotNormal text h = absurd h
halt_of_whole NoTree text h = λ t e. h t [] (e ∙ sym (append-nil (spelling t)))
