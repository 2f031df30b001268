-- Values in a list, one for each of what they stand for.
use Rattle.std.proofs.Common.{◌≡◌, ℕ, zero, suc, ◌+◌, ◌<◌, ◌≤◌, List, [], ◌∷◌, length, get_or, refl, sym, ap, ap₂, ◌∙◌, subst, arith, inl, inr}
use Rattle.std.proofs.lemmas.Bool.{cases_lt}
use Rattle.std.proofs.lemmas.List.{get_or_default}
use Rattle.std.specs.Prelude.{All, String, Option, Some}
use Rattle.std.specs.Option.{option_map}
use Rattle.std.specs.declared.alloc.Global.{Global}
use Rattle.serde_json.specs.Events.{members_len}
use Rattle.serde_json.proofs.Views.{members_len-members_view}
use Rattle.serde_json.specs.Data.{Data, array, Members, Items, no_items, item}
use Rattle.serde_json.specs.View.{view, items_view, members_view}
use Rattle.serde_json.specs.declared.value.Value.{Value}
use Rattle.reasons.specs.CertificateReading.{items_by}

-- the value stands for such a thing
abbrev pub StandsFor : (T : Type 0) → (T → Type 0) → (T → Data) → Data → Type 0
StandsFor T is f d = (x : T) × is x × (d ≡ f x)

-- each of the first values does
abbrev pub EachStands : (T : Type 0) → (T → Type 0) → (T → Data) → List Value → ℕ → Type 0
EachStands T is f vs i = (k : ℕ) (d : Value) → k < i → StandsFor T is f (view (get_or vs k d))

item_first : (d e : Data) (ds es : Items) → item d ds ≡ item e es → d ≡ e
item_first d e ds es same = cc

item_rest : (d e : Data) (ds es : Items) → item d ds ≡ item e es → ds ≡ es
item_rest d e ds es same = cc

all_more : (T : Type 0) (is : T → Type 0) (x : T) (xs : List T) → is x → All is xs → All is (x ∷ xs)
all_more T is x xs first rest zero d l = first
all_more T is x xs first rest (suc k) d l = rest k d (omega arith)

-- all of a list stand for a list
pub all_stand : (T : Type 0) (is : T → Type 0) (f : T → Data) (vs : List Value) → EachStands T is f vs (length vs) → (xs : List T) × All is xs × (items_view vs ≡ items_by f xs)
all_stand T is f [] each = ([], (λ k d l. absurd (omega arith)), refl)
all_stand T is f (v ∷ vs) each =
    let first = each 0 v (omega arith) in
    let rest = all_stand T is f vs (λ k d l. each (suc k) d (omega arith)) in
    (first.0 ∷ rest.0, all_more T is first.0 rest.0 first.1 rest.1, ap₂ item first.2 rest.2)

pub same_length : (T : Type 0) (f : T → Data) (vs : List Value) (xs : List T) → items_view vs ≡ items_by f xs → length vs ≡ length xs
same_length T f [] [] same = refl
same_length T f [] (x ∷ xs) same = absurd cc
same_length T f (v ∷ vs) [] same = absurd cc
same_length T f (v ∷ vs) (x ∷ xs) same = ap suc (same_length T f vs xs (item_rest _ _ _ _ same))

-- what stands for the list at an index
pub stands_at : (T : Type 0) (f : T → Data) (vs : List Value) (xs : List T) → items_view vs ≡ items_by f xs → (i : ℕ) (d : Value) (x : T) → i < length vs → view (get_or vs i d) ≡ f (get_or xs i x)
stands_at T f [] xs same i d x l = absurd (omega arith)
stands_at T f (v ∷ vs) [] same i d x l = absurd cc
stands_at T f (v ∷ vs) (y ∷ xs) same zero d x l = item_first _ _ _ _ same
stands_at T f (v ∷ vs) (y ∷ xs) same (suc i) d x l = stands_at T f vs xs (item_rest _ _ _ _ same) i d x (omega arith)

-- what a value of such a list stands for
pub stands_for : (T : Type 0) (is : T → Type 0) (f : T → Data) (vs : List Value) (xs : List T) → items_view vs ≡ items_by f xs → All is xs
    → (i : ℕ) (d : Value) → i < length vs → StandsFor T is f (view (get_or vs i d))
stands_for T is f vs [] same all i d l = absurd (omega (arith, same_length T f vs [] same))
stands_for T is f vs (x ∷ xs) same all i d l =
    (get_or (x ∷ xs) i x, all i x (omega (arith, same_length T f vs (x ∷ xs) same)), stands_at T f vs (x ∷ xs) same i d x l)

-- two values
pub pair_length : (vs : List Value) (a b : Data) → items_view vs ≡ item a (item b no_items) → length vs ≡ 2
pair_length [] a b same = absurd cc
pair_length (v ∷ []) a b same = absurd cc
pair_length (v ∷ w ∷ []) a b same = refl
pair_length (v ∷ w ∷ u ∷ vs) a b same = absurd cc

-- ---- a value that is a list of these

abbrev pub ListStands : (T : Type 0) → (T → Type 0) → (T → Data) → Data → Type 0
ListStands T is f d = (xs : List T) × All is xs × (d ≡ array (items_by f xs))

pub list_stands : (T : Type 0) (is : T → Type 0) (f : T → Data) (d : Data) (vs : List Value) (i : ℕ) → d ≡ array (items_view vs) → length vs ≤ i → EachStands T is f vs i → ListStands T is f d
list_stands T is f d vs i list past each =
    let all = all_stand T is f vs (λ k v l. each k v (omega arith)) in
    (all.0, all.1, list ∙ ap array all.2)

pub items_same : (a b : Items) → array a ≡ array b → a ≡ b
items_same a b same = cc

pub items_of_list : (T : Type 0) (f : T → Data) (d : Data) (vs : List Value) (xs : List T) → d ≡ array (items_view vs) → d ≡ array (items_by f xs) → items_view vs ≡ items_by f xs
items_of_list T f d vs xs list same = items_same _ _ (sym list ∙ same)

pub list_fails : (T : Type 0) (is : T → Type 0) (f : T → Data) (d : Data) (vs : List Value) (i : ℕ) (v : Value) → d ≡ array (items_view vs) → i < length vs → ¬ StandsFor T is f (view (get_or vs i v)) → ¬ ListStands T is f d
list_fails T is f d vs i v list within not (xs, all, same) = not (stands_for T is f vs xs (items_of_list T f d vs xs list same) all i v within)

-- one value more that stands for such a thing
pub each_more : (T : Type 0) (is : T → Type 0) (f : T → Data) (vs : List Value) (i : ℕ) (v : Value) → i < length vs → EachStands T is f vs i → StandsFor T is f (view (get_or vs i v)) → EachStands T is f vs (i + 1)
each_more T is f vs i v within each one k d l =
    elim (cases_lt k i) [
      | inl earlier ↦ each k d earlier
      | inr here ↦ (let at : i ≡ k = omega arith in subst (λ (m : ℕ). StandsFor T is f (view (get_or vs m d))) at (subst (λ (w : Value). StandsFor T is f (view w)) (get_or_default vs i v d within) one))
    ]

-- as many members as entries
pub count_is : (entries : List (String Global × Value)) (n : ℕ) (o : Option Members) → Some (members_view entries) ≡ o → n ≡ length entries → option_map members_len o ≡ Some n
count_is entries n o is count = ap (option_map members_len) (sym is) ∙ ap Some (members_len-members_view entries ∙ sym count)
