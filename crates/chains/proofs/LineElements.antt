-- Which places a line lists, and the elements up to them.
use Rattle.std.proofs.Common.{◌≡◌, ℕ, ◌+◌, ◌≤◌, ◌<◌, Bool, false, List, [], ◌∷◌, ◌++◌, length, get_or, map, take, Option, Some, None, IsTrue, ◌↔◌, refl, sym, ap, subst, ◌∙◌, arith, below_more, eq-eqb}
use Rattle.std.specs.Prelude.{slice_get, nat_eq}
use Rattle.std.specs.List.{cons_option, range_with_len, list_any}
use Rattle.std.specs.Option.{is_some}
use Rattle.std.proofs.lemmas.Bool.{true≢false, eqb-true, or_parts}
use Rattle.std.proofs.lemmas.List.{ext_get_or, get_or-map, get_or-take, length-map, length-take-le}
use Rattle.std.proofs.lemmas.List.FromFn.{get_or-range_with_len, length-range_with_len}
use Rattle.std.proofs.lemmas.Option.{same_Some, slice_get-get_or, slice_get_within, get_or_from_slice_get}
use Rattle.stamp.specs.declared.stamp.Stamp.{Stamp}
use Rattle.report_line.specs.declared.report.Report.{Report}
use Rattle.chains.specs.declared.position.Place.{Place}
use Rattle.chains.specs.declared.position.Position.{Position}
use Rattle.chains.specs.declared.position.Position.TheVariants.{At}
use Rattle.chains.specs.Processes.{Name, known, IsKnown, is_birth_of, is_numbered_of, last_report}
use Rattle.chains.specs.Elements.{name_of, elements, elements_of, stable_made, stable_of, present_in}
use Rattle.chains.specs.Positions.{rank, position_in, positions_of, IsChosen, IsCut}
use Rattle.chains.specs.Folded.{IsFolded}
use Rattle.chains.specs.working.Inside.{first_stamp}
use Rattle.chains.specs.working.Settling.{ListsEach, HasElementsTo}
use Rattle.chains.proofs.Counting.{elements_is}
use Rattle.chains.proofs.Reaching.{well_made}
use Rattle.chains.proofs.InOrder.{unknown_none, nothing_made}

-- ---- places

-- the place of this number in the line is one of this process
abbrev pub IsPlaceAt : List Report → List Place → ℕ → Type 0
IsPlaceAt accepted line i = (x : Place) → slice_get line i ≡ Some x → (x.process ≡ i) × IsChosen accepted [] i x.position

-- what an index past the end gives
abbrev pub at_first : Place
at_first = record { process = 0; position = At 0 }

pub lists_all : (accepted : List Report) (line : List Place) (n : ℕ) → n ≡ length line → length line ≡ length (known accepted) → ((i : ℕ) → i < n → IsPlaceAt accepted line i) → ListsEach accepted line
lists_all accepted line n all many each = record {
  in_order = ext_get_or 0 (map (λ x. x.process) line) (range_with_len 0 (length (known accepted))) (length-map line (λ x. x.process) ∙ many ∙ sym (length-range_with_len 0 (length (known accepted))))
      (λ i lt.
      let inside : i < length line = omega (arith, length-map line (λ (x : Place). x.process)) in
      get_or-map (λ (x : Place). x.process) line i at_first 0 inside ∙ (each i (omega arith) (get_or line i at_first) (slice_get-get_or line i at_first inside)).0
      ∙ sym (get_or-range_with_len 0 (length (known accepted)) i 0 (omega arith) ∙ omega arith));
  cut = record {
    complete = length-map line (λ x. x.position) ∙ many;
    chosen = λ i lt.
        let inside : i < length line = omega arith in
        subst (IsChosen accepted [] i) (sym (get_or-map (λ (x : Place). x.position) line i at_first (At 0) inside)) (each i (omega arith) (get_or line i at_first) (slice_get-get_or line i at_first inside)).1;
  };
}

pub listed_at : (accepted : List Report) (line : List Place) (i : ℕ) (x : Place) → ListsEach accepted line → slice_get line i ≡ Some x → (x.process ≡ i) × IsChosen accepted [] i x.position
listed_at accepted line i x h at =
    let inside = slice_get_within line i x at in
    let many : length line ≡ length (known accepted) = sym (length-map line (λ (y : Place). y.position)) ∙ h.cut.complete in
    let here : get_or line i at_first ≡ x = get_or_from_slice_get line i x at_first at in (
      sym (ap (λ (y : Place). y.process) here) ∙ sym (get_or-map (λ (y : Place). y.process) line i at_first 0 inside) ∙ ap (λ (l : List ℕ). get_or l i 0) h.in_order
          ∙ get_or-range_with_len 0 (length (known accepted)) i 0 (omega arith) ∙ omega arith,
      subst (IsChosen accepted [] i) (get_or-map (λ (y : Place). y.position) line i at_first (At 0) inside ∙ ap (λ (y : Place). y.position) here) (h.cut.chosen i (omega arith)),
    )

pub places_more : (accepted : List Report) (line : List Place) (i : ℕ) → ((j : ℕ) → j < i → IsPlaceAt accepted line j) → ((get_or line i at_first).process ≡ i) × IsChosen accepted [] i (get_or line i at_first).position
    → (j : ℕ) → j < i + 1 → IsPlaceAt accepted line j
places_more accepted line i before is =
    below_more (IsPlaceAt accepted line) i before
    (λ x at. subst (λ (y : Place). (y.process ≡ i) × IsChosen accepted [] i y.position) (get_or_from_slice_get line i x at_first at) is)

-- the position of a process in the line is that of its place
pub position_there : (line : List Place) (i : ℕ) → i < length line → position_in (positions_of line) i ≡ (get_or line i at_first).position
position_there line i lt = get_or-map (λ (y : Place). y.position) line i at_first (At 0) lt

pub chosen_there : (accepted : List Report) (line : List Place) (i : ℕ) → IsCut accepted [] (positions_of line) → i < length line → IsChosen accepted [] i (get_or line i at_first).position
chosen_there accepted line i cut lt =
    subst (IsChosen accepted [] i) (position_there line i lt) (cut.chosen i (omega (arith, cut.complete, length-map line (λ (y : Place). y.position))))

-- ---- a process that is not known has no elements

none_made : (p : Name) (xs : List Report) → list_any (is_birth_of p) xs ≡ false → list_any (is_numbered_of p) xs ≡ false → stable_of p xs ≡ []
none_made p [] b e = refl
none_made p (r ∷ rs) b e =
    let births = or_parts (is_birth_of p r) (list_any (is_birth_of p) rs) b in
    let numbers = or_parts (is_numbered_of p r) (list_any (is_numbered_of p) rs) e in
    by (stable_made p r) (nothing_made p r births.0 numbers.0) ∙ none_made p rs births.1 numbers.1
  where
    by : (o : Option Stamp) → is_some o ≡ false → cons_option o (stable_of p rs) ≡ stable_of p rs
    by None is = refl
    by (Some s) is = absurd (true≢false is)

pub no_elements : (accepted : List Report) (p : Name) → IsFolded accepted → ¬ IsKnown accepted p → elements_of p accepted ≡ []
no_elements accepted p folded unknown =
    let nothing = unknown_none accepted p folded unknown in
    ap (λ (l : List Stamp). l ++ present_in (last_report p accepted)) (none_made p accepted nothing.0 nothing.1)
    ∙ ap present_in ((well_made accepted folded).unreported p unknown)

-- ---- the first elements

pub first_same : (these all : List Stamp) (n : ℕ) → n ≤ length all → length these ≡ n → ((k : ℕ) → k < n → slice_get these k ≡ slice_get all k) → these ≡ take n all
first_same these all n few many each =
    let count = length-take-le n all few in
    ext_get_or first_stamp these (take n all) (omega arith)
    (λ k lt.
    let before : k < n = omega arith in
    let inside : k < length all = omega arith in
    get_or_from_slice_get these k (get_or all k first_stamp) first_stamp (each k before ∙ slice_get-get_or all k first_stamp inside) ∙ sym (get_or-take n all k first_stamp before))

pub first_at : (these all : List Stamp) (n k : ℕ) → n ≤ length all → these ≡ take n all → k < n → slice_get these k ≡ slice_get all k
first_at these all n k few e lt =
    let count = length-take-le n all few in
    let many : length these ≡ length (take n all) = ap (λ (l : List Stamp). length l) e in
    slice_get-get_or these k first_stamp (omega arith) ∙ ap (λ (l : List Stamp). Some (get_or l k first_stamp)) e ∙ ap (λ (s : Stamp). Some s) (get_or-take n all k first_stamp lt)
    ∙ sym (slice_get-get_or all k first_stamp (omega arith))

-- ---- the elements up to a position

-- the process has none of its elements up to the position in reports that do not know it, where there is none
pub has_none : (accepted kept : List Report) (i n : ℕ) (k : Position) (p : Name) → name_of accepted i ≡ Some p → n ≤ length (elements accepted i) → take n (elements accepted i) ≡ take (rank accepted i k) (elements accepted i)
    → IsFolded kept → ¬ IsKnown kept p → IsTrue (nat_eq n 0) ↔ HasElementsTo accepted i k kept
has_none accepted kept i n k p is few same folded unknown =
    let nothing = no_elements kept p folded unknown in
    let all = elements_is accepted i p is in (
      λ e q named.
          let one : q ≡ p = same_Some q p (sym named ∙ is) in
          let none : n ≡ 0 = eqb-true n 0 e in
          subst (λ (m : Name). elements_of m kept ≡ take (rank accepted i k) (elements_of m accepted)) (sym one)
          (nothing ∙ sym (ap (λ (m : ℕ). take m (elements accepted i)) none) ∙ same ∙ ap (take (rank accepted i k)) all),
      λ has.
          let none : length (take n (elements accepted i)) ≡ 0 = ap (λ (l : List Stamp). length l) (same ∙ ap (take (rank accepted i k)) all ∙ sym (has p is) ∙ nothing) in
          eq-eqb n 0 (omega (arith, length-take-le n (elements accepted i) few)),
    )

-- and where its elements there are compared
pub has_some : (accepted kept : List Report) (i q n : ℕ) (k : Position) (p : Name) (these all : List Stamp) (b : Bool) → name_of accepted i ≡ Some p → name_of kept q ≡ Some p → take n (elements accepted i) ≡ take (rank accepted i k) (elements accepted i)
    → these ≡ elements kept q → all ≡ elements accepted i → IsTrue b ↔ (these ≡ take n all) → IsTrue b ↔ HasElementsTo accepted i k kept
has_some accepted kept i q n k p these all b is there same e f test =
    let some : these ≡ elements_of p kept = e ∙ elements_is kept q p there in
    let upto : take n all ≡ take (rank accepted i k) (elements_of p accepted) = ap (take n) f ∙ same ∙ ap (take (rank accepted i k)) (elements_is accepted i p is) in (
      λ holds m named.
          let one : m ≡ p = same_Some m p (sym named ∙ is) in
          subst (λ (o : Name). elements_of o kept ≡ take (rank accepted i k) (elements_of o accepted)) (sym one) (sym some ∙ test.0 holds ∙ upto),
      λ has. test.1 (some ∙ has p is ∙ sym upto),
    )
