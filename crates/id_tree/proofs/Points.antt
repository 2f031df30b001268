-- What the points that an id owns say of its shape.
use Rattle.std.proofs.Common.{◌≡◌, inl, inr, ◌⊎◌, ◌↔◌, true, false, IsTrue, [], ◌∷◌, refl, sym}
use Rattle.std.proofs.lemmas.Bool.{and_parts, and_cases, cases_Bool, both_ways, true≢false}
use Rattle.id_tree.specs.IdTree.{IdTree, Zero, One, Pair}
use Rattle.id_tree.specs.Points.{Point, owns, OwnsSome, Overlap, AreDisjoint, Covers}
use Rattle.id_tree.specs.NormalForm.{are_equal_leaves, IsNormal}
use Rattle.id_tree.specs.working.Tests.{owns_any, are_disjoint, covers}

owns_nothing : (i : IdTree) → IsNormal i → ((p : Point) → owns i p ≡ false) → i ≡ Zero
owns_nothing Zero h same = refl
owns_nothing One h same = absurd (both_ways true (same []) refl)
owns_nothing (Pair l r) h same =
    let el = owns_nothing l h.0 (λ p. same (false ∷ p)) in
    let er = owns_nothing r h.1 (λ p. same (true ∷ p)) in
    absurd (both_ways (are_equal_leaves l r) h.2 (rw (el, er)))

owns_everything : (i : IdTree) → IsNormal i → ((p : Point) → owns i p ≡ true) → i ≡ One
owns_everything Zero h same = absurd (both_ways false refl (same []))
owns_everything One h same = refl
owns_everything (Pair l r) h same =
    let el = owns_everything l h.0 (λ p. same (false ∷ p)) in
    let er = owns_everything r h.1 (λ p. same (true ∷ p)) in
    absurd (both_ways (are_equal_leaves l r) h.2 (rw (el, er)))

pub equal_points : (i j : IdTree) → IsNormal i → IsNormal j → ((p : Point) → owns i p ≡ owns j p) → i ≡ j
equal_points Zero j ni nj same = sym (owns_nothing j nj (λ p. sym (same p)))
equal_points One j ni nj same = sym (owns_everything j nj (λ p. sym (same p)))
equal_points (Pair l r) Zero ni nj same = owns_nothing (Pair l r) ni same
equal_points (Pair l r) One ni nj same = owns_everything (Pair l r) ni same
equal_points (Pair l r) (Pair a b) ni nj same =
    let la = equal_points l a ni.0 nj.0 (λ p. same (false ∷ p)) in
    let rb = equal_points r b ni.1 nj.1 (λ p. same (true ∷ p)) in
    cc

-- ---- what the tests tell

nothing_or_some : (i : IdTree) → IsNormal i → (i ≡ Zero) ⊎ OwnsSome i
nothing_or_some Zero h = inl refl
nothing_or_some One h = inr ([], refl)
nothing_or_some (Pair l r) h =
    elim (nothing_or_some l h.0) [
      | inr q ↦ inr (false ∷ q.0, q.1)
      | inl lz ↦ elim (nothing_or_some r h.1) [
        | inr q ↦ inr (true ∷ q.0, q.1)
        | inl rz ↦ absurd (both_ways (are_equal_leaves l r) h.2 (rw (lz, rz) refl))
      ]
    ]

pub some_point : (i : IdTree) → IsNormal i → owns_any i ≡ true → OwnsSome i
some_point i n e = elim (nothing_or_some i n) [ inl z ↦ absurd (both_ways (owns_any i) (rw z refl) e) | inr q ↦ q ]

pub owns_any_from : (i : IdTree) → OwnsSome i → owns_any i ≡ true
owns_any_from Zero h = h.1
owns_any_from One h = refl
owns_any_from (Pair l r) h = refl

pub owns_any_iff : (i : IdTree) → IsNormal i → (owns_any i ≡ true) ↔ OwnsSome i
owns_any_iff i n = (some_point i n, owns_any_from i)

pub disjoint_from : (i j : IdTree) → are_disjoint i j ≡ true → AreDisjoint i j
disjoint_from Zero j e p h = absurd (true≢false (sym h))
disjoint_from One Zero e p h = refl
disjoint_from One One e p h = absurd (true≢false (sym e))
disjoint_from One (Pair c d) e p h = absurd (true≢false (sym e))
disjoint_from (Pair a b) Zero e p h = refl
disjoint_from (Pair a b) One e p h = absurd (true≢false (sym e))
disjoint_from (Pair a b) (Pair c d) e [] h = disjoint_from a c (and_parts _ _ e).0 [] h
disjoint_from (Pair a b) (Pair c d) e (false ∷ p) h = disjoint_from a c (and_parts _ _ e).0 p h
disjoint_from (Pair a b) (Pair c d) e (true ∷ p) h = disjoint_from b d (and_parts _ _ e).1 p h

overlap_from : (i j : IdTree) → IsNormal i → IsNormal j → are_disjoint i j ≡ false → Overlap i j
overlap_from Zero j m n e = absurd (true≢false e)
overlap_from One Zero m n e = absurd (true≢false e)
overlap_from One One m n e = ([], refl, refl)
overlap_from One (Pair c d) m n e = let q = some_point (Pair c d) n refl in (q.0, refl, q.1)
overlap_from (Pair a b) Zero m n e = absurd (true≢false e)
overlap_from (Pair a b) One m n e = let q = some_point (Pair a b) m refl in (q.0, q.1, refl)
overlap_from (Pair a b) (Pair c d) m n e =
    elim (and_cases (are_disjoint a c) (are_disjoint b d) e) [
      | inl x ↦ let q = overlap_from a c m.0 n.0 x in (false ∷ q.0, q.1, q.2)
      | inr x ↦ let q = overlap_from b d m.1 n.1 x in (true ∷ q.0, q.1, q.2)
    ]

pub disjoint_iff : (i j : IdTree) → IsNormal i → IsNormal j → (are_disjoint i j ≡ true) ↔ AreDisjoint i j
disjoint_iff i j m n = (
  disjoint_from i j,
  λ h. elim (cases_Bool (are_disjoint i j)) [
    | inl e ↦ e
    | inr e ↦ let q = overlap_from i j m n e in absurd (both_ways (owns j q.0) (h q.0 q.1) q.2)
  ],
)

pub overlap_iff : (i j : IdTree) → IsNormal i → IsNormal j → (are_disjoint i j ≡ false) ↔ Overlap i j
overlap_iff i j m n = (
  overlap_from i j m n,
  λ h. elim (cases_Bool (are_disjoint i j)) [ inl e ↦ absurd (both_ways (owns j h.0) (disjoint_from i j e h.0 h.1) h.2) | inr e ↦ e ],
)

-- ---- what the test of covering tells

everything_or_less : (i : IdTree) → IsNormal i → (i ≡ One) ⊎ ((p : Point) × (owns i p ≡ false))
everything_or_less Zero h = inr ([], refl)
everything_or_less One h = inl refl
everything_or_less (Pair l r) h =
    elim (everything_or_less l h.0) [
      | inr q ↦ inr (false ∷ q.0, q.1)
      | inl lo ↦ elim (everything_or_less r h.1) [
        | inr q ↦ inr (true ∷ q.0, q.1)
        | inl ro ↦ absurd (both_ways (are_equal_leaves l r) h.2 (rw (lo, ro) refl))
      ]
    ]

covered_from : (i j : IdTree) → covers i j ≡ true → Covers i j
covered_from Zero Zero e p h = h
covered_from Zero One e p h = absurd (true≢false (sym e))
covered_from Zero (Pair c d) e p h = absurd (true≢false (sym e))
covered_from One j e p h = refl
covered_from (Pair a b) Zero e p h = absurd (true≢false (sym h))
covered_from (Pair a b) One e p h = absurd (true≢false (sym e))
covered_from (Pair a b) (Pair c d) e [] h = covered_from a c (and_parts _ _ e).0 [] h
covered_from (Pair a b) (Pair c d) e (false ∷ p) h = covered_from a c (and_parts _ _ e).0 p h
covered_from (Pair a b) (Pair c d) e (true ∷ p) h = covered_from b d (and_parts _ _ e).1 p h

-- some point that j owns is not owned by i
abbrev pub IsUncovered : IdTree → IdTree → Type 0
IsUncovered i j = (p : Point) × IsTrue (owns j p) × (owns i p ≡ false)

uncovered_from : (i j : IdTree) → IsNormal i → IsNormal j → covers i j ≡ false → IsUncovered i j
uncovered_from Zero Zero m n e = absurd (true≢false e)
uncovered_from Zero One m n e = ([], refl, refl)
uncovered_from Zero (Pair c d) m n e = let q = some_point (Pair c d) n refl in (q.0, q.1, refl)
uncovered_from One j m n e = absurd (true≢false e)
uncovered_from (Pair a b) Zero m n e = absurd (true≢false e)
uncovered_from (Pair a b) One m n e = elim (everything_or_less (Pair a b) m) [ inl o ↦ absurd (cc) | inr q ↦ (q.0, refl, q.1) ]
uncovered_from (Pair a b) (Pair c d) m n e =
    elim (and_cases (covers a c) (covers b d) e) [
      | inl x ↦ let q = uncovered_from a c m.0 n.0 x in (false ∷ q.0, q.1, q.2)
      | inr x ↦ let q = uncovered_from b d m.1 n.1 x in (true ∷ q.0, q.1, q.2)
    ]

pub covers_iff : (i j : IdTree) → IsNormal i → IsNormal j → (covers i j ≡ true) ↔ Covers i j
covers_iff i j m n = (
  covered_from i j,
  λ h. elim (cases_Bool (covers i j)) [
    | inl e ↦ e
    | inr e ↦ let q = uncovered_from i j m n e in absurd (both_ways (owns i q.0) q.2 (h q.0 q.1))
  ],
)

pub uncovered_iff : (i j : IdTree) → IsNormal i → IsNormal j → (covers i j ≡ false) ↔ IsUncovered i j
uncovered_iff i j m n = (
  uncovered_from i j m n,
  λ h. elim (cases_Bool (covers i j)) [ inl e ↦ absurd (both_ways (owns i h.0) h.2 (covered_from i j e h.0 h.1)) | inr e ↦ e ],
)
