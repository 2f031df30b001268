-- What is known of a tree tells of its form, and what parsing finds.
use Rattle.std.proofs.Common.{◌≡◌, inl, inr, ℕ, ◌+◌, ◌<◌, min, false, List, Option, Some, None, refl, sym, ap, subst, ◌∙◌, arith}
use Rattle.std.proofs.lemmas.Bool.{cases_Bool, both_ways}
use Rattle.id_tree.specs.IdTree.{IdTree, Zero, One, Pair}
use Rattle.id_tree.specs.NormalForm.{IsNormal, IsId, are_equal_leaves, depth, depth_limit}
use Rattle.id_tree.specs.Spelling.{spelling}
use Rattle.id_tree.specs.Faults.{SpellsUnnormal, SpellsDeep, IsFaultOfId}
use Rattle.id_tree.specs.working.Reading.{Spells, IsRunFault, IsPartFault, run, start, are_one, height, above, pair_of, part_of}
use Rattle.id_tree.specs.declared.reading.first_fault.Part.{Part}
use Rattle.id_tree.specs.declared.reading.first_fault.Part.TheVariants as parts
use Rattle.id_tree.specs.declared.fault.IdFault.{IdFault}
use Rattle.id_tree.specs.declared.fault.IdFault.TheVariants.{Syntax, NotNormal, TooDeep, Memory}
use Rattle.id_tree.proofs.Runs.{spelled, run_spelled}
use Rattle.id_tree.proofs.Texts.{one_spelling}

-- ---- what is known of a pair

zero_above : (o p : Option ℕ) → are_one parts.Zero (above o p) ≡ false
zero_above None p = refl
zero_above (Some g) None = refl
zero_above (Some g) (Some h) = refl

one_above : (o p : Option ℕ) → are_one parts.One (above o p) ≡ false
one_above None p = refl
one_above (Some g) None = refl
one_above (Some g) (Some h) = refl

above_any : (o p : Option ℕ) (q : Part) → are_one (above o p) q ≡ false
above_any None p q = refl
above_any (Some g) None q = refl
above_any (Some g) (Some h) q = refl

zero_pair : (p q : Part) → are_one parts.Zero (pair_of p q) ≡ false
zero_pair p q = elim (cases_Bool (are_one p q)) [ inl e ↦ rw e refl | inr e ↦ rw e (zero_above (height p) (height q)) ]

one_pair : (p q : Part) → are_one parts.One (pair_of p q) ≡ false
one_pair p q = elim (cases_Bool (are_one p q)) [ inl e ↦ rw e refl | inr e ↦ rw e (one_above (height p) (height q)) ]

pair_any : (p q r : Part) → are_one (pair_of p q) r ≡ false
pair_any p q r = elim (cases_Bool (are_one p q)) [ inl e ↦ rw e refl | inr e ↦ rw e (above_any (height p) (height q) r) ]

same_leaves : (l r : IdTree) → are_one (part_of l) (part_of r) ≡ are_equal_leaves l r
same_leaves Zero Zero = refl
same_leaves Zero One = refl
same_leaves Zero (Pair a b) = zero_pair (part_of a) (part_of b)
same_leaves One Zero = refl
same_leaves One One = refl
same_leaves One (Pair a b) = one_pair (part_of a) (part_of b)
same_leaves (Pair a b) r = pair_any (part_of a) (part_of b) (part_of r)

-- ---- what is told of a tree

abbrev Tells : Option ℕ → IdTree → Type 0
Tells None t = ¬ IsNormal t
Tells (Some d) t = IsNormal t × (d ≡ min (depth t) (depth_limit + 1))

tells_above : (o p : Option ℕ) (l r : IdTree) → Tells o l → Tells p r → are_equal_leaves l r ≡ false → Tells (height (above o p)) (Pair l r)
tells_above None p l r h k e = λ n. h n.0
tells_above (Some g) None l r h k e = λ n. k n.1
tells_above (Some g) (Some d) l r h k e = ((h.0, k.0, e), omega (arith, h.1, k.1))

tells : (t : IdTree) → Tells (height (part_of t)) t
tells Zero = (tt, refl)
tells One = (tt, refl)
tells (Pair l r) =
    elim (cases_Bool (are_one (part_of l) (part_of r))) [
      | inl e ↦ rw e (λ n. both_ways (are_equal_leaves l r) n.2 (sym (same_leaves l r) ∙ e))
      | inr e ↦ rw e (tells_above (height (part_of l)) (height (part_of r)) l r (tells l) (tells r) (sym (same_leaves l r) ∙ e))
    ]

tells_of : (part : Part) (bytes : List ℕ) (s : Spells part bytes) → Tells (height part) s.tree
tells_of part bytes s = subst (λ (p : Part). Tells (height p) s.tree) (sym s.part_is) (tells s.tree)

-- ---- what parsing finds

found_unnormal : (bytes : List ℕ) → Spells parts.NotNormal bytes → SpellsUnnormal bytes
found_unnormal bytes s = record { tree = s.tree; spelled = spelled bytes s.tree s.ran; unnormal = tells_of parts.NotNormal bytes s }

found_deep : (bytes : List ℕ) (d : ℕ) → Spells (parts.Pair d) bytes → depth_limit < d → SpellsDeep bytes
found_deep bytes d s deep =
    let told = tells_of (parts.Pair d) bytes s in
    record { tree = s.tree; spelled = spelled bytes s.tree s.ran; normal = told.0; deep = omega (arith, told.1, deep) }

-- what spells an id is neither
not_unnormal : (bytes : List ℕ) (t : IdTree) → Spells parts.NotNormal bytes → bytes ≡ spelling t → ¬ IsId t
not_unnormal bytes t s e n =
    let same : s.tree ≡ t = one_spelling s.tree t (sym (spelled bytes s.tree s.ran) ∙ e) in
    tells_of parts.NotNormal bytes s (subst IsNormal (sym same) n.normal)

pub unnormal_is_no_id : (bytes : List ℕ) (t : IdTree) → SpellsUnnormal bytes → IsId t → ¬ (bytes ≡ spelling t)
unnormal_is_no_id bytes t s n e = s.unnormal (subst IsNormal (sym (one_spelling s.tree t (sym s.spelled ∙ e))) n.normal)

not_deep : (bytes : List ℕ) (d : ℕ) (t : IdTree) → Spells (parts.Pair d) bytes → bytes ≡ spelling t → IsId t → ¬ (depth_limit < d)
not_deep bytes d t s e n deep =
    let same : s.tree ≡ t = one_spelling s.tree t (sym (spelled bytes s.tree s.ran) ∙ e) in
    let told = tells_of (parts.Pair d) bytes s in
    omega (arith, told.1, deep, ap depth same, n.shallow)

-- a fault of the run is one that the bytes have
pub fault_found : (fault : IdFault) (bytes : List ℕ) → IsRunFault fault (run start bytes) → IsFaultOfId fault bytes
fault_found Syntax bytes h = λ t e. h t (run_spelled t bytes e)
fault_found NotNormal bytes h = absurd h
fault_found TooDeep bytes h = absurd h
fault_found Memory bytes h = h

-- what spells an id has none but a lack of memory
pub fault_of_id : (fault : IdFault) (bytes : List ℕ) (t : IdTree) → IsId t → bytes ≡ spelling t → IsRunFault fault (run start bytes) → fault ≡ Memory
fault_of_id Syntax bytes t n e h = absurd (h t (run_spelled t bytes e))
fault_of_id NotNormal bytes t n e h = absurd h
fault_of_id TooDeep bytes t n e h = absurd h
fault_of_id Memory bytes t n e h = refl

-- ---- the fault of what was not read straight

pub part_fault : (fault : IdFault) (part : Part) (bytes : List ℕ) → Spells part bytes → IsPartFault fault part → IsFaultOfId fault bytes
part_fault Syntax part bytes s h = absurd h
part_fault NotNormal part bytes s h = found_unnormal bytes (subst (λ (p : Part). Spells p bytes) h s)
part_fault TooDeep part bytes s h = found_deep bytes h.0 (subst (λ (p : Part). Spells p bytes) h.1 s) h.2
part_fault Memory part bytes s h = tt

pub part_only : (fault : IdFault) (part : Part) (bytes : List ℕ) (t : IdTree) → Spells part bytes → IsPartFault fault part → IsId t → bytes ≡ spelling t → fault ≡ Memory
part_only Syntax part bytes t s h n e = absurd h
part_only NotNormal part bytes t s h n e = absurd (not_unnormal bytes t (subst (λ (p : Part). Spells p bytes) h s) e n)
part_only TooDeep part bytes t s h n e = absurd (not_deep bytes h.0 t (subst (λ (p : Part). Spells p bytes) h.1 s) e n h.2)
part_only Memory part bytes t s h n e = refl
