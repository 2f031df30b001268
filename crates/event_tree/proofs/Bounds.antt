-- What is at or below a restricted tree, and what at or below a meet.
use Rattle.std.proofs.Common.{◌↔◌, ℕ, ◌≤◌, ◌<◌, min, inl, inr, ◌⊎◌, IsTrue, arith, leb-true, leb-false}
use Rattle.std.specs.Prelude.{nat_le}
use Rattle.std.proofs.lemmas.Bool.{cases_Bool}
use Rattle.id_tree.specs.IdTree.{IdTree}
use Rattle.id_tree.specs.Points.{Point, owns}
use Rattle.event_tree.specs.EventTree.{EventTree}
use Rattle.event_tree.specs.Values.{value_at, IsAtOrBelow, ExceedsOn}
use Rattle.event_tree.specs.NormalForm.{greatest, value_limit}
use Rattle.event_tree.specs.Meet.{IsMeet}
use Rattle.event_tree.specs.Restricted.{IsRestricted}
use Rattle.event_tree.proofs.Trees.{greatest_ge}

-- below the limit a tree passes a restricted one only where the id owns
owned_there : (i : IdTree) (v e f : EventTree) → greatest v ≤ value_limit → IsRestricted i e f → (p : Point) → value_at f p < value_at v p → IsTrue (owns i p)
owned_there i v e f small r p h = elim (cases_Bool (owns i p)) [ inl o ↦ o | inr o ↦ absurd (omega (arith, r.elsewhere p o, greatest_ge v p, small, h)) ]

pub exceeds_restricted : (i : IdTree) (v e f : EventTree) → greatest v ≤ value_limit → IsRestricted i e f → ((p : Point) × (value_at f p < value_at v p)) ↔ ExceedsOn i v e
exceeds_restricted i v e f small r = (
  λ q. let o = owned_there i v e f small r q.0 q.1 in (q.0, o, omega (arith, r.owned q.0 o, q.1)),
  λ q. (q.0, omega (arith, r.owned q.0 q.1, q.2)),
)

pub below_restricted : (i : IdTree) (v e f : EventTree) → greatest v ≤ value_limit → IsRestricted i e f → IsAtOrBelow v f ↔ (¬ ExceedsOn i v e)
below_restricted i v e f small r = (
  λ below q. omega (arith, below q.0, r.owned q.0 q.1, q.2),
  λ never p. elim (cases_Bool (nat_le (value_at v p) (value_at f p))) [
    | inl h ↦ leb-true (value_at v p) (value_at f p) h
    | inr h ↦ absurd (never ((exceeds_restricted i v e f small r).0 (p, leb-false (value_at v p) (value_at f p) h)))
  ],
)

pub below_meet : (v e f g : EventTree) → IsMeet e f g → IsAtOrBelow v g ↔ (IsAtOrBelow v e × IsAtOrBelow v f)
below_meet v e f g m = (
  λ below. (λ p. omega (arith, m p, below p), λ p. omega (arith, m p, below p)),
  λ both p. omega (arith, m p, both.0 p, both.1 p),
)

lesser : (x m n : ℕ) → min m n < x → (m < x) ⊎ (n < x)
lesser x m n h = elim (cases_Bool (nat_le x m)) [ inl b ↦ inr (omega (arith, leb-true x m b, h)) | inr b ↦ inl (leb-false x m b) ]

pub exceeds_meet : (v e f g : EventTree) → IsMeet e f g
    → ((p : Point) × (value_at g p < value_at v p)) ↔ (((p : Point) × (value_at e p < value_at v p)) ⊎ ((p : Point) × (value_at f p < value_at v p)))
exceeds_meet v e f g m = (
  λ q. elim (lesser (value_at v q.0) (value_at e q.0) (value_at f q.0) (omega (arith, m q.0, q.1))) [ inl h ↦ inl (q.0, h) | inr h ↦ inr (q.0, h) ],
  λ either. elim either [ inl q ↦ (q.0, omega (arith, m q.0, q.1)) | inr q ↦ (q.0, omega (arith, m q.0, q.1)) ],
)

pub below_both : (i j : IdTree) (v e f x y g : EventTree) → greatest v ≤ value_limit → IsRestricted i e x → IsRestricted j f y → IsMeet x y g
    → IsAtOrBelow v g ↔ ((¬ ExceedsOn i v e) × (¬ ExceedsOn j v f))
below_both i j v e f x y g small r s m =
    let one = below_restricted i v e x small r in
    let other = below_restricted j v f y small s in
    let both = below_meet v x y g m in
    (λ h. (one.0 (both.0 h).0, other.0 (both.0 h).1), λ n. both.1 (one.1 n.0, other.1 n.1))
