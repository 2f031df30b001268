-- Turns whose numbers rise.
use Rattle.std.proofs.Common.{◌≡◌, ℕ, zero, suc, ◌+◌, ◌<◌, ◌≤◌, List, [], ◌∷◌, ◌++◌, length, get_or, refl, ap, arith}
use Rattle.coordinator.specs.Passes.{PassEntry, Rises, last_turn_after}

pub last-get : (last : ℕ) (es : List PassEntry) (k : ℕ) (e : PassEntry) → k + 1 ≡ length es → e ≡ get_or es k e → e.receipt.turn ≡ last_turn_after last es
last-get last [] k e some is = absurd (omega arith)
last-get last (x ∷ []) zero e some is = ap (λ (y : PassEntry). y.receipt.turn) is
last-get last (x ∷ []) (suc k) e some is = absurd (omega arith)
last-get last (x ∷ y ∷ es) zero e some is = absurd (omega arith)
last-get last (x ∷ y ∷ es) (suc k) e some is = last-get x.receipt.turn (y ∷ es) k e (omega arith) is

pub last-snoc : (last : ℕ) (es : List PassEntry) (e : PassEntry) → last_turn_after last (es ++ e ∷ []) ≡ e.receipt.turn
last-snoc last [] e = refl
last-snoc last (x ∷ es) e = last-snoc x.receipt.turn es e

pub rises-snoc : (last : ℕ) (es : List PassEntry) (e : PassEntry) → Rises last es → last_turn_after last es < e.receipt.turn → Rises last (es ++ e ∷ [])
rises-snoc last [] e r above = (above, tt)
rises-snoc last (x ∷ es) e r above = (r.0, rises-snoc x.receipt.turn es e r.1 above)

pub rises-last : (last : ℕ) (es : List PassEntry) → Rises last es → last ≤ last_turn_after last es
rises-last last [] r = omega arith
rises-last last (x ∷ es) r = omega (arith, r.0, rises-last x.receipt.turn es r.1)

pub rises-below : (last : ℕ) (es : List PassEntry) (n : ℕ) → Rises last es → last_turn_after last es < n → (k : ℕ) (e : PassEntry) → k < length es → (get_or es k e).receipt.turn < n
rises-below last [] n r above k e in_range = absurd (omega arith)
rises-below last (x ∷ es) n r above zero e in_range = omega (arith, rises-last x.receipt.turn es r.1)
rises-below last (x ∷ es) n r above (suc k) e in_range = rises-below x.receipt.turn es n r.1 above k e (omega arith)

-- the last entry may be replaced by one of the same turn
pub rises-replace : (last : ℕ) (es : List PassEntry) (e e' : PassEntry) → e'.receipt.turn ≡ e.receipt.turn → Rises last (es ++ e ∷ []) → Rises last (es ++ e' ∷ [])
rises-replace last [] e e' same r = (omega (arith, r.0), tt)
rises-replace last (x ∷ es) e e' same r = (r.0, rises-replace x.receipt.turn es e e' same r.1)
