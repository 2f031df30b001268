-- Marks that count the entries at each turn.
use Rattle.std.proofs.Common.{◌≡◌, ◌≢◌, ℕ, zero, suc, ◌+◌, ◌-◌, ◌<◌, ◌≤◌, ◌==◌, Bool, if◌then◌else◌, List, [], ◌∷◌, ◌++◌, length, take, get_or, set, Some, refl, sym, ap, ◌∙◌, inl, inr, arith, length-set, length-append, get_or-set_same, get_or-set_other}
use Rattle.std.specs.Prelude.{slice_get, sum}
use Rattle.std.proofs.lemmas.Bool.{cases_eq, eq-eqb, ne_eqb}
use Rattle.std.proofs.lemmas.List.Sums.{sum_by_push, sum_by-append, sum_by-cons, sum_by-set}
use Rattle.std.proofs.lemmas.List.Elements.{All-push}
use Rattle.std.proofs.lemmas.Option.{slice_get_within}
use Rattle.desk.specs.declared.turn.Turn.{Turn}
use Rattle.coordinator.specs.Passes.{PassEntry, PassState, Rises}
use Rattle.chains.specs.Held.{Held}
use Rattle.coordinator.specs.Closing.{turn_of, entries_of, times, IsAtTurn, IsStrange}
use Rattle.coordinator.specs.working.Marks.{IsMarked}

-- 1 where the entry has this turn
pub one_if : ℕ → PassEntry → ℕ
one_if n e = if e.receipt.turn == n then 1 else 0

one_if_same : (n : ℕ) (e : PassEntry) → e.receipt.turn ≡ n → one_if n e ≡ 1
unfolding one_if
one_if_same n e is = ap (λ (b : Bool). if b then 1 else 0) (eq-eqb e.receipt.turn n is)

one_if_other : (n : ℕ) (e : PassEntry) → e.receipt.turn ≢ n → one_if n e ≡ 0
unfolding one_if
one_if_other n e not = ap (λ (b : Bool). if b then 1 else 0) (ne_eqb e.receipt.turn n not)

pub times-snoc : (n : ℕ) (es : List PassEntry) (e : PassEntry) → times n (es ++ e ∷ []) ≡ times n es + one_if n e
unfolding one_if
times-snoc n es e = sum_by_push (λ (x : PassEntry). if x.receipt.turn == n then 1 else 0) es e

pub times-append : (n : ℕ) (xs ys : List PassEntry) → times n (xs ++ ys) ≡ times n xs + times n ys
times-append n xs ys = sum_by-append (λ (x : PassEntry). if x.receipt.turn == n then 1 else 0) xs ys

times-cons : (n : ℕ) (e : PassEntry) (es : List PassEntry) → times n (e ∷ es) ≡ one_if n e + times n es
unfolding one_if
times-cons n e es = sum_by-cons (λ (x : PassEntry). if x.receipt.turn == n then 1 else 0) e es

-- before an entry of a pass stands no other of its turn
pub times-before : (last : ℕ) (es : List PassEntry) (k : ℕ) (d : PassEntry) → Rises last es → k < length es → (last < (get_or es k d).receipt.turn) × (times (get_or es k d).receipt.turn (take k es) ≡ 0)
times-before last [] k d r in_range = absurd (omega arith)
times-before last (e ∷ es) zero d r in_range = (r.0, refl)
times-before last (e ∷ es) (suc k) d r in_range =
    let rest = times-before e.receipt.turn es k d r.1 (omega arith) in
    let n = (get_or es k d).receipt.turn in
    let not : e.receipt.turn ≢ n = λ same. absurd (omega (arith, rest.0, same)) in
    (omega (arith, r.0, rest.0), times-cons n e (take k es) ∙ omega (arith, one_if_other n e not, rest.1))

pub at-below : (ts : List Turn) (e : PassEntry) → IsAtTurn ts e → e.receipt.turn - 1 < length ts
at-below ts e at = slice_get_within ts (e.receipt.turn - 1) (turn_of e) at.1

module _ (ts : List Turn) (marks : List ℕ) (es : List PassEntry) (e : PassEntry)
    (marked : IsMarked ts marks es) (fits : IsAtTurn ts e) (long : length marks ≡ length ts)
    (free : get_or marks (e.receipt.turn - 1) 0 ≡ 0) where
  counts_more : (i : ℕ) → i < length (set marks (e.receipt.turn - 1) 1) → get_or (set marks (e.receipt.turn - 1) 1) i 0 ≡ times (i + 1) (es ++ e ∷ [])
  counts_more i in_range =
      let k = e.receipt.turn - 1 in
      let below : k < length marks = omega (arith, at-below ts e fits, long) in
      let within : i < length marks = omega (arith, length-set marks k 1) in
      let positive = fits.0 in
      elim (cases_eq i k) [
        | inl same ↦
            let next : e.receipt.turn ≡ i + 1 = omega (arith, positive, same) in
            let old : get_or marks i 0 ≡ times (i + 1) es = marked.counts i within in
            let was : get_or marks i 0 ≡ 0 = ap (λ (n : ℕ). get_or marks n 0) same ∙ free in
            let now : get_or (set marks k 1) i 0 ≡ 1 = ap (λ (n : ℕ). get_or (set marks k 1) n 0) same ∙ get_or-set_same marks k 1 0 below in
            omega (arith, now, was, old, times-snoc (i + 1) es e, one_if_same (i + 1) e next)
        | inr apart ↦
            let not : e.receipt.turn ≢ i + 1 = λ same. apart (omega (arith, positive, same)) in
            let now : get_or (set marks k 1) i 0 ≡ get_or marks i 0 = get_or-set_other marks k i 1 0 apart in
            omega (arith, now, marked.counts i within, times-snoc (i + 1) es e, one_if_other (i + 1) e not)
      ]

  once_more : (i : ℕ) → i < length (set marks (e.receipt.turn - 1) 1) → get_or (set marks (e.receipt.turn - 1) 1) i 0 ≤ 1
  once_more i in_range =
      let k = e.receipt.turn - 1 in
      let below : k < length marks = omega (arith, at-below ts e fits, long) in
      let within : i < length marks = omega (arith, length-set marks k 1) in
      elim (cases_eq i k) [
        | inl same ↦ omega (arith, ap (λ (n : ℕ). get_or (set marks k 1) n 0) same ∙ get_or-set_same marks k 1 0 below)
        | inr apart ↦ omega (arith, get_or-set_other marks k i 1 0 apart, marked.once i within)
      ]

  pub marked_more : IsMarked ts (set marks (e.receipt.turn - 1) 1) (es ++ e ∷ [])
  marked_more =
      let k = e.receipt.turn - 1 in
      let below : k < length marks = omega (arith, at-below ts e fits, long) in
      let summed : sum (set marks k 1) + get_or marks k 0 ≡ sum marks + 1 = sum_by-set (λ (n : ℕ). n) marks k 1 0 below in
      record {
        counts = counts_more;
        once = once_more;
        total = omega (arith, summed, free, marked.total, length-append es (e ∷ []));
        fits = All-push (IsAtTurn ts) es e marked.fits fits;
      }

-- an entry whose turn is marked already stands at the turn of an earlier pass
pub strange_twice : (opening : Held) (ts : List Turn) (passes : List PassState) (place : ℕ) (p : PassState) (marks : List ℕ) (k : ℕ) (e : PassEntry)
    → slice_get passes place ≡ Some p → 0 < p.number → Rises 0 p.entries → k < length p.entries → e ≡ get_or p.entries k e
    → IsMarked ts marks (entries_of (take place passes) ++ take k p.entries)
    → 0 < e.receipt.turn → e.receipt.turn - 1 < length marks → get_or marks (e.receipt.turn - 1) 0 ≢ 0
    → IsStrange opening ts passes p.number
strange_twice opening ts passes place p marks k e stands positive rises in_range is marked from_one below marked-already =
    let earlier = entries_of (take place passes) in
    let n = e.receipt.turn in
    let before : times (get_or p.entries k e).receipt.turn (take k p.entries) ≡ 0 = (times-before 0 p.entries k e rises in_range).1 in
    let none : times n (take k p.entries) ≡ 0 = ap (λ (x : PassEntry). times x.receipt.turn (take k p.entries)) is ∙ before in
    let next : n - 1 + 1 ≡ n = omega arith in
    let counted : get_or marks (n - 1) 0 ≡ times n (earlier ++ take k p.entries) = marked.counts (n - 1) below ∙ ap (λ (m : ℕ). times m (earlier ++ take k p.entries)) next in
    record {
      place = place;
      pass = p;
      entry = e;
      stands = stands;
      number_is = refl;
      positive = positive;
      has = (k, in_range, sym is);
      strange = inr (inl (omega (arith, counted, marked-already, none, times-append n earlier (take k p.entries))));
    }

sum-cons : (x : ℕ) (xs : List ℕ) → sum (x ∷ xs) ≡ x + sum xs
sum-cons x xs = sum_by-cons (λ (n : ℕ). n) x xs

pub sum_small : (xs : List ℕ) → ((i : ℕ) → i < length xs → get_or xs i 0 ≤ 1) → sum xs ≤ length xs
sum_small [] once = omega arith
sum_small (x ∷ xs) once =
    omega (arith, sum-cons x xs, once 0 (omega arith), sum_small xs (λ i in_range. once (suc i) (omega arith)))

-- marks of at most 1 that add up to their number are all 1
pub all_marked : (xs : List ℕ) (i : ℕ) → ((k : ℕ) → k < length xs → get_or xs k 0 ≤ 1) → length xs ≤ sum xs → i < length xs → get_or xs i 0 ≡ 1
all_marked [] i once full in_range = absurd (omega arith)
all_marked (x ∷ xs) zero once full in_range =
    omega (arith, sum-cons x xs, once 0 (omega arith), sum_small xs (λ k below. once (suc k) (omega arith)))
all_marked (x ∷ xs) (suc i) once full in_range =
    all_marked xs i (λ k below. once (suc k) (omega arith)) (omega (arith, sum-cons x xs, once 0 (omega arith))) (omega arith)

-- where all turns are marked, each is that of one entry
pub marked_all : (ts : List Turn) (es : List PassEntry) (marks : List ℕ) → IsMarked ts marks es → length marks ≡ length ts → length ts ≤ sum marks
    → (n : ℕ) → 0 < n → n ≤ length ts → times n es ≡ 1
marked_all ts es marks marked long full n positive within =
    let below : n - 1 < length marks = omega arith in
    let next : n - 1 + 1 ≡ n = omega arith in
    sym (ap (λ (m : ℕ). times m es) next) ∙ sym (marked.counts (n - 1) below) ∙ all_marked marks (n - 1) marked.once (omega arith) below

-- no two entries that are marked stand at one turn
pub marked_once : (ts : List Turn) (es : List PassEntry) (marks : List ℕ) → IsMarked ts marks es → length marks ≡ length ts → (n : ℕ) → 0 < n → n ≤ length ts → times n es ≤ 1
marked_once ts es marks marked long n positive within =
    let below : n - 1 < length marks = omega arith in
    let next : n - 1 + 1 ≡ n = omega arith in
    let counted : get_or marks (n - 1) 0 ≡ times n es = marked.counts (n - 1) below ∙ ap (λ (m : ℕ). times m es) next in
    omega (arith, counted, marked.once (n - 1) below)
