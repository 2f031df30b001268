-- What a line keeps of accepted reports, one by one.
use Rattle.std.proofs.Common.{◌≡◌, ℕ, zero, suc, ◌+◌, ◌≤◌, ◌<◌, Bool, true, false, cond, List, [], ◌∷◌, ◌++◌, length, get_or, take, drop, Some, refl, sym, ap, subst, ◌∙◌, arith, append-nil, length-append, Option, None}
use Rattle.std.specs.Prelude.{All, Contains, filter, slice_get}
use Rattle.std.specs.List.{cons_option}
use Rattle.std.proofs.lemmas.Bool.{cond-true}
use Rattle.std.proofs.lemmas.List.{take-append-drop, take_all, take_more, drop_more, length-take-le}
use Rattle.std.proofs.lemmas.List.Elements.{filter_more, filter-append, filter_map-append, All-get_or}
use Rattle.std.proofs.lemmas.Option.{slice_get-get_or, slice_get_within, get_or_from_slice_get}
use Rattle.report_line.specs.declared.report.Report.{Report}
use Rattle.report_line.specs.declared.report.Report.TheVariants.{Begin}
use Rattle.report_line.specs.declared.marked.MarkedReport.{MarkedReport}
use Rattle.chains.specs.declared.position.Position.{Position}
use Rattle.chains.specs.Processes.{Name, newborn, known}
use Rattle.chains.specs.Kept.{Kept}
use Rattle.chains.specs.Held.{Held, held_of, counting, with_report}
use Rattle.chains.specs.Admission.{report_limit, process_limit}
use Rattle.chains.specs.Folded.{IsFit, IsFolded}
use Rattle.chains.specs.Settled.{Limits, limits_of, is_settled, settled_by, settled, beside, kept_at}
use Rattle.chains.specs.working.Settling.{counted_from, IsKeptTo}
use Rattle.chains.proofs.Reaching.{fit_before}

-- ---- parts of lists

-- one report more
settled_more : (limits : Limits) (xs : List Report) (i : ℕ) (r : Report) → slice_get xs i ≡ Some r → settled_by limits (take (i + 1) xs) ≡ settled_by limits (take i xs) ++ cond (is_settled limits r) (r ∷ []) []
settled_more limits xs i r at =
    filter_more (is_settled limits) xs i r (slice_get_within xs i r at)
    ∙ ap (λ (x : Report). settled_by limits (take i xs) ++ cond (is_settled limits x) (x ∷ []) []) (get_or_from_slice_get xs i r r at)

beside_step : {X : Type 0} (b : Bool) (y : X) (l m tail : List X) → l ≡ m ++ tail → cond b (y ∷ l) l ≡ cond b (y ∷ m) m ++ tail
beside_step true y l m tail e = ap (λ (k : List _). y ∷ k) e
beside_step false y l m tail e = e

beside_push : {X : Type 0} (test : Report → Bool) (rs : List Report) (r : Report) (ys : List X) (y : X) → length ys ≡ length rs → beside test (rs ++ r ∷ []) (ys ++ y ∷ []) ≡ beside test rs ys ++ cond (test r) (y ∷ []) []
beside_push test [] r [] y e = refl
beside_push test [] r (z ∷ ys) y e = absurd (omega (arith, e))
beside_push test (x ∷ rs) r [] y e = absurd (omega (arith, e))
beside_push test (x ∷ rs) r (z ∷ ys) y e =
    beside_step (test x) z (beside test (rs ++ r ∷ []) (ys ++ y ∷ [])) (beside test rs ys) (cond (test r) (y ∷ []) []) (beside_push test rs r ys y (omega (arith, e)))

beside_more : {X : Type 0} (test : Report → Bool) (rs : List Report) (ys : List X) (i : ℕ) (r : Report) (y : X) → length ys ≡ length rs → slice_get rs i ≡ Some r → slice_get ys i ≡ Some y
    → beside test (take (i + 1) rs) (take (i + 1) ys) ≡ beside test (take i rs) (take i ys) ++ cond (test r) (y ∷ []) []
beside_more test rs ys i r y e at there =
    let inside = slice_get_within rs i r at in
    let reports : take (i + 1) rs ≡ take i rs ++ r ∷ [] = take_more rs i r inside ∙ ap (λ (x : Report). take i rs ++ x ∷ []) (get_or_from_slice_get rs i r r at) in
    let others : take (i + 1) ys ≡ take i ys ++ y ∷ [] = take_more ys i y (omega arith) ∙ ap (λ (x : _). take i ys ++ x ∷ []) (get_or_from_slice_get ys i y y there) in
    let many : length (take i ys) ≡ length (take i rs) = omega (arith, length-take-le i ys (omega arith), length-take-le i rs (omega arith)) in
    ap (λ (l : List Report). beside test l (take (i + 1) ys)) reports ∙ ap (λ (l : List _). beside test (take i rs ++ r ∷ []) l) others ∙ beside_push test (take i rs) r (take i ys) y many

shorter_step : {X : Type 0} (b : Bool) (x : X) (l : List X) (n : ℕ) → length l ≤ n → length (cond b (x ∷ l) l) ≤ n + 1
shorter_step true x l n le = omega arith
shorter_step false x l n le = omega arith

shorter : {X : Type 0} (test : X → Bool) (xs : List X) → length (filter test xs) ≤ length xs
shorter test [] = omega arith
shorter test (x ∷ xs) = let step = shorter_step (test x) x (filter test xs) (length xs) (shorter test xs) in omega arith

cons_step : (o : Option Name) (n m : List Name) → length n ≤ length m → length (cons_option o n) ≤ length (cons_option o m)
cons_step None n m le = le
cons_step (Some q) n m le = omega (arith, le)

skip_step : (o : Option Name) (n m : List Name) → length n ≤ length m → length n ≤ length (cons_option o m)
skip_step None n m le = le
skip_step (Some q) n m le = omega (arith, le)

names_step : (b : Bool) (r : Report) (l : List Report) (m : List Name) → length (known l) ≤ length m → length (known (cond b (r ∷ l) l)) ≤ length (cons_option (newborn r) m)
names_step true r l m le = cons_step (newborn r) (known l) m le
names_step false r l m le = skip_step (newborn r) (known l) m le

pub first_there : {X : Type 0} (x y : X) (xs : List X) → x ≡ y → Contains (x ∷ xs) y
first_there x y xs e = (0, omega arith, e)

pub later_there : {X : Type 0} (x y : X) (xs : List X) → Contains xs y → Contains (x ∷ xs) y
later_there x y xs there = let within = there.1 in (suc there.0, omega arith, there.2)

filtered_step : {X : Type 0} (b : Bool) (x y : X) (l xs : List X) → (Contains l y → Contains xs y) → Contains (cond b (x ∷ l) l) y → Contains (x ∷ xs) y
filtered_step false x y l xs in_rest there = later_there x y xs (in_rest there)
filtered_step true x y l xs in_rest there = by there.0 there.1 there.2
  where
    by : (k : ℕ) → k < length (x ∷ l) → get_or (x ∷ l) k y ≡ y → Contains (x ∷ xs) y
    by zero lt is = first_there x y xs is
    by (suc k) lt is = later_there x y xs (in_rest (k, omega arith, is))

-- what passes a test is one of the elements
filtered_in : {X : Type 0} (test : X → Bool) (xs : List X) (y : X) → Contains (filter test xs) y → Contains xs y
filtered_in test [] y there = there
filtered_in test (x ∷ xs) y there = filtered_step (test x) x y (filter test xs) xs (filtered_in test xs y) there

-- what is kept knows no more processes
fewer_names : (limits : Limits) (xs : List Report) → length (known (settled_by limits xs)) ≤ length (known xs)
fewer_names limits [] = omega arith
fewer_names limits (r ∷ xs) = names_step (is_settled limits r) r (settled_by limits xs) (known xs) (fewer_names limits xs)

front_names : (n : ℕ) (xs : List Report) → length (known (take n xs)) ≤ length (known xs)
front_names n xs =
    let parts : known xs ≡ known (take n xs) ++ known (drop n xs) = ap known (sym (take-append-drop n xs)) ∙ filter_map-append newborn (take n xs) (drop n xs) in
    omega (arith, ap (λ (l : List Name). length l) parts, length-append (known (take n xs)) (known (drop n xs)))

-- ---- what is kept of the first reports

-- nothing of none
pub kept_none : (held : Held) (limits : Limits) (kept : Held) → kept ≡ counted_from (counting []) held.epoch held.epoch → IsKeptTo held limits 0 kept
kept_none held limits kept e = subst (IsKeptTo held limits 0) (sym e) (record { accepted = refl; epochs = refl; front = omega arith; epoch = refl })

kept_same_at : (held : Held) (limits : Limits) (i : ℕ) (kept : Held) (r : Report) → length held.epochs ≡ length held.accepted → slice_get held.accepted i ≡ Some r → is_settled limits r ≡ false
    → IsKeptTo held limits i kept → IsKeptTo held limits (i + 1) kept
kept_same_at held limits i kept r marked at isnt h =
    let inside = slice_get_within held.accepted i r at in
    record {
      accepted = h.accepted ∙ sym (settled_more limits held.accepted i r at ∙ ap (λ (b : Bool). settled_by limits (take i held.accepted) ++ cond b (r ∷ []) []) isnt ∙ append-nil (settled_by limits (take i held.accepted)));
      epochs = h.epochs ∙ sym (beside_more (is_settled limits) held.accepted held.epochs i r (get_or held.epochs i 0) marked at (slice_get-get_or held.epochs i 0 (omega arith))
          ∙ ap (λ (b : Bool). beside (is_settled limits) (take i held.accepted) (take i held.epochs) ++ cond b (get_or held.epochs i 0 ∷ []) []) isnt
          ∙ append-nil (beside (is_settled limits) (take i held.accepted) (take i held.epochs)));
      front = h.front;
      epoch = h.epoch;
    }

-- the same where the next one is not kept
pub kept_same : (held : Held) (limits : Limits) (i : ℕ) (kept : Held) (b : Bool) → length held.epochs ≡ length held.accepted → i < length held.accepted → ((r : Report) → slice_get held.accepted i ≡ Some r → b ≡ is_settled limits r) → b ≡ false
    → IsKeptTo held limits i kept → IsKeptTo held limits (i + 1) kept
kept_same held limits i kept b marked lt is isnt h =
    let r : Report = get_or held.accepted i (Begin []) in
    let at = slice_get-get_or held.accepted i (Begin []) lt in
    kept_same_at held limits i kept r marked at (sym (is r at) ∙ isnt) h

-- one more where it is
pub kept_more : (held : Held) (limits : Limits) (i : ℕ) (kept : Held) (m : MarkedReport) → length held.epochs ≡ length held.accepted → slice_get held.accepted i ≡ Some m.report → slice_get held.epochs i ≡ Some m.epoch
    → is_settled limits m.report ≡ true → IsKeptTo held limits i kept → IsKeptTo held limits (i + 1) (with_report kept m)
kept_more held limits i kept m marked at epoch is h = record {
  accepted = ap (λ (l : List Report). l ++ m.report ∷ []) h.accepted ∙ sym (settled_more limits held.accepted i m.report at ∙ ap (λ (b : Bool). settled_by limits (take i held.accepted) ++ cond b (m.report ∷ []) []) is);
  epochs = ap (λ (l : List ℕ). l ++ m.epoch ∷ []) h.epochs ∙ sym (beside_more (is_settled limits) held.accepted held.epochs i m.report m.epoch marked at epoch
      ∙ ap (λ (b : Bool). beside (is_settled limits) (take i held.accepted) (take i held.epochs) ++ cond b (m.epoch ∷ []) []) is);
  front = omega (arith, h.front, length-append kept.accepted (m.report ∷ []));
  epoch = h.epoch;
}

-- what is kept of them is no more than they are
pub kept_few : (held : Held) (limits : Limits) (i : ℕ) (kept : Held) → IsKeptTo held limits i kept → i < length held.accepted → length held.accepted + held.epoch ≤ held.front → held.front ≤ report_limit → kept.front < report_limit
kept_few held limits i kept h lt counted within =
    let few = shorter (is_settled limits) (take i held.accepted) in
    omega (arith, h.front, few, ap (λ (l : List Report). length l) h.accepted, length-take-le i held.accepted (omega arith))

-- nor does it know more processes with the next one
pub kept_few_known : (held : Held) (limits : Limits) (i : ℕ) (kept : Held) (r : Report) → IsKeptTo held limits i kept → slice_get held.accepted i ≡ Some r → is_settled limits r ≡ true
    → length (known held.accepted) ≤ process_limit → length (known (kept.accepted ++ r ∷ [])) ≤ process_limit
kept_few_known held limits i kept r h at is few =
    let next : kept.accepted ++ r ∷ [] ≡ settled_by limits (take (i + 1) held.accepted) =
    ap (λ (l : List Report). l ++ r ∷ []) h.accepted ∙ sym (settled_more limits held.accepted i r at ∙ ap (λ (b : Bool). settled_by limits (take i held.accepted) ++ cond b (r ∷ []) []) is) in
    omega (arith, ap (λ (l : List Report). length (known l)) next, fewer_names limits (take (i + 1) held.accepted), front_names (i + 1) held.accepted)

-- an epoch that stands beside a report
pub past_at : (epochs : List ℕ) (epoch present i e : ℕ) → All (λ x. x ≤ epoch) epochs → slice_get epochs i ≡ Some e → present ≡ epoch → e ≤ present
past_at epochs epoch present i e all at same =
    let here : get_or epochs i 0 ≤ epoch = All-get_or (λ x. x ≤ epoch) epochs i 0 (slice_get_within epochs i e at) all in
    omega (arith, get_or_from_slice_get epochs i e 0 at)

-- where all that is kept is folded, the next one fits
pub fits_folded : (limits : Limits) (accepted : List Report) (i : ℕ) (r : Report) → slice_get accepted i ≡ Some r → is_settled limits r ≡ true → IsFolded (settled_by limits accepted) → IsFit (settled_by limits (take i accepted)) r
fits_folded limits accepted i r at is folded = fit_before (settled_by limits accepted) (settled_by limits (take i accepted)) (settled_by limits (drop (i + 1) accepted)) r folded parts
  where
    whole : accepted ≡ take i accepted ++ r ∷ drop (i + 1) accepted
    whole =
        sym (take-append-drop i accepted)
        ∙ ap (λ (l : List Report). take i accepted ++ l) (drop_more accepted i r (slice_get_within accepted i r at) ∙ ap (λ (x : Report). x ∷ drop (i + 1) accepted) (get_or_from_slice_get accepted i r r at))

    parts : settled_by limits accepted ≡ settled_by limits (take i accepted) ++ r ∷ settled_by limits (drop (i + 1) accepted)
    parts =
        ap (settled_by limits) whole ∙ filter-append (is_settled limits) (take i accepted) (r ∷ drop (i + 1) accepted)
        ∙ ap (λ (l : List Report). settled_by limits (take i accepted) ++ l) (cond-true (is_settled limits r) (r ∷ settled_by limits (drop (i + 1) accepted)) (settled_by limits (drop (i + 1) accepted)) is)

-- where the next one does not fit, all that is kept is not folded
pub not_folded : (limits : Limits) (accepted : List Report) (i : ℕ) (r : Report) → slice_get accepted i ≡ Some r → is_settled limits r ≡ true → ¬ IsFit (settled_by limits (take i accepted)) r → ¬ IsFolded (settled_by limits accepted)
not_folded limits accepted i r at is unfit folded = unfit (fits_folded limits accepted i r at is folded)

-- ---- all of them

pub same_limits : (limits others : Limits) → ((p : Name) → limits p ≡ others p) → limits ≡ others
same_limits limits others each = λ i p. each p i

abbrev held_by : List Report → List ℕ → ℕ → ℕ → Held
held_by accepted epochs front epoch = record { accepted = accepted; epochs = epochs; front = front; epoch = epoch; stopped = false }

same_held : (a b : List Report) (c d : List ℕ) (front epoch : ℕ) → a ≡ b → c ≡ d → held_by a c front epoch ≡ held_by b d front epoch
same_held a b c d front epoch e f = ap (λ (l : List Report). held_by l c front epoch) e ∙ ap (λ (l : List ℕ). held_by b l front epoch) f

-- all that is kept, with the front
pub kept_all : (k : Kept) (kept : Kept) (line : List Position) (limits : Limits) → ((p : Name) → limits p ≡ limits_of k.accepted line p) → length k.epochs ≡ length k.accepted → IsKeptTo (held_of k) limits (length k.accepted) (held_of kept)
    → counted_from (held_of kept) k.front k.epoch ≡ kept_at (held_of k) line
kept_all k kept line limits each marked h =
    let same = same_limits limits (limits_of k.accepted line) each in
    same_held kept.accepted (settled k.accepted line) kept.epochs (beside (is_settled (limits_of k.accepted line)) k.accepted k.epochs) k.front k.epoch
    (h.accepted ∙ ap (settled_by limits) (take_all (length k.accepted) k.accepted (omega arith)) ∙ ap (λ (f : Limits). settled_by f k.accepted) same)
    (h.epochs ∙ ap (λ (l : List Report). beside (is_settled limits) l (take (length k.accepted) k.epochs)) (take_all (length k.accepted) k.accepted (omega arith))
    ∙ ap (beside (is_settled limits) k.accepted) (take_all (length k.accepted) k.epochs (omega arith)) ∙ ap (λ (f : Limits). beside (is_settled f) k.accepted k.epochs) same)

-- ---- what stands in it

-- each kept report is one of the accepted ones
pub kept_is_accepted : (limits : Limits) (accepted : List Report) (r : Report) → Contains (settled_by limits accepted) r → Contains accepted r
kept_is_accepted limits accepted r there = filtered_in (is_settled limits) accepted r there

-- what is kept has room below the front
pub kept_counted : (held : Held) (limits : Limits) (kept : Held) (front epoch : ℕ) → IsKeptTo held limits (length held.accepted) kept → length held.accepted + held.epoch ≤ held.front → front ≡ held.front → epoch ≡ held.epoch
    → length kept.accepted + epoch ≤ front
kept_counted held limits kept front epoch h counted e f =
    let few = shorter (is_settled limits) (take (length held.accepted) held.accepted) in
    omega (arith, few, ap (λ (l : List Report). length l) h.accepted, length-take-le (length held.accepted) held.accepted (omega arith))
