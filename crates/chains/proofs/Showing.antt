-- The elements of a process, one by one.
use Rattle.std.proofs.Common.{◌≡◌, ◌≢◌, ℕ, zero, suc, ◌+◌, ◌<◌, List, [], ◌∷◌, ◌++◌, length, get_or, Option, Some, None, refl, sym, ap, ◌∙◌, arith, length-append}
use Rattle.std.specs.Prelude.{filter, slice_get, if◌then◌else◌}
use Rattle.std.specs.Option.{is_some}
use Rattle.std.specs.List.{cons_option, filter_map}
use Rattle.std.proofs.lemmas.Option.{same_Some, slice_get-get_or, slice_get_within, slice_get_past}
use Rattle.stamp.specs.declared.stamp.Stamp.{Stamp}
use Rattle.report_line.specs.declared.report.Report.{Report}
use Rattle.chains.specs.Processes.{Name, last_report}
use Rattle.chains.specs.Elements.{name_of, stable_made, makes_stable, stable_of, present_in, elements_of, elements}
use Rattle.chains.specs.declared.process.Process.{Process}
use Rattle.chains.specs.working.Keeping.{KeptProcess, indexes_from}
use Rattle.chains.proofs.Keeps.{AreKept, looked_up}
use Rattle.chains.proofs.Counting.{stable_there, elements_is, one_present}

-- ---- what an index stands for

-- the index, counted from n, of the element of which thing k is made
pub record IsMadeAt {X Y : Type 0} (made : X → Option Y) (n : ℕ) (xs : List X) (ys : List Y) (k j : ℕ) : Type 0 where
  pub place : ℕ
  pub source : X
  pub offset : j ≡ n + place
  pub there : slice_get xs place ≡ Some source
  pub makes : made source ≡ slice_get ys k
  pub among : Some source ≡ slice_get (filter (λ x. is_some (made x)) xs) k

made_later : {X Y : Type 0} (made : X → Option Y) (n : ℕ) (x : X) (xs : List X) (ys zs : List Y) (k m j : ℕ) → slice_get ys k ≡ slice_get zs m
    → slice_get (filter (λ y. is_some (made y)) xs) k ≡ slice_get (filter (λ y. is_some (made y)) (x ∷ xs)) m → IsMadeAt made (suc n) xs ys k j → IsMadeAt made n (x ∷ xs) zs m j
made_later made n x xs ys zs k m j same one h =
    record { place = suc h.place; source = h.source; offset = omega (arith, h.offset); there = h.there; makes = h.makes ∙ same; among = h.among ∙ one }

-- what is sifted of a list, by what is made of its first element
sifted_by : {X Y : Type 0} (made : X → Option Y) (x : X) (xs : List X) (o : Option Y) → made x ≡ o
    → (if is_some o then x ∷ filter (λ y. is_some (made y)) xs else filter (λ y. is_some (made y)) xs) ≡ filter (λ y. is_some (made y)) (x ∷ xs)
sifted_by made x xs o is = rw is refl

made_step : {X Y : Type 0} (made : X → Option Y) (n : ℕ) (x : X) (xs : List X) (k j : ℕ) (o : Option Y) → made x ≡ o
    → ((i : ℕ) → slice_get (indexes_from made (suc n) xs) i ≡ Some j → IsMadeAt made (suc n) xs (filter_map made xs) i j)
    → slice_get ((if is_some o then n ∷ [] else []) ++ indexes_from made (suc n) xs) k ≡ Some j → IsMadeAt made n (x ∷ xs) (cons_option o (filter_map made xs)) k j
made_step made n x xs k j None is later at =
    made_later made n x xs (filter_map made xs) (filter_map made xs) k k j refl (ap (λ l. slice_get l k) (sifted_by made x xs None is)) (later k at)
made_step made n x xs zero j (Some y) is later at =
    record { place = 0; source = x; offset = omega (arith, same_Some n j at); there = refl; makes = is; among = ap (λ l. slice_get l 0) (sifted_by made x xs (Some y) is) }
made_step made n x xs (suc k) j (Some y) is later at =
    made_later made n x xs (filter_map made xs) (y ∷ filter_map made xs) k (suc k) j refl (ap (λ l. slice_get l (suc k)) (sifted_by made x xs (Some y) is)) (later k at)

pub made_at : {X Y : Type 0} (made : X → Option Y) (n : ℕ) (xs : List X) (k j : ℕ) → slice_get (indexes_from made n xs) k ≡ Some j → IsMadeAt made n xs (filter_map made xs) k j
made_at made n [] k j at = absurd cc
made_at made n (x ∷ xs) k j at = made_step made n x xs k j (made x) refl (λ i. made_at made (suc n) xs i j) at

-- what is kept of the stable elements says which report made one
pub stable_at : (accepted : List Report) (processes : List Process) (i k j : ℕ) (p : Name) (kept : Process) → AreKept accepted processes → name_of accepted i ≡ Some p → kept ≡ get_or processes i kept
    → k < length (stable_of p accepted) → j ≡ get_or kept.stable.items k j → IsMadeAt (stable_made p) 0 accepted (stable_of p accepted) k j
stable_at accepted processes i k j p kept h is there lt at =
    let items = ap (λ (v : KeptProcess). v.stable) (looked_up accepted processes i p kept h is there) in
    let within : k < length kept.stable.items = omega (arith, lt, stable_there accepted processes i p kept h is there) in
    made_at (stable_made p) 0 accepted k j (ap (λ (js : List ℕ). slice_get js k) (sym items) ∙ slice_get-get_or kept.stable.items k j within ∙ ap (λ (m : ℕ). Some m) (sym at))

pub source_within : (p : Name) (accepted : List Report) (k j : ℕ) → IsMadeAt (stable_made p) 0 accepted (stable_of p accepted) k j → j < length accepted
source_within p accepted k j h = omega (arith, h.offset, slice_get_within accepted h.place h.source h.there)

-- the report at the index is the source
source_is : (p : Name) (accepted : List Report) (k j : ℕ) (r : Report) → (h : IsMadeAt (stable_made p) 0 accepted (stable_of p accepted) k j) → r ≡ get_or accepted j r → r ≡ h.source
source_is p accepted k j r h at =
    let same : j ≡ h.place = omega (arith, h.offset) in
    let found = sym (slice_get-get_or accepted j r (source_within p accepted k j h)) ∙ ap (λ (m : ℕ). slice_get accepted m) same ∙ h.there in
    at ∙ same_Some (get_or accepted j r) h.source found

pub source_makes : (p : Name) (accepted : List Report) (k j : ℕ) (r : Report) → IsMadeAt (stable_made p) 0 accepted (stable_of p accepted) k j → r ≡ get_or accepted j r → stable_made p r ≡ slice_get (stable_of p accepted) k
source_makes p accepted k j r h at = ap (λ (x : Report). stable_made p x) (source_is p accepted k j r h at) ∙ h.makes

pub source_among : (p : Name) (accepted : List Report) (k j : ℕ) (r : Report) → IsMadeAt (stable_made p) 0 accepted (stable_of p accepted) k j → r ≡ get_or accepted j r → Some r ≡ slice_get (filter (makes_stable p) accepted) k
source_among p accepted k j r h at = ap (λ (x : Report). Some x) (source_is p accepted k j r h at) ∙ h.among

-- ---- element k

pub get_front : {X : Type 0} (xs ys : List X) (k : ℕ) → k < length xs → slice_get (xs ++ ys) k ≡ slice_get xs k
get_front [] ys k lt = absurd (omega (arith, lt))
get_front (x ∷ xs) ys zero lt = refl
get_front (x ∷ xs) ys (suc k) lt = get_front xs ys k (omega (arith, lt))

pub get_behind : {X : Type 0} (xs ys : List X) → slice_get (xs ++ ys) (length xs) ≡ slice_get ys 0
get_behind [] ys = refl
get_behind (x ∷ xs) ys = get_behind xs ys

some_get : {X : Type 0} (xs : List X) (k : ℕ) → k < length xs → slice_get xs k ≢ None
some_get [] k lt e = omega (arith, lt)
some_get (x ∷ xs) zero lt e = cc
some_get (x ∷ xs) (suc k) lt e = some_get xs k (omega (arith, lt)) e

of_process : (accepted : List Report) (i k : ℕ) (p : Name) → name_of accepted i ≡ Some p → slice_get (elements accepted i) k ≡ slice_get (elements_of p accepted) k
of_process accepted i k p is = ap (λ (es : List Stamp). slice_get es k) (elements_is accepted i p is)

-- one that lasts
pub shows_stable : (accepted : List Report) (i k n : ℕ) (p : Name) (r : Report) (s : Stamp) → name_of accepted i ≡ Some p → n ≡ length (stable_of p accepted) → k < n
    → stable_made p r ≡ slice_get (stable_of p accepted) k → (stable_made p r ≢ None → stable_made p r ≡ Some s) → Some s ≡ slice_get (elements accepted i) k
shows_stable accepted i k n p r s is all lt made shown =
    let within : k < length (stable_of p accepted) = omega (arith, all, lt) in
    sym (shown (λ e. some_get (stable_of p accepted) k within (sym made ∙ e))) ∙ made ∙ sym (get_front (stable_of p accepted) (present_in (last_report p accepted)) k within) ∙ sym (of_process accepted i k p is)

-- the present state
pub shows_present : (accepted : List Report) (i k n : ℕ) (p : Name) (last : Option Report) (o : Option Stamp) → name_of accepted i ≡ Some p → n ≡ length (stable_of p accepted) → k ≡ n
    → last ≡ last_report p accepted → o ≡ slice_get (present_in last) 0 → o ≡ slice_get (elements accepted i) k
shows_present accepted i k n p last o is all at e shown =
    shown ∙ ap (λ (r : Option Report). slice_get (present_in r) 0) e ∙ sym (get_behind (stable_of p accepted) (present_in (last_report p accepted)))
    ∙ ap (λ (m : ℕ). slice_get (elements_of p accepted) m) (sym (at ∙ all)) ∙ sym (of_process accepted i k p is)

-- none behind it
pub shows_none : (accepted : List Report) (i k n : ℕ) (p : Name) → name_of accepted i ≡ Some p → n ≡ length (stable_of p accepted) → n < k → None ≡ slice_get (elements accepted i) k
shows_none accepted i k n p is all lt =
    let sum = length-append (stable_of p accepted) (present_in (last_report p accepted)) in
    let one = one_present (last_report p accepted) in
    sym (of_process accepted i k p is ∙ slice_get_past (elements_of p accepted) k (omega arith))
