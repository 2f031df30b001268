-- What is kept of a process says what the accepted list does.
use Rattle.std.proofs.Common.{◌≡◌, ◌≢◌, ℕ, suc, ◌<◌, Bool, true, false, cond, List, [], ◌∷◌, length, get_or, map, Option, Some, None, refl, sym, ap, subst, ◌∙◌, arith}
use Rattle.std.specs.Prelude.{◌||◌, slice_get, option_and_then}
use Rattle.std.specs.Option.{unwrap_or, option_map, option_map_or}
use Rattle.std.specs.List.{list_any, cons_option}
use Rattle.std.specs.Str.{bytes_eq}
use Rattle.std.specs.Cmp.Lexicographic.{nat_list_eq_equiv}
use Rattle.std.proofs.lemmas.Bool.{true≢false}
use Rattle.std.proofs.lemmas.Map.Views.{list_any-from_Contains}
use Rattle.std.proofs.lemmas.List.{get_or-map, length-map}
use Rattle.std.proofs.lemmas.Option.{slice_get-get_or, slice_get_within, get_or_from_slice_get}
use Rattle.report_line.specs.declared.report.Report.{Report}
use Rattle.chains.specs.declared.process.Process.{Process}
use Rattle.chains.specs.Processes.{Name, known, newborn, first_of, last_passing, is_numbered_of, is_birth_of, last_report, last_epoch, birth_report}
use Rattle.chains.specs.Elements.{name_of}
use Rattle.chains.specs.working.Keeping.{KeptProcess, kept_of, view_of, last_index}
use Rattle.chains.proofs.LookUps.{known_from}
use Rattle.chains.proofs.Lists.{IsWithin, last_index-within, last_index-get}

-- the processes stand beside the names
abbrev pub AreKept : List Report → List Process → Type 0
AreKept accepted processes = map view_of processes ≡ map (kept_of accepted) (known accepted)

pub as_many : (accepted : List Report) (processes : List Process) → AreKept accepted processes → length processes ≡ length (known accepted)
as_many accepted processes h = sym (length-map processes view_of) ∙ ap length h ∙ length-map (known accepted) (kept_of accepted)

pub kept_there : (accepted : List Report) (processes : List Process) (i : ℕ) (p : Name) (k : Process) → AreKept accepted processes → name_of accepted i ≡ Some p → view_of (get_or processes i k) ≡ kept_of accepted p
kept_there accepted processes i p k h is =
    let within = slice_get_within (known accepted) i p is in
    let there : i < length processes = omega (arith, within, as_many accepted processes h) in
    sym (get_or-map view_of processes i k (view_of k) there) ∙ ap (λ (ks : List KeptProcess). get_or ks i (view_of k)) h
    ∙ get_or-map (kept_of accepted) (known accepted) i p (view_of k) within ∙ ap (kept_of accepted) (get_or_from_slice_get (known accepted) i p p is)

-- what was looked up at the index is what is kept
pub looked_up : (accepted : List Report) (processes : List Process) (i : ℕ) (p : Name) (k : Process) → AreKept accepted processes → name_of accepted i ≡ Some p → k ≡ get_or processes i k → view_of k ≡ kept_of accepted p
looked_up accepted processes i p k h is there = ap view_of there ∙ kept_there accepted processes i p k h is

-- ---- the last report

pub last_within : (accepted : List Report) (processes : List Process) (i j : ℕ) (p : Name) (k : Process) → AreKept accepted processes → name_of accepted i ≡ Some p → k ≡ get_or processes i k → k.last ≡ Some j → j < length accepted
last_within accepted processes i j p k h is there last =
    let index : last_index (is_numbered_of p) accepted ≡ Some j = sym (ap (λ (v : KeptProcess). v.last) (looked_up accepted processes i p k h is there)) ∙ last in
    subst (λ (o : Option ℕ). IsWithin o (length accepted)) index (last_index-within (is_numbered_of p) accepted)

last_of : (accepted : List Report) (processes : List Process) (i : ℕ) (p : Name) (k : Process) → AreKept accepted processes → name_of accepted i ≡ Some p → k ≡ get_or processes i k → option_and_then (λ j. slice_get accepted j) k.last ≡ last_report p accepted
last_of accepted processes i p k h is there = ap (λ (v : KeptProcess). option_and_then (λ j. slice_get accepted j) v.last) (looked_up accepted processes i p k h is there) ∙ last_index-get (is_numbered_of p) accepted

pub last_none : (accepted : List Report) (processes : List Process) (i : ℕ) (p : Name) (k : Process) → AreKept accepted processes → name_of accepted i ≡ Some p → k ≡ get_or processes i k → k.last ≡ None → None ≡ last_report p accepted
last_none accepted processes i p k h is there none = ap (option_and_then (λ j. slice_get accepted j)) (sym none) ∙ last_of accepted processes i p k h is there

pub last_some : (accepted : List Report) (processes : List Process) (i j : ℕ) (p : Name) (k : Process) (r : Report) → AreKept accepted processes → name_of accepted i ≡ Some p → k ≡ get_or processes i k → k.last ≡ Some j → r ≡ get_or accepted j r → Some r ≡ last_report p accepted
last_some accepted processes i j p k r h is there some at =
    ap (λ (x : Report). Some x) at ∙ sym (slice_get-get_or accepted j r (last_within accepted processes i j p k h is there some))
    ∙ ap (option_and_then (λ j. slice_get accepted j)) (sym some) ∙ last_of accepted processes i p k h is there

-- ---- its epoch

epoch_of : (accepted : List Report) (epochs : List ℕ) (processes : List Process) (i : ℕ) (p : Name) (k : Process) → AreKept accepted processes → name_of accepted i ≡ Some p → k ≡ get_or processes i k
    → option_and_then (λ j. slice_get epochs j) k.last ≡ last_epoch p accepted epochs
epoch_of accepted epochs processes i p k h is there = ap (λ (v : KeptProcess). option_and_then (λ j. slice_get epochs j) v.last) (looked_up accepted processes i p k h is there)

pub no_epoch : (accepted : List Report) (epochs : List ℕ) (processes : List Process) (i : ℕ) (p : Name) (k : Process) → AreKept accepted processes → name_of accepted i ≡ Some p → k ≡ get_or processes i k
    → k.last ≡ None → None ≡ last_epoch p accepted epochs
no_epoch accepted epochs processes i p k h is there none = ap (option_and_then (λ j. slice_get epochs j)) (sym none) ∙ epoch_of accepted epochs processes i p k h is there

pub some_epoch : (accepted : List Report) (epochs : List ℕ) (processes : List Process) (i j : ℕ) (p : Name) (k : Process) → AreKept accepted processes → name_of accepted i ≡ Some p → k ≡ get_or processes i k
    → k.last ≡ Some j → slice_get epochs j ≡ last_epoch p accepted epochs
some_epoch accepted epochs processes i j p k h is there some = ap (option_and_then (λ j. slice_get epochs j)) (sym some) ∙ epoch_of accepted epochs processes i p k h is there

-- ---- the birth

any_of : (p : Name) (o : Option Name) (ks : List Name) → list_any (bytes_eq p) (cons_option o ks) ≡ (option_map_or (λ q. bytes_eq p q) o false || list_any (bytes_eq p) ks)
any_of p None ks = refl
any_of p (Some q) ks = refl

pub any_birth : (p : Name) (accepted : List Report) → list_any (bytes_eq p) (known accepted) ≡ list_any (is_birth_of p) accepted
any_birth p [] = refl
any_birth p (r ∷ rs) = any_of p (newborn r) (known rs) ∙ ap (λ (b : Bool). is_birth_of p r || b) (any_birth p rs)

one_of : (a b : Bool) (o : Option ℕ) → (b ≡ true → (j : ℕ) × (o ≡ Some j)) → (a || b) ≡ true → (j : ℕ) × (first_of (option_map (λ i. suc i) o) (cond a (Some 0) None) ≡ Some j)
one_of a b (Some j) f e = (suc j, refl)
one_of true b None f e = (0, refl)
one_of false b None f e = absurd (let h = f e in let g = h.1 in cc)

pub some_index : {X : Type 0} (test : X → Bool) (xs : List X) → list_any test xs ≡ true → (j : ℕ) × (last_index test xs ≡ Some j)
some_index test [] e = absurd (true≢false (sym e))
some_index test (x ∷ xs) e = one_of (test x) (list_any test xs) (last_index test xs) (some_index test xs) e

-- the index of the report by which a known process is born
birth_index : (accepted : List Report) (i : ℕ) (p : Name) → name_of accepted i ≡ Some p → (j : ℕ) × (last_index (is_birth_of p) accepted ≡ Some j)
birth_index accepted i p is =
    some_index (is_birth_of p) accepted (sym (any_birth p accepted) ∙ list_any-from_Contains nat_list_eq_equiv p (known accepted) (known_from accepted i p is))

pub birth_within : (accepted : List Report) (processes : List Process) (i : ℕ) (p : Name) (k : Process) → AreKept accepted processes → name_of accepted i ≡ Some p → k ≡ get_or processes i k → k.birth < length accepted
birth_within accepted processes i p k h is there =
    let index = birth_index accepted i p is in
    let within : index.0 < length accepted = subst (λ (o : Option ℕ). IsWithin o (length accepted)) index.1 (last_index-within (is_birth_of p) accepted) in
    let same : k.birth ≡ index.0 = ap (λ (v : KeptProcess). v.birth) (looked_up accepted processes i p k h is there) ∙ ap (λ (o : Option ℕ). unwrap_or o 0) index.1 in
    omega (arith, within, same)

pub birth_is : (accepted : List Report) (processes : List Process) (i : ℕ) (p : Name) (k : Process) (r : Report) → AreKept accepted processes → name_of accepted i ≡ Some p → k ≡ get_or processes i k → r ≡ get_or accepted k.birth r → birth_report p accepted ≡ Some r
birth_is accepted processes i p k r h is there at =
    let index = birth_index accepted i p is in
    let same : k.birth ≡ index.0 = ap (λ (v : KeptProcess). v.birth) (looked_up accepted processes i p k h is there) ∙ ap (λ (o : Option ℕ). unwrap_or o 0) index.1 in
    sym (last_index-get (is_birth_of p) accepted) ∙ ap (option_and_then (λ j. slice_get accepted j)) index.1 ∙ ap (λ (j : ℕ). slice_get accepted j) (sym same)
    ∙ slice_get-get_or accepted k.birth r (birth_within accepted processes i p k h is there) ∙ ap (λ (x : Report). Some x) (sym at)

-- the name of a process, where its number is one
pub named : (accepted : List Report) (i : ℕ) → i < length (known accepted) → (p : Name) × (name_of accepted i ≡ Some p)
named accepted i lt = (get_or (known accepted) i [], slice_get-get_or (known accepted) i [] lt)

some_same : {X : Type 0} (x y : X) → Some x ≡ Some y → x ≡ y
some_same x y e = cc

passes_step : {X : Type 0} (test : X → Bool) (y x : X) (o : Option X) (b : Bool) → test y ≡ b → (o ≡ Some x → test x ≡ true) → first_of o (cond b (Some y) None) ≡ Some x → test x ≡ true
passes_step test y x (Some z) b t f e = f e
passes_step test y x None true t f e = ap test (sym (some_same y x e)) ∙ t
passes_step test y x None false t f e = absurd cc

-- what is the last that passes does pass
pub passes : {X : Type 0} (test : X → Bool) (xs : List X) (x : X) → last_passing test xs ≡ Some x → test x ≡ true
passes test [] x e = absurd cc
passes test (y ∷ ys) x e = passes_step test y x (last_passing test ys) (test y) refl (passes test ys x) e

birth_of_none : (p : Name) (o : Option Name) → option_map_or (λ q. bytes_eq p q) o false ≡ true → o ≢ None
birth_of_none p None e h = true≢false (sym e)
birth_of_none p (Some q) e h = absurd cc

-- a process is born by the report by which one is
pub is_newborn : (p : Name) (accepted : List Report) (r : Report) → birth_report p accepted ≡ Some r → newborn r ≢ None
is_newborn p accepted r e = birth_of_none p (newborn r) (passes (is_birth_of p) accepted r e)
