-- Copies of names and of what is kept, one by one.
use Rattle.std.proofs.Common.{◌≡◌, ℕ, ◌+◌, ◌<◌, Bool, true, false, List, [], ◌∷◌, ◌++◌, length, get_or, map, take, refl, sym, ap, ◌∙◌, arith}
use Rattle.std.specs.Prelude.{nat_eq, if◌then◌else◌}
use Rattle.std.specs.Cmp.Lexicographic.{pointwise}
use Rattle.indexmap.specs.IndexSet.{insert_key}
use Rattle.std.specs.Str.{bytes_eq}
use Rattle.std.specs.List.{list_any}
use Rattle.std.proofs.lemmas.Map.Views.{Contains-from_any}
use Rattle.std.proofs.lemmas.List.{map_push, take_more, get_or-map, get_or-take, length-map, length-take-le}
use Rattle.std.proofs.lemmas.Slice.Eq.{bytes_eq-Decides}
use Rattle.chains.specs.declared.process.Process.{Process}
use Rattle.chains.specs.Processes.{Name}
use Rattle.chains.specs.working.Inside.{AreDistinctNames}
use Rattle.chains.specs.working.Keeping.{KeptProcess, view_of}

pub views_more : (ks copy : List Process) (i : ℕ) (k same : Process) → i < length ks → k ≡ get_or ks i k → view_of same ≡ view_of k → map view_of copy ≡ take i (map view_of ks)
    → map view_of (copy ++ same ∷ []) ≡ take (i + 1) (map view_of ks)
views_more ks copy i k same lt is as' before =
    map_push view_of copy same ∙ ap (λ (vs : List KeptProcess). vs ++ view_of same ∷ []) before
    ∙ ap (λ (v : KeptProcess). take i (map view_of ks) ++ v ∷ []) (as' ∙ ap view_of is ∙ sym (get_or-map view_of ks i k (view_of k) lt))
    ∙ sym (take_more (map view_of ks) i (view_of k) (omega (arith, lt, length-map ks view_of)))

-- ---- names

-- a name does not stand before its place
fresh_by : (names : List Name) (i : ℕ) (q : Name) (b : Bool) → AreDistinctNames names → i < length names → q ≡ get_or names i q → list_any (bytes_eq q) (take i names) ≡ b → b ≡ false
fresh_by names i q false distinct lt is e = refl
fresh_by names i q true distinct lt is e =
    let there = Contains-from_any (λ x y h. (bytes_eq-Decides x y).0 h) q (take i names) e in
    let before : there.0 < i = omega (arith, there.1, length-take-le i names (omega (arith, lt))) in
    let same = distinct there.0 i q (omega (arith, before, lt)) lt (sym (get_or-take i names there.0 q before) ∙ there.2 ∙ is) in
    absurd (omega arith)

pub names_more : (names keys : List Name) (i : ℕ) (q copy : Name) → AreDistinctNames names → i < length names → q ≡ get_or names i q → copy ≡ q → keys ≡ take i names → insert_key (pointwise nat_eq) keys copy ≡ take (i + 1) names
names_more names keys i q copy distinct lt is same before =
    let fresh = fresh_by names i q (list_any (bytes_eq q) (take i names)) distinct lt is refl in
    ap (λ (ks : List Name). insert_key (pointwise nat_eq) ks copy) before ∙ ap (insert_key (pointwise nat_eq) (take i names)) same
    ∙ ap (λ (b : Bool). if b then take i names else take i names ++ q ∷ []) fresh
    ∙ ap (λ (p : Name). take i names ++ p ∷ []) is ∙ sym (take_more names i q lt)
