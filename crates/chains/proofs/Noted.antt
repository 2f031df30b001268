-- What is noted of a process.
use Rattle.std.proofs.Common.{◌≡◌, ℕ, ◌+◌, ◌<◌, Bool, true, false, List, [], ◌∷◌, ◌++◌, length, set, get_or, map, Option, Some, None, position, refl, sym, ap, subst, ◌∙◌}
use Rattle.std.specs.Prelude.{nat_eq}
use Rattle.std.specs.List.{list_any}
use Rattle.std.specs.Cmp.Lexicographic.{pointwise}
use Rattle.std.proofs.lemmas.List.{map-set, get_or-map}
use Rattle.chains.specs.declared.process.Process.{Process}
use Rattle.chains.specs.Processes.{Name}
use Rattle.chains.specs.working.Keeping.{KeptProcess, view_of}
use Rattle.chains.specs.working.Noting.{noted, taken, born, changed_at, TakenAt, IsTakenBy}

-- a process that was looked up and changed, as it is kept
pub changed : (processes : List Process) (i : ℕ) (old new : Process) (f : KeptProcess → KeptProcess) → i < length processes → old ≡ get_or processes i old → view_of new ≡ f (view_of old)
    → map view_of (set processes i new) ≡ changed_at f i (map view_of processes)
changed processes i old new f lt at is =
    let there : view_of old ≡ get_or (map view_of processes) i (born 0) = ap view_of at ∙ sym (get_or-map view_of processes i old (born 0) lt) in
    map-set view_of processes i new ∙ ap (set (map view_of processes) i) (is ∙ ap f there)

pub noted_stable : (index run : ℕ) (b : Bool) (old new : Process) → b ≡ true → new.reports ≡ old.reports + 1 → new.last ≡ Some index → new.birth ≡ old.birth → new.absorbed ≡ old.absorbed → new.stable.items ≡ old.stable.items ++ index ∷ [] → new.same_id_from ≡ run → view_of new ≡ noted index run b (view_of old)
noted_stable index run b old new t e f g h i j = rw t cc

pub noted_other : (index run : ℕ) (b : Bool) (old new : Process) → b ≡ false → new.reports ≡ old.reports + 1 → new.last ≡ Some index → new.birth ≡ old.birth → new.absorbed ≡ old.absorbed → new.stable.items ≡ old.stable.items → new.same_id_from ≡ run → view_of new ≡ noted index run b (view_of old)
noted_other index run b old new t e f g h i j = rw t cc

-- a retirement that is found is absorbed
pub taken_there : (names : List Name) (kept after : List KeptProcess) (retired : Name) (i : ℕ) → position (pointwise nat_eq retired) names ≡ Some i → after ≡ changed_at taken i kept → IsTakenBy names kept retired after
taken_there names kept after retired i at is = subst (λ (o : Option ℕ). TakenAt names retired o kept after) (sym at) is

pub taken_nowhere : (names : List Name) (kept : List KeptProcess) (retired : Name) → position (pointwise nat_eq retired) names ≡ None → list_any (pointwise nat_eq retired) names ≡ false → IsTakenBy names kept retired kept
taken_nowhere names kept retired at none = subst (λ (o : Option ℕ). TakenAt names retired o kept kept) (sym at) (none, refl)
