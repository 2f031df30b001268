-- Room that was made.
use Rattle.std.proofs.Common.{◌≡◌, ℕ, ◌+◌, ◌<◌, ◌≤◌, List, length, get_or, set, map, Option, Some, Result, Ok, Err, sym, ap, subst, ◌∙◌, arith}
use Rattle.std.specs.Prelude.{OnOk, vec_len, vec_capacity}
use Rattle.std.proofs.lemmas.List.{map-set, get_or-set_same, length-map}
use Rattle.std.proofs.Math.Seq.{map-set_same}
use Rattle.chains.specs.declared.process.Process.{Process}
use Rattle.chains.specs.working.Keeping.{view_of}
use Rattle.chains.specs.working.Noting.{HasPlace}
use Rattle.chains.specs.working.Room.{element_room}

-- a process whose room alone changed is kept as before
pub kept_same : (processes : List Process) (i : ℕ) (old new : Process) → old ≡ get_or processes i old → view_of new ≡ view_of old → map view_of (set processes i new) ≡ map view_of processes
kept_same processes i old new at same = map-set_same view_of processes i new old (same ∙ ap view_of at)

-- room for one more element
pub has_place : {E : Type 0} (processes : List Process) (number : Option ℕ) (i : ℕ) (new : Process) (r : Result (Unit {0}) E) → number ≡ Some i → i < length processes → OnOk r (vec_len new.stable + 1 ≤ vec_capacity new.stable)
    → OnOk r (HasPlace number (map element_room (set processes i new)))
has_place processes number i new (Err e) is within room = tt
has_place processes number i new (Ok u) is within room =
    let there : get_or (map element_room (set processes i new)) i 0 ≡ element_room new =
    ap (λ (l : List ℕ). get_or l i 0) (map-set element_room processes i new) ∙ get_or-set_same (map element_room processes) i (element_room new) 0 (omega (arith, within, length-map processes element_room)) in
    let more : 0 < get_or (map element_room (set processes i new)) i 0 = omega (arith, there, room) in
    subst (λ (o : Option ℕ). HasPlace o (map element_room (set processes i new))) (sym is) more
