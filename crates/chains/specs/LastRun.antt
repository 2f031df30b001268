-- The last run of a process: its elements at the end that have one id.
use Rattle.std.specs.Prelude.{ℕ, suc, Bool, true, false, ◌&&◌, List, [], ◌∷◌, if◌then◌else◌}
use Rattle.std.specs.List.{list_all}
use Rattle.id_tree.specs.IdTree.{IdTree, Zero, One, Pair}
use Rattle.stamp.specs.declared.stamp.Stamp.{Stamp}

-- whether two ids are one
abbrev pub same_id : IdTree → IdTree → Bool
same_id Zero Zero = true
same_id One One = true
same_id (Pair a b) (Pair c d) = same_id a c && same_id b d
same_id _ _ = false

-- the first of these stamps, counted from 0, from which on all have one id
abbrev pub same_id_from : List Stamp → ℕ
same_id_from [] = 0
same_id_from (s ∷ ss) = if list_all (λ t. same_id s.id t.id) ss then 0 else suc (same_id_from ss)
