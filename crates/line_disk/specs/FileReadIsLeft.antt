-- A law that the model of a disk over a file asks for: what a read gives is among what a crash could leave.
use Rattle.std.specs.Prelude.{◌≡◌, ℕ, ◌-◌, List, length, drop}
use Rattle.std.proofs.Common.{sym, ap, subst, arith}
use Rattle.line_disk.specs.Disk.{Leaves}
use Rattle.line_disk.specs.Device.{Done, Leaving, KeepsModel, held, up_to, view_by}

pub up_to_all : (calls : List Done) → up_to (length calls) calls ≡ calls
up_to_all calls =
    let none : length calls - length calls ≡ 0 = omega arith in
    ap (λ (n : ℕ). drop n calls) none

pub read_left : (leaves : Leaving) (first : List ℕ) (calls : List Done) → KeepsModel leaves → Leaves (view_by leaves first calls) (held first calls)
read_left leaves first calls keeps = subst (λ (l : List Done). leaves first l (held first calls)) (sym (up_to_all calls)) (keeps.read first calls)
