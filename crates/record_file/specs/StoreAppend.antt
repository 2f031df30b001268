-- What an append to a store does, and what it leaves.
use Rattle.std.specs.Prelude.{◌≡◌, ◌↔◌, ℕ, List, [], ◌∷◌, ◌++◌, false}
use Rattle.line_disk.specs.Disk.{View, Leaves, LeavesAlways}
use Rattle.line_disk.specs.declared.disk.Disk.{Ghosts}
use Rattle.record_file.specs.Append.{LeavesAfter, CameAsFar, CountsAppend, OnDone}
use Rattle.record_file.specs.File.{Said}
use Rattle.record_file.specs.Resting.{IsBeforeOrAfter}
use Rattle.record_file.specs.Store.{disk_of, found_records, is_stopped, HasRecords}
use Rattle.record_file.specs.declared.appended.Appended.{Appended}
use Rattle.record_file.specs.declared.appended.Appended.TheVariants.{Done}
use Rattle.record_file.specs.declared.store.Store.{Store}

-- The store was asked to append this record, and this is the answer.
pub record IsAppend {D : Type 0} {g : Ghosts D} (keeps : D → Type 0) (view : D → View) (failed : D → ℕ) (old : Store D g) (one : Said) (new : Store D g) (result : Appended) : Type 0 where
  pub done : (said : List Said) → keeps (disk_of old) → HasRecords view old said → OnDone result (HasRecords view new (said ++ one ∷ []))
  -- What a crash may leave at any moment of the call, and after it.
  pub any_moment : (said : List Said) → keeps (disk_of old) → HasRecords view old said → LeavesAlways (IsBeforeOrAfter said one) (view (disk_of old)) (view (disk_of new))
  pub after : (said : List Said) → keeps (disk_of old) → HasRecords view old said → (c : List ℕ) → Leaves (view (disk_of new)) c → LeavesAfter result said one c
  -- Before and Unknown differ in whether the gate was written.
  pub so_far : (said : List Said) → keeps (disk_of old) → HasRecords view old said → CameAsFar result said one (view (disk_of old)) (view (disk_of new))
  pub stops : (is_stopped new ≡ false) ↔ (result ≡ Done)
  pub cause : CountsAppend result (failed (disk_of old)) (failed (disk_of new))
  pub premise : keeps (disk_of new) ↔ keeps (disk_of old)
  pub found : found_records new ≡ found_records old
