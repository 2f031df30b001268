-- Working definitions: the parts of a turn.
use Rattle.std.specs.Prelude.{◌≡◌, ◌⊎◌, ◌↔◌, ℕ, List, [], ◌∷◌, ◌++◌, Option, Some, None, codes, false, ⊤}
use Rattle.id_tree.specs.IdTree.{IdTree}
use Rattle.id_tree.specs.Spelling as ids
use Rattle.line_disk.specs.Disk.{View, Leaves, LeavesAlways}
use Rattle.line_disk.specs.declared.disk.Disk.{Ghosts}
use Rattle.record_file.specs.File.{Said, Stands}
use Rattle.record_file.specs.Store.{disk_of, found_records, is_stopped, HasRecords}
use Rattle.record_file.specs.declared.store.Store.{Store}
use Rattle.report_line.specs.declared.call.Call.{Call}
use Rattle.report_line.specs.declared.reply.Outcome.TheVariants.{Unknown}
use Rattle.report_line.specs.declared.reply.Reply.{Reply}
use Rattle.report_line.specs.declared.reply.Reply.TheVariants.{Fail}
use Rattle.chains.specs.Held.{Held}
use Rattle.desk.specs.Records.{IsRecordOf, recorded_by, Admits}
use Rattle.desk.specs.Files.{UsesDevice, CountsReply}
use Rattle.desk.specs.Placed.{IsPlaced}

-- the text of a registered id, `0` for none
abbrev pub id_text : Option IdTree → List ℕ
id_text (Some id) = ids.spelling id
id_text None = codes "0"

-- With FAIL unknown the record is one that opening admits.
abbrev pub IsFollowed : Held → Said → Reply → Type 0
IsFollowed held one (Fail Unknown) = (after : Held) × Admits held one after
IsFollowed held one _ = ⊤

-- the file stands for the records, or for them and this one
abbrev pub StandsWith : List Said → Said → List ℕ → Type 0
StandsWith said one file = Stands said file ⊎ Stands (said ++ one ∷ []) file

-- What a turn with this record and this reply did to a store, where so much of it is acknowledged.
pub record Writes {D : Type 0} {g : Ghosts D} (keeps : D → Type 0) (view : D → View) (failed : D → ℕ) (old new : Store D g) (one : Said) (more : List Said) (reply : Reply) : Type 0 where
  pub found : found_records new ≡ found_records old
  pub records : (said : List Said) → keeps (disk_of old) → HasRecords view old said → is_stopped new ≡ false → HasRecords view new (said ++ more)
  pub left : (said : List Said) → keeps (disk_of old) → HasRecords view old said → (c : List ℕ) → Leaves (view (disk_of new)) c
      → Stands (said ++ more) c ⊎ ((reply ≡ Fail Unknown) × Stands (said ++ one ∷ []) c)
  pub placed : (said : List Said) → keeps (disk_of old) → HasRecords view old said → IsPlaced reply said one (view (disk_of old)) (view (disk_of new))
  pub any_moment : (said : List Said) → keeps (disk_of old) → HasRecords view old said → LeavesAlways (StandsWith said one) (view (disk_of old)) (view (disk_of new))
  pub unmoved : ¬ UsesDevice reply → new ≡ old
  pub cause : CountsReply reply (failed (disk_of old)) (failed (disk_of new))
  pub premise : keeps (disk_of new) ↔ keeps (disk_of old)

-- what a crash leaves while the turn of a call is under way
abbrev pub StandsBy : List Said → ℕ → Call → List ℕ → Type 0
StandsBy said epoch call file = Stands said file ⊎ ((one : Said) × IsRecordOf epoch call one × Stands (said ++ one ∷ []) file)

-- what a crash leaves after a turn of a call
abbrev pub MayBeLeftBy : Reply → List Said → ℕ → Call → List ℕ → Type 0
MayBeLeftBy reply said epoch call file =
    Stands (said ++ recorded_by call reply) file ⊎ ((one : Said) × IsRecordOf epoch call one × (reply ≡ Fail Unknown) × Stands (said ++ one ∷ []) file)

-- What the turn of a call over this epoch did to a store.
pub record WritesBy {D : Type 0} {g : Ghosts D} (keeps : D → Type 0) (view : D → View) (failed : D → ℕ) (old new : Store D g) (epoch : ℕ) (call : Call) (reply : Reply) : Type 0 where
  pub found : found_records new ≡ found_records old
  pub records : (said : List Said) → keeps (disk_of old) → HasRecords view old said → is_stopped new ≡ false → HasRecords view new (said ++ recorded_by call reply)
  pub left : (said : List Said) → keeps (disk_of old) → HasRecords view old said → (c : List ℕ) → Leaves (view (disk_of new)) c → MayBeLeftBy reply said epoch call c
  pub placed : (said : List Said) (one : Said) → keeps (disk_of old) → HasRecords view old said → IsRecordOf epoch call one → IsPlaced reply said one (view (disk_of old)) (view (disk_of new))
  pub any_moment : (said : List Said) → keeps (disk_of old) → HasRecords view old said → LeavesAlways (StandsBy said epoch call) (view (disk_of old)) (view (disk_of new))
  pub unmoved : ¬ UsesDevice reply → new ≡ old
  pub cause : CountsReply reply (failed (disk_of old)) (failed (disk_of new))
  pub premise : keeps (disk_of new) ↔ keeps (disk_of old)
