-- What callers see of a disk in memory.
use Rattle.std.specs.Prelude.{ℕ, ◌-◌, List, length, vec_capacity, Option}
use Rattle.line_disk.specs.Disk.{View, one_more}
use Rattle.line_disk.specs.Calls.{Call}
use Rattle.line_disk.specs.Replay.{replay, image_at}
use Rattle.line_disk.specs.Plans.{planned_at}
use Rattle.line_disk.specs.working.Noting.{calls_in}
use Rattle.line_disk.specs.declared.tape.Tape.{Tape}
use Rattle.line_disk.specs.declared.memory.MemoryDisk.{MemoryDisk}
use Rattle.line_disk.specs.declared.plan.Effect.{Effect}
use Rattle.line_disk.specs.declared.plan.Planned.{Planned}

-- the calls on it, the oldest first
abbrev pub calls_on : Tape → List Call
calls_on tape = calls_in tape.changes.items tape.idle

-- what is seen of it as a disk
abbrev pub view_of : Tape → View
view_of tape = replay tape.first.items (calls_on tape)

-- what it holds
abbrev pub tape_bytes : Tape → List ℕ
tape_bytes tape = tape.bytes.items

-- how many more calls that change it are noted without memory
abbrev pub room_in : Tape → ℕ
room_in tape = vec_capacity tape.changes - length tape.changes.items

-- what the disk holds
abbrev pub bytes_of : MemoryDisk → List ℕ
bytes_of disk = disk.tape.bytes.items

-- the bytes after k calls and n bytes of the next one, if that is a write
abbrev pub image_after : MemoryDisk → ℕ → ℕ → List ℕ
image_after disk k n = image_at disk.tape.first.items (calls_on disk.tape) k n

-- what is seen of the disk
abbrev pub disk_view : MemoryDisk → View
disk_view disk = view_of disk.tape

-- how many more calls that change it are noted without memory
abbrev pub room_of : MemoryDisk → ℕ
room_of disk = room_in disk.tape

-- how many calls failed
abbrev pub disk_failures : MemoryDisk → ℕ
disk_failures disk = disk.failures

-- the calls that are to fail
abbrev pub plan_of : MemoryDisk → List Planned
plan_of disk = disk.failing.items

-- what the next call is to do, if it is to fail
abbrev pub planned_next : MemoryDisk → Option Effect
planned_next disk = planned_at disk.failing.items (one_more (length (calls_on disk.tape)))
