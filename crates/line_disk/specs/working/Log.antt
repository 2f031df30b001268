-- Working definitions: the calls and bytes that a log stands for.
use Rattle.std.specs.Prelude.{ℕ, List, [], ◌∷◌}
use Rattle.line_disk.specs.Device as device
use Rattle.line_disk.specs.Device.{Done}
use Rattle.line_disk.specs.declared.log.Step.{Step}
use Rattle.line_disk.specs.declared.log.Step.TheVariants.{Written, CutTo, Synced, NotWritten, NotCut, NotSynced}
use Rattle.line_disk.specs.declared.log.Bytes.{Bytes, fold-Bytes}
use Rattle.line_disk.specs.declared.log.Bytes.TheOpen.{Bytes-F}
use Rattle.line_disk.specs.declared.log.Log.{Log, fold-Log}
use Rattle.line_disk.specs.declared.log.Log.TheOpen.{Log-F}

abbrev pub add_byte : Bytes-F (List ℕ) → List ℕ
add_byte Bytes-F.End = []
add_byte (Bytes-F.Then byte behind) = byte.value ∷ behind.value

abbrev pub bytes_in : Bytes → List ℕ
bytes_in = fold-Bytes (List ℕ) add_byte

abbrev pub done_of : Step → Done
done_of (Written at bytes) = device.Written at (bytes_in bytes.value)
done_of (CutTo n) = device.CutTo n
done_of Synced = device.Synced
done_of (NotWritten at n) = device.NotWritten at n
done_of (NotCut n) = device.NotCut n
done_of NotSynced = device.NotSynced

abbrev pub add_step : Log-F (List Done) → List Done
add_step Log-F.Empty = []
add_step (Log-F.Then step earlier) = done_of step.value ∷ earlier.value

-- the newest first
abbrev pub steps_in : Log → List Done
steps_in = fold-Log (List Done) add_step
