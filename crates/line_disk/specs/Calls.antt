-- The calls of a disk in memory.
use Rattle.std.specs.Prelude.{ℕ, List}

-- a call, by what it did
pub data Call : Type 0 where
  -- these bytes, at this offset
  Write : ℕ → List ℕ → Call
  Cut : ℕ → Call
  Sync : Call
  -- nothing
  Idle : Call
