-- What a link tells of itself, and what reads, writes, flushes and its end do to it.
use Rattle.std.specs.Prelude.{◌≡◌, ◌⊎◌, ℕ, ◌+◌, ◌-◌, ◌^◌, ◌<◌, ◌==◌, ◌&&◌, Bool, not, true, min, max, if◌then◌else◌, List, [], ◌++◌, length, Option, None, Some, Result, Ok, Err, OnOk}
use Rattle.std.specs.Io.KnownBytes.{Appends, Keeps, ReadConsumes, WriteAppends}

-- a count that went up by n, as far as 64 bits count
abbrev pub up : ℕ → ℕ → ℕ
up n count = max count (min (count + n) (2 ^ 64 - 1))

-- The bytes that reads will give, and those that were taken, where they are known; which of those taken wait to be handed
-- on; how many reads were made; how many calls failed; how many writes took nothing; and if the link was ended, how many calls had
-- failed by then. A link that was ended gives and takes nothing more: each later call fails, and is counted.
pub record LinkState : Type 0 where
  pub left : Option (List ℕ)
  pub held : Option (List ℕ)
  pub waiting : List ℕ
  pub reads : ℕ
  pub failures : ℕ
  pub stalls : ℕ
  pub ended : Option ℕ

-- how many calls failed by then
abbrev pub failures_after : {X E : Type 0} → Result X E → ℕ → ℕ
failures_after (Ok x) n = n
failures_after (Err e) n = up 1 n

-- how many writes of some bytes took none of them by then
abbrev pub stalls_after : {E : Type 0} → Result ℕ E → List ℕ → ℕ → ℕ
stalls_after (Ok n) buf stalls = if n == 0 && not (length buf == 0) then up 1 stalls else stalls
stalls_after (Err e) buf stalls = stalls

-- a read gave these bytes, and changed nothing of what was written; of a link that was ended it fails
pub record IsRead {E : Type 0} (old new : LinkState) (result : Result ℕ E) (buf : List ℕ) : Type 0 where
  pub bytes : ReadConsumes old.left new.left result buf
  pub counted : new.reads ≡ up 1 old.reads
  pub failures : new.failures ≡ failures_after result old.failures
  pub stalls : new.stalls ≡ old.stalls
  pub held : new.held ≡ old.held
  pub waiting : new.waiting ≡ old.waiting
  pub lasts : OnOk result (old.ended ≡ None)
  pub ended : new.ended ≡ old.ended

-- a write took some of these bytes, from their front; which of those taken wait then is not said; of a link that was ended it fails
pub record IsWrite {E : Type 0} (old new : LinkState) (result : Result ℕ E) (buf : List ℕ) : Type 0 where
  pub bytes : WriteAppends old.held new.held result buf
  pub failures : new.failures ≡ failures_after result old.failures
  pub stalls : new.stalls ≡ stalls_after result buf old.stalls
  pub left : new.left ≡ old.left
  pub reads : new.reads ≡ old.reads
  pub lasts : OnOk result (old.ended ≡ None)
  pub ended : new.ended ≡ old.ended

-- what was taken was handed on, and nothing more was taken; of a link that was ended it fails
pub record IsFlush {E : Type 0} (old new : LinkState) (result : Result (Unit {0}) E) : Type 0 where
  pub handed : OnOk result (new.waiting ≡ [])
  pub held : Keeps old.held new.held
  pub failures : new.failures ≡ failures_after result old.failures
  pub stalls : new.stalls ≡ old.stalls
  pub left : new.left ≡ old.left
  pub reads : new.reads ≡ old.reads
  pub lasts : OnOk result (old.ended ≡ None)
  pub ended : new.ended ≡ old.ended

-- ---- calls that need not wait

-- no call was counted, and what the link will give and what it took is as before
pub record IsUntouched (old new : LinkState) : Type 0 where
  pub left : Keeps old.left new.left
  pub held : new.held ≡ old.held
  pub waiting : new.waiting ≡ old.waiting
  pub reads : new.reads ≡ old.reads
  pub failures : new.failures ≡ old.failures
  pub stalls : new.stalls ≡ old.stalls
  pub ended : new.ended ≡ old.ended

-- a read that need not wait: nothing was there, which is no read; or it is a read
abbrev pub IsTriedRead : {E : Type 0} → LinkState → LinkState → Result (Option ℕ) E → List ℕ → Type 0
IsTriedRead old new (Ok None) buf = IsUntouched old new
IsTriedRead {E} old new (Ok (Some n)) buf = IsRead {E = E} old new (Ok n) buf
IsTriedRead old new (Err e) buf = IsRead old new (Err e) buf

-- A flush that need not wait: of what was taken as much was handed on, from the front, as went then, and where the answer is yes all of
-- it; of a link that was ended it fails.
pub record IsTriedFlush {E : Type 0} (old new : LinkState) (result : Result Bool E) : Type 0 where
  pub handed : result ≡ Ok true → new.waiting ≡ []
  pub rest : OnOk result ((sent : List ℕ) × (old.waiting ≡ sent ++ new.waiting))
  pub held : Keeps old.held new.held
  pub failures : new.failures ≡ failures_after result old.failures
  pub stalls : new.stalls ≡ old.stalls
  pub left : new.left ≡ old.left
  pub reads : new.reads ≡ old.reads
  pub lasts : OnOk result (old.ended ≡ None)
  pub ended : new.ended ≡ old.ended

-- how many calls had failed at the first end, where there is one more behind so many
abbrev pub at_first_end : Option ℕ → ℕ → Option ℕ
at_first_end None failures = Some failures
at_first_end (Some before) failures = Some before

-- the link was ended, and tells all else as before: what waited was not handed on, and is not any more
abbrev pub IsEnd : LinkState → LinkState → Type 0
IsEnd old new = new ≡ record old { ended = at_first_end old.ended old.failures }

-- no call failed, and the link was not ended
pub record IsSound (old new : LinkState) : Type 0 where
  pub failures : new.failures ≡ old.failures
  pub stalls : new.stalls ≡ old.stalls
  pub ended : new.ended ≡ old.ended

-- one call failed, or one write took nothing, and the link was not ended
pub record IsFault (old new : LinkState) : Type 0 where
  pub fault : ((new.failures ≡ up 1 old.failures) × (new.stalls ≡ old.stalls)) ⊎ ((new.failures ≡ old.failures) × (new.stalls ≡ up 1 old.stalls))
  pub ended : new.ended ≡ old.ended

abbrev pub FaultsOnErr : {X E : Type 0} → Result X E → LinkState → LinkState → Type 0
FaultsOnErr (Ok x) old new = IsSound old new
FaultsOnErr (Err e) old new = IsFault old new

-- What was sent of a text: all of it, or on a fault less than all, from its front.
abbrev pub Sends : {E : Type 0} → Option (List ℕ) → Option (List ℕ) → Result (Unit {0}) E → List ℕ → Type 0
Sends old new (Ok _) text = Appends old new text
Sends old new (Err _) text = (part more : List ℕ) × (text ≡ part ++ more) × (0 < length more) × Appends old new part

-- a text was sent, and nothing was read
pub record Puts {E : Type 0} (old new : LinkState) (result : Result (Unit {0}) E) (text : List ℕ) : Type 0 where
  pub sent : Sends old.held new.held result text
  pub faults : FaultsOnErr result old new
  pub left : new.left ≡ old.left
  pub reads : new.reads ≡ old.reads
