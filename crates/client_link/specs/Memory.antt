-- What a link in memory tells beside what each link does.
use Rattle.std.specs.Prelude.{◌≡◌, ◌⊎◌, ℕ, Option, Some, IsSome}
use Rattle.client_link.specs.Links.{up}
use Rattle.client_link.specs.declared.memory_link.MemoryLink.{MemoryLink}

-- how many calls were made
abbrev pub calls_of : MemoryLink → ℕ
calls_of link = link.calls

-- which call is planned to fail, counted from 1
abbrev pub failing_of : MemoryLink → Option ℕ
failing_of link = link.failing

-- a call was made, and the plan is as it was
abbrev pub IsCall : MemoryLink → MemoryLink → Type 0
IsCall old new = (calls_of new ≡ up 1 (calls_of old)) × (failing_of new ≡ failing_of old)

-- the next call is the one that is planned to fail
abbrev pub IsDue : MemoryLink → Type 0
IsDue link = failing_of link ≡ Some (up 1 (calls_of link))

-- the link was ended
abbrev pub IsOver : MemoryLink → Type 0
IsOver link = IsSome link.ended

-- the next call fails
abbrev pub Fails : MemoryLink → Type 0
Fails link = IsDue link ⊎ IsOver link
