-- What is known of a session that a worker served.
use Rattle.std.specs.Prelude.{ℕ}
use Rattle.line_disk.specs.Disk.{View}
use Rattle.coordinator.specs.Passes.{PassState, IsNewPass}
use Rattle.session.specs.declared.kind.SessionEndKind.{SessionEndKind}
use Rattle.session.specs.Gained.{LinkServed}
use Rattle.client_link.specs.Links.{LinkState}

-- A link was served with a new pass, and ended so: this is the link now, and the pass is this now.
pub record WasServed {D K : Type 0} (keeps : D → Type 0) (view : D → View) (told : K → LinkState) (now : K) (pass : PassState) (kind : SessionEndKind) (count : ℕ) : Type 0 where
  pub before : K
  pub fresh : PassState
  pub is_new : IsNewPass fresh
  pub served : LinkServed keeps view told before now fresh pass kind count
