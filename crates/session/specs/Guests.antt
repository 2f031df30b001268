-- A client whose session goes on over one coordinator after the other.
use Rattle.std.specs.Prelude.{◌≡◌, List, [], ◌∷◌, Option, None, Some, ⊤}
use Rattle.line_disk.specs.Disk.{View}
use Rattle.coordinator.specs.Passes.{PassEntry, PassState, IsNewPass}
use Rattle.client_link.specs.Links.{LinkState}
use Rattle.session.specs.Exchanges.{Exchange}
use Rattle.session.specs.Gained.{Gains}
use Rattle.session.specs.Lasting.{LastingState, ComesTo, AreOfPasses}
use Rattle.session.specs.declared.rest.Rest.{Rest}
use Rattle.session.specs.declared.rest.Rest.TheVariants as rests

-- A client was served by these passes, the last of which stands first, since its link was as it was when its session began. The exchanges of
-- the session are those of the entries of the passes, and it came to this: it is one session, wherever it rested in between.
pub record IsServedBy {D K : Type 0} (keeps : D → Type 0) (view : D → View) (told : K → LinkState) (begun now : K) (state : LastingState) (rest : Rest) (passes : List PassState) : Type 0 where
  pub turned : List Exchange
  pub are : AreOfPasses keeps view passes turned
  pub comes : ComesTo rest told begun now state turned

-- A client between two coordinators. When its session began no read of its link had been made: so the session has all that was read of it,
-- and no coordinator can begin it anew.
pub record IsGuest {D K : Type 0} (keeps : D → Type 0) (view : D → View) (told : K → LinkState) (now : K) (state : LastingState) (rest : Rest) : Type 0 where
  pub begun : K
  pub unread : (told begun).reads ≡ 0
  pub passes : List PassState
  pub served : IsServedBy keeps view told begun now state rest passes

-- the pass of the present coordinator, if there is one, in front of those of earlier ones
abbrev pub with_pass : Option PassState → List PassState → List PassState
with_pass None earlier = earlier
with_pass (Some pass) earlier = pass ∷ earlier

-- a client at a coordinator, which gave it this pass, or none by now
pub record IsSeated {D K : Type 0} (keeps : D → Type 0) (view : D → View) (told : K → LinkState) (now : K) (state : LastingState) (rest : Rest) (pass : Option PassState) : Type 0 where
  pub begun : K
  pub unread : (told begun).reads ≡ 0
  pub earlier : List PassState
  pub served : IsServedBy keeps view told begun now state rest (with_pass pass earlier)

-- A client was served by this pass, behind those of earlier coordinators. The link is one that the client has: a value of the type of links,
-- and not only what some link tells.
pub record IsPassOfGuest {D K : Type 0} (keeps : D → Type 0) (view : D → View) (told : K → LinkState) (pass : PassState) : Type 0 where
  pub begun : K
  pub unread : (told begun).reads ≡ 0
  pub now : K
  pub state : LastingState
  pub rest : Rest
  pub earlier : List PassState
  pub served : IsServedBy keeps view told begun now state rest (pass ∷ earlier)

-- ---- what a call does for a client

-- a session that rests at this is not over
abbrev pub IsOpen : Rest → Type 0
IsOpen (rests.Over kind) = ⊥
IsOpen _ = ⊤

-- the pass that a client has is kept, or it gets a new one, or none
abbrev pub IsGiven : Option PassState → Option PassState → Type 0
IsGiven None None = ⊤
IsGiven None (Some pass) = IsNewPass pass
IsGiven (Some pass) after = after ≡ Some pass

-- The pass of a client gained the entries of some exchanges. A client that had none gets a new one for that.
abbrev pub HasGained : {D : Type 0} → (D → Type 0) → (D → View) → Option PassState → Option PassState → Type 0
HasGained keeps view None None = ⊤
HasGained keeps view None (Some new) = ∥ ((fresh : PassState) × (IsNewPass fresh × ((more : List Exchange) × Gains keeps view fresh more new))) ∥₁
HasGained keeps view (Some old) None = ⊥
HasGained keeps view (Some old) (Some new) = ∥ ((more : List Exchange) × Gains keeps view old more new) ∥₁

-- what was answered by a pass, if there is one
abbrev pub entries_of : Option PassState → List PassEntry
entries_of None = []
entries_of (Some pass) = pass.entries
