-- What a session did to its link and to the pass of its client.
use Rattle.std.specs.Prelude.{◌≡◌, ◌≤◌, ℕ, List, [], ◌∷◌, ◌++◌, length, map}
use Rattle.std.specs.Io.KnownBytes.{Appends, Consumes}
use Rattle.line_disk.specs.Disk.{View}
use Rattle.coordinator.specs.Passes.{PassEntry, PassState}
use Rattle.coordinator.specs.Standing.{IsStandingTurn}
use Rattle.session.specs.Exchanges.{Exchange}
use Rattle.session.specs.declared.kind.SessionEndKind.{SessionEndKind}
use Rattle.client_link.specs.Links.{up, LinkState, IsEnd}
use Rattle.session.specs.SessionText.{joined, most_reads, at_pass, IsSession}
use Rattle.session.specs.Ends.{IsPrompt, EachHasGone, Leaves}

-- an entry's call, its turn's reply, and the reply that is shown for it
abbrev pub exchange_of : PassEntry → Exchange
exchange_of entry = record { call = entry.call; reply = entry.receipt.reply; shown = entry.shown }

-- A desk made the turn, what is shown is shown over what that desk held right after it, and after OK and SETTLED the call's record stands
-- in the file. The pass has one entry more for it, which has this exchange.
abbrev pub GainsOne : {D : Type 0} → (D → Type 0) → (D → View) → PassState → Exchange → PassState → Type 0
GainsOne keeps view old exchange new = (made : IsStandingTurn keeps view old exchange.call new) × (exchange ≡ exchange_of made.entry)

-- the pass was answered these exchanges, one after the other
abbrev pub GainsEach : {D : Type 0} → (D → Type 0) → (D → View) → PassState → List Exchange → PassState → Type 0
GainsEach keeps view old [] new = new ≡ old
GainsEach keeps view old (exchange ∷ exchanges) new = (between : PassState) × GainsOne keeps view old exchange between × GainsEach keeps view between exchanges new

-- the entries that the pass gained have just these exchanges, in their order
pub record Gains {D : Type 0} (keeps : D → Type 0) (view : D → View) (old : PassState) (exchanges : List Exchange) (new : PassState) : Type 0 where
  pub each : GainsEach keeps view old exchanges new
  pub entries : List PassEntry
  pub gained : new.entries ≡ old.entries ++ entries
  pub exchanges_are : exchanges ≡ map exchange_of entries
  pub number : new.number ≡ old.number

-- A session over a pass of a coordinator whose desk is on such a disk: what each read gave, the session text of it, which was written,
-- and the exchanges, which are those of the entries that the pass gained; before each turn all earlier replies had gone, and before an
-- ending line all replies; and what the link tells then: it was ended as the last thing, since no call failed behind its end.
pub record LinkServed {D K : Type 0} (keeps : D → Type 0) (view : D → View) (told : K → LinkState) (before now : K) (fresh pass : PassState) (kind : SessionEndKind) (count : ℕ) : Type 0 where
  pub pieces : List (List ℕ)
  pub turned : List Exchange
  pub text : List ℕ
  pub session : IsSession (at_pass fresh) pieces kind turned text count
  pub gains : Gains keeps view fresh turned pass
  pub consumed : Consumes (told before).left (told now).left (joined pieces)
  pub written : Appends (told before).held (told now).held text
  pub reads : (told now).reads ≡ up (length pieces) (told before).reads
  pub few : length pieces ≤ most_reads
  pub prompt : IsPrompt told before pieces turned
  pub gone : EachHasGone told before turned count
  pub last : K
  pub leaves : Leaves kind (told before) (told last)
  pub ends : IsEnd (told last) (told now)
