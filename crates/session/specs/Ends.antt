-- What a session did to its link and to the desk.
use Rattle.std.specs.Prelude.{◌≡◌, ◌≤◌, ◌<◌, ℕ, List, [], ◌++◌, length, take, IsSome}
use Rattle.std.specs.Io.KnownBytes.{Appends, Consumes, IsAtEnd}
use Rattle.desk.specs.Desks.{DeskState}
use Rattle.report_line.specs.Cutting.{cut_of}
use Rattle.session.specs.Exchanges.{Exchange}
use Rattle.session.specs.declared.kind.SessionEndKind.{SessionEndKind}
use Rattle.session.specs.declared.kind.SessionEndKind.TheVariants as kinds
use Rattle.session.specs.declared.flush_policy.FlushPolicy.{FlushPolicy}
use Rattle.session.specs.declared.flush_policy.FlushPolicy.TheVariants as flush_policies
use Rattle.client_link.specs.Links.{up, LinkState, IsSound, IsFault}
use Rattle.session.specs.SessionText.{NoBye, session_text, joined, most_reads, at_desk, IsSession}
use Rattle.session.specs.Turned.{EachLineIsChosen, MakesTurns}
use Rattle.session.specs.Headline.{EachLineIsRight}

-- A read after so many others, which gave these bytes: by then each line that is complete was answered, and all of the
-- replies were handed on.
pub record IsReadAt {K : Type 0} (told : K → LinkState) (link : K) (reads : ℕ) (earlier : List ℕ) (turned : List Exchange) : Type 0 where
  pub reading : K
  pub reads_are : (told reading).reads ≡ up reads (told link).reads
  pub consumed : Consumes (told link).left (told reading).left earlier
  pub answered : List Exchange
  pub later : List Exchange
  pub turned_are : turned ≡ answered ++ later
  pub each_line : length answered ≡ length (cut_of earlier).0
  pub written : Appends (told link).held (told reading).held (session_text answered)
  pub nothing_waits : (told reading).waiting ≡ []
  pub no_bye : NoBye answered
  pub is_open : IsSome (cut_of earlier).1

-- no reading ahead: it is so at each read
abbrev pub IsPrompt : {K : Type 0} → (K → LinkState) → K → List (List ℕ) → List Exchange → Type 0
IsPrompt told link pieces turned = (n : ℕ) → n < length pieces → IsReadAt told link n (joined (take n pieces)) turned

-- A moment at which the replies to these exchanges were written and handed on, and no call of the link had failed.
pub record HaveGone {K : Type 0} (told : K → LinkState) (link : K) (earlier : List Exchange) : Type 0 where
  pub moment : K
  pub written : Appends (told link).held (told moment).held (session_text earlier)
  pub nothing_waits : (told moment).waiting ≡ []
  pub sound : IsSound (told link) (told moment)

-- Before each turn all earlier replies have gone; and where the last one is counted it has gone, too, before an ending line is written.
-- So behind a write or a hand-on that failed, be it of the ending line, all lines but the last one have gone, and no later turn was made.
pub record EachHasGone {K : Type 0} (told : K → LinkState) (link : K) (turned : List Exchange) (count : ℕ) : Type 0 where
  pub before_each : (n : ℕ) → n < length turned → HaveGone told link (take n turned)
  pub last : 0 < length turned → length turned ≤ count → HaveGone told link turned

-- What each read gave, the session text of it, which was written, and the exchanges, which are the turns that were made; each
-- LINE among them is right, and is the one that the rounds choose.
pub record Ended {D K : Type 0} (keeps : D → Type 0) (told : K → LinkState) (when : FlushPolicy) (link after_link : K) (desk after : DeskState D) (kind : SessionEndKind) (count : ℕ) : Type 0 where
  pub pieces : List (List ℕ)
  pub turned : List Exchange
  pub text : List ℕ
  pub session : IsSession (at_desk (length desk.turns)) pieces kind turned text count
  pub turns : MakesTurns keeps desk turned after
  pub consumed : Consumes (told link).left (told after_link).left (joined pieces)
  pub written : Appends (told link).held (told after_link).held text
  pub reads : (told after_link).reads ≡ up (length pieces) (told link).reads
  pub few : length pieces ≤ most_reads
  pub prompt : IsPrompt told link pieces turned
  pub gone : when ≡ flush_policies.EachReply → EachHasGone told link turned count
  pub lines : EachLineIsRight desk.held turned
  pub chosen : EachLineIsChosen desk.held turned

-- What a link tells where a session ends so: a read failed, or a write or a hand-on; or none did, and nothing waits. It was not
-- ended.
abbrev pub Leaves : SessionEndKind → LinkState → LinkState → Type 0
Leaves kinds.ReadFailed old new = (new.failures ≡ up 1 old.failures) × (new.stalls ≡ old.stalls) × (new.waiting ≡ []) × (new.ended ≡ old.ended)
Leaves kinds.WriteFailed old new = IsFault old new
Leaves kinds.End old new = IsSound old new × (new.waiting ≡ []) × IsAtEnd new.left
Leaves _ old new = IsSound old new × (new.waiting ≡ [])
