-- A session in steps, which can rest between any two lines, and goes on over the same coordinator or another one.
use Rattle.std.specs.Prelude.{◌≡◌, ◌≢◌, ◌⊎◌, ℕ, ◌+◌, ◌<◌, List, [], ◌∷◌, ◌++◌, length, ⊤}
use Rattle.std.specs.List.{flat_map, AllByRecursion}
use Rattle.std.specs.Io.KnownBytes.{Appends, Consumes}
use Rattle.report_line.specs.Cutting.{IsLine, ended, cut_of}
use Rattle.line_disk.specs.Disk.{View}
use Rattle.coordinator.specs.Passes.{PassState, IsNewPass}
use Rattle.client_link.specs.Links.{up, LinkState, IsSound}
use Rattle.session.specs.Exchanges.{Exchange}
use Rattle.session.specs.declared.kind.SessionEndKind.{SessionEndKind}
use Rattle.session.specs.declared.kind.SessionEndKind.TheVariants as kinds
use Rattle.session.specs.declared.rest.Rest.{Rest}
use Rattle.session.specs.declared.rest.Rest.TheVariants as rests
use Rattle.session.specs.declared.stage.Stage.{Stage}
use Rattle.session.specs.declared.stage.Stage.TheVariants as stages
use Rattle.session.specs.SessionText.{NoBye, Mean, at_passes, session_text, ending_line, ending_count, joined, AreNonEmptyReads, EndReason, IsSession}
use Rattle.session.specs.Ends.{IsPrompt, EachHasGone, Leaves}
use Rattle.session.specs.Gained.{Gains}

-- What a session keeps between two steps: the bytes that were read behind the last line that was answered, and where it stands.
pub record LastingState : Type 0 where
  pub unanswered : List ℕ
  pub stage : Stage

-- ---- what was done so far

-- these are the bytes that reads gave and those that were taken since the link began, by so many reads
pub record HasDone {K : Type 0} (told : K → LinkState) (begun now : K) (pieces : List (List ℕ)) (text : List ℕ) : Type 0 where
  pub consumed : Consumes (told begun).left (told now).left (joined pieces)
  pub written : Appends (told begun).held (told now).held text
  pub reads : (told now).reads ≡ up (length pieces) (told begun).reads

-- the ending line, where it was written
abbrev pub ending_at : Stage → List ℕ
ending_at (stages.Ending kind) = ending_line kind
ending_at _ = []

-- the session can end so by a last line that waits to be handed on
abbrev pub HasLastLine : SessionEndKind → Type 0
HasLastLine kinds.Bye = ⊤
HasLastLine kinds.TooLong = ⊤
HasLastLine kinds.Memory = ⊤
HasLastLine _ = ⊥

-- Where a session stands of which the reads gave these pieces, the first lines of them were answered, with these exchanges, and this is the
-- rest of them: so many lines of its text were handed on, which are all of them, or all but the last.
abbrev pub StandsSo : Stage → List ℕ → List (List ℕ) → List (List ℕ) → List ℕ → List ℕ → List Exchange → ℕ → Type 0
StandsSo stages.Listening waiting pieces front rest unanswered turned count = NoBye turned × ((rest ≡ unanswered) × ((count ≡ length turned) × (waiting ≡ [])))
StandsSo stages.Replying waiting pieces front rest unanswered turned count = NoBye turned × ((rest ≡ unanswered) × (count + 1 ≡ length turned))
StandsSo (stages.Ending kind) waiting pieces front rest unanswered turned count =
    HasLastLine kind × (EndReason kind at_passes pieces (cut_of (joined pieces)).1 front (cut_of rest).0 turned × (count + 1 ≡ length turned + ending_count kind))
StandsSo (stages.Ended kind) waiting pieces front rest unanswered turned count = ⊥

-- A session rests so. Since its link was as it was when the session began, the reads gave some pieces; the first lines of these were
-- answered, with just these exchanges; what was written is their text; each reply but the last had gone before the next turn was made, and all
-- of them before each read; and no call failed.
pub record Rests {K : Type 0} (told : K → LinkState) (begun now : K) (state : LastingState) (turned : List Exchange) : Type 0 where
  pub pieces : List (List ℕ)
  pub front : List (List ℕ)
  pub rest : List ℕ
  pub count : ℕ
  pub lines : AllByRecursion IsLine front
  pub read : joined pieces ≡ flat_map ended front ++ rest
  pub gave : AreNonEmptyReads pieces
  pub mean : Mean front turned
  pub done : HasDone told begun now pieces (session_text turned ++ ending_at state.stage)
  pub sound : IsSound (told begun) (told now)
  pub prompt : IsPrompt told begun pieces turned
  pub gone : EachHasGone told begun turned count
  pub stands : StandsSo state.stage (told now).waiting pieces front rest state.unanswered turned count

-- ---- how it ends

-- The session is over: over all passes it is one session text, which was written, as of a session that was never interrupted. It does
-- not end because turns, passes or reads are used up.
pub record IsOver {K : Type 0} (told : K → LinkState) (begun now : K) (turned : List Exchange) (kind : SessionEndKind) : Type 0 where
  pub pieces : List (List ℕ)
  pub text : List ℕ
  pub count : ℕ
  pub session : IsSession at_passes pieces kind turned text count
  pub endless : kind ≢ kinds.Endless
  pub done : HasDone told begun now pieces text
  pub prompt : IsPrompt told begun pieces turned
  pub gone : EachHasGone told begun turned count
  pub leaves : Leaves kind (told begun) (told now)

-- behind a step: it is over, or it rests
abbrev pub ComesTo : {K : Type 0} → Rest → (K → LinkState) → K → K → LastingState → List Exchange → Type 0
ComesTo (rests.Over kind) told begun now state turned = IsOver told begun now turned kind
ComesTo _ told begun now state turned = Rests told begun now state turned

-- ---- why it rests

-- a line that is not too long can be read off the front
abbrev pub HasLine : List ℕ → Type 0
HasLine unanswered = (line rest : List ℕ) × (IsLine line × (unanswered ≡ ended line ++ rest))

-- the ending line was written and was not handed on yet
abbrev pub IsEnding : Stage → Type 0
IsEnding (stages.Ending kind) = ⊤
IsEnding _ = ⊥

-- a session that stands so answers lines
abbrev pub Answers : Stage → Type 0
Answers stages.Listening = ⊤
Answers stages.Replying = ⊤
Answers _ = ⊥

-- After everything was handed on, a read found nothing. If nothing waited, it was a read of the link as it was. No line is there.
pub record IsReadInVain {K : Type 0} (finds_nothing : K → K → Type 0) (old new : K) (before after : LastingState) : Type 0 where
  pub flushed : K
  pub found : finds_nothing flushed new
  pub at_once : before.stage ≡ stages.Listening → flushed ≡ old
  pub listens : after.stage ≡ stages.Listening
  pub no_line : (cut_of after.unanswered).0 ≡ []

-- Why a session rests at this after `receive`: a read found nothing; a flush could not hand on everything; or there is something to do, because
-- everything was handed on and a line is there or bytes came, or the ending line was written. `IsOver` says how a session ended.
abbrev pub IsReceived : {K : Type 0} → (K → K → Type 0) → (K → K → Type 0) → Rest → K → K → LastingState → LastingState → Type 0
IsReceived finds_nothing takes_no_more rests.Read old new before after = IsReadInVain finds_nothing old new before after
IsReceived finds_nothing takes_no_more rests.Write old new before after = takes_no_more old new
IsReceived finds_nothing takes_no_more rests.Due old new before after =
    ((after.stage ≡ stages.Listening) × (HasLine after.unanswered ⊎ (length before.unanswered < length after.unanswered))) ⊎ (IsEnding after.stage × ¬ IsEnding before.stage)
IsReceived finds_nothing takes_no_more (rests.Over kind) old new before after = ⊤
IsReceived finds_nothing takes_no_more _ old new before after = ⊥

-- a line was answered, or the ending line was written
abbrev pub HasMoved : LastingState → LastingState → Type 0
HasMoved before after = (length after.unanswered < length before.unanswered) ⊎ (IsEnding after.stage × ¬ IsEnding before.stage)

-- Why a session rests at this after `answer`: a flush could not hand on everything, at once or after a line was answered; no line is there;
-- lines were answered; or one is there that got no turn, and the session does not end.
abbrev pub IsAnsweredTo : {K : Type 0} → (K → K → Type 0) → Rest → K → K → LastingState → LastingState → Type 0
IsAnsweredTo {K} takes_no_more rests.Read old new before after = ⊥
IsAnsweredTo {K} takes_no_more rests.Write old new before after = takes_no_more old new ⊎ (HasMoved before after × ((flushed : K) × takes_no_more flushed new))
IsAnsweredTo {K} takes_no_more rests.Receive old new before after = (after.stage ≡ stages.Listening) × ((cut_of after.unanswered).0 ≡ [])
IsAnsweredTo {K} takes_no_more rests.Due old new before after = HasMoved before after
IsAnsweredTo {K} takes_no_more rests.Renewal old new before after = HasLine after.unanswered × Answers after.stage
IsAnsweredTo {K} takes_no_more (rests.Over kind) old new before after = ⊤

-- ---- turns

-- A session that had these exchanges was answered some more, which are those of the entries that the pass gained, and came to this.
pub record IsAnswered {D K : Type 0} (keeps : D → Type 0) (view : D → View) (told : K → LinkState) (begun now : K) (state : LastingState) (turned : List Exchange) (old new : PassState) (rest : Rest) : Type 0 where
  pub more : List Exchange
  pub comes : ComesTo rest told begun now state (turned ++ more)
  pub gains : Gains keeps view old more new

-- ---- one pass after the other

-- The last of these exchanges are those of the entries that this pass gained since it was new, and of the ones before them the rest holds.
pub record IsLastPass {D : Type 0} (keeps : D → Type 0) (view : D → View) (pass : PassState) (turned : List Exchange) (rest : List Exchange → Type 0) : Type 0 where
  pub before : List Exchange
  pub ours : List Exchange
  pub turned_are : turned ≡ before ++ ours
  pub fresh : PassState
  pub is_new : IsNewPass fresh
  pub gains : Gains keeps view fresh ours pass
  pub earlier : rest before

-- These exchanges are those of the entries of these passes, each of which was new; the last pass stands first.
abbrev pub AreOfPasses : {D : Type 0} → (D → Type 0) → (D → View) → List PassState → List Exchange → Type 0
AreOfPasses keeps view [] turned = turned ≡ []
AreOfPasses keeps view (pass ∷ passes) turned = IsLastPass keeps view pass turned (AreOfPasses keeps view passes)
