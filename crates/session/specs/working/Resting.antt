-- Parts of a step of a session that lasts.
use Rattle.std.specs.Prelude.{◌≡◌, ◌⊎◌, ◌<◌, ◌++◌, ℕ, List, [], Option, None, Some, Ok, Err, length, ⊤}
use Rattle.report_line.specs.Cutting.{cut_of}
use Rattle.line_disk.specs.Disk.{View}
use Rattle.coordinator.specs.Passes.{PassState}
use Rattle.client_link.specs.declared.link.LinkFault.{LinkFault}
use Rattle.client_link.specs.Links.{LinkState, Puts}
use Rattle.session.specs.Exchanges.{Exchange}
use Rattle.session.specs.Gained.{GainsEach}
use Rattle.session.specs.Lasting.{LastingState, Rests, ComesTo, Answers, HasLine, HasMoved, IsEnding}
use Rattle.session.specs.SessionText.{ending_line}
use Rattle.session.specs.declared.kind.SessionEndKind.{SessionEndKind}
use Rattle.session.specs.declared.kind.SessionEndKind.TheVariants as kinds
use Rattle.session.specs.declared.rest.Rest.{Rest}
use Rattle.session.specs.declared.rest.Rest.TheVariants as rests
use Rattle.session.specs.declared.stage.Stage.{Stage}
use Rattle.session.specs.declared.stage.Stage.TheVariants as stages

-- a session that keeps these bytes, and stands so
abbrev pub standing : List ℕ → Stage → LastingState
standing unanswered stage = record { unanswered = unanswered; stage = stage }

-- behind a part of a step: the step goes on, or is done
abbrev pub GoesOn : {K : Type 0} → Option Rest → (K → LinkState) → K → K → LastingState → List Exchange → Type 0
GoesOn None told begun now state turned = Rests told begun now state turned
GoesOn (Some rest) told begun now state turned = ComesTo rest told begun now state turned

-- the ending line was written, and has to be handed on, or it was cut
abbrev pub BeginsEnd : SessionEndKind → LinkState → LinkState → Stage → Rest → Type 0
BeginsEnd kind old new after rests.Due = (u : Unit {0}) × Puts {E = LinkFault} old new (Ok u) (ending_line kind) × (after ≡ stages.Ending kind)
BeginsEnd kind old new after (rests.Over kinds.WriteFailed) = (fault : LinkFault) × Puts old new (Err fault) (ending_line kind)
BeginsEnd kind old new after rest = ⊥

-- where a session stands behind a step: one that ended stays so
abbrev pub StandsBehind : Stage → Rest → Stage → Type 0
StandsBehind stage (rests.Over kind) after = after ≡ stages.Ended kind
StandsBehind stage _ after = after ≡ stage

-- the pass was answered some exchanges more, which are the session's
pub record IsAnsweredOn {D K : Type 0} (keeps : D → Type 0) (view : D → View) (told : K → LinkState) (begun now : K) (state : LastingState) (turned : List Exchange) (old new : PassState) (rest : Option Rest) : Type 0 where
  pub more : List Exchange
  pub goes : GoesOn rest told begun now state (turned ++ more)
  pub gains : GainsEach keeps view old more new

-- ---- why it rests

-- after a flush, from one stage to the next: everything was handed on, and if nothing waited the link is as it was; or only a part was
abbrev pub IsFlushedSo : {K : Type 0} → (K → K → Type 0) → Option Rest → K → K → Stage → Stage → Type 0
IsFlushedSo takes_no_more None old new before after = (before ≡ stages.Listening → new ≡ old) × ((after ≡ stages.Listening) × ¬ IsEnding before)
IsFlushedSo takes_no_more (Some rests.Write) old new before after = takes_no_more old new × (after ≡ before)
IsFlushedSo takes_no_more (Some (rests.Over kind)) old new before after = ⊤
IsFlushedSo takes_no_more (Some rest) old new before after = ⊥

-- after a read, when everything was handed on and no line was there
abbrev pub IsReadSo : {K : Type 0} → (K → K → Type 0) → Rest → K → K → List ℕ → LastingState → Type 0
IsReadSo finds_nothing rests.Read old new before after = finds_nothing old new × ((after.stage ≡ stages.Listening) × ((cut_of after.unanswered).0 ≡ []))
IsReadSo finds_nothing rests.Due old new before after = IsEnding after.stage ⊎ ((after.stage ≡ stages.Listening) × (length before < length after.unanswered))
IsReadSo finds_nothing (rests.Over kind) old new before after = ⊤
IsReadSo finds_nothing rest old new before after = ⊥

-- if no line is there, the session reads on, or its ending line was written
abbrev pub IsWithoutLine : Rest → Stage → Type 0
IsWithoutLine rests.Receive after = after ≡ stages.Listening
IsWithoutLine rests.Due after = IsEnding after
IsWithoutLine (rests.Over kind) after = ⊤
IsWithoutLine rest after = ⊥

-- after a line, when everything had been handed on
abbrev pub IsLineSo : Option Rest → LastingState → LastingState → Type 0
IsLineSo None before after = HasMoved before after
IsLineSo (Some rests.Receive) before after = (after.stage ≡ stages.Listening) × ((cut_of after.unanswered).0 ≡ [])
IsLineSo (Some rests.Due) before after = HasMoved before after
IsLineSo (Some rests.Renewal) before after = HasLine after.unanswered × (after.stage ≡ stages.Listening)
IsLineSo (Some (rests.Over kind)) before after = ⊤
IsLineSo (Some rest) before after = ⊥

-- after a flush and a line: the line was answered, or the call is done
abbrev pub IsStepSo : {K : Type 0} → (K → K → Type 0) → Option Rest → K → K → LastingState → LastingState → Type 0
IsStepSo takes_no_more None old new before after = HasMoved before after × ¬ IsEnding before.stage
IsStepSo takes_no_more (Some rests.Write) old new before after = takes_no_more old new × (after ≡ before)
IsStepSo takes_no_more (Some rests.Receive) old new before after = (after.stage ≡ stages.Listening) × ((cut_of after.unanswered).0 ≡ [])
IsStepSo takes_no_more (Some rests.Due) old new before after = HasMoved before after × ¬ IsEnding before.stage
IsStepSo takes_no_more (Some rests.Renewal) old new before after = HasLine after.unanswered × Answers after.stage
IsStepSo takes_no_more (Some (rests.Over kind)) old new before after = ⊤
IsStepSo takes_no_more (Some rests.Read) old new before after = ⊥
