-- Why a session rests.
use Rattle.std.proofs.Common.{◌≡◌, ℕ, List, [], ◌∷◌, ◌++◌, length, Option, Some, None, sym, subst, ◌∙◌, ap, arith, inl, inr}
use Rattle.std.specs.Prelude.{IfSome}
use Rattle.std.specs.List.{flat_map}
use Rattle.std.proofs.lemmas.List.{append-nil, length-append}
use Rattle.report_line.specs.Cutting.{Stand, ended, cut_of}
use Rattle.client_link.specs.Links.{LinkState}
use Rattle.session.specs.declared.kind.SessionEndKind.{SessionEndKind}
use Rattle.session.specs.declared.rest.Rest.{Rest}
use Rattle.session.specs.declared.rest.Rest.TheVariants as rests
use Rattle.session.specs.declared.stage.Stage.{Stage}
use Rattle.session.specs.declared.stage.Stage.TheVariants as stages
use Rattle.session.specs.Lasting.{LastingState, Answers, HasLine, HasMoved, IsAnsweredTo, IsEnding, IsReceived}
use Rattle.session.proofs.FirstLines.{cut_behind}
use Rattle.session.specs.working.Resting.{standing, BeginsEnd, StandsBehind, IsFlushedSo, IsLineSo, IsReadSo, IsStepSo, IsWithoutLine}

abbrev Bytes : Type 0
Bytes = List ℕ

abbrev Cut : Type 0
Cut = List Bytes × Stand

-- ---- the stage

ending_at : (kind : SessionEndKind) (stage : Stage) → stage ≡ stages.Ending kind → IsEnding stage
ending_at kind stage is = subst (λ (s : Stage). IsEnding s) (sym is) tt

pub not_ending : (stage : Stage) → stage ≡ stages.Listening → IsEnding stage → ⊥
not_ending stage is ending = subst (λ (s : Stage). IsEnding s) is ending

pub answering : (stage : Stage) → stage ≡ stages.Listening → Answers stage
answering stage is = subst (λ (s : Stage). Answers s) (sym is) tt

-- the ending line was written after a read, or where no line was there
pub ending_read : {K : Type 0} (finds : K → K → Type 0) (kind : SessionEndKind) (told told_after : LinkState) (old new : K) (before unanswered : Bytes) (stage : Stage) (rest : Rest) → BeginsEnd kind told told_after stage rest
    → IsReadSo finds rest old new before (standing unanswered stage)
ending_read finds kind told told_after old new before unanswered stage rests.Due b = inl (ending_at kind stage b.2)
ending_read finds kind told told_after old new before unanswered stage (rests.Over other) b = tt
ending_read finds kind told told_after old new before unanswered stage rests.Read b = absurd b
ending_read finds kind told told_after old new before unanswered stage rests.Write b = absurd b
ending_read finds kind told told_after old new before unanswered stage rests.Receive b = absurd b
ending_read finds kind told told_after old new before unanswered stage rests.Renewal b = absurd b

pub ending_without : (kind : SessionEndKind) (told told_after : LinkState) (stage : Stage) (rest : Rest) → BeginsEnd kind told told_after stage rest → IsWithoutLine rest stage
ending_without kind told told_after stage rests.Due b = ending_at kind stage b.2
ending_without kind told told_after stage (rests.Over other) b = tt
ending_without kind told told_after stage rests.Read b = absurd b
ending_without kind told told_after stage rests.Write b = absurd b
ending_without kind told told_after stage rests.Receive b = absurd b
ending_without kind told told_after stage rests.Renewal b = absurd b

-- ---- what was read

pub flush_received : {K : Type 0} (finds takes : K → K → Type 0) (rest : Rest) (old new : K) (unanswered : Bytes) (before after : Stage) → IsFlushedSo takes (Some rest) old new before after → IsReceived finds takes rest old new (standing unanswered before) (standing unanswered after)
flush_received finds takes rests.Write old new unanswered before after so = so.0
flush_received finds takes (rests.Over kind) old new unanswered before after so = tt
flush_received finds takes rests.Read old new unanswered before after so = absurd so
flush_received finds takes rests.Receive old new unanswered before after so = absurd so
flush_received finds takes rests.Due old new unanswered before after so = absurd so
flush_received finds takes rests.Renewal old new unanswered before after so = absurd so

pub read_received : {K : Type 0} (finds takes : K → K → Type 0) (rest : Rest) (old flushed new : K) (before : LastingState) (unanswered : Bytes) (stage : Stage) → (before.stage ≡ stages.Listening → flushed ≡ old) → (IsEnding before.stage → ⊥)
    → IsReadSo finds rest flushed new before.unanswered (standing unanswered stage) → IsReceived finds takes rest old new before (standing unanswered stage)
read_received finds takes rests.Read old flushed new before unanswered stage same goes so = record { flushed = flushed; found = so.0; at_once = same; listens = so.1.0; no_line = so.1.1 }
read_received finds takes rests.Due old flushed new before unanswered stage same goes (inl ending) = inr (ending, goes)
read_received finds takes rests.Due old flushed new before unanswered stage same goes (inr (listens, more)) = inl (listens, inr more)
read_received finds takes (rests.Over kind) old flushed new before unanswered stage same goes so = tt
read_received finds takes rests.Write old flushed new before unanswered stage same goes so = absurd so
read_received finds takes rests.Receive old flushed new before unanswered stage same goes so = absurd so
read_received finds takes rests.Renewal old flushed new before unanswered stage same goes so = absurd so

-- a session that is over says nothing of its stage
pub received_stage : {K : Type 0} (finds takes : K → K → Type 0) (rest : Rest) (old new : K) (before : LastingState) (unanswered : Bytes) (stage after : Stage) → StandsBehind stage rest after
    → IsReceived finds takes rest old new before (standing unanswered stage) → IsReceived finds takes rest old new before (standing unanswered after)
received_stage finds takes (rests.Over kind) old new before unanswered stage after stands so = tt
received_stage finds takes rests.Read old new before unanswered stage after stands so = rw stands so
received_stage finds takes rests.Write old new before unanswered stage after stands so = so
received_stage finds takes rests.Due old new before unanswered stage after stands so = rw stands so
received_stage finds takes rests.Receive old new before unanswered stage after stands so = absurd so
received_stage finds takes rests.Renewal old new before unanswered stage after stands so = absurd so

-- ---- what was answered

-- a line was dropped
pub line_moved : (unanswered line behind after : Bytes) (before stage : Stage) → unanswered ≡ ended line ++ behind → after ≡ behind → HasMoved (standing unanswered before) (standing after stage)
line_moved unanswered line behind after before stage is same =
    inl (omega (arith, ap length is, ap length same, length-append (ended line) behind, length-append line (10 ∷ [])))

pub moved_on : (rest : Option Rest) (before after : LastingState) → IfSome rest (λ r. r ≡ rests.Due) → HasMoved before after → IsLineSo rest before after
moved_on None before after due moved = moved
moved_on (Some rest) before after due moved = subst (λ (r : Rest). IsLineSo (Some r) before after) (sym due) moved

-- the ending line was written
pub ending_moved : (unanswered after : Bytes) (before stage : Stage) (kind : SessionEndKind) → before ≡ stages.Listening → stage ≡ stages.Ending kind → HasMoved (standing unanswered before) (standing after stage)
ending_moved unanswered after before stage kind listens is = inr (ending_at kind stage is, not_ending before listens)

pub without_line : (rest : Rest) (unanswered : Bytes) (before stage : Stage) → before ≡ stages.Listening → (cut_of unanswered).0 ≡ [] → IsWithoutLine rest stage → IsLineSo (Some rest) (standing unanswered before) (standing unanswered stage)
without_line rests.Receive unanswered before stage listens none so = (so, none)
without_line rests.Due unanswered before stage listens none so = inr (so, not_ending before listens)
without_line (rests.Over kind) unanswered before stage listens none so = tt
without_line rests.Read unanswered before stage listens none so = absurd so
without_line rests.Write unanswered before stage listens none so = absurd so
without_line rests.Renewal unanswered before stage listens none so = absurd so

pub ending_line_so : (kind : SessionEndKind) (told told_after : LinkState) (unanswered after : Bytes) (before stage : Stage) (rest : Rest) → before ≡ stages.Listening → BeginsEnd kind told told_after stage rest
    → IsLineSo (Some rest) (standing unanswered before) (standing after stage)
ending_line_so kind told told_after unanswered after before stage rests.Due listens b = ending_moved unanswered after before stage kind listens b.2
ending_line_so kind told told_after unanswered after before stage (rests.Over other) listens b = tt
ending_line_so kind told told_after unanswered after before stage rests.Read listens b = absurd b
ending_line_so kind told told_after unanswered after before stage rests.Write listens b = absurd b
ending_line_so kind told told_after unanswered after before stage rests.Receive listens b = absurd b
ending_line_so kind told told_after unanswered after before stage rests.Renewal listens b = absurd b

-- ---- a step

pub flush_stepped : {K : Type 0} (takes : K → K → Type 0) (rest : Rest) (old new : K) (unanswered : Bytes) (before after : Stage) → IsFlushedSo takes (Some rest) old new before after → IsStepSo takes (Some rest) old new (standing unanswered before) (standing unanswered after)
flush_stepped takes rests.Write old new unanswered before after so = (so.0, ap (λ (s : Stage). standing unanswered s) so.1)
flush_stepped takes (rests.Over kind) old new unanswered before after so = tt
flush_stepped takes rests.Read old new unanswered before after so = absurd so
flush_stepped takes rests.Receive old new unanswered before after so = absurd so
flush_stepped takes rests.Due old new unanswered before after so = absurd so
flush_stepped takes rests.Renewal old new unanswered before after so = absurd so

-- where everything was handed on before, whatever the stage was
moved_from : (unanswered : Bytes) (before flushed : Stage) (after : LastingState) → (IsEnding before → ⊥) → HasMoved (standing unanswered flushed) after → HasMoved (standing unanswered before) after
moved_from unanswered before flushed after goes (inl less) = inl less
moved_from unanswered before flushed after goes (inr (ending, was)) = inr (ending, goes)

pub line_stepped : {K : Type 0} (takes : K → K → Type 0) (rest : Option Rest) (old new : K) (unanswered : Bytes) (before flushed : Stage) (after : LastingState) → (IsEnding before → ⊥) → IsLineSo rest (standing unanswered flushed) after
    → IsStepSo takes rest old new (standing unanswered before) after
line_stepped takes None old new unanswered before flushed after goes so = (moved_from unanswered before flushed after goes so, goes)
line_stepped takes (Some rests.Receive) old new unanswered before flushed after goes so = so
line_stepped takes (Some rests.Due) old new unanswered before flushed after goes so = (moved_from unanswered before flushed after goes so, goes)
line_stepped takes (Some rests.Renewal) old new unanswered before flushed after goes so = (so.0, answering after.stage so.1)
line_stepped takes (Some (rests.Over kind)) old new unanswered before flushed after goes so = tt
line_stepped takes (Some rests.Read) old new unanswered before flushed after goes so = absurd so
line_stepped takes (Some rests.Write) old new unanswered before flushed after goes so = absurd so

-- the first step
pub first_answered : {K : Type 0} (takes : K → K → Type 0) (rest : Rest) (old new : K) (before after : LastingState) → IsStepSo takes (Some rest) old new before after → IsAnsweredTo takes rest old new before after
first_answered takes rests.Write old new before after so = inl so.0
first_answered takes rests.Receive old new before after so = so
first_answered takes rests.Due old new before after so = so.0
first_answered takes rests.Renewal old new before after so = so
first_answered takes (rests.Over kind) old new before after so = tt
first_answered takes rests.Read old new before after so = absurd so

moved_then : (before between after : LastingState) → HasMoved before between → HasMoved between after → (IsEnding between.stage → ⊥) → (IsEnding before.stage → ⊥) → HasMoved before after
moved_then before between after (inl less) (inl more) goes first = inl (omega (arith, less, more))
moved_then before between after (inl less) (inr (ending, was)) goes first = inr (ending, first)
moved_then before between after (inr (ending, was)) more goes first = absurd (goes ending)

-- a later one
pub later_answered : {K : Type 0} (takes : K → K → Type 0) (rest : Rest) (old link new : K) (before between after : LastingState) → HasMoved before between → (IsEnding before.stage → ⊥) → IsStepSo takes (Some rest) link new between after
    → IsAnsweredTo takes rest old new before after
later_answered takes rests.Write old link new before between after moved goes so = inr (subst (λ (s : LastingState). HasMoved before s) (sym so.1) moved, (link, so.0))
later_answered takes rests.Receive old link new before between after moved goes so = so
later_answered takes rests.Due old link new before between after moved goes so = moved_then before between after moved so.0 so.1 goes
later_answered takes rests.Renewal old link new before between after moved goes so = so
later_answered takes (rests.Over kind) old link new before between after moved goes so = tt
later_answered takes rests.Read old link new before between after moved goes so = absurd so

pub later_moved : (before between after : LastingState) → HasMoved before between → (IsEnding before.stage → ⊥) → HasMoved between after × (IsEnding between.stage → ⊥) → HasMoved before after
later_moved before between after moved goes so = moved_then before between after moved so.0 so.1 goes

-- a session that is over says nothing of its stage
pub answered_stage : {K : Type 0} (takes : K → K → Type 0) (rest : Rest) (old new : K) (before : LastingState) (unanswered : Bytes) (stage after : Stage) → StandsBehind stage rest after
    → IsAnsweredTo takes rest old new before (standing unanswered stage) → IsAnsweredTo takes rest old new before (standing unanswered after)
answered_stage takes (rests.Over kind) old new before unanswered stage after stands so = tt
answered_stage takes rests.Write old new before unanswered stage after stands so = rw stands so
answered_stage takes rests.Receive old new before unanswered stage after stands so = rw stands so
answered_stage takes rests.Due old new before unanswered stage after stands so = rw stands so
answered_stage takes rests.Renewal old new before unanswered stage after stands so = rw stands so
answered_stage takes rests.Read old new before unanswered stage after stands so = absurd so

-- ---- a line is there, or none is

pub line_or_none : (bytes : Bytes) → HasLine bytes → (cut_of bytes).0 ≡ [] → ⊥
line_or_none bytes (line, rest, (is_line, is)) none =
    let same : bytes ≡ flat_map ended (line ∷ []) ++ rest = is ∙ ap (λ (t : Bytes). t ++ rest) (sym (append-nil (ended line))) in
    let first : [] ≡ line ∷ (cut_of rest).0 = sym none ∙ ap (λ (b : Bytes). (cut_of b).0) same ∙ ap (λ (c : Cut). c.0) (cut_behind (line ∷ []) rest (is_line, tt)) in
    absurd cc
