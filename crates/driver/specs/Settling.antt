-- A settlement of a world: all processes return to a line.
use Rattle.std.specs.Prelude.{◌≡◌, ◌≢◌, ◌⊎◌, ℕ, suc, List, Contains, ⊤}
use Rattle.report_line.specs.histories.History.{Name, Unborn, status}
use Rattle.chains.specs.Positions.{before_birth}
use Rattle.chains.specs.Failures.{IsFailedSet}
use Rattle.law_histories.specs.Kept.{Cut, kept}
use Rattle.law_lines.specs.Places.{IsClosedCut}
use Rattle.law_lines.specs.Agreeing.{HasEventsOf}
use Rattle.driver.specs.declared.fault.StepFault.{StepFault}
use Rattle.driver.specs.declared.fault.StepFault.TheVariants.{Unknown, NotClosed, Memory}
use Rattle.driver.specs.declared.line.NamedPosition.{NamedPosition}
use Rattle.driver.specs.Chronicle.{Chronicle}
use Rattle.driver.specs.Lines.{reported, names_of, IsNamedOnce, position_of, positions_by}

-- some name, of a failed process or in the line, is that of no process
pub record HasUnknownName (w : Chronicle) (failed : List Name) (line : List NamedPosition) : Type 0 where
  pub name : Name
  pub given : Contains failed name ⊎ Contains (names_of line) name
  pub unborn : status w.root w.history name ≡ Unborn

-- The line is one to return to: it names each process at most once and does not leave the root unborn, and by the world's own
-- history it is a closed cut for just these failed processes.
pub record IsClosedLine (w : Chronicle) (failed : List Name) (line : List NamedPosition) : Type 0 where
  pub once : IsNamedOnce line
  pub root_stays : position_of line w.root ≢ before_birth
  pub numbers : List ℕ
  pub are_failed : IsFailedSet (reported w) failed numbers
  pub closed : IsClosedCut w.root w.history (reported w) numbers (positions_by line (reported w))

-- just the events of the line are kept, and the present epoch is one higher
pub record Settles (old : Chronicle) (line : List NamedPosition) (new : Chronicle) : Type 0 where
  pub cut : Cut
  pub has_events : HasEventsOf old.root old.history (reported old) (positions_by line (reported old)) cut
  pub root : new.root ≡ old.root
  pub epoch : new.epoch ≡ suc old.epoch
  pub history : new.history ≡ kept cut old.history

-- why a settlement is refused: a name is unknown; or none is, and the line is not closed; or for want of memory
abbrev pub RefusesLine : Chronicle → List Name → List NamedPosition → StepFault → Type 0
RefusesLine w failed line Unknown = HasUnknownName w failed line
RefusesLine w failed line NotClosed = (¬ HasUnknownName w failed line) × (¬ IsClosedLine w failed line)
RefusesLine w failed line Memory = ⊤
RefusesLine w failed line _ = ⊥
