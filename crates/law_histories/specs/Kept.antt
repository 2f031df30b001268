-- What a closed cut keeps of a history.
use Rattle.std.specs.Prelude.{◌≡◌, ◌≢◌, ◌<◌, Bool, true, false, if◌then◌else◌, [], ◌∷◌}
use Rattle.report_line.specs.declared.report.Report.{Report}
use Rattle.report_line.specs.declared.step.StepKind.TheVariants.{Retire}
use Rattle.report_line.specs.histories.History.{Name, History, Does, Event, event_of}
use Rattle.report_line.specs.histories.Lawful.{IsLawful}
use Rattle.report_line.specs.histories.Events.{Occurs, Edge}
use Rattle.report_line.specs.histories.StepReports.{IsReportOf}
use Rattle.law_histories.specs.Rules.{IsNewest}

-- A cut of a history: which of its events are at or before it.
abbrev pub Cut : Type 0
Cut = Event → Bool

-- A cut is closed if with the end of an edge it has its beginning.
abbrev pub IsClosed : Name → History → Cut → Type 0
IsClosed root h cut = (a b : Event) → Edge root h a b → cut b ≡ true → cut a ≡ true

-- The steps whose events are in the cut, in order.
unfoldable pub kept : Cut → History → History
kept cut [] = []
kept cut (s ∷ h) = if cut (event_of h s) then s ∷ kept cut h else kept cut h

-- A lawful history filtered by the events of a closed cut is lawful.
abbrev pub KeptIsLawful : Type 0
KeptIsLawful = (root : Name) (h : History) (cut : Cut) → IsLawful root h → IsClosed root h cut → IsLawful root (kept cut h)

-- An event as it stands in what is kept: the same but for its number, since fewer steps are before it.
pub record IsSameEvent (x y : Event) : Type 0 where
  pub process : x.process ≡ y.process
  pub kind : x.kind ≡ y.kind
  pub id : x.id ≡ y.id
  pub values : x.values ≡ y.values

-- Each event of a closed cut stands in what the cut keeps.
abbrev pub EachEventIsKept : Type 0
EachEventIsKept =
    (root : Name) (h : History) (cut : Cut) (x : Event) → IsLawful root h → IsClosed root h cut → Occurs root h x → cut x ≡ true
    → (y : Event) × Occurs root (kept cut h) y × IsSameEvent x y

-- A step that is kept is reported just as it was: its number, its id and its values are the same.
abbrev pub EachReportIsKept : Type 0
EachReportIsKept =
    (root : Name) (h : History) (cut : Cut) (r : Report) (x : Event) → IsLawful root h → IsClosed root h cut → IsReportOf root h r x → cut x ≡ true
    → (y : Event) × IsReportOf root (kept cut h) r y × IsSameEvent x y

-- The newest of the events of a process that are in the cut.
pub record IsNewestIn (root : Name) (h : History) (cut : Cut) (x : Event) : Type 0 where
  pub occurs : Occurs root h x
  pub in_cut : cut x ≡ true
  pub newest : (y : Event) → Occurs root h y → y.process ≡ x.process → x.number < y.number → cut y ≡ false

-- Each process has returned to its position: in what is kept it lives by the newest of its events in the cut, where that is
-- no retirement.
abbrev pub PositionIsNewest : Type 0
PositionIsNewest =
    (root : Name) (h : History) (cut : Cut) (x : Event) → IsLawful root h → IsClosed root h cut → IsNewestIn root h cut x
    → ((q : Name) → x.kind ≢ Does (Retire q))
    → (y : Event) × IsSameEvent x y × IsNewest root (kept cut h) x.process y
