-- What is asked of whoever makes the calls: that what is handed over is what was given out, each start and each retirement once, and that
-- a process goes on from what it was.
use Rattle.std.specs.Prelude.{◌≡◌, ◌≢◌, ◌⊎◌, ℕ, ◌≤◌, if◌then◌else◌, List, [], ◌∷◌, ◌++◌, length, Contains, Option, Some, None, ⊤}
use Rattle.std.specs.Str.{bytes_eq}
use Rattle.id_tree.specs.IdTree.{One}
use Rattle.event_tree.specs.EventTree.{EventTree, Leaf}
use Rattle.stamp.specs.declared.stamp.Stamp.{Stamp}
use Rattle.report_line.specs.declared.call.Call.{Call}
use Rattle.report_line.specs.declared.call.Call.TheVariants as calls
use Rattle.report_line.specs.declared.reply.Reply.{Reply}
use Rattle.report_line.specs.declared.reply.Reply.TheVariants.{Accepted}
use Rattle.report_line.specs.declared.report.Report.TheVariants as reports
use Rattle.report_line.specs.declared.step.StepKind.{StepKind}
use Rattle.report_line.specs.histories.History.{Name, Event, sending}
use Rattle.report_line.specs.Reading.{Spells}
use Rattle.report_line.specs.histories.StepReports.{reporting_steps}
use Rattle.law_histories.specs.Rules.{IsNewest, IsWaiting}
use Rattle.law_lines.specs.Runs.{Run, Made, epoch, current}
use Rattle.law_turns.specs.Traces.{Adds}
use Rattle.process.specs.declared.process.Process.{Process}
use Rattle.process.specs.declared.handed.Message.{Message}
use Rattle.process.specs.declared.handed.Start.{Start}
use Rattle.process.specs.declared.handed.Retirement.{Retirement}
use Rattle.law_process.specs.Accounts.{Act, Work, Send, Again, Receive, Check, Present, Fork, Begin, Retire, Absorb, Return, Doing, IsDone, Did, Took, Account, step_kind_of}

-- calls that were made, the newest first
abbrev pub Past : Type 0
Past = List Doing

-- the root as it begins
abbrev pub first : Name → Process
first root = record { name = root; epoch = 0; reports = 0; stamp = record { id = One; events = Leaf 0 } }

-- whether the process goes on behind a call
abbrev pub goes_on : Act → Process → Option Process
goes_on (Retire target retirement line) new = None
goes_on act new = Some new

-- what the process of this name is by now: nothing before it begins, and behind its end
unfoldable pub newest : Name → Past → Name → Option Process
newest root [] p = if bytes_eq p root then Some (first root) else None
newest root (d ∷ past) p = if bytes_eq p d.new.name then goes_on d.act d.new else newest root past p

-- no process goes on from an older state
abbrev pub GoesFromNewest : Name → Past → Process → Type 0
GoesFromNewest root past old = newest root past old.name ≡ Some old

-- it was so once
abbrev pub WasOnce : Name → Past → Process → Type 0
WasOnce root past p = (p ≡ first root) ⊎ ((d : Doing) × Contains past d × (p ≡ d.new))

-- the call that had so many before it
pub record IsCall (past : Past) (n : ℕ) (d : Doing) : Type 0 where
  pub later : Past
  pub earlier : Past
  pub past_is : past ≡ later ++ d ∷ earlier
  pub number : length earlier ≡ n

-- no process had this name
abbrev pub IsNewName : Name → Past → Name → Type 0
IsNewName root past p = (p ≢ root) × ((d : Doing) (start : Start) (line : List ℕ) → Contains past d → d.act ≡ Fork start line → start.child ≢ p)

-- nobody began with the start that this call gave out
abbrev pub IsUnbegun : Past → ℕ → Type 0
IsUnbegun past from = (d : Doing) (start : Start) → Contains past d → d.act ≢ Begin from start

-- nobody absorbed the retirement that this call gave out
abbrev pub IsUnabsorbed : Past → ℕ → Type 0
IsUnabsorbed past from = (d : Doing) (retirement : Retirement) (line : List ℕ) → Contains past d → d.act ≢ Absorb from retirement line

-- the stamp of an event
abbrev pub stamp_of : Event → Stamp
stamp_of x = record { id = x.id; events = x.values }

-- The process is at its position: it was so at its newest event in the current history.
pub record IsAtPosition (root : Name) (run : Run) (kept : Process) : Type 0 where
  pub event : Event
  pub newest_event : IsNewest root (current run) kept.name event
  pub stamp : stamp_of event ≡ kept.stamp
  pub reports : kept.reports ≡ reporting_steps kept.name (current run)

-- The retirement is one of the current history, it waits for this process, and who retired did not retire anew since the last settlement.
pub record IsKept (root : Name) (run : Run) (past : Past) (retirement : Retirement) : Type 0 where
  pub event : Event
  pub waits : IsWaiting root (current run) retirement.process retirement.target event
  pub stamp : stamp_of event ≡ retirement.stamp
  pub not_anew : (d : Doing) (target : Name) (other : Retirement) (line : List ℕ) → Contains past d → d.act ≡ Retire target other line
      → other.process ≡ retirement.process → other.epoch ≢ epoch run

-- Each retirement is absorbed once in the epoch in which it was made; or settlements kept it, as they did its process's end, where the one
-- that absorbs it has returned to the last of them.
abbrev pub MayAbsorb : Name → Run → Past → Process → ℕ → Retirement → Type 0
MayAbsorb root run past old from retirement =
    ((retirement.epoch ≡ old.epoch) × IsUnabsorbed past from) ⊎ (old.epoch ≡ epoch run → IsKept root run past retirement)

-- The call of this number sent these values, at an event of the current history. Which process did, and who hands them over now, is not asked.
abbrev pub WasSent : Run → ℕ → EventTree → Type 0
WasSent run n values = (x : Event) × (sending (current run) (n ∷ []) ≡ Some x) × (x.values ≡ values)

-- What is received is what a call gave out that sent it, or that handed it over once more; or, where the receiver has returned, it has the
-- values of that call's event, which is one of the current history.
abbrev pub MayReceive : Run → Past → Process → ℕ → Message → Type 0
MayReceive run past old from message =
    ((d : Doing) × IsCall past from d × (d.act ≡ Send message))
    ⊎ ((d : Doing) × (sent : Message) × Contains past d × (d.act ≡ Again from sent message))
    ⊎ (old.epoch ≡ epoch run → WasSent run from message.events)

-- what is asked of a call
abbrev pub MayDo : Name → Run → Past → Act → Process → Type 0
MayDo root run past Work old = GoesFromNewest root past old
MayDo root run past (Send message) old = GoesFromNewest root past old
MayDo root run past (Again from message again) old = GoesFromNewest root past old × (old.epoch ≡ epoch run → WasSent run from message.events)
MayDo root run past (Receive from message) old = GoesFromNewest root past old × MayReceive run past old from message
MayDo root run past (Check line) old = GoesFromNewest root past old
MayDo root run past (Present line) old = GoesFromNewest root past old
MayDo root run past (Fork start line) old = GoesFromNewest root past old × IsNewName root past start.child
MayDo root run past (Begin from start) old = ((d : Doing) × (line : List ℕ) × IsCall past from d × (d.act ≡ Fork start line)) × IsUnbegun past from
MayDo root run past (Retire target retirement line) old = GoesFromNewest root past old
MayDo root run past (Absorb from retirement line) old =
    GoesFromNewest root past old
    × ((d : Doing) × (target : Name) × (given : List ℕ) × IsCall past from d × (d.act ≡ Retire target retirement given))
    × MayAbsorb root run past old from retirement
MayDo root run past (Return now) old = WasOnce root past old × (now ≤ epoch run) × (now ≡ epoch run → IsAtPosition root run old)

-- the line of a report that was accepted was given by a call, or is BEGIN of the root
abbrev pub HasLine : Act → List ℕ → Type 0
HasLine (Check line) given = given ≡ line
HasLine (Present line) given = given ≡ line
HasLine (Fork start line) given = given ≡ line
HasLine (Retire target retirement line) given = given ≡ line
HasLine (Absorb from retirement line) given = given ≡ line
HasLine act given = ⊥

abbrev pub IsHandedIn : Name → Past → Call → Reply → Type 0
IsHandedIn root past (calls.Report m) (Accepted front) =
    (m.report ≡ reports.Begin root) ⊎ ((d : Doing) × (line : List ℕ) × Contains past d × HasLine d.act line × Spells (calls.Report m) line)
IsHandedIn root past call reply = ⊤

-- the run with the step of a call
abbrev pub run_with : Option StepKind → Doing → Run → Run
run_with None d run = run
run_with (Some step_kind) d run = Made d.old.epoch (record { process = d.old.name; step_kind = step_kind; stamp = d.new.stamp }) ∷ run

-- So it is of each call and of each accepted report of the account, over the run that there was by then.
abbrev pub AreHandedOver : Name → Run → Past → Account → Type 0
AreHandedOver root run past [] = ⊤
AreHandedOver root run past (Did d ∷ account) =
    IsDone d × MayDo root run past d.act d.old × AreHandedOver root (run_with (step_kind_of (length past) d.act) d run) (d ∷ past) account
AreHandedOver root run past (Took call reply ∷ account) =
    IsHandedIn root past call reply × ((between : Run) → Adds root run call reply between → AreHandedOver root between past account)
