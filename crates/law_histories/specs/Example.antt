-- A lawful history with every kind of step: so the laws of histories speak of something.
use Rattle.std.specs.Prelude.{ℕ, [], ◌∷◌}
use Rattle.id_tree.specs.IdTree.{IdTree, Zero, One, Pair}
use Rattle.event_tree.specs.EventTree.{EventTree, Leaf, Node}
use Rattle.report_line.specs.declared.report.ReportKind.{ReportKind}
use Rattle.report_line.specs.declared.report.ReportKind.TheVariants as report_kinds
use Rattle.report_line.specs.declared.report.Report.{Report}
use Rattle.report_line.specs.declared.report.Report.TheVariants as reports
use Rattle.report_line.specs.declared.step.StepKind.{StepKind}
use Rattle.report_line.specs.declared.step.StepKind.TheVariants.{Work, Check, Present, Send, Receive, Fork, Retire, Absorb}
use Rattle.report_line.specs.declared.step.Step.{Step}
use Rattle.report_line.specs.histories.History.{Name, Message, History}

-- the processes a, b, c, and d, which is never born; and the messages m and k
abbrev pub a : Name
a = 97 ∷ []

abbrev pub b : Name
b = 98 ∷ []

abbrev pub c : Name
c = 99 ∷ []

abbrev pub d : Name
d = 100 ∷ []

abbrev pub m : Message
m = 109 ∷ []

abbrev pub k : Message
k = 107 ∷ []

-- the id of the left half, and of the right half
abbrev pub left : IdTree
left = Pair One Zero

abbrev pub right : IdTree
right = Pair Zero One

-- the values `n + x` in the left half and `n + y` in the right half
abbrev pub halves : ℕ → ℕ → ℕ → EventTree
halves n x y = Node n (Leaf x) (Leaf y)

-- a report, and the fork that hands on the right half
abbrev pub told : Name → ℕ → IdTree → EventTree → ReportKind → Report
told process number id values action =
    reports.Numbered (record { process = process; number = number; stamp = record { id = id; events = values }; action = action })

abbrev pub forked : Name → ReportKind
forked child = report_kinds.Fork (record { kept = left; child = child; given = right })

abbrev pub act : Name → StepKind → IdTree → EventTree → Step
act process step_kind id values = record { process = process; step_kind = step_kind; stamp = record { id = id; events = values } }

-- The newest step first. One message is received twice and one never; one retirement is absorbed, and one, into a process
-- that is not born, is not.
abbrev pub every_step : History
every_step =
    act c (Retire d) right (halves 7 0 1)
    ∷ act a Check left (halves 7 1 0)
    ∷ act a (Fork c right) left (Leaf 7)
    ∷ act a (Absorb b) One (halves 5 1 0)
    ∷ act b (Retire a) right (halves 1 0 4)
    ∷ act b (Send k) right (halves 1 0 3)
    ∷ act a Present left (halves 3 2 0)
    ∷ act a Work left (halves 3 1 0)
    ∷ act a (Receive m) left (Leaf 3)
    ∷ act a (Receive m) left (halves 2 0 1)
    ∷ act b (Send m) right (halves 1 0 2)
    ∷ act b Check right (halves 1 0 1)
    ∷ act a (Fork b right) left (Leaf 1)
    ∷ []
