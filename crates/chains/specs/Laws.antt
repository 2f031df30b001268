-- What holds of each folded list.
use Rattle.std.specs.Prelude.{◌≡◌, ◌≢◌, List, [], ◌∷◌, ◌++◌, false, IsTrue}
use Rattle.id_tree.specs.Points.{Point, owns, OwnsSome, AreDisjoint}
use Rattle.event_tree.specs.Values.{IsAtOrBelow}
use Rattle.report_line.specs.declared.report.NumberedReport.{NumberedReport}
use Rattle.report_line.specs.declared.report.Report.{Report}
use Rattle.report_line.specs.declared.report.Report.TheVariants.{Numbered}
use Rattle.chains.specs.Processes.{Name, IsKnown, registered_id, expected_id, last_events, is_absorbed}

-- p is known, and it lives or its retirement waits
pub record Holds (accepted : List Report) (p : Name) : Type 0 where
  pub is_known : IsKnown accepted p
  pub unabsorbed : is_absorbed p accepted ≡ false

-- The ids of live processes and of retirements that wait are disjoint in pairs, each owns something, and together they own
-- everything.
pub record ArePartsOfAll (accepted : List Report) : Type 0 where
  pub disjoint : (p q : Name) → Holds accepted p → Holds accepted q → p ≢ q → AreDisjoint (registered_id p accepted) (registered_id q accepted)
  pub nonempty : (p : Name) → Holds accepted p → OwnsSome (registered_id p accepted)
  pub all : accepted ≢ [] → (point : Point) → (p : Name) × Holds accepted p × IsTrue (owns (registered_id p accepted) point)

-- From one report of a process to its next the events never fall, and the stamp has the id that is expected.
abbrev pub NeverFall : List Report → Type 0
NeverFall accepted =
    (before after : List Report) (r : NumberedReport) → accepted ≡ before ++ Numbered r ∷ after
    → IsAtOrBelow (last_events r.process before) r.stamp.events × (r.stamp.id ≡ expected_id before r.process r.action)
