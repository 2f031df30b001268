-- Ids that get no deeper: those of a process that gives leaves of one depth to its children, and takes no deeper ids back.
use Rattle.std.specs.Prelude.{◌≡◌, ℕ, ◌≤◌, List}
use Rattle.id_tree.specs.IdTree.{IdTree}
use Rattle.id_tree.specs.NormalForm.{depth}
use Rattle.process.specs.declared.process.Process.{Process}
use Rattle.process.specs.declared.handed.Start.{Start}
use Rattle.process.specs.declared.handed.Retirement.{Retirement}
use Rattle.process.specs.Leaves.{IsLeafAt}
use Rattle.process.specs.Steps.{Forks, Absorbs}
use Rattle.process.specs.Texts.{IsProcess}

-- one leaf of a depth is just as deep
abbrev pub LeafIsAsDeep : Type 0
LeafIsAsDeep = (d : ℕ) (i : IdTree) → IsLeafAt d i → depth i ≡ d

-- no deeper than the leaf that it gives, the id of a process stays so
abbrev pub StaysBehindAFork : Type 0
StaysBehindAFork =
    (old new : Process) (start : Start) (line : List ℕ) (d : ℕ) → IsProcess new → Forks old new start line → IsLeafAt d start.stamp.id → depth old.stamp.id ≤ d
    → depth new.stamp.id ≤ d

-- so it does where no deeper one is absorbed
abbrev pub StaysBehindAnAbsorption : Type 0
StaysBehindAnAbsorption =
    (old new : Process) (retirement : Retirement) (line : List ℕ) (d : ℕ) → IsProcess new → Absorbs old retirement new line → depth old.stamp.id ≤ d
    → depth retirement.stamp.id ≤ d → depth new.stamp.id ≤ d
