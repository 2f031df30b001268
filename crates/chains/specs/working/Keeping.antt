-- Working definitions: what is kept of each process beside the accepted list, and the tests of a report.
use Rattle.std.specs.Prelude.{◌≡◌, ◌⊎◌, ℕ, suc, ◌+◌, Bool, List, [], ◌∷◌, ◌++◌, Option, None, Result, Ok, Err, if◌then◌else◌}
use Rattle.std.specs.Option.{unwrap_or, is_some}
use Rattle.report_line.specs.declared.code.Code.TheVariants.{OutOfMemory}
use Rattle.report_line.specs.declared.report.Report.{Report}
use Rattle.report_line.specs.declared.reply.Reply.{Reply}
use Rattle.report_line.specs.declared.reply.Reply.TheVariants as replies
use Rattle.chains.specs.declared.process.Process.{Process}
use Rattle.chains.specs.declared.admission.AdmissionResult.{AdmissionResult}
use Rattle.chains.specs.declared.admission.AdmissionResult.TheVariants.{Old, Fits}
use Rattle.chains.specs.declared.refusal.No.{No}
use Rattle.chains.specs.Processes.{Name, reports_of, is_numbered_of, is_birth_of, is_absorbed}
pub use Rattle.chains.specs.Processes.{last_index}
use Rattle.chains.specs.Elements.{stable_made, stable_of}
use Rattle.chains.specs.LastRun.{same_id_from}
use Rattle.chains.specs.Admission.{TakesMemory}

-- the indexes, counted from n, of the elements of which something is made
abbrev pub indexes_from : {X Y : Type 0} → (X → Option Y) → ℕ → List X → List ℕ
indexes_from made n [] = []
indexes_from made n (x ∷ xs) = (if is_some (made x) then n ∷ [] else []) ++ indexes_from made (suc n) xs

-- What is kept of a process: how many reports with a number, the index of the last of them and of the one by which it is
-- born, the indexes of those that made its stable elements, from which of these on all have one id, and whether its retirement was absorbed.
pub record KeptProcess : Type 0 where
  pub reports : ℕ
  pub last : Option ℕ
  pub birth : ℕ
  pub stable : List ℕ
  pub same_id_from : ℕ
  pub absorbed : Bool

abbrev pub kept_of : List Report → Name → KeptProcess
kept_of accepted p = record {
  reports = reports_of p accepted;
  last = last_index (is_numbered_of p) accepted;
  birth = unwrap_or (last_index (is_birth_of p) accepted) 0;
  stable = indexes_from (stable_made p) 0 accepted;
  same_id_from = same_id_from (stable_of p accepted);
  absorbed = is_absorbed p accepted;
}

-- a process as it is kept
abbrev pub view_of : Process → KeptProcess
view_of k = record { reports = k.reports; last = k.last; birth = k.birth; stable = k.stable.items; same_id_from = k.same_id_from; absorbed = k.absorbed }

-- the result of tests that stand for a reply with this meaning, at this front
abbrev pub Tests : (Reply → Type 0) → ℕ → Result AdmissionResult No → Type 0
Tests P front (Ok Old) = P (replies.Old front)
Tests P front (Ok Fits) = P (replies.Accepted (front + 1))
Tests P front (Err refusal) =
    P (replies.No refusal.code refusal.name refusal.value)
    ⊎ ((answer : Reply) × P answer × TakesMemory answer × (refusal.code ≡ OutOfMemory) × (refusal.name ≡ None) × (refusal.value ≡ None))
