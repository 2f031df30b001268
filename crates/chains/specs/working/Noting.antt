-- Working definitions: what accepting a report changes in what is kept.
use Rattle.std.specs.Prelude.{ℕ, ◌+◌, Bool, true, false, List, [], ◌∷◌, ◌++◌, Option, Some, None, ◌<◌, ◌≡◌, slice_index_or, if◌then◌else◌, ⊤}
use Rattle.std.specs.Prelude.{slice_set, nat_eq}
use Rattle.std.specs.List.{position, list_any}
use Rattle.std.specs.Cmp.Lexicographic.{pointwise}
use Rattle.indexmap.specs.IndexSet.{insert_key}
use Rattle.report_line.specs.declared.report.ReportKind.{ReportKind}
use Rattle.report_line.specs.declared.report.ReportKind.TheVariants.{Check, Fork, Absorb}
use Rattle.report_line.specs.declared.report.Report.{Report}
use Rattle.report_line.specs.declared.report.Report.TheVariants.{Begin, Numbered}
use Rattle.chains.specs.Processes.{Name, newborn}
use Rattle.chains.specs.working.Keeping.{KeptProcess}

-- a process of which the report of this index is accepted, and makes a stable element of it or not; the last run is this one then
abbrev pub noted : ℕ → ℕ → Bool → KeptProcess → KeptProcess
noted index run lasts k = record {
  reports = k.reports + 1;
  last = Some index;
  birth = k.birth;
  stable = if lasts then k.stable ++ index ∷ [] else k.stable;
  same_id_from = run;
  absorbed = k.absorbed;
}

-- a process whose retirement is absorbed
abbrev pub taken : KeptProcess → KeptProcess
taken k = record { reports = k.reports; last = k.last; birth = k.birth; stable = k.stable; same_id_from = k.same_id_from; absorbed = true }

-- a process that is born by the report of this index
abbrev pub born : ℕ → KeptProcess
born index = record { reports = 0; last = None; birth = index; stable = index ∷ []; same_id_from = 0; absorbed = false }

-- the process at this place, changed
abbrev pub changed_at : (KeptProcess → KeptProcess) → ℕ → List KeptProcess → List KeptProcess
changed_at change i kept = slice_set kept i (change (slice_index_or kept i (born 0)))

abbrev pub is_check : ReportKind → Bool
is_check Check = true
is_check _ = false

-- the names with that of a process that is born
abbrev pub names_with : List Name → Option Name → List Name
names_with names None = names
names_with names (Some p) = insert_key (pointwise nat_eq) names p

abbrev pub names_after : List Name → Report → List Name
names_after names r = names_with names (newborn r)

-- the process of this name, if there is one, is absorbed
abbrev pub TakenAt : List Name → Name → Option ℕ → List KeptProcess → List KeptProcess → Type 0
TakenAt names retired None kept after = (list_any (pointwise nat_eq retired) names ≡ false) × (after ≡ kept)
TakenAt names retired (Some i) kept after = after ≡ changed_at taken i kept

abbrev pub IsTakenBy : List Name → List KeptProcess → Name → List KeptProcess → Type 0
IsTakenBy names kept retired after = TakenAt names retired (position (pointwise nat_eq retired) names) kept after

-- what is kept after an action, where the process itself was noted
abbrev pub IsKeptByAction : List Name → List KeptProcess → ReportKind → ℕ → List KeptProcess → Type 0
IsKeptByAction names noted (Fork f) index after = after ≡ noted ++ born index ∷ []
IsKeptByAction names noted (Absorb retired) index after = IsTakenBy names noted retired after
IsKeptByAction names noted _ index after = after ≡ noted

-- what is kept after a report of the process at this place, whose last run this is then
abbrev pub IsKeptBy : List KeptProcess → List Name → Report → ℕ → ℕ → ℕ → List KeptProcess → Type 0
IsKeptBy kept names (Begin p) place index run after = after ≡ kept ++ born index ∷ []
IsKeptBy kept names (Numbered r) place index run after = IsKeptByAction names (changed_at (noted index run (is_check r.action)) place kept) r.action index after

-- a report with a number is of a known process, whose number was found
abbrev pub IsFound : Report → Option ℕ → Type 0
IsFound (Begin p) number = number ≡ None
IsFound (Numbered r) None = ⊥
IsFound (Numbered r) (Some i) = ⊤

-- the number, if there is one, is below n
abbrev pub IsPlaceWithin : Option ℕ → ℕ → Type 0
IsPlaceWithin None n = ⊤
IsPlaceWithin (Some i) n = i < n

-- the process of this number has room for one more element
abbrev pub HasPlace : Option ℕ → List ℕ → Type 0
HasPlace None rooms = ⊤
HasPlace (Some i) rooms = 0 < slice_index_or rooms i 0
