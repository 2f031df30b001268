-- Elements with the numbers of the reports that made them, and limits of positions by them.
use Rattle.std.proofs.Common.{◌≡◌, ◌⊎◌, ℕ, zero, suc, List, Option, Some, None, true, false}
use Rattle.std.specs.Prelude.{Bool, Contains, slice_get, is_some}
use Rattle.std.specs.List.{filter_map}
use Rattle.std.specs.Option.{option_map_or}
use Rattle.std.specs.Str.{bytes_eq}
use Rattle.id_tree.specs.IdTree.{One}
use Rattle.event_tree.specs.EventTree.{Leaf}
use Rattle.stamp.specs.declared.stamp.Stamp.{Stamp}
use Rattle.report_line.specs.declared.report.ReportKind.{ReportKind}
use Rattle.report_line.specs.declared.report.ReportKind.TheVariants.{Check, Present, Fork}
use Rattle.report_line.specs.declared.report.NumberedReport.{NumberedReport}
use Rattle.report_line.specs.declared.report.Report.{Report}
use Rattle.report_line.specs.declared.report.Report.TheVariants.{Begin, Numbered}
use Rattle.chains.specs.declared.position.Position.{Position}
use Rattle.chains.specs.declared.position.Position.TheVariants.{At, Retired}
use Rattle.chains.specs.Processes.{Name, child_of, reports_of, last_report, target_of}
use Rattle.chains.specs.Elements.{only_if, name_of, elements_of}
use Rattle.chains.specs.Positions.{position_in}
use Rattle.law_lines.specs.Settled.{Limits}

abbrev pub told : Name → ℕ → Stamp → ReportKind → NumberedReport
told p n s a = record { process = p; number = n; stamp = s; action = a }

-- whether p is born by the action
abbrev pub is_born_by : Name → ReportKind → Bool
is_born_by p a = option_map_or (λ q. bytes_eq p q) (child_of a) false

-- the stable element of p that a report makes, with the report's number: 0 for a birth
abbrev pub numbered_by : Name → NumberedReport → ReportKind → Option (ℕ × Stamp)
numbered_by p r Check = only_if (bytes_eq p r.process) (r.number, r.stamp)
numbered_by p r (Fork f) = only_if (bytes_eq p f.child) (0, record { id = f.given; events = r.stamp.events })
numbered_by p r _ = None

abbrev pub numbered_made : Name → Report → Option (ℕ × Stamp)
numbered_made p (Begin q) = only_if (bytes_eq p q) (0, record { id = One; events = Leaf 0 })
numbered_made p (Numbered r) = numbered_by p r r.action

-- The report of this number made this element of p: a stable one, or a present state that is its last report.
abbrev pub IsMadeBy : List Report → Name → ℕ → Stamp → Type 0
IsMadeBy accepted p n s =
    Contains (filter_map (numbered_made p) accepted) (n, s) ⊎ (last_report p accepted ≡ Some (Numbered (told p n s Present)))

-- How many reports of p are at or before its position: those up to the one that made the element, or all of a retired process.
abbrev pub IsLimit : List Report → Name → Position → ℕ → Type 0
IsLimit accepted p (At zero) n = n ≡ 0
IsLimit accepted p (At (suc k)) n = (s : Stamp) × (slice_get (elements_of p accepted) k ≡ Some s) × IsMadeBy accepted p n s
IsLimit accepted p Retired n = (n ≡ reports_of p accepted) × (is_some (target_of p accepted) ≡ true)

-- The limits are those of the cut.
abbrev pub AreLimitsOf : List Report → List Position → Limits → Type 0
AreLimitsOf accepted cut limits = (i : ℕ) (p : Name) → name_of accepted i ≡ Some p → IsLimit accepted p (position_in cut i) (limits p)
