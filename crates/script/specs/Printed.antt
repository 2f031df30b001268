-- What a script prints, and what chains hold that take it.
use Rattle.std.specs.Prelude.{◌≡◌, ◌⊎◌, ℕ, List, [], ◌∷◌, ◌++◌, All, map, Option}
use Rattle.std.specs.List.{flat_map, cons_option}
use Rattle.report_line.specs.declared.report.Report.{Report}
use Rattle.report_line.specs.declared.reply.Reply.{Reply}
use Rattle.report_line.specs.declared.call.Call.{Call}
use Rattle.report_line.specs.declared.call.Call.TheVariants as calls
use Rattle.report_line.specs.Cutting.{ended}
use Rattle.report_line.specs.Spelling.{spelling}
use Rattle.chains.specs.Processes.{Name, known, IsKnown}
use Rattle.chains.specs.Failures.{IsFailedSet}
use Rattle.chains.specs.Greatest.{IsGreatestCut}
use Rattle.chains.specs.Held.{Held, counting}
use Rattle.chains.specs.Turns.{fine, IsTurnWith}
use Rattle.driver.specs.declared.line.NamedPosition.{NamedPosition}
use Rattle.driver.specs.Lines.{names_of}

-- the text that is printed: a line for each
abbrev pub printed : List Call → List ℕ
printed lines = flat_map (λ line. ended (spelling line)) lines

-- the line of a report, if there is one, with the mark of its epoch
abbrev pub report_lines : ℕ → Option Report → List Call
report_lines epoch given = map (λ r. calls.Report (record { epoch = epoch; report = r })) (cons_option given [])

-- What chains hold once each of these lines took its turn, in order, with memory enough and no device that fails. A line that is
-- refused, as for want of room, leaves what is held as it was.
pub data IsHeldBehind : List Call → Held → Type 0 where
  nothing : IsHeldBehind [] (counting [])
  one_more : {lines : List Call} (line : Call) (reply : Reply) {held after : Held}
      → IsHeldBehind lines held → IsTurnWith fine held line reply after → IsHeldBehind (lines ++ line ∷ []) after

-- The recovery line of these failed processes, by names: the known processes in order of birth, each at its position in the greatest
-- stamp-consistent cut.
pub record IsRecoveryLine (accepted : List Report) (names : List Name) (line : List NamedPosition) : Type 0 where
  pub failed : List ℕ
  pub are_failed : IsFailedSet accepted names failed
  pub in_order : names_of line ≡ known accepted
  pub greatest : IsGreatestCut accepted failed (map (λ x. x.position) line)

-- the line to return to for these failed processes: their recovery line; or nothing, where one of them is not known
abbrev pub IsLineFor : List Report → List Name → List NamedPosition → Type 0
IsLineFor accepted names line = IsRecoveryLine accepted names line ⊎ ((¬ All (IsKnown accepted) names) × (line ≡ []))

-- the line to return to for these failed processes, by what the printed lines tell
pub record IsLineBehind (lines : List Call) (names : List Name) (line : List NamedPosition) : Type 0 where
  pub held : Held
  pub behind : IsHeldBehind lines held
  pub for_names : IsLineFor held.accepted names line
