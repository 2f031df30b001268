-- A script without settlements.
use Rattle.std.proofs.Common.{◌≡◌, ℕ, List, [], ◌∷◌, ◌++◌, map, Option, Some, None, refl, sym, ap, ◌∙◌}
use Rattle.std.specs.List.{flat_map, cons_option}
use Rattle.std.proofs.lemmas.List.{map-append}
use Rattle.std.proofs.lemmas.List.Folds.{flat_map-map}
use Rattle.report_line.specs.declared.report.Report.{Report}
use Rattle.report_line.specs.declared.report.Report.TheVariants.{Begin}
use Rattle.report_line.specs.declared.call.Call.{Call}
use Rattle.report_line.specs.declared.call.Call.TheVariants as calls
use Rattle.report_line.specs.Cutting.{ended}
use Rattle.report_line.specs.histories.History.{Name}
use Rattle.report_line.specs.Reports.{unmarked}
use Rattle.report_line.specs.Spelling.{spelling}
use Rattle.report_line.specs.histories.StepReports.{reports}
use Rattle.driver.specs.declared.step.Step.{Step}
use Rattle.driver.specs.Chronicle.{Chronicle}
use Rattle.driver.specs.Stamping.{Takes}
use Rattle.script.specs.Driven.{Drives, none, begins, goes_on, settles, reports_of, NoneSettles}
use Rattle.script.specs.Printed.{printed, report_lines}
use Rattle.script.specs.Spelling.{SpellsSettle}

-- the line of a report without a mark
abbrev plain_line : Report → Call
plain_line r = calls.Report (unmarked r)

-- no settlement was made, and the reports of the world were printed
abbrev IsPlain : Option Chronicle → List Call → Type 0
IsPlain None told = told ≡ []
IsPlain (Some world) told = (world.epoch ≡ 0) × (told ≡ map plain_line (reports_of (Some world)))

none_before : (lines : List (List ℕ)) (line : List ℕ) → NoneSettles (lines ++ line ∷ []) → NoneSettles lines
none_before [] line h = tt
none_before (x ∷ lines) line h = (h.0, none_before lines line h.1)

none_last : (lines : List (List ℕ)) (line : List ℕ) → NoneSettles (lines ++ line ∷ []) → (names : List (List ℕ)) → ¬ SpellsSettle names line
none_last [] line h = h.0
none_last (x ∷ lines) line h = none_last lines line h.1

grown : (old new : Chronicle) (step : Step) (given : Option Report) (told : List Call) → Takes old step new given → old.epoch ≡ 0 → told ≡ map plain_line (reports_of (Some old))
    → told ++ report_lines new.epoch given ≡ map plain_line (reports_of (Some new))
grown old new step given told takes epoch is =
    let present : new.epoch ≡ 0 = takes.epoch ∙ epoch in
    let before : List Report = reports old.root old.history in
    let rest : reports new.root new.history ≡ reports old.root old.history ++ cons_option given [] =
    ap (λ (r : Name). reports r new.history) takes.root
    ∙ (ap (reports old.root) takes.history ∙ ap (λ (g : Option Report). reports old.root old.history ++ cons_option g []) (sym takes.report))
    in
    let whole : reports_of (Some new) ≡ Begin old.root ∷ (reports old.root old.history ++ cons_option given []) =
    ap (λ (r : Name). Begin r ∷ reports new.root new.history) takes.root ∙ ap (λ (l : List Report). Begin old.root ∷ l) rest
    in
    ap (λ (k : ℕ). told ++ report_lines k given) present
    ∙ (ap (λ (l : List Call). l ++ map plain_line (cons_option given [])) is
    ∙ (sym (map-append plain_line (Begin old.root ∷ reports old.root old.history) (cons_option given [])) ∙ ap (map plain_line) (sym whole)))

plain : {lines : List (List ℕ)} {world : Option Chronicle} {told : List Call} → Drives lines world told → NoneSettles lines → IsPlain world told
plain none h = refl
plain (begins spells) h = (refl, refl)
plain (goes_on {lines = lines} {line = line} {step = step} {old = old} {new = new} {given = given} {told = told} driven spells takes) h =
    let before = plain driven (none_before lines line h) in
    (takes.epoch ∙ before.0, grown old new step given told takes before.0 before.1)
plain (settles {lines = lines} {line = line} {names = names} driven spells behind closed returns) h = absurd (none_last lines line h names spells)

text_of_reports : (world : Option Chronicle) (told : List Call) → IsPlain world told → printed told ≡ flat_map (λ r. ended (spelling (calls.Report (unmarked r)))) (reports_of world)
text_of_reports None told is = ap printed is
text_of_reports (Some world) told is = ap printed is.1 ∙ flat_map-map (λ (x : Call). ended (spelling x)) plain_line (reports_of (Some world))

pub prints_reports : (lines : List (List ℕ)) (world : Option Chronicle) (told : List Call) → Drives lines world told → NoneSettles lines
    → printed told ≡ flat_map (λ r. ended (spelling (calls.Report (unmarked r)))) (reports_of world)
prints_reports lines world told driven h = text_of_reports world told (plain driven h)
