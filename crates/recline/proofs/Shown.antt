-- The text of a record file, by what its chains hold.
use Rattle.std.proofs.Common.{◌≡◌, ℕ, Bool, true, false, List, ◌++◌, Some, sym, ap, subst, ◌∙◌}
use Rattle.record_file.specs.File.{Said}
use Rattle.earlier_file.specs.declared.found.FileFacts.{FileFacts}
use Rattle.report_line.specs.declared.report.Report.{Report}
use Rattle.chains.specs.Kept.{Kept}
use Rattle.chains.specs.Held.{Held, held_of}
use Rattle.desk.specs.Lawful.{unstopped}
use Rattle.record_show.specs.declared.shown.ShownFile.{ShownFile}
use Rattle.record_show.specs.declared.shown.ShownProcess.{ShownProcess}
use Rattle.record_show.specs.Processes.{shown_file, shown_processes}
use Rattle.record_show.specs.Tables.{table_text}
use Rattle.record_show.specs.Lines.{lines_text}
use Rattle.record_show.specs.Json.{json_text}
use Rattle.recline.specs.Showing.{shown_text}

-- a text by what is shown of a file, of its processes and of its records, where the chains hold what the desk holds
same_text : (text_by : ShownFile → List ShownProcess → List Said → List ℕ) (kept : Kept) (held : Held) (facts : FileFacts) (said found : List Said) → held_of kept ≡ unstopped held → kept.accepted ≡ held.accepted → said ≡ found
    → text_by (shown_file (held_of kept) facts) (shown_processes kept.accepted) said ≡ text_by (shown_file held facts) (shown_processes held.accepted) found
same_text text_by kept held facts said found holds same one =
    ap (λ (h : Held). text_by (shown_file h facts) (shown_processes kept.accepted) said) holds
    ∙ ap (λ (rs : List Report). text_by (shown_file held facts) (shown_processes rs) said) same
    ∙ ap (λ (s : List Said). text_by (shown_file held facts) (shown_processes held.accepted) s) one

-- an object of JSON with the records of the file
pub object_with_records : (kept : Kept) (held : Held) (facts : FileFacts) (said found : List Said) (reports : Bool) (text : List ℕ) → held_of kept ≡ unstopped held → kept.accepted ≡ held.accepted → said ≡ found → reports ≡ true
    → text ≡ json_text (shown_file (held_of kept) facts) (shown_processes kept.accepted) (Some said) → text ≡ shown_text (record { reports = reports; json = true }) facts held found
object_with_records kept held facts said found reports text holds same one asked is =
    subst (λ (b : Bool). text ≡ shown_text (record { reports = b; json = true }) facts held found) (sym asked)
    (is ∙ same_text (λ f ps s. json_text f ps (Some s)) kept held facts said found holds same one)

-- a table, and behind it the records
pub table_with_records : (kept : Kept) (held : Held) (facts : FileFacts) (said found : List Said) (reports : Bool) (table lines text : List ℕ) → held_of kept ≡ unstopped held → kept.accepted ≡ held.accepted → said ≡ found → reports ≡ true
    → text ≡ table ++ lines → table ≡ table_text (shown_file (held_of kept) facts) (shown_processes kept.accepted) → lines ≡ lines_text said → text ≡ shown_text (record { reports = reports; json = false }) facts held found
table_with_records kept held facts said found reports table lines text holds same one asked is first then_lines =
    subst (λ (b : Bool). text ≡ shown_text (record { reports = b; json = false }) facts held found) (sym asked)
    (is ∙ ap (λ (t : List ℕ). t ++ lines) first ∙ ap (λ (t : List ℕ). table_text (shown_file (held_of kept) facts) (shown_processes kept.accepted) ++ t) then_lines
    ∙ same_text (λ f ps s. table_text f ps ++ lines_text s) kept held facts said found holds same one)
