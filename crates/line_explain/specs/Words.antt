-- The text of an explanation: one line without LF. Of the line itself it has only names and numbers that were read.
use Rattle.std.specs.Prelude.{ℕ, List, ◌++◌, codes, length}
use Rattle.std.specs.Fmt.{decimal}
use Rattle.report_line.specs.declared.report.ReportKind.{ReportKind}
use Rattle.report_line.specs.declared.report.ReportKind.TheVariants as actions
use Rattle.report_line.specs.declared.report.Report.{Report}
use Rattle.report_line.specs.declared.report.Report.TheVariants as reports
use Rattle.report_line.specs.declared.call.Call.{Call}
use Rattle.report_line.specs.declared.call.Call.TheVariants as calls
use Rattle.line_explain.specs.declared.wanted.Wanted.{Wanted}
use Rattle.line_explain.specs.declared.wanted.Wanted.TheVariants as wanted
use Rattle.line_explain.specs.declared.fault.TreeFault.{TreeFault}
use Rattle.line_explain.specs.declared.fault.TreeFault.TheVariants.{NoText, NotNormal, TooDeep}
use Rattle.line_explain.specs.declared.fault.Why.{Why}
use Rattle.line_explain.specs.declared.fault.Why.TheVariants as why
use Rattle.line_explain.specs.declared.explained.Explained.{Explained}
use Rattle.line_explain.specs.declared.explained.Explained.TheVariants.{Is, TooLong, Wrong}

-- ---- what is wrong

abbrev pub missing_text : Wanted → List ℕ
missing_text wanted.Name = codes " is missing: a name is wanted"
missing_text wanted.Number = codes " is missing: a number is wanted"
missing_text wanted.Stamp = codes " is missing: a stamp is wanted"
missing_text wanted.Id = codes " is missing: an id is wanted"
missing_text wanted.Names = codes " is missing: names parted by commas are wanted, or - for none"

abbrev pub stamp_text : TreeFault → List ℕ
stamp_text NoText = codes ": a stamp is wanted, an id and an event tree with a semicolon between them"
stamp_text NotNormal = codes ": a stamp with a tree that is not in normal form"
stamp_text TooDeep = codes ": a stamp with a tree deeper than 40"

abbrev pub id_text : TreeFault → List ℕ
id_text NoText = codes ": an id is wanted, as 0, 1 or (1,0)"
id_text NotNormal = codes ": an id that is not in normal form"
id_text TooDeep = codes ": an id deeper than 40"

-- what is told behind the number of the word
abbrev pub why_text : Why → List ℕ
why_text (why.Missing kind) = missing_text kind
why_text why.Empty = codes " is empty: words are parted by one space, and none stands at either end"
why_text why.Kind = codes ": BEGIN, CHECK, PRESENT, FORK, RETIRE, ABSORB, LINE, GARBAGE, STATE, SETTLE or BYE is wanted"
why_text why.Mark = codes ": a mark is @ and a number from 1 to 4294967295, behind CHECK, PRESENT, FORK, RETIRE or ABSORB"
why_text why.Extra = codes ": nothing is wanted here"
why_text why.Name = codes ": a name is wanted, 1 to 32 of a to z, 0 to 9, _ and -, the first a letter"
why_text why.Number = codes ": a number is wanted, 1 to 4294967295 without leading zeros"
why_text why.Names = codes ": names parted by commas are wanted, or - for none"
why_text (why.Stamp fault) = stamp_text fault
why_text why.TooLarge = codes ": a stamp with a value above 4294967295"
why_text (why.Id fault) = id_text fault

-- ---- which call it is

abbrev pub action_text : ReportKind → List ℕ
action_text actions.Check = codes ": CHECK"
action_text actions.Present = codes ": PRESENT"
action_text (actions.Fork forked) = codes ": FORK of " ++ forked.child
action_text (actions.Retire target) = codes ": RETIRE into " ++ target
action_text (actions.Absorb retired) = codes ": ABSORB of " ++ retired

abbrev pub report_text : ℕ → Report → List ℕ
report_text epoch (reports.Begin process) = codes "the beginning of " ++ (process ++ codes ": BEGIN")
report_text epoch (reports.Numbered r) = codes "report " ++ (decimal r.number ++ (codes " of " ++ (r.process ++ (codes ", epoch " ++ (decimal epoch ++ action_text r.action)))))

-- calls that no line is have no text
abbrev pub call_text : Call → List ℕ
call_text (calls.Report m) = report_text m.epoch m.report
call_text (calls.Line names) = codes "a question: LINE, names: " ++ decimal (length names)
call_text calls.Garbage = codes "a question: GARBAGE"
call_text (calls.Settle front names) = codes "a settlement at the front " ++ (decimal front ++ (codes ": SETTLE, names: " ++ decimal (length names)))
call_text (calls.State process) = codes "a question: STATE of " ++ process
call_text calls.Bye = codes "the end of the session: BYE"
call_text (calls.Bad number) = codes ""
call_text calls.Unread = codes ""

-- ---- both

abbrev pub explained_text : Explained → List ℕ
explained_text (Is call) = call_text call
explained_text TooLong = codes "the line is longer than 8192 bytes"
explained_text (Wrong found) = codes "word " ++ (decimal found.number ++ why_text found.why)
