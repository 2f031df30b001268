-- The one spelling of each call.
use Rattle.std.specs.Prelude.{◌≡◌, ℕ, zero, suc, ◌<◌, ◌^◌, List, [], ◌∷◌, ◌++◌, IsTrue, codes, ⊤}
use Rattle.std.specs.List.{join_with_byte}
use Rattle.std.specs.Fmt.{decimal}
use Rattle.id_tree.specs.NormalForm.{IsId}
use Rattle.id_tree.specs.Spelling as ids
use Rattle.stamp.specs.Stamps.{IsStamp, stamp_text}
use Rattle.report_line.specs.declared.report.ReportKind.{ReportKind}
use Rattle.report_line.specs.declared.report.ReportKind.TheVariants.{Check, Present, Fork, Retire, Absorb}
use Rattle.report_line.specs.declared.report.NumberedReport.{NumberedReport}
use Rattle.report_line.specs.declared.report.Report.{Report}
use Rattle.report_line.specs.declared.report.Report.TheVariants as reports
use Rattle.report_line.specs.declared.call.Call.{Call}
use Rattle.report_line.specs.declared.call.Call.TheVariants as calls
use Rattle.report_line.specs.Names.{is_name}
pub use Rattle.report_line.specs.Names.{AreNames}

-- a number that counts from 1 and is below 2 ^ 32
abbrev pub IsCount : ℕ → Type 0
IsCount n = (0 < n) × (n < 2 ^ 32)

-- names parted by commas, or `-` for none
abbrev pub names_text : List (List ℕ) → List ℕ
names_text [] = codes "-"
names_text (n ∷ ns) = join_with_byte 44 (n ∷ ns)

-- the word that names an action
abbrev pub action_word : ReportKind → List ℕ
action_word Check = codes "CHECK"
action_word Present = codes "PRESENT"
action_word (Fork f) = codes "FORK"
action_word (Retire target) = codes "RETIRE"
action_word (Absorb retired) = codes "ABSORB"

-- the words behind the stamp
abbrev pub action_fields : ReportKind → List (List ℕ)
action_fields Check = []
action_fields Present = []
action_fields (Fork f) = ids.spelling f.kept ∷ f.child ∷ ids.spelling f.given ∷ []
action_fields (Retire target) = target ∷ []
action_fields (Absorb retired) = retired ∷ []

-- the mark of an epoch, which epoch 0 has none of
abbrev pub mark_text : ℕ → List ℕ
mark_text zero = []
mark_text (suc k) = codes "@" ++ decimal (suc k)

-- the words of a report of this epoch
abbrev pub report_words : ℕ → Report → List (List ℕ)
report_words epoch (reports.Begin p) = codes "BEGIN" ∷ p ∷ []
report_words epoch (reports.Numbered r) = (action_word r.action ++ mark_text epoch) ∷ r.process ∷ decimal r.number ∷ stamp_text r.stamp ∷ action_fields r.action

-- the words of a call
abbrev pub words_of : Call → List (List ℕ)
words_of (calls.Report m) = report_words m.epoch m.report
words_of (calls.Line ns) = codes "LINE" ∷ names_text ns ∷ []
words_of calls.Garbage = codes "GARBAGE" ∷ []
words_of (calls.Settle front ns) = codes "SETTLE" ∷ decimal front ∷ names_text ns ∷ []
words_of (calls.State p) = codes "STATE" ∷ p ∷ []
words_of calls.Bye = codes "BYE" ∷ []
words_of (calls.Bad n) = []
words_of calls.Unread = []

-- the words, parted by one space
unfoldable pub spelling : Call → List ℕ
spelling c = join_with_byte 32 (words_of c)

-- names are names, and ids are in normal form and within the limits
abbrev pub IsAction : ReportKind → Type 0
IsAction Check = ⊤
IsAction Present = ⊤
IsAction (Fork f) = IsId f.kept × IsTrue (is_name f.child) × IsId f.given
IsAction (Retire target) = IsTrue (is_name target)
IsAction (Absorb retired) = IsTrue (is_name retired)

-- what the fields of a report with a number are
pub record AreFields (r : NumberedReport) : Type 0 where
  pub name : IsTrue (is_name r.process)
  pub count : IsCount r.number
  pub stamped : IsStamp r.stamp
  pub acted : IsAction r.action

-- the reports that have a line in this epoch; BEGIN has no mark
abbrev pub IsSpelledIn : ℕ → Report → Type 0
IsSpelledIn epoch (reports.Begin p) = (epoch ≡ 0) × IsTrue (is_name p)
IsSpelledIn epoch (reports.Numbered r) = (epoch < 2 ^ 32) × AreFields r

-- the calls that have a line
abbrev pub HasSpelling : Call → Type 0
HasSpelling (calls.Report m) = IsSpelledIn m.epoch m.report
HasSpelling (calls.Line ns) = AreNames ns
HasSpelling calls.Garbage = ⊤
HasSpelling (calls.Settle front ns) = IsCount front × AreNames ns
HasSpelling (calls.State p) = IsTrue (is_name p)
HasSpelling calls.Bye = ⊤
HasSpelling (calls.Bad n) = ⊥
HasSpelling calls.Unread = ⊥
