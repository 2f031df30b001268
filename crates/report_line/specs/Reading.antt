-- What it means to read a line: a relation over the spelling of calls.
use Rattle.std.specs.Prelude.{◌≡◌, ◌≢◌, ℕ, ◌<◌, ◌^◌, List, ◌∷◌, ◌++◌, Result, Ok, Err, codes, ⊤}
use Rattle.std.specs.Fmt.{decimal}
use Rattle.stamp.specs.Stamps.{stamp_text}
use Rattle.report_line.specs.declared.fault.LineFault.{LineFault}
use Rattle.report_line.specs.declared.fault.LineFault.TheVariants.{Grammar, Memory}
use Rattle.report_line.specs.declared.report.ReportKind.{ReportKind}
use Rattle.report_line.specs.declared.report.NumberedReport.{NumberedReport}
use Rattle.report_line.specs.declared.call.Call.{Call}
use Rattle.report_line.specs.Cuts.{Lacks}
use Rattle.report_line.specs.Spelling.{words_of, spelling, HasSpelling, AreFields, mark_text, action_word, action_fields, IsAction}

-- One is found for which P holds; or, at `Grammar`, P holds for none. Memory may be wanting for either.
abbrev pub Finds : {X : Type 0} → Result X LineFault → (X → Type 0) → Type 0
Finds (Ok x) P = P x
Finds {X} (Err Grammar) P = (x : X) → ¬ P x
Finds (Err Memory) P = ⊤

-- the call is one that has a line, and these bytes are its line
abbrev pub Spells : Call → List ℕ → Type 0
Spells c bytes = HasSpelling c × (bytes ≡ spelling c)

-- a call is read off its line; at `Grammar`, the bytes are the line of no call
abbrev pub Reads : Result Call LineFault → List ℕ → Type 0
Reads result bytes = Finds result (λ c. Spells c bytes)

-- Working definitions from here on: a line is read word by word.

-- The first of the words is the text of one for which P holds, and new are the others; or, at `Grammar`, the first word is
-- that of none, or there is no word.
abbrev pub Takes : {X : Type 0} → Result X LineFault → (X → Type 0) → (X → List ℕ) → List (List ℕ) → List (List ℕ) → Type 0
Takes (Ok x) P text old new = P x × (old ≡ text x ∷ new)
Takes {X} (Err Grammar) P text old new = (x : X) → P x → (rest : List (List ℕ)) → old ≢ text x ∷ rest
Takes (Err Memory) P text old new = ⊤

-- the call is one that has a line, and these are its words
abbrev pub IsCallOf : List (List ℕ) → Call → Type 0
IsCallOf words c = HasSpelling c × (words ≡ words_of c)

-- the action has this word, and these fields
abbrev pub IsActionOf : List ℕ → List (List ℕ) → ReportKind → Type 0
IsActionOf kind fields a = IsAction a × (kind ≡ action_word a) × (fields ≡ action_fields a)

-- the word is that of the report's action, and these are the words behind it
abbrev pub IsNumberedOf : List ℕ → List (List ℕ) → NumberedReport → Type 0
IsNumberedOf kind fields r = AreFields r × (kind ≡ action_word r.action) × (fields ≡ r.process ∷ decimal r.number ∷ stamp_text r.stamp ∷ action_fields r.action)

-- the first word of a line as a word without `@` and the mark of an epoch
abbrev pub IsMarkedWord : List ℕ → List ℕ → ℕ → Type 0
IsMarkedWord kind word epoch = Lacks 64 word × (epoch < 2 ^ 32) × (kind ≡ word ++ mark_text epoch)

-- the word of no call that is no report with a number
pub record IsOtherKind (kind : List ℕ) : Type 0 where
  pub no_begin : kind ≢ codes "BEGIN"
  pub no_line : kind ≢ codes "LINE"
  pub no_garbage : kind ≢ codes "GARBAGE"
  pub no_settle : kind ≢ codes "SETTLE"
  pub no_state : kind ≢ codes "STATE"
  pub no_bye : kind ≢ codes "BYE"
