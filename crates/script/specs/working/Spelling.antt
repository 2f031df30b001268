-- A line is read word by word.
use Rattle.std.specs.Prelude.{◌≡◌, ℕ, List, IsTrue}
use Rattle.report_line.specs.Names.{is_name}
use Rattle.driver.specs.declared.step.StepRequest.{StepRequest}
use Rattle.driver.specs.declared.step.Step.{Step}
use Rattle.script.specs.Spelling.{HasNames, act_names, act_word, root_words, step_words}

-- the request has this word and these names
abbrev pub IsActOf : List ℕ → List (List ℕ) → StepRequest → Type 0
IsActOf kind names a = HasNames a × (kind ≡ act_word a) × (names ≡ act_names a)

-- the step has these words
abbrev pub IsStepOf : List (List ℕ) → Step → Type 0
IsStepOf words s = IsTrue (is_name s.process) × HasNames s.request × (words ≡ step_words s)

-- the root has these words
abbrev pub IsRootOf : List (List ℕ) → List ℕ → Type 0
IsRootOf words p = IsTrue (is_name p) × (words ≡ root_words p)
