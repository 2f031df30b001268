-- The one line of each step, and of a settlement.
use Rattle.std.specs.Prelude.{◌≡◌, ℕ, List, [], ◌∷◌, IsTrue, codes, Option, Some, None, ⊤}
use Rattle.std.specs.List.{join_with_byte}
use Rattle.report_line.specs.Names.{is_name, AreNames}
use Rattle.report_line.specs.Spelling.{names_text}
use Rattle.driver.specs.declared.step.StepRequest.{StepRequest}
use Rattle.driver.specs.declared.step.StepRequest.TheVariants.{Work, Check, Present, Send, Receive, Fork, Retire, Absorb}
use Rattle.driver.specs.declared.step.Step.{Step}

-- the word that names a request
abbrev pub act_word : StepRequest → List ℕ
act_word Work = codes "work"
act_word Check = codes "check"
act_word Present = codes "present"
act_word (Send m) = codes "send"
act_word (Receive m) = codes "receive"
act_word (Fork c) = codes "fork"
act_word (Retire q) = codes "retire"
act_word (Absorb r) = codes "absorb"

-- the words behind the process
abbrev pub act_names : StepRequest → List (List ℕ)
act_names Work = []
act_names Check = []
act_names Present = []
act_names (Send m) = m ∷ []
act_names (Receive m) = m ∷ []
act_names (Fork c) = c ∷ []
act_names (Retire q) = q ∷ []
act_names (Absorb r) = r ∷ []

-- what a request names is a name
abbrev pub HasNames : StepRequest → Type 0
HasNames Work = ⊤
HasNames Check = ⊤
HasNames Present = ⊤
HasNames (Send m) = IsTrue (is_name m)
HasNames (Receive m) = IsTrue (is_name m)
HasNames (Fork c) = IsTrue (is_name c)
HasNames (Retire q) = IsTrue (is_name q)
HasNames (Absorb r) = IsTrue (is_name r)

-- the words of the step
abbrev pub step_words : Step → List (List ℕ)
step_words s = act_word s.request ∷ s.process ∷ act_names s.request

-- the words of the line that begins a world with this root
abbrev pub root_words : List ℕ → List (List ℕ)
root_words p = codes "root" ∷ p ∷ []

-- the words of the line that settles for these failed processes
abbrev pub settle_words : List (List ℕ) → List (List ℕ)
settle_words names = codes "settle" ∷ names_text names ∷ []

-- the step is one of names, and this is its line: its words, parted by one space
abbrev pub SpellsStep : Step → List ℕ → Type 0
SpellsStep s line = IsTrue (is_name s.process) × HasNames s.request × (line ≡ join_with_byte 32 (step_words s))

-- this is the line that begins a world with this root
abbrev pub SpellsRoot : List ℕ → List ℕ → Type 0
SpellsRoot p line = IsTrue (is_name p) × (line ≡ join_with_byte 32 (root_words p))

-- This is the line that settles for these failed processes: it has their names as the line has that asks where all recover from.
abbrev pub SpellsSettle : List (List ℕ) → List ℕ → Type 0
SpellsSettle names line = AreNames names × (line ≡ join_with_byte 32 (settle_words names))

-- one is found for which P holds, or P holds for none
abbrev pub FindsOne : {X : Type 0} → Option X → (X → Type 0) → Type 0
FindsOne (Some x) P = P x
FindsOne {X} None P = (x : X) → ¬ P x
