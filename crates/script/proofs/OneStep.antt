-- No words are those of two steps, and what is read of the words is read of the line.
use Rattle.std.proofs.Common.{◌≡◌, ℕ, ◌+◌, ◌*◌, List, [], ◌∷◌, Option, Some, None, refl, sym, ap, ◌∙◌, arith, IsTrue}
use Rattle.std.specs.Prelude.{codes}
use Rattle.std.specs.List.{join_with_byte, AllByRecursion}
use Rattle.report_line.specs.Names.{is_name}
use Rattle.report_line.specs.Cuts.{Lacks, words_in}
use Rattle.report_line.specs.Spelling.{names_text}
use Rattle.report_line.specs.declared.call.Call.TheVariants as calls
use Rattle.report_line.proofs.Parting.{words_joined, joined_words}
use Rattle.report_line.proofs.Plain.{Lacks-name, byte_32, letter_32, plain_words}
use Rattle.report_line.proofs.Rows.{row_again}
use Rattle.driver.specs.declared.step.StepRequest.{StepRequest}
use Rattle.driver.specs.declared.step.StepRequest.TheVariants.{Work, Check, Present, Send, Receive, Fork, Retire, Absorb}
use Rattle.driver.specs.declared.step.Step.{Step}
use Rattle.script.specs.Spelling.{act_word, act_names, HasNames, step_words, root_words, settle_words, SpellsStep, SpellsRoot, SpellsSettle, FindsOne}
use Rattle.script.specs.working.Spelling.{IsStepOf, IsRootOf}

-- ---- no word has a space

plain_name : (word : List ℕ) → IsTrue (is_name word) → Lacks 32 word
plain_name word is = Lacks-name 32 word byte_32 letter_32 is

plain_word : (a : StepRequest) → Lacks 32 (act_word a)
plain_word Work = (refl, (refl, (refl, (refl, tt))))
plain_word Check = (refl, (refl, (refl, (refl, (refl, tt)))))
plain_word Present = (refl, (refl, (refl, (refl, (refl, (refl, (refl, tt)))))))
plain_word (Send m) = (refl, (refl, (refl, (refl, tt))))
plain_word (Receive m) = (refl, (refl, (refl, (refl, (refl, (refl, (refl, tt)))))))
plain_word (Fork c) = (refl, (refl, (refl, (refl, tt))))
plain_word (Retire q) = (refl, (refl, (refl, (refl, (refl, (refl, tt))))))
plain_word (Absorb r) = (refl, (refl, (refl, (refl, (refl, (refl, tt))))))

plain_names : (a : StepRequest) → HasNames a → AllByRecursion (Lacks 32) (act_names a)
plain_names Work is = tt
plain_names Check is = tt
plain_names Present is = tt
plain_names (Send m) is = (plain_name m is, tt)
plain_names (Receive m) is = (plain_name m is, tt)
plain_names (Fork c) is = (plain_name c is, tt)
plain_names (Retire q) is = (plain_name q is, tt)
plain_names (Absorb r) is = (plain_name r is, tt)

-- ---- words and lines

words_of_step : (line : List ℕ) (s : Step) → SpellsStep s line → words_in line ≡ step_words s
words_of_step line s is =
    ap words_in is.2 ∙ joined_words (act_word s.request) (s.process ∷ act_names s.request) (plain_word s.request, (plain_name s.process is.0, plain_names s.request is.1))

words_of_root : (line p : List ℕ) → SpellsRoot p line → words_in line ≡ root_words p
words_of_root line p is = ap words_in is.1 ∙ joined_words (codes "root") (p ∷ []) ((refl, (refl, (refl, (refl, tt)))), (plain_name p is.0, tt))

pub words_of_settle : (line : List ℕ) (names : List (List ℕ)) → SpellsSettle names line → words_in line ≡ settle_words names
words_of_settle line names is =
    ap words_in is.1 ∙ joined_words (codes "settle") (names_text names ∷ []) ((refl, (refl, (refl, (refl, (refl, (refl, tt)))))), ((plain_words (calls.Line names) is.0).1.0, tt))

pub found_step : (line : List ℕ) (r : Option Step) → FindsOne r (IsStepOf (words_in line)) → FindsOne r (λ s. SpellsStep s line)
found_step line (Some s) w = (w.0, w.1, sym (words_joined line) ∙ ap (join_with_byte 32) w.2)
found_step line None none = λ s is. none s (is.0, is.1, words_of_step line s is)

pub found_root : (line : List ℕ) (r : Option (List ℕ)) → FindsOne r (IsRootOf (words_in line)) → FindsOne r (λ p. SpellsRoot p line)
found_root line (Some p) w = (w.0, sym (words_joined line) ∙ ap (join_with_byte 32) w.1)
found_root line None none = λ p is. none p (is.0, words_of_root line p is)

-- ---- one step for each line

-- the first three letters of a word, by which the words of requests differ
abbrev mark : List ℕ → ℕ
mark [] = 0
mark (x ∷ []) = 0
mark (x ∷ y ∷ []) = 0
mark (x ∷ y ∷ z ∷ zs) = (x * 256 + y) * 256 + z

pub parts : (x y : List ℕ) (xs ys : List (List ℕ)) → x ∷ xs ≡ y ∷ ys → (x ≡ y) × (xs ≡ ys)
parts x y xs ys e = (cc, cc)

same_act : (a b : StepRequest) → mark (act_word a) ≡ mark (act_word b) → act_word a ≡ act_word b → act_names a ≡ act_names b → a ≡ b
same_act Work Work k w e = refl
same_act Check Check k w e = refl
same_act Present Present k w e = refl
same_act (Send m) (Send n) k w e = ap Send (parts m n [] [] e).0
same_act (Receive m) (Receive n) k w e = ap Receive (parts m n [] [] e).0
same_act (Fork m) (Fork n) k w e = ap Fork (parts m n [] [] e).0
same_act (Retire m) (Retire n) k w e = ap Retire (parts m n [] [] e).0
same_act (Absorb m) (Absorb n) k w e = ap Absorb (parts m n [] [] e).0
same_act a b k w e = absurd (omega (arith, k))

abbrev step : List ℕ → StepRequest → Step
step p a = record { process = p; request = a }

same_step : (p q : List ℕ) (a b : StepRequest) → p ≡ q → a ≡ b → step p a ≡ step q b
same_step p q a b e f = cc

pub one_step : (line : List ℕ) (s t : Step) → SpellsStep s line → SpellsStep t line → s ≡ t
one_step line s t is also =
    let both = parts _ _ _ _ (sym (words_of_step line s is) ∙ words_of_step line t also) in
    let behind = parts _ _ _ _ both.1 in
    same_step s.process t.process s.request t.request behind.0 (same_act s.request t.request (ap mark both.0) both.0 behind.1)

no_root_word : (a : StepRequest) → mark (codes "root") ≡ mark (act_word a) → ⊥
no_root_word Work k = omega (arith, k)
no_root_word Check k = omega (arith, k)
no_root_word Present k = omega (arith, k)
no_root_word (Send m) k = omega (arith, k)
no_root_word (Receive m) k = omega (arith, k)
no_root_word (Fork c) k = omega (arith, k)
no_root_word (Retire q) k = omega (arith, k)
no_root_word (Absorb r) k = omega (arith, k)

pub root_or_step : (line p : List ℕ) (s : Step) → SpellsRoot p line → ¬ SpellsStep s line
root_or_step line p s is also =
    let both = parts _ _ _ _ (sym (words_of_root line p is) ∙ words_of_step line s also) in
    no_root_word s.request (ap mark both.0)

-- ---- settlements

pub one_settle : (line : List ℕ) (names others : List (List ℕ)) → SpellsSettle names line → SpellsSettle others line → names ≡ others
one_settle line names others is also =
    let both = parts _ _ _ _ (sym (words_of_settle line names is) ∙ words_of_settle line others also) in
    row_again names others is.0 also.0 (parts _ _ _ _ both.1).0

no_settle_word : (a : StepRequest) → mark (codes "settle") ≡ mark (act_word a) → ⊥
no_settle_word Work k = omega (arith, k)
no_settle_word Check k = omega (arith, k)
no_settle_word Present k = omega (arith, k)
no_settle_word (Send m) k = omega (arith, k)
no_settle_word (Receive m) k = omega (arith, k)
no_settle_word (Fork c) k = omega (arith, k)
no_settle_word (Retire q) k = omega (arith, k)
no_settle_word (Absorb r) k = omega (arith, k)

pub settle_or_step : (line : List ℕ) (names : List (List ℕ)) (s : Step) → SpellsSettle names line → ¬ SpellsStep s line
settle_or_step line names s is also =
    let both = parts _ _ _ _ (sym (words_of_settle line names is) ∙ words_of_step line s also) in
    no_settle_word s.request (ap mark both.0)

no_root_there : mark (codes "settle") ≡ mark (codes "root") → ⊥
no_root_there k = omega (arith, k)

pub settle_or_root : (line : List ℕ) (names : List (List ℕ)) (p : List ℕ) → SpellsSettle names line → ¬ SpellsRoot p line
settle_or_root line names p is also =
    let both = parts _ _ _ _ (sym (words_of_settle line names is) ∙ words_of_root line p also) in
    no_root_there (ap mark both.0)
