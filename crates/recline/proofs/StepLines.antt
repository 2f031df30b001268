-- The lines of a script, one after the other, and which of them are passed on.
use Rattle.std.proofs.Common.{◌≡◌, ◌≢◌, ◌≤◌, ◌<◌, inl, inr, true, false, eqb, ℕ, ◌+◌, ◌-◌, List, [], ◌∷◌, ◌++◌, length, refl, sym, ap, ◌∙◌, append_assoc, arith}
use Rattle.std.specs.Prelude.{nat_le}
use Rattle.std.specs.List.{filter, flat_map}
use Rattle.std.proofs.lemmas.Bool.{cases_Bool, eqb-true, eqb-false, ne_eqb, le-leb, lt-leb}
use Rattle.std.proofs.lemmas.List.{append-nil, length-append}
use Rattle.std.proofs.lemmas.List.Elements.{filter-append}
use Rattle.std.proofs.lemmas.List.Concat.{flat_map-append}
use Rattle.report_line.specs.Cutting.{ended, NoBreak}
use Rattle.script.specs.Driven.{AreLinesOf}
use Rattle.recline.specs.Commented.{is_passed_on, passed_on, number_in, NumbersSteps}
use Rattle.recline.specs.working.Commented.{onto_first, lines_of}

-- ---- lines

pub lines_are : (script : List ℕ) → AreLinesOf script (lines_of script)
unfolding lines_of
lines_are [] = ([], tt, tt, refl)
lines_are (b ∷ bs) = (let later = lines_are bs in elim (cases_Bool (eqb b 10)) [ inl is ↦ rw is (broken (lines_of bs) later is) | inr other ↦ rw other (joined (lines_of bs) later other) ])
  where
    broken : (lines : List (List ℕ)) → AreLinesOf bs lines → eqb b 10 ≡ true → AreLinesOf (b ∷ bs) ([] ∷ lines)
    broken lines w is = (let lf : b ≡ 10 = eqb-true b 10 is in (w.0, (tt, w.1), w.2, ap (λ (x : ℕ). x ∷ bs) lf ∙ ap (λ (l : List ℕ). 10 ∷ l) w.3))

    joined : (lines : List (List ℕ)) → AreLinesOf bs lines → eqb b 10 ≡ false → AreLinesOf (b ∷ bs) (onto_first b lines)
    joined [] w other = (let is : b ≢ 10 = eqb-false b 10 other in (b ∷ w.0, tt, (is, w.2), ap (λ (l : List ℕ). b ∷ l) w.3))
    joined (line ∷ lines) w other = (let is : b ≢ 10 = eqb-false b 10 other in (w.0, ((is, w.1.0), w.1.1), w.2, ap (λ (l : List ℕ). b ∷ l) w.3))

pub no_line : (rest : List ℕ) → NoBreak rest → lines_of rest ≡ []
unfolding lines_of
no_line [] none = refl
no_line (b ∷ bs) none = (let other : eqb b 10 ≡ false = ne_eqb b 10 none.0 in rw other (ap (onto_first b) (no_line bs none.1)))

pub line_first : (line behind : List ℕ) → NoBreak line → lines_of (line ++ 10 ∷ behind) ≡ line ∷ lines_of behind
unfolding lines_of
line_first [] behind none = refl
line_first (b ∷ bs) behind none = (let other : eqb b 10 ≡ false = ne_eqb b 10 none.0 in rw other (ap (onto_first b) (line_first bs behind none.1)))

-- ---- what is passed on

passed_append : (xs ys : List (List ℕ)) → passed_on (xs ++ ys) ≡ passed_on xs ++ passed_on ys
passed_append xs ys = ap (flat_map ended) (filter-append is_passed_on xs ys) ∙ flat_map-append ended (filter is_passed_on xs) (filter is_passed_on ys)

-- nothing is left but a rest
pub all_passed : (script rest text : List ℕ) → text ++ passed_on (lines_of rest) ≡ passed_on (lines_of script) → NoBreak rest → text ≡ passed_on (lines_of script)
all_passed script rest text so_far none = sym (append-nil text) ∙ (ap (λ (lines : List (List ℕ)). text ++ passed_on lines) (sym (no_line rest none)) ∙ so_far)

-- one more line is passed on, or over
pub one_passed : (script rest line behind text : List ℕ) → text ++ passed_on (lines_of rest) ≡ passed_on (lines_of script)
    → NoBreak line → rest ≡ line ++ 10 ∷ behind → (text ++ passed_on (line ∷ [])) ++ passed_on (lines_of behind) ≡ passed_on (lines_of script)
one_passed script rest line behind text so_far whole is =
    append_assoc text (passed_on (line ∷ [])) (passed_on (lines_of behind))
    ∙ (ap (λ (l : List ℕ). text ++ l) (sym (passed_append (line ∷ []) (lines_of behind)))
    ∙ (ap (λ (lines : List (List ℕ)). text ++ passed_on lines) (sym (line_first line behind whole) ∙ ap lines_of (sym is)) ∙ so_far))

-- ---- numbers

passed_over : (line : List ℕ) (lines : List (List ℕ)) (step : ℕ) → is_passed_on line ≡ false → number_in (line ∷ lines) step ≡ number_in lines step + 1
unfolding number_in
passed_over line lines step over = rw over refl

stops_here : (line : List ℕ) (lines : List (List ℕ)) (step : ℕ) → is_passed_on line ≡ true → step ≤ 1 → number_in (line ∷ lines) step ≡ 1
unfolding number_in
stops_here line lines step on first = (let is : nat_le step 1 ≡ true = le-leb step 1 first in rw (on, is) refl)

goes_on : (line : List ℕ) (lines : List (List ℕ)) (step left : ℕ) → is_passed_on line ≡ true → 1 < step → step ≡ left + 1 → number_in (line ∷ lines) step ≡ number_in lines left + 1
unfolding number_in
goes_on line lines step left on later is =
    (let other : nat_le step 1 ≡ false = lt-leb step 1 later in let one_less : step - 1 ≡ left = omega arith in rw (on, other, one_less) refl)

pub numbers_steps : NumbersSteps
numbers_steps [] line more on = stops_here line more 1 on (omega arith)
numbers_steps (x ∷ front) line more on = (let next = numbers_steps front line more on in elim (cases_Bool (is_passed_on x)) [ inl is ↦ counted is next | inr over ↦ not_counted over next ])
  where
    counted : is_passed_on x ≡ true → number_in (front ++ line ∷ more) (length (filter is_passed_on front) + 1) ≡ length front + 1
        → number_in (x ∷ (front ++ line ∷ more)) (length (filter is_passed_on (x ∷ front)) + 1) ≡ length (x ∷ front) + 1
    counted is next = rw is (omega (arith, goes_on x (front ++ line ∷ more) (length (x ∷ filter is_passed_on front) + 1) (length (filter is_passed_on front) + 1) is (omega arith) (omega arith), next))

    not_counted : is_passed_on x ≡ false → number_in (front ++ line ∷ more) (length (filter is_passed_on front) + 1) ≡ length front + 1
        → number_in (x ∷ (front ++ line ∷ more)) (length (filter is_passed_on (x ∷ front)) + 1) ≡ length (x ∷ front) + 1
    not_counted over next = rw over (omega (arith, passed_over x (front ++ line ∷ more) (length (filter is_passed_on front) + 1) over, next))

-- so many lines stand in front of the rest, and so many of them were passed on
pub record AreCounted (script rest : List ℕ) (step number left : ℕ) : Type 0 where
  pub number_is : number + number_in (lines_of rest) left ≡ number_in (lines_of script) step
  pub within : number + length rest ≤ length script

rest_of : (rest line behind : List ℕ) → rest ≡ line ++ 10 ∷ behind → length behind + 1 ≤ length rest
rest_of rest line behind is = omega (arith, ap length is, length-append line (10 ∷ behind))

pub last_number : (script rest : List ℕ) (step number left : ℕ) → AreCounted script rest step number left → NoBreak rest → number ≡ number_in (lines_of script) step
unfolding number_in
last_number script rest step number left so_far none =
    (let nothing : number_in (lines_of rest) left ≡ 0 = ap (λ (lines : List (List ℕ)). number_in lines left) (no_line rest none) in omega (arith, nothing, so_far.number_is))

pub this_number : (script rest line behind : List ℕ) (step number left : ℕ) → AreCounted script rest step number left → NoBreak line → rest ≡ line ++ 10 ∷ behind
    → is_passed_on line ≡ true → left ≤ 1 → number + 1 ≡ number_in (lines_of script) step
this_number script rest line behind step number left so_far whole is on first =
    ap (λ (n : ℕ). number + n) (sym (stops_here line (lines_of behind) left on first) ∙ ap (λ (lines : List (List ℕ)). number_in lines left) (sym (line_first line behind whole) ∙ ap lines_of (sym is))) ∙ so_far.number_is

pub over_one : (script rest line behind : List ℕ) (step number left : ℕ) → AreCounted script rest step number left → NoBreak line → rest ≡ line ++ 10 ∷ behind
    → is_passed_on line ≡ false → AreCounted script behind step (number + 1) left
over_one script rest line behind step number left so_far whole is over = record {
  number_is =
      (let parts : number_in (lines_of rest) left ≡ number_in (lines_of behind) left + 1 =
      ap (λ (l : List ℕ). number_in (lines_of l) left) is ∙ (ap (λ (lines : List (List ℕ)). number_in lines left) (line_first line behind whole) ∙ passed_over line (lines_of behind) left over) in
      omega (arith, parts, so_far.number_is));
  within = omega (arith, so_far.within, rest_of rest line behind is);
}

pub past_one : (script rest line behind : List ℕ) (step number left : ℕ) → AreCounted script rest step number left → NoBreak line → rest ≡ line ++ 10 ∷ behind
    → is_passed_on line ≡ true → 1 < left → AreCounted script behind step (number + 1) (left - 1)
past_one script rest line behind step number left so_far whole is on later = record {
  number_is =
      (let parts : number_in (lines_of rest) left ≡ number_in (lines_of behind) (left - 1) + 1 =
      ap (λ (l : List ℕ). number_in (lines_of l) left) is ∙ (ap (λ (lines : List (List ℕ)). number_in lines left) (line_first line behind whole) ∙ goes_on line (lines_of behind) left (left - 1) on later (omega arith)) in
      omega (arith, parts, so_far.number_is));
  within = omega (arith, so_far.within, rest_of rest line behind is);
}
