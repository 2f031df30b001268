-- The lines of a script that were taken, one after the other.
use Rattle.std.proofs.Common.{◌≡◌, ◌≢◌, ◌≤◌, inl, inr, true, false, eqb, ℕ, ◌+◌, List, [], ◌∷◌, ◌++◌, length, Option, Some, None, refl, sym, ap, subst, ◌∙◌, append_assoc, arith}
use Rattle.std.specs.List.{flat_map, AllByRecursion}
use Rattle.std.proofs.lemmas.Bool.{cases_Bool, eqb-true, eqb-false}
use Rattle.std.proofs.lemmas.List.{append-nil, length-append}
use Rattle.std.proofs.lemmas.List.Concat.{flat_map-append}
use Rattle.report_line.specs.Cutting.{ended, NoBreak}
use Rattle.report_line.specs.declared.call.Call.{Call}
use Rattle.report_line.specs.declared.call.Call.TheVariants as calls
use Rattle.report_line.specs.declared.report.Report.TheVariants.{Begin}
use Rattle.report_line.specs.Reports.{unmarked}
use Rattle.driver.specs.Chronicle.{Chronicle}
use Rattle.script.specs.declared.end.End.TheVariants.{Done}
use Rattle.script.specs.declared.driving.Stop.{Stop}
use Rattle.script.specs.declared.driving.Stop.TheVariants as stops
use Rattle.script.specs.declared.printing.Printout.{Printout}
use Rattle.script.specs.Driven.{AreLinesOf, Drives, none, begins, EndsAt, IsDriven}
use Rattle.script.specs.working.Driving.{end_by, StopTold, IsPrinted, Begins, IsTaken, AreTaken}

-- ---- lines

-- all bytes are lines and a rest
pub some_lines : (bytes : List ℕ) → (lines : List (List ℕ)) × AreLinesOf bytes lines
some_lines [] = ([], ([], tt, tt, refl))
some_lines (b ∷ bs) = (let later = some_lines bs in elim (cases_Bool (eqb b 10)) [ inl is ↦ broken later is | inr other ↦ joined later.0 later.1 other ])
  where
    broken : ((lines : List (List ℕ)) × AreLinesOf bs lines) → eqb b 10 ≡ true → (lines : List (List ℕ)) × AreLinesOf (b ∷ bs) lines
    broken later is = (let lf : b ≡ 10 = eqb-true b 10 is in ([] ∷ later.0, (later.1.0, (tt, later.1.1), later.1.2, ap (λ (x : ℕ). x ∷ bs) lf ∙ ap (λ (l : List ℕ). 10 ∷ l) later.1.3)))

    joined : (lines : List (List ℕ)) → AreLinesOf bs lines → eqb b 10 ≡ false → (lines : List (List ℕ)) × AreLinesOf (b ∷ bs) lines
    joined [] w other = (let is : b ≢ 10 = eqb-false b 10 other in ([], (b ∷ w.0, tt, (is, w.2), ap (λ (l : List ℕ). b ∷ l) w.3)))
    joined (line ∷ lines) w other = (let is : b ≢ 10 = eqb-false b 10 other in ((b ∷ line) ∷ lines, (w.0, ((is, w.1.0), w.1.1), w.2, ap (λ (l : List ℕ). b ∷ l) w.3)))

both_whole : (xs ys : List (List ℕ)) → AllByRecursion NoBreak xs → AllByRecursion NoBreak ys → AllByRecursion NoBreak (xs ++ ys)
both_whole [] ys p q = q
both_whole (x ∷ xs) ys p q = (p.0, both_whole xs ys p.1 q)

-- lines in front of lines
front_lines : (script rest : List ℕ) (front later : List (List ℕ)) → AllByRecursion NoBreak front → script ≡ flat_map ended front ++ rest → AreLinesOf rest later → AreLinesOf script (front ++ later)
front_lines script rest front later whole is w = (
  w.0,
  both_whole front later whole w.1,
  w.2,
  is
      ∙ (ap (λ (l : List ℕ). flat_map ended front ++ l) w.3
      ∙ (sym (append_assoc (flat_map ended front) (flat_map ended later) w.0)
      ∙ ap (λ (l : List ℕ). l ++ w.0) (sym (flat_map-append ended front later)))),
)

-- a line in front of lines
line_first : (rest line behind : List ℕ) (later : List (List ℕ)) → NoBreak line → rest ≡ line ++ 10 ∷ behind → AreLinesOf behind later → AreLinesOf rest (line ∷ later)
line_first rest line behind later whole is w =
    (w.0, (whole, w.1), w.2, is ∙ (ap (λ (l : List ℕ). line ++ 10 ∷ l) w.3 ∙ (shifted line (flat_map ended later ++ w.0) ∙ sym (append_assoc (ended line) (flat_map ended later) w.0))))
  where
    shifted : (xs ys : List ℕ) → xs ++ 10 ∷ ys ≡ (xs ++ 10 ∷ []) ++ ys
    shifted xs ys = sym (append_assoc xs (10 ∷ []) ys)

-- ---- how it ends

-- nothing is left but a rest
pub done : (script rest text : List ℕ) (p : Printout) (world : Chronicle) (count : ℕ) → AreTaken script rest p world count → NoBreak rest → text ≡ p.text.items → IsDriven script text Done
done script rest text p world count w whole same = record {
  front = w.front;
  later = [];
  lines = front_lines script rest w.front [] w.whole w.script_is (rest, tt, whole, refl);
  world = Some world;
  told = w.told;
  driven = w.driven;
  text_is = same ∙ w.prints.text_is;
  ends = refl;
}

-- a line stops it
ends_by : (stop : Stop) (n k : ℕ) (line : List ℕ) (more : List (List ℕ)) (world : Option Chronicle) (told : List Call) → k ≡ n + 1 → StopTold world told line stop
    → EndsAt (end_by stop k) n (line ∷ more) world told
ends_by (stops.Refused cause) n k line more world told is why = (line, more, refl, is, why)
ends_by stops.Memory n k line more world told is why = λ e. cc

pub stopped : (script rest line behind text : List ℕ) (p after : Printout) (world : Chronicle) (count k : ℕ) (stop : Stop) → AreTaken script rest p world count → NoBreak line
    → rest ≡ line ++ 10 ∷ behind → text ≡ after.text.items → after.text.items ≡ p.text.items → ((told : List Call) → IsPrinted told p → StopTold (Some world) told line stop)
    → k ≡ count + 1 → IsDriven script text (end_by stop k)
stopped script rest line behind text p after world count k stop w whole is text_is same why counted =
    let later = some_lines behind in
    record {
      front = w.front;
      later = line ∷ later.0;
      lines = front_lines script rest w.front (line ∷ later.0) w.whole w.script_is (line_first rest line behind later.0 whole is later.1);
      world = Some world;
      told = w.told;
      driven = w.driven;
      text_is = text_is ∙ (same ∙ w.prints.text_is);
      ends = ends_by stop (length w.front) k line later.0 (Some world) w.told (counted ∙ ap (λ (n : ℕ). n + 1) w.counted) (why w.told w.prints);
    }

-- the first line stops it
pub stopped_first : (script line behind : List ℕ) (stop : Stop) → NoBreak line → script ≡ line ++ 10 ∷ behind → StopTold None [] line stop → IsDriven script [] (end_by stop 1)
stopped_first script line behind stop whole is why =
    let later = some_lines behind in
    record {
      front = [];
      later = line ∷ later.0;
      lines = line_first script line behind later.0 whole is later.1;
      world = None;
      told = [];
      driven = none;
      text_is = refl;
      ends = ends_by stop 0 1 line later.0 None [] refl why;
    }

-- there is no line
pub no_line : (script : List ℕ) → NoBreak script → IsDriven script [] Done
no_line script whole = record {
  front = [];
  later = [];
  lines = (script, tt, whole, refl);
  world = None;
  told = [];
  driven = none;
  text_is = refl;
  ends = refl;
}

-- ---- what was taken

pub first_taken : (script line behind : List ℕ) (p : Printout) (world : Chronicle) → NoBreak line → script ≡ line ++ 10 ∷ behind → Begins line world p → AreTaken script behind p world 1
first_taken script line behind p world whole is begun = record {
  front = line ∷ [];
  whole = (whole, tt);
  script_is = is ∙ (sym (append_assoc line (10 ∷ []) behind) ∙ ap (λ (l : List ℕ). l ++ behind) (sym (append-nil (ended line))));
  told = calls.Report (unmarked (Begin world.root)) ∷ [];
  driven =
      subst (λ (n : ℕ). Drives (line ∷ []) (Some (record { root = world.root; epoch = n; history = world.history })) (calls.Report (unmarked (Begin world.root)) ∷ [])) (sym begun.epoch)
      (subst (λ (h : _). Drives (line ∷ []) (Some (record { root = world.root; epoch = 0; history = h })) (calls.Report (unmarked (Begin world.root)) ∷ [])) (sym begun.first) (begins begun.spells));
  prints = begun.prints;
  counted = refl;
}

pub next_taken : (script rest line behind : List ℕ) (before after : Printout) (old new : Chronicle) (count : ℕ) → AreTaken script rest before old count → NoBreak line → rest ≡ line ++ 10 ∷ behind
    → ((lines : List (List ℕ)) (told : List Call) → Drives lines (Some old) told → IsPrinted told before → IsTaken (lines ++ line ∷ []) new after) → AreTaken script behind after new (count + 1)
next_taken script rest line behind before after old new count w whole is takes =
    let taken = takes w.front w.told w.driven w.prints in
    record {
      front = w.front ++ line ∷ [];
      whole = both_whole w.front (line ∷ []) w.whole (whole, tt);
      script_is =
          w.script_is
          ∙ (ap (λ (l : List ℕ). flat_map ended w.front ++ l) (is ∙ sym (append_assoc line (10 ∷ []) behind))
          ∙ (sym (append_assoc (flat_map ended w.front) (ended line) behind)
          ∙ ap (λ (l : List ℕ). l ++ behind) (ap (λ (l : List ℕ). flat_map ended w.front ++ l) (sym (append-nil (ended line))) ∙ sym (flat_map-append ended w.front (line ∷ [])))));
      told = taken.told;
      driven = taken.driven;
      prints = taken.prints;
      counted = omega (arith, w.counted, length-append w.front (line ∷ []));
    }

-- ---- how many they are

lines_within : (lines : List (List ℕ)) → length lines ≤ length (flat_map ended lines)
lines_within [] = omega arith
lines_within (line ∷ lines) =
    let later = lines_within lines in
    let here = length-append line (10 ∷ []) in
    let all = length-append (ended line) (flat_map ended lines) in
    omega (arith, later, here, all)

-- with one line more there are still no more than bytes
pub few : (script rest line behind : List ℕ) (p : Printout) (world : Chronicle) (count : ℕ) → AreTaken script rest p world count → rest ≡ line ++ 10 ∷ behind → count + 1 ≤ length script
few script rest line behind p world count w is =
    let lines = lines_within w.front in
    let counted = w.counted in
    let all = ap length w.script_is ∙ length-append (flat_map ended w.front) rest in
    let left = ap length is ∙ length-append line (10 ∷ behind) in
    omega (arith, lines, counted, all, left)
