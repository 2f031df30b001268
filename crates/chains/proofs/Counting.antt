-- How many elements a process has, and the last of them that survives.
use Rattle.std.proofs.Common.{Bor, ◌≡◌, ℕ, suc, ◌+◌, ◌≤◌, Bool, true, false, List, [], ◌∷◌, ◌++◌, length, get_or, Option, Some, None, refl, sym, ap, ◌∙◌, arith, length-append}
use Rattle.std.specs.Prelude.{Contains, if◌then◌else◌, ◌||◌, option_copied}
use Rattle.std.specs.Option.{is_some, option_map_or}
use Rattle.std.specs.List.{list_any, cons_option, filter_map}
use Rattle.std.specs.Str.{bytes_eq}
use Rattle.std.specs.Cmp.Lexicographic.{nat_list_eq_equiv}
use Rattle.std.proofs.lemmas.Bool.{true≢false}
use Rattle.std.proofs.lemmas.Map.Views.{list_any-from_Contains}
use Rattle.stamp.specs.declared.stamp.Stamp.{Stamp}
use Rattle.report_line.specs.declared.report.ReportKind.{ReportKind}
use Rattle.report_line.specs.declared.report.ReportKind.TheVariants.{Present, Fork}
use Rattle.report_line.specs.declared.report.NumberedReport.{NumberedReport}
use Rattle.report_line.specs.declared.report.Report.{Report}
use Rattle.report_line.specs.declared.report.Report.TheVariants.{Begin, Numbered}
use Rattle.chains.specs.Processes.{Name, known, is_birth_of, last_report, target_of}
use Rattle.chains.specs.Elements.{name_of, only_if, stable_made, stable_by, stable_of, present_in, present_by, elements_of, elements, stable}
use Rattle.chains.specs.Positions.{IsSurviving, IsLastSurviving, is_retired, rank}
use Rattle.chains.specs.Admission.{report_limit}
use Rattle.chains.specs.declared.position.Position.{Position}
use Rattle.chains.specs.declared.position.Position.TheVariants.{At, Retired}
use Rattle.chains.specs.declared.process.Process.{Process}
use Rattle.chains.specs.working.Keeping.{KeptProcess, indexes_from}
use Rattle.chains.proofs.Stepping.{doing}
use Rattle.chains.proofs.LookUps.{known_from}
use Rattle.chains.proofs.Keeps.{AreKept, looked_up, any_birth}

-- ---- as many indexes as things that are made

count_step : {Y : Type 0} (o : Option Y) (n : ℕ) (places : List ℕ) (ys : List Y) → length places ≡ length ys → length ((if is_some o then n ∷ [] else []) ++ places) ≡ length (cons_option o ys)
count_step None n places ys e = e
count_step (Some y) n places ys e = ap (λ (m : ℕ). suc m) e

pub indexes-length : {X Y : Type 0} (made : X → Option Y) (n : ℕ) (xs : List X) → length (indexes_from made n xs) ≡ length (filter_map made xs)
indexes-length made n [] = refl
indexes-length made n (x ∷ xs) = count_step (made x) n (indexes_from made (suc n) xs) (filter_map made xs) (indexes-length made (suc n) xs)

fewer_step : {Y : Type 0} (o : Option Y) (ys : List Y) (n : ℕ) → length ys ≤ n → length (cons_option o ys) ≤ suc n
fewer_step None ys n le = omega (arith, le)
fewer_step (Some y) ys n le = omega (arith, le)

-- at most one thing is made of each element
pub made_within : {X Y : Type 0} (made : X → Option Y) (xs : List X) → length (filter_map made xs) ≤ length xs
made_within made [] = omega arith
made_within made (x ∷ xs) = fewer_step (made x) (filter_map made xs) (length xs) (made_within made xs)

-- ---- the elements of a process

pub stable_there : (accepted : List Report) (processes : List Process) (i : ℕ) (p : Name) (k : Process) → AreKept accepted processes → name_of accepted i ≡ Some p → k ≡ get_or processes i k → length k.stable.items ≡ length (stable_of p accepted)
stable_there accepted processes i p k h is there =
    ap (λ (v : KeptProcess). length v.stable) (looked_up accepted processes i p k h is there) ∙ indexes-length (stable_made p) 0 accepted

one_present_by : (s : Stamp) (a : ReportKind) → length (present_by s a) ≤ 1
one_present_by s Present = omega arith
one_present_by s _ = omega arith

-- a report stands for at most one present state
pub one_present : (o : Option Report) → length (present_in o) ≤ 1
one_present None = omega arith
one_present (Some (Begin p)) = omega arith
one_present (Some (Numbered r)) = one_present_by r.stamp r.action

-- the stable ones and the present state are all
pub counted : (accepted : List Report) (p : Name) (m n : ℕ) (o : Option Report) → m ≡ length (stable_of p accepted) → o ≡ last_report p accepted → n ≡ length (present_in o) → m + n ≡ length (elements_of p accepted)
counted accepted p m n o lasts last stands =
    let now = ap (λ (r : Option Report). length (present_in r)) last in
    let sum = length-append (stable_of p accepted) (present_in (last_report p accepted)) in
    omega arith

some_only : {X : Type 0} (b : Bool) (x : X) → b ≡ true → is_some (only_if b x) ≡ true
some_only b x e = ap (λ (c : Bool). is_some (only_if c x)) e

child_lasts : (p : Name) (r : NumberedReport) (a : ReportKind) → is_birth_of p (Numbered (doing r a)) ≡ true → is_some (stable_by p r a) ≡ true
child_lasts p r (Fork f) e = some_only (bytes_eq p f.child) _ e
child_lasts p r _ e = absurd (true≢false (sym e))

-- a birth makes a stable element
birth_lasts : (p : Name) (r : Report) → is_birth_of p r ≡ true → is_some (stable_made p r) ≡ true
birth_lasts p (Begin q) e = some_only (bytes_eq p q) _ e
birth_lasts p (Numbered r) e = child_lasts p r r.action e

some_step : (o : Option Stamp) (a b : Bool) (ys : List Stamp) → (a ≡ true → is_some o ≡ true) → (b ≡ true → 1 ≤ length ys) → (a || b) ≡ true → 1 ≤ length (cons_option o ys)
some_step (Some y) a b ys f g e = omega arith
some_step None true b ys f g e = absurd (true≢false (sym (f refl)))
some_step None false b ys f g e = g e

some_lasts : (p : Name) (accepted : List Report) → list_any (is_birth_of p) accepted ≡ true → 1 ≤ length (stable_of p accepted)
some_lasts p [] e = absurd (true≢false (sym e))
some_lasts p (r ∷ rs) e = some_step (stable_made p r) (is_birth_of p r) (list_any (is_birth_of p) rs) (stable_of p rs) (birth_lasts p r) (some_lasts p rs) e

-- a known process has a stable element
pub birth_there : (accepted : List Report) (i : ℕ) (p : Name) → name_of accepted i ≡ Some p → 1 ≤ length (stable_of p accepted)
birth_there accepted i p is = some_lasts p accepted (sym (any_birth p accepted) ∙ list_any-from_Contains nat_list_eq_equiv p (known accepted) (known_from accepted i p is))

pub few_stable : (accepted : List Report) (processes : List Process) (i : ℕ) (p : Name) (k : Process) → length accepted ≤ report_limit → AreKept accepted processes → name_of accepted i ≡ Some p → k ≡ get_or processes i k → length k.stable.items ≤ report_limit
few_stable accepted processes i p k few h is there = omega (arith, few, stable_there accepted processes i p k h is there, made_within (stable_made p) accepted)

-- ---- the last that survives

pub elements_is : (accepted : List Report) (i : ℕ) (p : Name) → name_of accepted i ≡ Some p → elements accepted i ≡ elements_of p accepted
elements_is accepted i p is = ap (λ (o : Option Name). option_map_or (λ name. elements_of name accepted) o []) is

stable_is : (accepted : List Report) (i : ℕ) (p : Name) → name_of accepted i ≡ Some p → stable accepted i ≡ stable_of p accepted
stable_is accepted i p is = ap (λ (o : Option Name). option_map_or (λ name. stable_of name accepted) o []) is

retired_is : (accepted : List Report) (i : ℕ) (p : Name) → name_of accepted i ≡ Some p → is_retired accepted i ≡ is_some (target_of p accepted)
retired_is accepted i p is = ap (λ (o : Option Name). option_map_or (λ name. is_some (target_of name accepted)) o false) is

retired_greatest : (accepted : List Report) (failed : List ℕ) (i : ℕ) (k : Position) → IsSurviving accepted failed i k → rank accepted i k ≤ length (elements accepted i) + 1
retired_greatest accepted failed i (At k) h = let le = h.1 in omega arith
retired_greatest accepted failed i Retired h = omega arith

-- a retired process has ended
pub retired_last : (accepted : List Report) (failed : List ℕ) (i : ℕ) (p : Name) → name_of accepted i ≡ Some p → is_some (target_of p accepted) ≡ true → IsLastSurviving accepted failed i Retired
retired_last accepted failed i p is ended = record { surviving = retired_is accepted i p is ∙ ended; greatest = retired_greatest accepted failed i }

live_greatest : (accepted : List Report) (failed : List ℕ) (i n : ℕ) → is_retired accepted i ≡ false → ((k : ℕ) → k ≤ length (elements accepted i) → (Contains failed i → k ≤ length (stable accepted i)) → k ≤ n)
    → (k : Position) → IsSurviving accepted failed i k → rank accepted i k ≤ n
live_greatest accepted failed i n lives f (At k) h = f k h.1 h.2
live_greatest accepted failed i n lives f Retired h = absurd (true≢false (sym h ∙ lives))

some_elements : (accepted : List Report) (i : ℕ) (p : Name) → name_of accepted i ≡ Some p → (1 ≤ length (stable accepted i)) × (length (stable accepted i) ≤ length (elements accepted i))
some_elements accepted i p is =
    let birth = birth_there accepted i p is in
    let all = ap (λ (es : List Stamp). length es) (elements_is accepted i p is) in
    let some = ap (λ (es : List Stamp). length es) (stable_is accepted i p is) in
    let sum = length-append (stable_of p accepted) (present_in (last_report p accepted)) in
    (omega arith, omega arith)

-- a live process that failed is at the last element that lasts
pub failed_last : (accepted : List Report) (failed : List ℕ) (i n : ℕ) (p : Name) → name_of accepted i ≡ Some p → is_some (target_of p accepted) ≡ false → Contains failed i → n ≡ length (stable_of p accepted) → IsLastSurviving accepted failed i (At n)
failed_last accepted failed i n p is lives fails e =
    let some = some_elements accepted i p is in
    let same : n ≡ length (stable accepted i) = e ∙ sym (ap (λ (es : List Stamp). length es) (stable_is accepted i p is)) in
    let one = some.0 in
    let within = some.1 in
    record {
      surviving = (omega arith, omega arith, λ there. omega arith);
      greatest = live_greatest accepted failed i n (retired_is accepted i p is ∙ lives) (λ k le f. let last = f fails in omega arith);
    }

-- and one that did not fail at the last of all
pub live_last : (accepted : List Report) (failed : List ℕ) (i n : ℕ) (p : Name) → name_of accepted i ≡ Some p → is_some (target_of p accepted) ≡ false → ¬ Contains failed i → n ≡ length (elements_of p accepted) → IsLastSurviving accepted failed i (At n)
live_last accepted failed i n p is lives spared e =
    let some = some_elements accepted i p is in
    let same : n ≡ length (elements accepted i) = e ∙ sym (ap (λ (es : List Stamp). length es) (elements_is accepted i p is)) in
    let one = some.0 in
    let within = some.1 in
    record {
      surviving = (omega arith, omega arith, λ there. absurd (spared there));
      greatest = live_greatest accepted failed i n (retired_is accepted i p is ∙ lives) (λ k le f. omega arith);
    }

some_copied : {X : Type 0} (o : Option (Bor X)) → is_some (option_copied o) ≡ is_some o
some_copied None = refl
some_copied (Some x) = refl

-- a target that was looked up and is not there
pub lives : (o : Option (Bor Name)) (target : Option Name) (b : Bool) → option_copied o ≡ target → b ≡ is_some o → b ≡ false → is_some target ≡ false
lives o target b e is fails = ap (λ (t : Option Name). is_some t) (sym e) ∙ some_copied o ∙ sym is ∙ fails
