-- The last run of a process, and what a report makes of it.
use Rattle.std.proofs.Common.{◌≡◌, ◌≢◌, inl, inr, ℕ, zero, suc, ◌+◌, ◌-◌, ◌<◌, ◌≤◌, Bool, true, false, cond, List, [], ◌∷◌, ◌++◌, length, get_or, Option, Some, None, refl, sym, ap, subst, ◌∙◌, arith, append-nil}
use Rattle.std.specs.Prelude.{◌&&◌, slice_get}
use Rattle.std.specs.List.{list_all, cons_option}
use Rattle.std.proofs.lemmas.Bool.{true≢false, and_parts, false_from_ne_true}
use Rattle.std.proofs.lemmas.Option.{same_Some}
use Rattle.std.proofs.lemmas.List.Elements.{filter_map-append}
use Rattle.std.proofs.lemmas.List.Folds.{list_all-append}
use Rattle.id_tree.specs.IdTree.{IdTree, Zero, One, Pair}
use Rattle.stamp.specs.declared.stamp.Stamp.{Stamp}
use Rattle.report_line.specs.declared.report.ReportKind.{ReportKind}
use Rattle.report_line.specs.declared.report.ReportKind.TheVariants.{Check, Fork}
use Rattle.report_line.specs.declared.report.NumberedReport.{NumberedReport}
use Rattle.report_line.specs.declared.report.Report.{Report}
use Rattle.report_line.specs.declared.report.Report.TheVariants.{Numbered}
use Rattle.chains.specs.declared.process.Process.{Process}
use Rattle.chains.specs.Processes.{Name, child_of, last_report, is_numbered_of}
use Rattle.chains.specs.Elements.{name_of, stable_made, stable_by, stable_of, present_in, elements_of}
use Rattle.chains.specs.LastRun.{same_id, same_id_from}
use Rattle.chains.specs.working.LastRun.{run_by, run_after}
use Rattle.chains.specs.Admission.{report_limit}
use Rattle.chains.specs.working.Keeping.{KeptProcess}
use Rattle.chains.specs.working.Noting.{is_check}
use Rattle.chains.proofs.Keeps.{AreKept, looked_up}
use Rattle.chains.proofs.Counting.{one_present, made_within}
use Rattle.chains.proofs.Stepping.{same_bytes, other_bytes, same_or_other}

-- ---- ids

self_same : (a : IdTree) → same_id a a ≡ true
self_same Zero = refl
self_same One = refl
self_same (Pair l r) = rw (self_same l, self_same r) refl

pair_same : (a b c d : IdTree) → a ≡ c → b ≡ d → Pair a b ≡ Pair c d
pair_same a b c d e f = cc

one_id : (a b : IdTree) → same_id a b ≡ true → a ≡ b
one_id Zero Zero e = refl
one_id One One e = refl
one_id (Pair a b) (Pair c d) e =
    let both = and_parts (same_id a c) (same_id b d) e in
    pair_same a b c d (one_id a c both.0) (one_id b d both.1)
one_id _ _ e = absurd (true≢false (sym e))

told_same : (a b : IdTree) → a ≡ b → same_id a b ≡ true
told_same a b e = subst (λ (i : IdTree). same_id a i ≡ true) e (self_same a)

told_other : (a b : IdTree) → a ≢ b → same_id a b ≡ false
told_other a b other = false_from_ne_true (same_id a b) (λ e. other (one_id a b e))

-- ---- within the run all have one id

-- whether all of these have this id
abbrev all_have : IdTree → List Stamp → Bool
all_have id ss = list_all (λ t. same_id id t.id) ss

have_id : (id : IdTree) (ss : List Stamp) (i : ℕ) (s : Stamp) → all_have id ss ≡ true → slice_get ss i ≡ Some s → id ≡ s.id
have_id id [] i s all at = absurd cc
have_id id (u ∷ ss) zero s all at = one_id id u.id (and_parts (same_id id u.id) (all_have id ss) all).0 ∙ ap (λ (t : Stamp). t.id) (same_Some u s at)
have_id id (u ∷ ss) (suc i) s all at = have_id id ss i s (and_parts (same_id id u.id) (all_have id ss) all).1 at

same_by : (u : Stamp) (ss : List Stamp) (i j : ℕ) (s t : Stamp) (b : Bool) → all_have u.id ss ≡ b
    → ((i j : ℕ) → same_id_from ss ≤ i → same_id_from ss ≤ j → slice_get ss i ≡ Some s → slice_get ss j ≡ Some t → s.id ≡ t.id)
    → cond b 0 (suc (same_id_from ss)) ≤ i → cond b 0 (suc (same_id_from ss)) ≤ j → slice_get (u ∷ ss) i ≡ Some s → slice_get (u ∷ ss) j ≡ Some t → s.id ≡ t.id
same_by u ss i j s t true all later li lj at at' =
    let whole : all_have u.id (u ∷ ss) ≡ true = rw (self_same u.id, all) refl in
    sym (have_id u.id (u ∷ ss) i s whole at) ∙ have_id u.id (u ∷ ss) j t whole at'
same_by u ss zero j s t false all later li lj at at' = absurd (omega (arith, li))
same_by u ss (suc i) zero s t false all later li lj at at' = absurd (omega (arith, lj))
same_by u ss (suc i) (suc j) s t false all later li lj at at' = later i j (omega (arith, li)) (omega (arith, lj)) at at'

-- from its first stamp on all have one id
pub run_same : (ss : List Stamp) (i j : ℕ) (s t : Stamp) → same_id_from ss ≤ i → same_id_from ss ≤ j → slice_get ss i ≡ Some s → slice_get ss j ≡ Some t → s.id ≡ t.id
run_same [] i j s t li lj at at' = absurd cc
run_same (u ∷ ss) i j s t li lj at at' = same_by u ss i j s t (all_have u.id ss) refl (λ k m. run_same ss k m s t) li lj at at'

-- ---- one more

-- the list ends with this stamp
record EndsWith (ss : List Stamp) (last : Stamp) : Type 0 where
  front : List Stamp
  parts : ss ≡ front ++ last ∷ []

ends_later : (u : Stamp) (ss : List Stamp) (last : Stamp) → EndsWith ss last → EndsWith (u ∷ ss) last
ends_later u ss last h = record { front = u ∷ h.front; parts = ap (λ (l : List Stamp). u ∷ l) h.parts }

no_stamps : (ss : List Stamp) → length ss ≡ 0 → ss ≡ []
no_stamps [] e = refl
no_stamps (s ∷ ss) e = absurd (omega (arith, e))

ends_with : (ss : List Stamp) (n : ℕ) (last : Stamp) → length ss ≡ n + 1 → slice_get ss n ≡ Some last → EndsWith ss last
ends_with [] n last long at = absurd cc
ends_with (u ∷ ss) zero last long at =
    let none : ss ≡ [] = no_stamps ss (omega (arith, long)) in
    record { front = []; parts = ap (λ (l : List Stamp). u ∷ l) none ∙ ap (λ (t : Stamp). t ∷ []) (same_Some u last at) }
ends_with (u ∷ ss) (suc n) last long at = ends_later u ss last (ends_with ss n last (omega (arith, long)) at)

one_more : (id : IdTree) (ss : List Stamp) (t : Stamp) → all_have id (ss ++ t ∷ []) ≡ (all_have id ss && same_id id t.id)
one_more id ss t = list_all-append (λ u. same_id id u.id) ss (t ∷ []) ∙ ap (λ (b : Bool). all_have id ss && b) (and_true (same_id id t.id))
  where
    and_true : (b : Bool) → (b && true) ≡ b
    and_true true = refl
    and_true false = refl

and_same : (a b : Bool) → (a ≡ true → b ≡ true) → (a && b) ≡ a
and_same true b f = f refl
and_same false b f = refl

and_never : (a b : Bool) → (a ≡ true → b ≡ false) → (a && b) ≡ false
and_never true b f = f refl
and_never false b f = refl

-- all have the id of the last one, where all have one
last_has : (id : IdTree) (front : List Stamp) (last : Stamp) → all_have id (front ++ last ∷ []) ≡ true → id ≡ last.id
last_has id front last all =
    one_id id last.id (and_parts (all_have id front) (same_id id last.id) (sym (one_more id front last) ∙ all)).1

run_stays : (front : List Stamp) (last t : Stamp) → last.id ≡ t.id → same_id_from ((front ++ last ∷ []) ++ t ∷ []) ≡ same_id_from (front ++ last ∷ [])
run_stays [] last t same = rw (told_same last.id t.id same) refl
run_stays (u ∷ front) last t same =
    let ss = front ++ last ∷ [] in
    let all : all_have u.id (ss ++ t ∷ []) ≡ all_have u.id ss =
    one_more u.id ss t ∙ and_same (all_have u.id ss) (same_id u.id t.id) (λ e. told_same u.id t.id (last_has u.id front last e ∙ same)) in
    ap (λ (b : Bool). cond b 0 (suc (same_id_from (ss ++ t ∷ [])))) all ∙ ap (λ (n : ℕ). cond (all_have u.id ss) 0 (suc n)) (run_stays front last t same)

run_begins : (front : List Stamp) (last t : Stamp) → last.id ≢ t.id → same_id_from ((front ++ last ∷ []) ++ t ∷ []) ≡ length (front ++ last ∷ [])
run_begins [] last t other = rw (told_other last.id t.id other) refl
run_begins (u ∷ front) last t other =
    let ss = front ++ last ∷ [] in
    let all : all_have u.id (ss ++ t ∷ []) ≡ false =
    one_more u.id ss t ∙ and_never (all_have u.id ss) (same_id u.id t.id) (λ e. told_other u.id t.id (λ h. other (sym (last_has u.id front last e) ∙ h))) in
    ap (λ (b : Bool). cond b 0 (suc (same_id_from (ss ++ t ∷ [])))) all ∙ ap (λ (n : ℕ). suc n) (run_begins front last t other)

-- behind a stamp with its id it is the run of before
pub run_with_same : (ss : List Stamp) (n : ℕ) (last t : Stamp) → length ss ≡ n + 1 → slice_get ss n ≡ Some last → last.id ≡ t.id → same_id_from (ss ++ t ∷ []) ≡ same_id_from ss
run_with_same ss n last t long at same =
    let h = ends_with ss n last long at in
    subst (λ (l : List Stamp). same_id_from (l ++ t ∷ []) ≡ same_id_from l) (sym h.parts) (run_stays h.front last t same)

-- behind one with another id it begins
pub run_with_other : (ss : List Stamp) (n : ℕ) (last t : Stamp) → length ss ≡ n + 1 → slice_get ss n ≡ Some last → last.id ≢ t.id → same_id_from (ss ++ t ∷ []) ≡ length ss
run_with_other ss n last t long at other =
    let h = ends_with ss n last long at in
    subst (λ (l : List Stamp). same_id_from (l ++ t ∷ []) ≡ length l) (sym h.parts) (run_begins h.front last t other)

-- ---- what is kept of it

pub run_there : (accepted : List Report) (processes : List Process) (i : ℕ) (p : Name) (k : Process) → AreKept accepted processes → name_of accepted i ≡ Some p → k ≡ get_or processes i k → k.same_id_from ≡ same_id_from (stable_of p accepted)
run_there accepted processes i p k h is there = ap (λ (v : KeptProcess). v.same_id_from) (looked_up accepted processes i p k h is there)

-- the last stable element, as it is shown
pub last_shown : (ss : List Stamp) (n m : ℕ) (made : Option Stamp) (s : Stamp) → n ≡ length ss → 0 < n → m ≡ n - 1 → made ≡ slice_get ss m → (made ≢ None → made ≡ Some s) → slice_get ss m ≡ Some s
last_shown ss n m made s all some at is shown = sym is ∙ shown (λ e. some_there ss m (omega (arith, all, some, at)) (sym is ∙ e))
  where
    some_there : (xs : List Stamp) (k : ℕ) → k < length xs → slice_get xs k ≢ None
    some_there [] k lt e = omega (arith, lt)
    some_there (x ∷ xs) zero lt e = cc
    some_there (x ∷ xs) (suc k) lt e = some_there xs k (omega (arith, lt)) e

-- ---- the present state

none_first : (ss : List Stamp) → None ≡ slice_get ss 0 → ss ≡ []
none_first [] e = refl
none_first (s ∷ ss) e = absurd cc

one_first : (ss : List Stamp) (s : Stamp) → length ss ≤ 1 → Some s ≡ slice_get ss 0 → ss ≡ s ∷ []
one_first [] s few e = absurd cc
one_first (u ∷ ss) s few e = ap (λ (l : List Stamp). u ∷ l) (no_stamps ss (omega (arith, few))) ∙ ap (λ (t : Stamp). t ∷ []) (same_Some u s (sym e))

pub run_stable : (p : Name) (accepted : List Report) (last : Option Report) → last ≡ last_report p accepted → None ≡ slice_get (present_in last) 0 → same_id_from (elements_of p accepted) ≡ same_id_from (stable_of p accepted)
run_stable p accepted last is none =
    let empty : present_in (last_report p accepted) ≡ [] = ap present_in (sym is) ∙ none_first (present_in last) none in
    ap (λ (l : List Stamp). same_id_from (stable_of p accepted ++ l)) empty ∙ ap same_id_from (append-nil (stable_of p accepted))

pub run_present : (p : Name) (accepted : List Report) (last : Option Report) (s : Stamp) → last ≡ last_report p accepted → length (present_in last) ≤ 1 → Some s ≡ slice_get (present_in last) 0
    → same_id_from (elements_of p accepted) ≡ same_id_from (stable_of p accepted ++ s ∷ [])
run_present p accepted last s is few shown =
    let one : present_in (last_report p accepted) ≡ s ∷ [] = ap present_in (sym is) ∙ one_first (present_in last) s few shown in
    ap (λ (l : List Stamp). same_id_from (stable_of p accepted ++ l)) one

last_few : (ss : List Stamp) → length ss ≤ 1 → same_id_from ss ≤ 0
last_few [] few = omega arith
last_few (s ∷ []) few = omega arith
last_few (s ∷ t ∷ ss) few = absurd (omega (arith, few))

few_by : (b : Bool) (m n : ℕ) → m ≤ n → cond b 0 (suc m) ≤ suc n
few_by true m n le = omega arith
few_by false m n le = omega (arith, le)

few_with : (ss more : List Stamp) → length more ≤ 1 → same_id_from (ss ++ more) ≤ length ss
few_with [] more few = last_few more few
few_with (s ∷ ss) more few = few_by (all_have s.id (ss ++ more)) (same_id_from (ss ++ more)) (length ss) (few_with ss more few)

-- it begins no later than behind the stable elements
run_few : (p : Name) (accepted : List Report) → same_id_from (elements_of p accepted) ≤ length (stable_of p accepted)
run_few p accepted = few_with (stable_of p accepted) (present_in (last_report p accepted)) (one_present (last_report p accepted))

pub few_run : (accepted : List Report) → length accepted ≤ report_limit → (p : Name) → same_id_from (elements_of p accepted) ≤ report_limit
few_run accepted few p = omega (arith, few, run_few p accepted, made_within (stable_made p) accepted)

-- ---- after a report

run_of_check : (ss : List Stamp) (s : Stamp) (a : ReportKind) → is_check a ≡ true → run_by ss s a ≡ same_id_from (ss ++ s ∷ [])
run_of_check ss s Check e = refl
run_of_check ss s _ e = absurd (true≢false (sym e))

run_of_others : (ss : List Stamp) (s : Stamp) (a : ReportKind) → is_check a ≡ false → run_by ss s a ≡ same_id_from ss
run_of_others ss s Check e = absurd (true≢false e)
run_of_others ss s _ e = refl

pub after_check : (ss : List Stamp) (report : Report) (r : NumberedReport) (run : ℕ) → report ≡ Numbered r → is_check r.action ≡ true → run ≡ same_id_from (ss ++ r.stamp ∷ []) → run ≡ run_after ss report
after_check ss report r run is check h = h ∙ sym (run_of_check ss r.stamp r.action check) ∙ ap (run_after ss) (sym is)

pub after_others : (ss : List Stamp) (report : Report) (r : NumberedReport) (run : ℕ) → report ≡ Numbered r → is_check r.action ≡ false → run ≡ same_id_from ss → run ≡ run_after ss report
after_others ss report r run is other h = h ∙ sym (run_of_others ss r.stamp r.action other) ∙ ap (run_after ss) (sym is)

stable-push : (p : Name) (accepted : List Report) (r : Report) → stable_of p (accepted ++ r ∷ []) ≡ stable_of p accepted ++ cons_option (stable_made p r) []
stable-push p accepted r = filter_map-append (stable_made p) accepted (r ∷ [])

-- of the process that reports
run_own : (ss : List Stamp) (r : NumberedReport) (a : ReportKind) → ((child : Name) → child_of a ≡ Some child → r.process ≢ child) → same_id_from (ss ++ cons_option (stable_by r.process r a) []) ≡ run_by ss r.stamp a
run_own ss r Check f = rw (same_bytes r.process) refl
run_own ss r (Fork forked) f = rw (other_bytes r.process forked.child (f forked.child refl)) (ap same_id_from (append-nil ss))
run_own ss r _ f = ap same_id_from (append-nil ss)

-- of another one, which is not born
run_other : (q : Name) (ss : List Stamp) (r : NumberedReport) (a : ReportKind) → q ≢ r.process → ((child : Name) → child_of a ≡ Some child → q ≢ child) → same_id_from (ss ++ cons_option (stable_by q r a) []) ≡ same_id_from ss
run_other q ss r Check d f = rw (other_bytes q r.process d) (ap same_id_from (append-nil ss))
run_other q ss r (Fork forked) d f = rw (other_bytes q forked.child (f forked.child refl)) (ap same_id_from (append-nil ss))
run_other q ss r _ d f = ap same_id_from (append-nil ss)

-- of any one that is not born
pub run-push : (accepted : List Report) (r : NumberedReport) (q : Name) (run : ℕ) → ((child : Name) → child_of r.action ≡ Some child → q ≢ child) → run ≡ run_by (stable_of r.process accepted) r.stamp r.action
    → same_id_from (stable_of q (accepted ++ Numbered r ∷ [])) ≡ cond (is_numbered_of q (Numbered r)) run (same_id_from (stable_of q accepted))
run-push accepted r q run f is = elim (same_or_other q r.process) [
  | inl e ↦ own q e f
  | inr d ↦ ap same_id_from (stable-push q accepted (Numbered r)) ∙ run_other q (stable_of q accepted) r r.action d f ∙ ap (λ (b : Bool). cond b run (same_id_from (stable_of q accepted))) (sym (other_bytes q r.process d))
]
  where
    own : (m : Name) → m ≡ r.process → ((child : Name) → child_of r.action ≡ Some child → m ≢ child)
        → same_id_from (stable_of m (accepted ++ Numbered r ∷ [])) ≡ cond (is_numbered_of m (Numbered r)) run (same_id_from (stable_of m accepted))
    own m e g =
        subst (λ (n : Name). same_id_from (stable_of n (accepted ++ Numbered r ∷ [])) ≡ cond (is_numbered_of n (Numbered r)) run (same_id_from (stable_of n accepted))) (sym e)
        (ap same_id_from (stable-push r.process accepted (Numbered r)) ∙ run_own (stable_of r.process accepted) r r.action (λ child h. subst (λ (n : Name). n ≢ child) e (g child h)) ∙ sym is
        ∙ ap (λ (b : Bool). cond b run (same_id_from (stable_of r.process accepted))) (sym (same_bytes r.process)))

-- of one that is born
at_most_one : (o : Option Stamp) → same_id_from (cons_option o []) ≡ 0
at_most_one None = refl
at_most_one (Some s) = refl

pub run_born : (q : Name) (accepted : List Report) (r : Report) → stable_of q accepted ≡ [] → same_id_from (stable_of q (accepted ++ r ∷ [])) ≡ 0
run_born q accepted r none = ap same_id_from (stable-push q accepted r ∙ ap (λ (l : List Stamp). l ++ cons_option (stable_made q r) []) none) ∙ at_most_one (stable_made q r)
