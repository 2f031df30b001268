-- What an accepted report changes in what is kept of a process.
use Rattle.std.proofs.Common.{◌≡◌, ◌≢◌, ℕ, suc, ◌+◌, Bool, true, false, cond, List, [], ◌∷◌, ◌++◌, length, Option, Some, None, refl, sym, ap, ◌∙◌, arith, append-nil, append_assoc}
use Rattle.std.specs.Prelude.{◌||◌}
use Rattle.std.specs.Option.{is_some, unwrap_or}
use Rattle.std.specs.Str.{bytes_eq}
use Rattle.std.proofs.lemmas.List.Sums.{sum_by-append}
use Rattle.report_line.specs.declared.report.ReportKind.{ReportKind}
use Rattle.report_line.specs.declared.report.ReportKind.TheVariants.{Check, Fork}
use Rattle.report_line.specs.declared.report.NumberedReport.{NumberedReport}
use Rattle.report_line.specs.declared.report.Report.{Report}
use Rattle.report_line.specs.declared.report.Report.TheVariants.{Numbered}
use Rattle.chains.specs.Processes.{Name, child_of, first_of, is_numbered_of, is_birth_of, is_absorb_of, reports_of}
use Rattle.chains.specs.Elements.{stable_made, stable_by, stable_of, only_if}
use Rattle.chains.specs.LastRun.{same_id_from}
use Rattle.chains.specs.working.Keeping.{KeptProcess, kept_of, last_index, indexes_from}
use Rattle.chains.specs.working.Noting.{noted, taken, is_check}
use Rattle.chains.proofs.Lists.{last_index-push}
use Rattle.chains.proofs.Stepping.{absorbed-push, same_bytes, other_bytes, doing}

-- ---- one more report

pub reports-push : (q : Name) (accepted : List Report) (r : Report) → reports_of q (accepted ++ r ∷ []) ≡ reports_of q accepted + cond (is_numbered_of q r) 1 0
reports-push q accepted r =
    let one : 0 + cond (is_numbered_of q r) 1 0 ≡ cond (is_numbered_of q r) 1 0 = omega arith in
    sum_by-append (λ x. cond (is_numbered_of q x) 1 0) accepted (r ∷ []) ∙ ap (λ (m : ℕ). reports_of q accepted + m) one

pub indexes-push : {X Y : Type 0} (made : X → Option Y) (n : ℕ) (xs : List X) (y : X) → indexes_from made n (xs ++ y ∷ []) ≡ indexes_from made n xs ++ cond (is_some (made y)) ((n + length xs) ∷ []) []
indexes-push made n [] y = append-nil (cond (is_some (made y)) (n ∷ []) []) ∙ ap (λ (m : ℕ). cond (is_some (made y)) (m ∷ []) []) (let e : n ≡ n + 0 = omega arith in e)
indexes-push made n (x ∷ xs) y =
    let here = cond (is_some (made x)) (n ∷ []) [] in
    let same : suc n + length xs ≡ n + suc (length xs) = omega arith in
    ap (λ (l : List ℕ). here ++ l) (indexes-push made (suc n) xs y)
    ∙ ap (λ (m : ℕ). here ++ (indexes_from made (suc n) xs ++ cond (is_some (made y)) (m ∷ []) [])) same
    ∙ sym (append_assoc here (indexes_from made (suc n) xs) (cond (is_some (made y)) ((n + suc (length xs)) ∷ []) []))

-- what a report changes: whether it is one of the process, makes a stable element of it, and absorbs it
abbrev pub merged : ℕ → ℕ → Bool → Bool → Bool → KeptProcess → KeptProcess
merged front run own lasts absorbs k = record {
  reports = k.reports + cond own 1 0;
  last = first_of (cond own (Some front) None) k.last;
  birth = k.birth;
  stable = k.stable ++ cond lasts (front ∷ []) [];
  same_id_from = cond own run k.same_id_from;
  absorbed = k.absorbed || absorbs;
}

pub kept_is : (a b : ℕ) (c d : Option ℕ) (e f : ℕ) (g h : List ℕ) (m n : ℕ) (i j : Bool) → a ≡ b → c ≡ d → e ≡ f → g ≡ h → m ≡ n → i ≡ j
    → (let k : KeptProcess = record { reports = a; last = c; birth = e; stable = g; same_id_from = m; absorbed = i } in k) ≡ (let k : KeptProcess = record { reports = b; last = d; birth = f; stable = h; same_id_from = n; absorbed = j } in k)
kept_is a b c d e f g h m n i j x y z u w v = cc

same_birth : (b : Bool) (n : ℕ) (o : Option ℕ) → b ≡ false → unwrap_or (first_of (cond b (Some n) None) o) 0 ≡ unwrap_or o 0
same_birth b n o e = rw e refl

pub kept-push : (accepted : List Report) (r : Report) (q : Name) (run : ℕ) → is_birth_of q r ≡ false → same_id_from (stable_of q (accepted ++ r ∷ [])) ≡ cond (is_numbered_of q r) run (same_id_from (stable_of q accepted))
    → kept_of (accepted ++ r ∷ []) q ≡ merged (length accepted) run (is_numbered_of q r) (is_some (stable_made q r)) (is_absorb_of q r) (kept_of accepted q)
kept-push accepted r q run e runs = kept_is _ _ _ _ _ _ _ _ _ _ _ _
    (reports-push q accepted r)
    (last_index-push (is_numbered_of q) accepted r)
    (ap (λ (o : Option ℕ). unwrap_or o 0) (last_index-push (is_birth_of q) accepted r) ∙ same_birth (is_birth_of q r) (length accepted) (last_index (is_birth_of q) accepted) e)
    (indexes-push (stable_made q) 0 accepted r ∙ ap (λ (m : ℕ). indexes_from (stable_made q) 0 accepted ++ cond (is_some (stable_made q r)) (m ∷ []) []) (let e : 0 + length accepted ≡ length accepted = omega arith in e))
    runs
    (absorbed-push q accepted r)

-- ---- by who it is

pub or_false : (b : Bool) → (b || false) ≡ b
or_false true = refl
or_false false = refl

or_true : (b : Bool) → (b || true) ≡ true
or_true true = refl
or_true false = refl

-- the reporting process
pub merged_own : (front run : ℕ) (lasts : Bool) (k : KeptProcess) → merged front run true lasts false k ≡ noted front run lasts k
merged_own front run true k = kept_is _ _ _ _ _ _ _ _ _ _ _ _ refl refl refl refl refl (or_false k.absorbed)
merged_own front run false k = kept_is _ _ _ _ _ _ _ _ _ _ _ _ refl refl refl (append-nil k.stable) refl (or_false k.absorbed)

-- one that the report is not about
pub merged_other : (front run : ℕ) (k : KeptProcess) → merged front run false false false k ≡ k
merged_other front run k = kept_is _ _ _ _ _ _ _ _ _ _ _ _ (omega arith) refl refl (append-nil k.stable) refl (or_false k.absorbed)

-- one that is absorbed
pub merged_absorbed : (front run : ℕ) (own lasts : Bool) (k : KeptProcess) → merged front run own lasts true k ≡ taken (merged front run own lasts false k)
merged_absorbed front run own lasts k = kept_is _ _ _ _ _ _ _ _ _ _ _ _ refl refl refl refl refl (or_true k.absorbed)

-- ---- what a report makes

pub some_if : {X : Type 0} (b : Bool) (x : X) → is_some (only_if b x) ≡ b
some_if true x = refl
some_if false x = refl

-- no process is born by it but a new one
pub no_birth : (q : Name) (r : NumberedReport) (a : ReportKind) → ((child : Name) → child_of a ≡ Some child → q ≢ child) → is_birth_of q (Numbered (doing r a)) ≡ false
no_birth q r (Fork forked) f = other_bytes q forked.child (f forked.child refl)
no_birth q r _ f = refl

pub own_lasts : (r : NumberedReport) (a : ReportKind) → ((child : Name) → child_of a ≡ Some child → r.process ≢ child) → is_some (stable_by r.process r a) ≡ is_check a
own_lasts r Check f = some_if (bytes_eq r.process r.process) r.stamp ∙ same_bytes r.process
own_lasts r (Fork forked) f = some_if (bytes_eq r.process forked.child) (record { id = forked.given; events = r.stamp.events }) ∙ other_bytes r.process forked.child (f forked.child refl)
own_lasts r _ f = refl

pub other_lasts : (q : Name) (r : NumberedReport) (a : ReportKind) → q ≢ r.process → ((child : Name) → child_of a ≡ Some child → q ≢ child) → is_some (stable_by q r a) ≡ false
other_lasts q r Check d f = some_if (bytes_eq q r.process) r.stamp ∙ other_bytes q r.process d
other_lasts q r (Fork forked) d f = some_if (bytes_eq q forked.child) (record { id = forked.given; events = r.stamp.events }) ∙ other_bytes q forked.child (f forked.child refl)
other_lasts q r _ d f = refl
