-- What is kept of all processes, after one more report.
use Rattle.std.proofs.Common.{◌≡◌, ◌≢◌, inl, inr, ℕ, suc, ◌+◌, ◌<◌, ◌≤◌, Bool, true, false, cond, List, [], ◌∷◌, ◌++◌, length, get_or, set, map, Option, Some, None, position, refl, sym, ap, subst, ◌∙◌, arith, append-nil, length-append}
use Rattle.std.specs.Prelude.{nat_eq, count_by}
use Rattle.std.specs.List.{list_any, cons_option, fold}
use Rattle.std.specs.Option.{is_some, unwrap_or}
use Rattle.std.specs.Str.{bytes_eq}
use Rattle.std.specs.Cmp.Lexicographic.{pointwise, nat_list_eq_equiv}
use Rattle.std.proofs.lemmas.Bool.{true≢false, or_parts, false_from_ne_true, cases_lt}
use Rattle.std.proofs.lemmas.Bool.Decides.{eqb_tells}
use Rattle.std.proofs.lemmas.List.{ext_get_or, get_or-map, length-map, length-set, get_or-set_same, get_or-set_other, get_or_default, map-append}
use Rattle.std.proofs.lemmas.Option.{slice_get_within, get_or_from_slice_get}
use Rattle.std.proofs.lemmas.Map.Views.{Contains-from_any, list_any-from_Contains}
use Rattle.std.proofs.lemmas.Slice.Eq.{bytes_eq-Decides}
use Rattle.indexmap.specs.IndexSet.{insert_key}
use Rattle.report_line.specs.declared.report.ReportKind.{ReportKind}
use Rattle.report_line.specs.declared.report.ReportKind.TheVariants.{Check, Fork, Absorb}
use Rattle.report_line.specs.declared.report.NumberedReport.{NumberedReport}
use Rattle.report_line.specs.declared.report.Report.{Report}
use Rattle.report_line.specs.declared.report.Report.TheVariants.{Begin, Numbered}
use Rattle.chains.specs.Processes.{Name, newborn, child_of, known, IsKnown, first_of, last_passing, is_numbered_of, is_birth_of, is_absorb_of, is_absorbed, target_after}
use Rattle.chains.specs.Elements.{name_of, stable_made, stable_by, stable_of}
use Rattle.chains.specs.LastRun.{same_id_from}
use Rattle.chains.specs.working.LastRun.{run_by}
use Rattle.report_line.specs.declared.marked.MarkedReport.{MarkedReport}
use Rattle.chains.specs.Held.{Held}
use Rattle.chains.specs.Admission.{Passes, report_limit, process_limit}
use Rattle.chains.specs.Folded.{IsFitReport, IsFolded}
use Rattle.chains.specs.working.Keeping.{KeptProcess, kept_of, last_index, indexes_from}
use Rattle.chains.specs.working.Noting.{noted, taken, born, is_check, changed_at, names_with, TakenAt, IsKeptByAction}
use Rattle.chains.specs.working.Inside.{AreDistinctNames}
use Rattle.stamp.specs.declared.stamp.Stamp.{Stamp}
use Rattle.chains.proofs.Lists.{last_index-push}
use Rattle.chains.proofs.Counting.{indexes-length}
use Rattle.chains.proofs.LastRun.{run-push, run_born}
use Rattle.chains.proofs.LookUps.{found_name}
use Rattle.chains.proofs.Keeps.{any_birth}
use Rattle.chains.proofs.Stepping.{same_bytes, other_bytes, known-push, absorbed-push, none_some, doing}
use Rattle.chains.proofs.Passed.{passed, has_room}
use Rattle.chains.proofs.Distinct.{unknown_child}
use Rattle.chains.proofs.Reaching.{well_made}
use Rattle.chains.proofs.Accepting.{kept_is, reports-push, indexes-push, merged, merged_own, merged_other, merged_absorbed, some_if, kept-push, no_birth, own_lasts, other_lasts}

-- ---- families over names

-- two families that are the same
same_family : (f g : Name → KeptProcess) (names : List Name) (p : Name) → ((j : ℕ) → j < length names → f (get_or names j p) ≡ g (get_or names j p)) → map f names ≡ map g names
same_family f g names p same =
    ext_get_or (born 0) (map f names) (map g names) (length-map names f ∙ sym (length-map names g))
    (λ j small. let lt : j < length names = omega (arith, small, length-map names f) in get_or-map f names j p (born 0) lt ∙ same j lt ∙ sym (get_or-map g names j p (born 0) lt))

-- two families that differ at one place alone
one_changed : (f g : Name → KeptProcess) (change : KeptProcess → KeptProcess) (names : List Name) (i : ℕ) (p : Name) → i < length names
    → f (get_or names i p) ≡ change (g (get_or names i p)) → ((j : ℕ) → j < length names → j ≢ i → f (get_or names j p) ≡ g (get_or names j p))
    → map f names ≡ changed_at change i (map g names)
one_changed f g change names i p lt here elsewhere =
    ext_get_or (born 0) (map f names) (changed_at change i (map g names))
    (length-map names f ∙ sym (length-set (map g names) i new ∙ length-map names g))
    (λ j small. at j (omega (arith, small, length-map names f)))
  where
    new : KeptProcess
    new = change (get_or (map g names) i (born 0))

    at : (j : ℕ) → j < length names → get_or (map f names) j (born 0) ≡ get_or (set (map g names) i new) j (born 0)
    at j small =
        elim (eqb_tells j i) [
          | inl e ↦
              let one : get_or (map f names) j (born 0) ≡ get_or (map f names) i (born 0) = ap (λ (m : ℕ). get_or (map f names) m (born 0)) e.1 in
              let two : get_or (set (map g names) i new) i (born 0) ≡ get_or (set (map g names) i new) j (born 0) = ap (λ (m : ℕ). get_or (set (map g names) i new) m (born 0)) (sym e.1) in
              one ∙ get_or-map f names i p (born 0) lt ∙ here ∙ ap change (sym (get_or-map g names i p (born 0) lt))
              ∙ sym (get_or-set_same (map g names) i new (born 0) (omega (arith, lt, length-map names g))) ∙ two
          | inr d ↦
              get_or-map f names j p (born 0) small ∙ elsewhere j small d.1 ∙ sym (get_or-map g names j p (born 0) small) ∙ sym (get_or-set_other (map g names) i j new (born 0) d.1)
        ]

-- ---- a known process, beside the one that reports

module _ (accepted : List Report) (r : NumberedReport) (i run : ℕ) (is_run : run ≡ run_by (stable_of r.process accepted) r.stamp r.action) (fit : IsFitReport accepted r) (distinct : AreDistinctNames (known accepted)) (at : name_of accepted i ≡ Some r.process) where
  within : i < length (known accepted)
  within = slice_get_within (known accepted) i r.process at

  own_name : get_or (known accepted) i r.process ≡ r.process
  own_name = get_or_from_slice_get (known accepted) i r.process r.process at

  -- no known process is the child
  old : (q : Name) → IsKnown accepted q → (child : Name) → child_of r.action ≡ Some child → q ≢ child
  old q is child e same = unknown_child accepted r r.action fit.fit child e (subst (IsKnown accepted) same is)

  at_known : (j : ℕ) → j < length (known accepted) → IsKnown accepted (get_or (known accepted) j r.process)
  at_known j lt = (j, lt, get_or_default (known accepted) j (get_or (known accepted) j r.process) r.process lt)

  other_name : (j : ℕ) → j < length (known accepted) → j ≢ i → get_or (known accepted) j r.process ≢ r.process
  other_name j lt d e = d (distinct j i r.process lt within (e ∙ sym own_name))

  -- what is kept, but for absorbs
  abbrev pub mid : Name → KeptProcess
  mid q = merged (length accepted) run (is_numbered_of q (Numbered r)) (is_some (stable_made q (Numbered r))) false (kept_of accepted q)

  mid_own : mid r.process ≡ noted (length accepted) run (is_check r.action) (kept_of accepted r.process)
  mid_own = rw (same_bytes r.process, own_lasts r r.action (old r.process fit.is_known)) (merged_own (length accepted) run (is_check r.action) (kept_of accepted r.process))

  mid_other : (q : Name) → IsKnown accepted q → q ≢ r.process → mid q ≡ kept_of accepted q
  mid_other q is d = rw (other_bytes q r.process d, other_lasts q r r.action d (old q is)) (merged_other (length accepted) run (kept_of accepted q))

  pub mid_all : map mid (known accepted) ≡ changed_at (noted (length accepted) run (is_check r.action)) i (map (kept_of accepted) (known accepted))
  mid_all =
      one_changed mid (kept_of accepted) (noted (length accepted) run (is_check r.action)) (known accepted) i r.process within
      (rw own_name mid_own)
      (λ j lt d. mid_other (get_or (known accepted) j r.process) (at_known j lt) (other_name j lt d))

  -- what is kept afterwards of a known process that the report does not absorb
  pub kept_mid : (q : Name) → IsKnown accepted q → is_absorb_of q (Numbered r) ≡ false → kept_of (accepted ++ Numbered r ∷ []) q ≡ mid q
  kept_mid q is e =
      kept-push accepted (Numbered r) q run (no_birth q r r.action (old q is)) (run-push accepted r q run (old q is) is_run)
      ∙ ap (λ (b : Bool). merged (length accepted) run (is_numbered_of q (Numbered r)) (is_some (stable_made q (Numbered r))) b (kept_of accepted q)) e

  -- no process is absorbed
  pub kept_plain : ((q : Name) → is_absorb_of q (Numbered r) ≡ false) → map (kept_of (accepted ++ Numbered r ∷ [])) (known accepted) ≡ changed_at (noted (length accepted) run (is_check r.action)) i (map (kept_of accepted) (known accepted))
  kept_plain none =
      same_family (kept_of (accepted ++ Numbered r ∷ [])) mid (known accepted) r.process (λ j lt. kept_mid (get_or (known accepted) j r.process) (at_known j lt) (none (get_or (known accepted) j r.process))) ∙ mid_all

-- ---- a process that is born

none_last : {X : Type 0} (test : X → Bool) (o : Option X) (x : X) (b : Bool) → first_of o (cond b (Some x) None) ≡ None → (b ≡ false) × (o ≡ None)
none_last test (Some y) x b e = absurd cc
none_last test None x true e = absurd cc
none_last test None x false e = (refl, refl)

none_passes : {X : Type 0} (test : X → Bool) (xs : List X) → last_passing test xs ≡ None → list_any test xs ≡ false
none_passes test [] e = refl
none_passes test (x ∷ xs) e = let both = none_last test (last_passing test xs) x (test x) e in rw both.0 (none_passes test xs both.1)

none_index : {X : Type 0} (test : X → Bool) (xs : List X) → list_any test xs ≡ false → last_index test xs ≡ None
none_index test [] e = refl
none_index test (x ∷ xs) e = let both = or_parts (test x) (list_any test xs) e in rw (both.0, none_index test xs both.1) refl

nothing_by : (q : Name) (r : NumberedReport) (a : ReportKind) → is_birth_of q (Numbered (doing r a)) ≡ false → bytes_eq q r.process ≡ false → is_some (stable_by q r a) ≡ false
nothing_by q r Check b e = some_if (bytes_eq q r.process) r.stamp ∙ e
nothing_by q r (Fork f) b e = some_if (bytes_eq q f.child) _ ∙ b
nothing_by q r _ b e = refl

pub nothing_made : (q : Name) (r : Report) → is_birth_of q r ≡ false → is_numbered_of q r ≡ false → is_some (stable_made q r) ≡ false
nothing_made q (Begin p) b n = some_if (bytes_eq q p) _ ∙ b
nothing_made q (Numbered r) b e = nothing_by q r r.action b e

nothing_lasts : (q : Name) (n : ℕ) (xs : List Report) → list_any (is_birth_of q) xs ≡ false → list_any (is_numbered_of q) xs ≡ false → indexes_from (stable_made q) n xs ≡ []
nothing_lasts q n [] b e = refl
nothing_lasts q n (r ∷ rs) b e =
    let births = or_parts (is_birth_of q r) (list_any (is_birth_of q) rs) b in
    let numbers = or_parts (is_numbered_of q r) (list_any (is_numbered_of q) rs) e in
    rw (nothing_made q r births.0 numbers.0) (nothing_lasts q (suc n) rs births.1 numbers.1)

no_elements : (q : Name) (xs : List Report) → list_any (is_birth_of q) xs ≡ false → list_any (is_numbered_of q) xs ≡ false → stable_of q xs ≡ []
no_elements q xs b e = none_there (stable_of q xs) (sym (indexes-length (stable_made q) 0 xs) ∙ ap (λ (js : List ℕ). length js) (nothing_lasts q 0 xs b e))
  where
    none_there : (ss : List Stamp) → length ss ≡ 0 → ss ≡ []
    none_there [] same = refl
    none_there (s ∷ ss) same = absurd (omega (arith, same))

counted_from : {X : Type 0} (test : X → Bool) (m : ℕ) (xs : List X) → list_any test xs ≡ false → fold (λ a x. a + cond (test x) 1 0) m xs ≡ m
counted_from test m [] e = refl
counted_from test m (x ∷ xs) e =
    let both = or_parts (test x) (list_any test xs) e in
    let same : m + cond (test x) 1 0 ≡ m = rw both.0 (omega arith) in
    ap (λ (k : ℕ). fold (λ a x. a + cond (test x) 1 0) k xs) same ∙ counted_from test m xs both.1

none_counted : {X : Type 0} (test : X → Bool) (xs : List X) → list_any test xs ≡ false → count_by test xs ≡ 0
none_counted test xs e = counted_from test 0 xs e

-- what is not known has no report
pub unknown_none : (accepted : List Report) (q : Name) → IsFolded accepted → ¬ IsKnown accepted q → (list_any (is_birth_of q) accepted ≡ false) × (list_any (is_numbered_of q) accepted ≡ false) × (is_absorbed q accepted ≡ false)
unknown_none accepted q folded unknown =
    let made = well_made accepted folded in
    let unreported = made.unreported q unknown in (
      false_from_ne_true (list_any (is_birth_of q) accepted) (λ e. unknown (Contains-from_any (λ x y h. (bytes_eq-Decides x y).0 h) q (known accepted) (any_birth q accepted ∙ e))),
      none_passes (is_numbered_of q) accepted unreported,
      false_from_ne_true (is_absorbed q accepted) (λ e. made.retired q e (ap target_after unreported)),
    )

-- what is kept of a process that is born
pub kept_born : (accepted : List Report) (x : Report) (q : Name) → IsFolded accepted → ¬ IsKnown accepted q → is_birth_of q x ≡ true → is_numbered_of q x ≡ false → is_some (stable_made q x) ≡ true → is_absorb_of q x ≡ false
    → kept_of (accepted ++ x ∷ []) q ≡ born (length accepted)
kept_born accepted x q folded unknown birth number lasts absorbs =
    let none = unknown_none accepted q folded unknown in
    kept_is _ _ _ _ _ _ _ _ _ _ _ _
    (reports-push q accepted x ∙ rw (none_counted (is_numbered_of q) accepted none.1, number) refl)
    (last_index-push (is_numbered_of q) accepted x ∙ rw (none_index (is_numbered_of q) accepted none.1, number) refl)
    (ap (λ (o : Option ℕ). unwrap_or o 0) (last_index-push (is_birth_of q) accepted x) ∙ rw birth refl)
    (indexes-push (stable_made q) 0 accepted x ∙ rw (nothing_lasts q 0 accepted none.0 none.1, lasts) (ap (λ (m : ℕ). m ∷ []) (let e : 0 + length accepted ≡ length accepted = omega arith in e)))
    (run_born q accepted x (no_elements q accepted none.0 none.1))
    (absorbed-push q accepted x ∙ rw (none.2, absorbs) refl)

-- a name that is new goes last
pub new_name : (accepted : List Report) (q : Name) → ¬ IsKnown accepted q → insert_key (pointwise nat_eq) (known accepted) q ≡ known accepted ++ q ∷ []
new_name accepted q unknown =
    let absent : list_any (pointwise nat_eq q) (known accepted) ≡ false = false_from_ne_true (list_any (pointwise nat_eq q) (known accepted)) (λ e. unknown (Contains-from_any (λ x y h. (bytes_eq-Decides x y).0 h) q (known accepted) e)) in
    rw absent refl

-- ---- a retirement that is absorbed

pub kept_taken : (accepted : List Report) (r : NumberedReport) (retired : Name) (i run : ℕ) (o : Option ℕ) (after : List KeptProcess) → run ≡ same_id_from (stable_of r.process accepted) → IsFitReport accepted (doing r (Absorb retired)) → AreDistinctNames (known accepted) → name_of accepted i ≡ Some r.process
    → position (pointwise nat_eq retired) (known accepted) ≡ o → TakenAt (known accepted) retired o (changed_at (noted (length accepted) run false) i (map (kept_of accepted) (known accepted))) after
    → after ≡ map (kept_of (accepted ++ Numbered (doing r (Absorb retired)) ∷ [])) (known accepted)
kept_taken accepted r retired i run None after is_run fit distinct at e is =
    let absent : ¬ IsKnown accepted retired = λ there. true≢false (sym (list_any-from_Contains nat_list_eq_equiv retired (known accepted) there) ∙ is.0) in
    let own = doing r (Absorb retired) in
    let kept = kept_of (accepted ++ Numbered own ∷ []) in
    let m = mid accepted own i run is_run fit distinct at in
    is.1 ∙ sym (mid_all accepted own i run is_run fit distinct at)
    ∙ sym (same_family kept m (known accepted) r.process (λ k lt.
    let there : IsKnown accepted (get_or (known accepted) k r.process) = (k, lt, get_or_default (known accepted) k (get_or (known accepted) k r.process) r.process lt) in
    kept_mid accepted own i run is_run fit distinct at (get_or (known accepted) k r.process) there (other_bytes (get_or (known accepted) k r.process) retired (λ f. absent (subst (IsKnown accepted) f there)))))
kept_taken accepted r retired i run (Some j) after is_run fit distinct at e is =
    let found = found_name (known accepted) accepted retired j refl e in
    let own = doing r (Absorb retired) in
    let x = Numbered own in
    let here_known : IsKnown accepted retired = (j, found.0, found.1) in
    let kept = kept_of (accepted ++ x ∷ []) in
    let m = mid accepted own i run is_run fit distinct at in
    let here : kept (get_or (known accepted) j retired) ≡ taken (m (get_or (known accepted) j retired)) =
    rw found.1 (kept-push accepted x retired run (no_birth retired r (Absorb retired) (λ child f. absurd (none_some child f))) (run-push accepted own retired run (λ child f. absurd (none_some child f)) is_run) ∙ ap (λ (b : Bool). merged (length accepted) run (is_numbered_of retired x) (is_some (stable_made retired x)) b (kept_of accepted retired)) (same_bytes retired)
    ∙ merged_absorbed (length accepted) run (is_numbered_of retired x) (is_some (stable_made retired x)) (kept_of accepted retired)) in
    let elsewhere : (k : ℕ) → k < length (known accepted) → k ≢ j → kept (get_or (known accepted) k retired) ≡ m (get_or (known accepted) k retired) =
    λ k lt d. kept_mid accepted own i run is_run fit distinct at (get_or (known accepted) k retired) (k, lt, get_or_default (known accepted) k (get_or (known accepted) k retired) retired lt)
    (other_bytes (get_or (known accepted) k retired) retired (λ f. d (distinct k j retired lt found.0 (f ∙ sym found.1)))) in
    is ∙ ap (changed_at taken j) (sym (mid_all accepted own i run is_run fit distinct at)) ∙ sym (one_changed kept m taken (known accepted) j retired found.0 here elsewhere)

-- ---- all together

not_at_least : (m n : ℕ) → ¬ (m ≤ n) → n < m
not_at_least m n h = elim (cases_lt n m) [ inl lt ↦ lt | inr le ↦ absurd (h le) ]

-- there is room for one more line
pub few_after : (held : Held) (m : MarkedReport) → Passes held m → held.front + 1 ≤ report_limit
few_after held m h = let full = (passed (has_room held m.epoch m.report (held.front + 1) h)).0 in omega (arith, full)

-- how many are known is within the limit, where none is born or there was room for one
known_within : (accepted : List Report) (r : Report) (o : Option Name) → newborn r ≡ o → length (known accepted) ≤ process_limit → ((o ≢ None) → length (known accepted) < process_limit) → length (known (accepted ++ r ∷ [])) ≤ process_limit
known_within accepted r None e few room = omega (arith, few, ap length (known-push accepted r ∙ ap (λ (o : Option Name). known accepted ++ cons_option o []) e ∙ append-nil (known accepted)))
known_within accepted r (Some q) e few room = omega (arith, room (λ f. cc), ap length (known-push accepted r ∙ ap (λ (o : Option Name). known accepted ++ cons_option o []) e), length-append (known accepted) (q ∷ []))

pub few_known_after : (held : Held) (m : MarkedReport) → Passes held m → length (known held.accepted) ≤ process_limit → length (known (held.accepted ++ m.report ∷ [])) ≤ process_limit
few_known_after held m h few =
    let full = (passed (passed (has_room held m.epoch m.report (held.front + 1) h)).1).0 in
    known_within held.accepted m.report (newborn m.report) refl few (λ some. not_at_least process_limit (length (known held.accepted)) (λ le. full (some, le)))

plain : (accepted : List Report) (r : NumberedReport) (after : List KeptProcess) → child_of r.action ≡ None → after ≡ map (kept_of (accepted ++ Numbered r ∷ [])) (known accepted)
    → (names_with (known accepted) (child_of r.action) ≡ known (accepted ++ Numbered r ∷ [])) × (after ≡ map (kept_of (accepted ++ Numbered r ∷ [])) (known (accepted ++ Numbered r ∷ [])))
plain accepted r after none is =
    let same : known (accepted ++ Numbered r ∷ []) ≡ known accepted = known-push accepted (Numbered r) ∙ ap (λ (o : Option Name). known accepted ++ cons_option o []) none ∙ append-nil (known accepted) in
    (ap (names_with (known accepted)) none ∙ sym same, is ∙ sym (ap (map (kept_of (accepted ++ Numbered r ∷ []))) same))

pub in_order_numbered : (accepted : List Report) (r : NumberedReport) (a : ReportKind) (i run : ℕ) (after : List KeptProcess) → run ≡ run_by (stable_of r.process accepted) r.stamp a → IsFolded accepted → AreDistinctNames (known accepted) → name_of accepted i ≡ Some r.process
    → IsFitReport accepted (doing r a) → IsKeptByAction (known accepted) (changed_at (noted (length accepted) run (is_check a)) i (map (kept_of accepted) (known accepted))) a (length accepted) after
    → (names_with (known accepted) (child_of a) ≡ known (accepted ++ Numbered (doing r a) ∷ [])) × (after ≡ map (kept_of (accepted ++ Numbered (doing r a) ∷ [])) (known (accepted ++ Numbered (doing r a) ∷ [])))
in_order_numbered accepted r (Absorb retired) i run after is_run folded distinct at fit is =
    plain accepted (doing r (Absorb retired)) after refl (kept_taken accepted r retired i run (position (pointwise nat_eq retired) (known accepted)) after is_run fit distinct at refl is)
in_order_numbered accepted r (Fork f) i run after is_run folded distinct at fit is =
    let own = doing r (Fork f) in
    let x = Numbered own in
    let child = f.child in
    let unknown : ¬ IsKnown accepted child = fit.fit.0 in
    let other : child ≢ r.process = λ e. unknown (subst (IsKnown accepted) (sym e) fit.is_known) in
    let known_is : known (accepted ++ x ∷ []) ≡ known accepted ++ child ∷ [] = known-push accepted x in
    let last : kept_of (accepted ++ x ∷ []) child ≡ born (length accepted) = kept_born accepted x child folded unknown (same_bytes child) (other_bytes child r.process other) (some_if (bytes_eq child child) _ ∙ same_bytes child) refl in (
      new_name accepted child unknown ∙ sym known_is,
      is ∙ ap (λ (l : List KeptProcess). l ++ born (length accepted) ∷ []) (sym (kept_plain accepted own i run is_run fit distinct at (λ q. refl)))
          ∙ ap (λ (k : KeptProcess). map (kept_of (accepted ++ x ∷ [])) (known accepted) ++ k ∷ []) (sym last)
          ∙ sym (ap (map (kept_of (accepted ++ x ∷ []))) known_is ∙ map-append (kept_of (accepted ++ x ∷ [])) (known accepted) (child ∷ [])),
    )
in_order_numbered accepted r a i run after is_run folded distinct at fit is =
    plain accepted (doing r a) after refl (is ∙ sym (kept_plain accepted (doing r a) i run is_run fit distinct at (λ q. refl)))
