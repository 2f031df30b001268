-- What is known of a report that stands in a folded list.
use Rattle.std.proofs.Common.{◌≡◌, ◌≢◌, ◌⊎◌, ℕ, ◌+◌, ◌≤◌, ◌<◌, Bool, true, false, cond, List, [], ◌∷◌, ◌++◌, Option, Some, None, refl, sym, ◌∙◌, ap, subst, inl, inr, arith}
use Rattle.std.specs.Prelude.{Contains, slice_get}
use Rattle.std.specs.List.{filter_map, list_any, cons_option}
use Rattle.std.specs.Str.{bytes_eq}
use Rattle.std.proofs.lemmas.Bool.{cases_Bool, true≢false, or_from, or_left}
use Rattle.std.proofs.lemmas.List.Folds.{list_any-append}
use Rattle.law_lines.proofs.Listed.{in_cases}
use Rattle.chains.specs.Processes.{events_after}
use Rattle.std.proofs.lemmas.List.Elements.{Contains-append_cases, filter_map-append, Contains-append_left, Contains-push}
use Rattle.id_tree.specs.IdTree.{One}
use Rattle.event_tree.specs.EventTree.{EventTree, Leaf}
use Rattle.event_tree.specs.Values.{IsAtOrBelow, ExceedsOn}
use Rattle.stamp.specs.declared.stamp.Stamp.{Stamp}
use Rattle.report_line.specs.declared.report.ReportKind.{ReportKind}
use Rattle.report_line.specs.declared.report.ReportKind.TheVariants.{Check, Present, Fork, Retire, Absorb}
use Rattle.report_line.specs.declared.report.Report.{Report}
use Rattle.report_line.specs.declared.report.Report.TheVariants.{Begin, Numbered}
use Rattle.chains.specs.Processes.{Name, first_of, last_passing, is_numbered_of, is_birth_of, reports_of, last_report, birth_report, last_events}
use Rattle.chains.specs.Elements.{only_if, stable_by, stable_made, stable_of, present_in, elements_of}
use Rattle.chains.proofs.Stepping.{same_bytes, failing, passing}
use Rattle.report_line.specs.declared.report.NumberedReport.{NumberedReport}
use Rattle.chains.specs.Folded.{IsFitReport, IsFit, IsFolded, nothing_folded, one_folded}
use Rattle.law_lines.proofs.Numbered.{told, is_born_by, numbered_by, numbered_made, IsMadeBy}
use Rattle.law_lines.proofs.Looking.{known_any, any_from_last}
use Rattle.law_lines.proofs.Folding.{own_count}
use Rattle.law_lines.proofs.Born.{birth_is_new, unknown_lasts_not}
use Rattle.law_lines.proofs.Made.{below_same, below_both, untouched, untouched_events, own_events, own_form, own_made_cases, was_made, has_made}

-- ---- places in a list

first_same : {X : Type 0} (x y : X) (xs ys : List X) → x ∷ xs ≡ y ∷ ys → x ≡ y
first_same x y xs ys is = cc

rest_same : {X : Type 0} (x y : X) (xs ys : List X) → x ∷ xs ≡ y ∷ ys → xs ≡ ys
rest_same x y xs ys is = cc

cons_same : {X : Type 0} (x y : X) (xs ys : List X) → x ≡ y → xs ≡ ys → x ∷ xs ≡ y ∷ ys
cons_same x y xs ys is rest = cc

nothing_before : {X : Type 0} (before after : List X) (x : X) → [] ≢ before ++ x ∷ after
nothing_before [] after x is = cc
nothing_before (b ∷ bs) after x is = cc

-- what stands in a list with one more element is that element, or stands before it
last_or_before : {X : Type 0} (xs before after : List X) (r x : X) → xs ++ r ∷ [] ≡ before ++ x ∷ after
    → ((xs ≡ before) × (r ≡ x)) ⊎ ((rest : List X) × (xs ≡ before ++ x ∷ rest))
last_or_before [] [] after r x is = inl (refl, first_same r x [] after is)
last_or_before [] (b ∷ bs) after r x is = absurd (nothing_before bs after x (rest_same r b [] (bs ++ x ∷ after) is))
last_or_before (y ∷ ys) [] after r x is = inr (ys, ap (λ z. z ∷ ys) (first_same y x (ys ++ r ∷ []) after is))
last_or_before (y ∷ ys) (b ∷ bs) after r x is =
    let same = first_same y b (ys ++ r ∷ []) (bs ++ x ∷ after) is in
    elim (last_or_before ys bs after r x (rest_same y b (ys ++ r ∷ []) (bs ++ x ∷ after) is)) [
      | inl last ↦ inl (cons_same y b ys bs same last.0, last.1)
      | inr there ↦ inr (there.0, cons_same y b ys (bs ++ x ∷ there.0) same there.1)
    ]

-- the last that passes stands in the list
last_stands : {X : Type 0} (test : X → Bool) (x : X) (xs : List X) (y : X) (o : Option X) → last_passing test xs ≡ o → first_of o (cond (test x) (Some x) None) ≡ Some y
    → (o ≡ Some y → (before : List X) × (after : List X) × (xs ≡ before ++ y ∷ after)) → (before : List X) × (after : List X) × (x ∷ xs ≡ before ++ y ∷ after)
last_stands test x xs y None found is later = ([], xs, ap (λ z. z ∷ xs) (here (test x) is))
  where
    here : (b : Bool) → cond b (Some x) None ≡ Some y → x ≡ y
    here true is = cc
    here false is = absurd (cc)
last_stands test x xs y (Some z) found is later =
    let same : Some z ≡ Some y = is in
    let there = later same in
    (x ∷ there.0, there.1, ap (λ l. x ∷ l) there.2)

pub last_in : {X : Type 0} (test : X → Bool) (xs : List X) (y : X) → last_passing test xs ≡ Some y → (before : List X) × (after : List X) × (xs ≡ before ++ y ∷ after)
last_in test [] y is = absurd (cc)
last_in test (x ∷ xs) y is = last_stands test x xs y (last_passing test xs) refl is (λ found. last_in test xs y found)

-- ---- a report

list_any_more : {X : Type 0} (test : X → Bool) (xs : List X) (x : X) → list_any test xs ≡ true → list_any test (xs ++ x ∷ []) ≡ true
list_any_more test xs x is = list_any-append test xs (x ∷ []) ∙ or_left (list_any test xs) (list_any test (x ∷ [])) is

known_before : (p : Name) (before : List Report) (r : Report) → list_any (is_birth_of p) (before ++ r ∷ []) ≡ true → is_birth_of p r ≡ false → list_any (is_birth_of p) before ≡ true
known_before p before r known no_birth =
    elim (cases_Bool (list_any (is_birth_of p) before)) [
      | inl there ↦ there
      | inr none ↦
          absurd (true≢false (sym known ∙ (list_any-append (is_birth_of p) before (r ∷ [])
          ∙ or_from (list_any (is_birth_of p) before) (list_any (is_birth_of p) (r ∷ [])) none (or_from (is_birth_of p r) false no_birth refl))))
    ]

pub fit_at : {accepted : List Report} → IsFolded accepted → (before after : List Report) (r : Report) → accepted ≡ before ++ r ∷ after → IsFit before r
fit_at nothing_folded before after r is = absurd (nothing_before before after r is)
fit_at (one_folded xs x folded fit) before after r is =
    elim (last_or_before xs before after x r is) [
      | inl last ↦ subst (λ (l : List Report). IsFit l r) last.0 (subst (λ (y : Report). IsFit xs y) last.1 fit)
      | inr there ↦ fit_at folded before there.0 r there.1
    ]

-- the birth of a process stays
birth_stays_next : (p : Name) (before : List Report) (r birth : Report) → IsFit before r → birth_report p before ≡ Some birth → birth_report p (before ++ r ∷ []) ≡ Some birth
birth_stays_next p before r birth fit is =
    elim (cases_Bool (is_birth_of p r)) [
      | inl again ↦ absurd (true≢false (sym (any_from_last (is_birth_of p) before birth is) ∙ birth_is_new p before r fit again))
      | inr no_birth ↦ failing (is_birth_of p) before r no_birth ∙ is
    ]

pub birth_stays : {accepted : List Report} → IsFolded accepted → (p : Name) (before after : List Report) (r birth : Report) → accepted ≡ before ++ r ∷ after → birth_report p before ≡ Some birth
    → birth_report p accepted ≡ Some birth
birth_stays nothing_folded p before after r birth is found = absurd (nothing_before before after r is)
birth_stays (one_folded xs x folded fit) p before after r birth is found =
    elim (last_or_before xs before after x r is) [
      | inl last ↦ birth_stays_next p xs x birth fit (ap (birth_report p) last.0 ∙ found)
      | inr there ↦ birth_stays_next p xs x birth fit (birth_stays folded p before there.0 r birth there.1 found)
    ]

-- what is known of a report of p with number m
pub record HasReport (accepted : List Report) (p : Name) (m : ℕ) (s : Stamp) : Type 0 where
  pub is_known : list_any (is_birth_of p) accepted ≡ true
  pub few : m ≤ reports_of p accepted
  pub below : IsAtOrBelow s.events (last_events p accepted)
  pub up_to : (n : ℕ) (e : Stamp) → IsMadeBy accepted p n e → m ≤ n → IsAtOrBelow s.events e.events
  pub after : (n : ℕ) (e : Stamp) → IsMadeBy accepted p n e → n < m → ExceedsOn e.id s.events e.events

report_now : (accepted : List Report) (p : Name) (m : ℕ) (s : Stamp) (a : ReportKind) → IsFolded accepted → IsFitReport accepted (told p m s a) → HasReport (accepted ++ Numbered (told p m s a) ∷ []) p m s
report_now accepted p m s a folded fit =
    let whole : IsFolded (accepted ++ Numbered (told p m s a) ∷ []) = one_folded accepted (Numbered (told p m s a)) folded fit in
    let number : m ≡ reports_of p accepted + 1 = fit.number in
    let count : reports_of p (accepted ++ Numbered (told p m s a) ∷ []) ≡ reports_of p accepted + 1 = own_count p accepted (Numbered (told p m s a)) (same_bytes p) in
    let events = own_events accepted p m s a in
    record {
      is_known = list_any_more (is_birth_of p) accepted (Numbered (told p m s a)) (known_any accepted p fit.is_known);
      few = omega arith;
      below = subst (λ (e : EventTree). IsAtOrBelow s.events e) (sym events) (below_same s.events);
      up_to = λ n e is_made more.
          (let made = has_made whole p n e is_made in
          let few : n ≤ reports_of p (accepted ++ Numbered (told p m s a) ∷ []) = made.few in
          let newest = made.newest (omega arith) in
          subst (λ (f : EventTree). IsAtOrBelow s.events f) (sym (newest.1 ∙ events)) (below_same s.events));
      after = λ n e is_made less.
          (let made = has_made whole p n e is_made in
          subst (λ (f : EventTree). ExceedsOn e.id f e.events) events (made.older (omega arith)));
    }

report_own : (accepted : List Report) (p : Name) (m : ℕ) (s : Stamp) (n : ℕ) (t : Stamp) (a : ReportKind) → IsFitReport accepted (told p n t a) → HasReport accepted p m s
    → HasReport (accepted ++ Numbered (told p n t a) ∷ []) p m s
report_own accepted p m s n t a fit old =
    let number : n ≡ reports_of p accepted + 1 = fit.number in
    let count : reports_of p (accepted ++ Numbered (told p n t a) ∷ []) ≡ reports_of p accepted + 1 = own_count p accepted (Numbered (told p n t a)) (same_bytes p) in
    let events = own_events accepted p n t a in
    let few : m ≤ reports_of p accepted = old.few in
    let risen : IsAtOrBelow s.events t.events = below_both s.events (last_events p accepted) t.events old.below fit.grown.0 in
    record {
      is_known = list_any_more (is_birth_of p) accepted (Numbered (told p n t a)) old.is_known;
      few = omega arith;
      below = subst (λ (e : EventTree). IsAtOrBelow s.events e) (sym events) risen;
      up_to = λ k e is_made more.
          elim (own_made_cases accepted p n t a fit k e is_made) [
            | inl before ↦ old.up_to k e before more
            | inr now ↦ subst (λ (u : Stamp). IsAtOrBelow s.events u.events) now.1 risen
          ];
      after = λ k e is_made less.
          elim (own_made_cases accepted p n t a fit k e is_made) [
            | inl before ↦ old.after k e before less
            | inr now ↦ (let same : n ≡ k = now.0 in absurd (omega arith))
          ];
    }

report_other : (accepted : List Report) (p : Name) (m : ℕ) (s : Stamp) (r : Report) → is_numbered_of p r ≡ false → is_birth_of p r ≡ false → HasReport accepted p m s
    → HasReport (accepted ++ r ∷ []) p m s
report_other accepted p m s r other no_birth old =
    let same = untouched accepted r p other no_birth in
    let count : reports_of p (accepted ++ r ∷ []) ≡ reports_of p accepted = same.count in
    let few : m ≤ reports_of p accepted = old.few in
    record {
      is_known = list_any_more (is_birth_of p) accepted r old.is_known;
      few = omega arith;
      below = subst (λ (e : EventTree). IsAtOrBelow s.events e) (sym (untouched_events accepted r p same)) old.below;
      up_to = λ k e is_made. old.up_to k e (was_made accepted r p other no_birth k e is_made);
      after = λ k e is_made. old.after k e (was_made accepted r p other no_birth k e is_made);
    }

report_next : (accepted : List Report) (p : Name) (m : ℕ) (s : Stamp) (r : Report) → IsFit accepted r → HasReport accepted p m s → HasReport (accepted ++ r ∷ []) p m s
report_next accepted p m s r fit old =
    elim (cases_Bool (is_birth_of p r)) [
      | inl birth ↦ absurd (true≢false (sym old.is_known ∙ birth_is_new p accepted r fit birth))
      | inr no_birth ↦ elim (cases_Bool (is_numbered_of p r)) [
        | inl own ↦
            (let form = own_form p r own in
            subst (λ (x : Report). HasReport (accepted ++ x ∷ []) p m s) (sym form.3)
            (report_own accepted p m s form.0 form.1 form.2 (subst (λ (x : Report). IsFit accepted x) form.3 fit) old))
        | inr other ↦ report_other accepted p m s r other no_birth old
      ]
    ]

pub has_report : {accepted : List Report} → IsFolded accepted → (before after : List Report) (p : Name) (m : ℕ) (s : Stamp) (a : ReportKind) → accepted ≡ before ++ Numbered (told p m s a) ∷ after
    → HasReport accepted p m s
has_report nothing_folded before after p m s a is = absurd (nothing_before before after (Numbered (told p m s a)) is)
has_report (one_folded xs r folded fit) before after p m s a is =
    elim (last_or_before xs before after r (Numbered (told p m s a)) is) [
      | inl last ↦
          subst (λ (x : Report). HasReport (xs ++ x ∷ []) p m s) (sym last.1) (report_now xs p m s a folded (subst (λ (x : Report). IsFit xs x) last.1 fit))
      | inr there ↦ report_next xs p m s r fit (has_report folded before there.0 p m s a there.1)
    ]

-- ---- the first element

both : (b : Bool) (s : Stamp) → b ≡ true → (t : Stamp) × (only_if b s ≡ Some t) × (only_if b (let x : ℕ × Stamp = (0, s) in x) ≡ Some (0, t)) × (t ≡ s)
both b s is = (s, ap (λ c. only_if c s) is, ap (λ c. only_if c (let x : ℕ × Stamp = (0, s) in x)) is, refl)

-- what a birth makes: an element with the number 0 and the events of the birth
pub record IsMadeByBirth (p : Name) (r : Report) : Type 0 where
  pub stamp : Stamp
  pub lasts : stable_made p r ≡ Some stamp
  pub numbered : numbered_made p r ≡ Some (0, stamp)
  pub events : stamp.events ≡ events_after (Some r)

both_by : (p : Name) (r : NumberedReport) (a : ReportKind) → is_born_by p a ≡ true → (s : Stamp) × (stable_by p r a ≡ Some s) × (numbered_by p r a ≡ Some (0, s)) × (s.events ≡ r.stamp.events)
both_by p r (Fork f) is = (let w = both (bytes_eq p f.child) (record { id = f.given; events = r.stamp.events }) is in (w.0, w.1, w.2, ap (λ (u : Stamp). u.events) w.3))
both_by p r Check is = absurd (true≢false (sym is))
both_by p r Present is = absurd (true≢false (sym is))
both_by p r (Retire target) is = absurd (true≢false (sym is))
both_by p r (Absorb retired) is = absurd (true≢false (sym is))

pub birth_both : (p : Name) (r : Report) → is_birth_of p r ≡ true → IsMadeByBirth p r
birth_both p (Begin q) is =
    (let w = both (bytes_eq p q) (record { id = One; events = Leaf 0 }) is in record { stamp = w.0; lasts = w.1; numbered = w.2; events = ap (λ (u : Stamp). u.events) w.3 })
birth_both p (Numbered r) is = (let w = both_by p r r.action is in record { stamp = w.0; lasts = w.1; numbered = w.2; events = w.3 })

record HasFirst (accepted : List Report) (p : Name) : Type 0 where
  pub first : Stamp
  pub rest : List Stamp
  pub lasts : stable_of p accepted ≡ first ∷ rest
  pub made : Contains (filter_map (numbered_made p) accepted) (0, first)
  pub birth : Report
  pub is_birth : birth_report p accepted ≡ Some birth
  pub events : first.events ≡ events_after (Some birth)

first_next : (before : List Report) (r : Report) (p : Name) → IsFit before r → HasFirst before p → HasFirst (before ++ r ∷ []) p
first_next before r p fit old = record {
  first = old.first;
  rest = old.rest ++ cons_option (stable_made p r) [];
  lasts = filter_map-append (stable_made p) before (r ∷ []) ∙ ap (λ l. l ++ cons_option (stable_made p r) []) old.lasts;
  made = subst (λ l. Contains l (0, old.first)) (sym (filter_map-append (numbered_made p) before (r ∷ [])))
      (Contains-append_left (filter_map (numbered_made p) before) (filter_map (numbered_made p) (r ∷ [])) (0, old.first) old.made);
  birth = old.birth;
  is_birth = birth_stays_next p before r old.birth fit old.is_birth;
  events = old.events;
}

first_now : (before : List Report) (r : Report) (p : Name) → IsFolded before → IsFit before r → is_birth_of p r ≡ true → HasFirst (before ++ r ∷ []) p
first_now before r p folded fit birth =
    let made = birth_both p r birth in
    let s : Stamp = made.stamp in
    record {
      first = s;
      rest = [];
      lasts = filter_map-append (stable_made p) before (r ∷ []) ∙ (ap (λ l. l ++ cons_option (stable_made p r) []) (unknown_lasts_not folded p (birth_is_new p before r fit birth))
          ∙ ap (λ o. cons_option o []) made.lasts);
      made = subst (λ l. Contains l (0, s)) (sym (filter_map-append (numbered_made p) before (r ∷ []) ∙ ap (λ o. filter_map (numbered_made p) before ++ cons_option o []) made.numbered))
          (Contains-push (filter_map (numbered_made p) before) (0, s));
      birth = r;
      is_birth = passing (is_birth_of p) before r birth;
      events = made.events;
    }

has_first : {accepted : List Report} → IsFolded accepted → (p : Name) → list_any (is_birth_of p) accepted ≡ true → HasFirst accepted p
has_first nothing_folded p known = absurd (true≢false (sym known))
has_first (one_folded before r folded fit) p known =
    elim (cases_Bool (is_birth_of p r)) [
      | inl birth ↦ first_now before r p folded fit birth
      | inr no_birth ↦ first_next before r p fit (has_first folded p (known_before p before r known no_birth))
    ]

pub first_element : {accepted : List Report} → IsFolded accepted → (p : Name) → list_any (is_birth_of p) accepted ≡ true
    → (s : Stamp) × (slice_get (elements_of p accepted) 0 ≡ Some s) × IsMadeBy accepted p 0 s
first_element {accepted} folded p known =
    let there = has_first folded p known in
    (there.first, ap (λ l. slice_get (l ++ present_in (last_report p accepted)) 0) there.lasts, inl there.made)

-- the first element has the events of the birth
pub first_events : {accepted : List Report} → IsFolded accepted → (p : Name) → list_any (is_birth_of p) accepted ≡ true
    → (s : Stamp) × (slice_get (elements_of p accepted) 0 ≡ Some s) × (s.events ≡ events_after (birth_report p accepted))
first_events {accepted} folded p known =
    let there = has_first folded p known in
    (there.first, ap (λ l. slice_get (l ++ present_in (last_report p accepted)) 0) there.lasts, there.events ∙ sym (ap events_after there.is_birth))

-- a birth that is accepted is the birth
pub birth_found : {accepted : List Report} → IsFolded accepted → (p : Name) (y : Report) → Contains accepted y → is_birth_of p y ≡ true → birth_report p accepted ≡ Some y
birth_found nothing_folded p y at is = (let lt = at.1 in absurd (omega arith))
birth_found (one_folded before x folded fit) p y at is =
    elim (Contains-append_cases before (x ∷ []) y at) [
      | inl old ↦ birth_stays_next p before x y fit (birth_found folded p y old is)
      | inr new ↦ elim (in_cases x y [] new) [
        | inl same ↦ passing (is_birth_of p) before x (ap (is_birth_of p) same ∙ is) ∙ ap Some same
        | inr none ↦ (let lt = none.1 in absurd (omega arith))
      ]
    ]
