-- What is known of an element: the process's later reports exceed it, and its birth does not.
use Rattle.std.proofs.Common.{◌≡◌, ◌≢◌, ◌⊎◌, ℕ, ◌+◌, ◌≤◌, ◌<◌, Bool, true, false, List, [], ◌∷◌, ◌++◌, Option, Some, None, refl, sym, ◌∙◌, ap, subst, inl, inr, append-nil, arith}
use Rattle.std.specs.Prelude.{Contains}
use Rattle.std.specs.List.{filter_map, list_any, cons_option}
use Rattle.std.specs.Str.{bytes_eq}
use Rattle.std.proofs.lemmas.Bool.{cases_Bool, true≢false, cases_lt, or_parts}
use Rattle.std.proofs.lemmas.List.Elements.{filter_map-append, Contains-push_cases}
use Rattle.std.proofs.lemmas.List.Folds.{list_any-append}
use Rattle.std.proofs.lemmas.Slice.Eq.{bytes_eq-Decides}
use Rattle.id_tree.specs.IdTree.{IdTree}
use Rattle.event_tree.specs.EventTree.{EventTree, Leaf}
use Rattle.event_tree.specs.Values.{value_at, IsAtOrBelow, ExceedsOn}
use Rattle.stamp.specs.declared.stamp.Stamp.{Stamp}
use Rattle.report_line.specs.declared.report.ReportKind.{ReportKind}
use Rattle.report_line.specs.declared.report.ReportKind.TheVariants.{Check, Present, Fork, Retire, Absorb}
use Rattle.report_line.specs.declared.report.Report.{Report}
use Rattle.report_line.specs.declared.report.Report.TheVariants.{Begin, Numbered}
use Rattle.chains.specs.Processes.{Name, first_of, is_numbered_of, is_birth_of, reports_of, last_report, birth_report, events_after, last_events, id_at_birth, id_given, id_after, id_kept, registered_id}
use Rattle.chains.specs.Elements.{only_if}
use Rattle.chains.proofs.Stepping.{same_bytes, passing, failing, own_report, own_id}
use Rattle.report_line.specs.declared.report.NumberedReport.{NumberedReport}
use Rattle.chains.specs.Folded.{IsFitReport, IsFit, IsFolded, nothing_folded, one_folded}
use Rattle.law_lines.proofs.Numbered.{told, is_born_by, numbered_by, numbered_made, IsMadeBy}
use Rattle.law_lines.proofs.Looking.{known_any}
use Rattle.law_lines.proofs.Folding.{own_count, other_count}
use Rattle.law_lines.proofs.Born.{birth_is_new, reporter_is_known}

-- ---- event trees

pub below_same : (e : EventTree) → IsAtOrBelow e e
below_same e point = omega arith

pub below_both : (e f g : EventTree) → IsAtOrBelow e f → IsAtOrBelow f g → IsAtOrBelow e g
below_both e f g first second point = (let a : value_at e point ≤ value_at f point = first point in let b : value_at f point ≤ value_at g point = second point in omega arith)

pub exceeds_more : (i : IdTree) (e f g : EventTree) → IsAtOrBelow e f → ExceedsOn i e g → ExceedsOn i f g
exceeds_more i e f g above there =
    (there.0, there.1, (let a : value_at e there.0 ≤ value_at f there.0 = above there.0 in let b : value_at g there.0 < value_at e there.0 = there.2 in omega arith))

-- ---- one more report

in_nothing : {X : Type 0} (x : X) → ¬ Contains [] x
in_nothing x there = (let less = there.1 in omega arith)

-- the events of a process at its birth
abbrev pub birth_events : Name → List Report → EventTree
birth_events p accepted = events_after (birth_report p accepted)

-- what stays of a process that neither reports nor is born
pub record IsUntouched (accepted : List Report) (r : Report) (p : Name) : Type 0 where
  pub count : reports_of p (accepted ++ r ∷ []) ≡ reports_of p accepted
  pub last : last_report p (accepted ++ r ∷ []) ≡ last_report p accepted
  pub birth : birth_report p (accepted ++ r ∷ []) ≡ birth_report p accepted

pub untouched : (accepted : List Report) (r : Report) (p : Name) → is_numbered_of p r ≡ false → is_birth_of p r ≡ false → IsUntouched accepted r p
untouched accepted r p other no_birth = record {
  count = other_count p accepted r other;
  last = failing (is_numbered_of p) accepted r other;
  birth = failing (is_birth_of p) accepted r no_birth;
}

-- a process is not born by its own report
pub own_no_birth : (accepted : List Report) (p : Name) (n : ℕ) (s : Stamp) (a : ReportKind) → IsFitReport accepted (told p n s a) → is_birth_of p (Numbered (told p n s a)) ≡ false
own_no_birth accepted p n s a fit =
    elim (cases_Bool (is_birth_of p (Numbered (told p n s a)))) [
      | inl birth ↦ absurd (true≢false (sym (known_any accepted p fit.is_known) ∙ birth_is_new p accepted (Numbered (told p n s a)) fit birth))
      | inr none ↦ none
    ]

pub own_events : (accepted : List Report) (p : Name) (n : ℕ) (s : Stamp) (a : ReportKind) → last_events p (accepted ++ Numbered (told p n s a) ∷ []) ≡ s.events
own_events accepted p n s a = ap (λ o. events_after (first_of o (birth_report p (accepted ++ Numbered (told p n s a) ∷ [])))) (own_report accepted (told p n s a))

pub untouched_events : (accepted : List Report) (r : Report) (p : Name) → IsUntouched accepted r p → last_events p (accepted ++ r ∷ []) ≡ last_events p accepted
untouched_events accepted r p same =
    ap (λ o. events_after (first_of o (birth_report p (accepted ++ r ∷ [])))) same.last ∙ ap (λ o. events_after (first_of (last_report p accepted) o)) same.birth

untouched_id : (accepted : List Report) (r : Report) (p : Name) → IsUntouched accepted r p → registered_id p (accepted ++ r ∷ []) ≡ registered_id p accepted
untouched_id accepted r p same = ap (λ o. id_after o (birth_report p (accepted ++ r ∷ []))) same.last ∙ ap (id_after (last_report p accepted)) same.birth

-- ---- what a report makes

only_if_false : {X : Type 0} (b : Bool) (x : X) → b ≡ false → only_if b x ≡ None
only_if_false b x is = ap (λ c. only_if c x) is

only_if_is : {X : Type 0} (b : Bool) (x y : X) → only_if b x ≡ Some y → (b ≡ true) × (x ≡ y)
only_if_is true x y is = (refl, cc)
only_if_is false x y is = absurd (cc)

none_is : {X : Type 0} (y : X) → None ≢ Some y
none_is y is = cc

same_pair : (m n : ℕ) (s t : Stamp) → (let x : ℕ × Stamp = (m, s) in x) ≡ (n, t) → (m ≡ n) × (s ≡ t)
same_pair m n s t is = (ap (λ x. x.0) is, ap (λ x. x.1) is)

none_by : (p : Name) (r : NumberedReport) (a : ReportKind) → bytes_eq p r.process ≡ false → is_born_by p a ≡ false → numbered_by p r a ≡ None
none_by p r Check other no_birth = only_if_false (bytes_eq p r.process) _ other
none_by p r Present other no_birth = refl
none_by p r (Fork f) other no_birth = only_if_false (bytes_eq p f.child) _ no_birth
none_by p r (Retire target) other no_birth = refl
none_by p r (Absorb retired) other no_birth = refl

numbered_none : (p : Name) (r : Report) → is_numbered_of p r ≡ false → is_birth_of p r ≡ false → numbered_made p r ≡ None
numbered_none p (Begin q) other no_birth = only_if_false (bytes_eq p q) _ no_birth
numbered_none p (Numbered r) other no_birth = none_by p r r.action other no_birth

new_cases : {X : Type 0} (xs : List X) (o : Option X) (y : X) → Contains (xs ++ cons_option o []) y → Contains xs y ⊎ (o ≡ Some y)
new_cases xs None y there = inl (subst (λ l. Contains l y) (append-nil xs) there)
new_cases xs (Some x) y there = elim (Contains-push_cases xs x y there) [ inl old ↦ inl old | inr new ↦ inr (ap Some new) ]

made_cases : (p : Name) (accepted : List Report) (r : Report) (y : ℕ × Stamp) → Contains (filter_map (numbered_made p) (accepted ++ r ∷ [])) y
    → Contains (filter_map (numbered_made p) accepted) y ⊎ (numbered_made p r ≡ Some y)
made_cases p accepted r y there =
    new_cases (filter_map (numbered_made p) accepted) (numbered_made p r) y (subst (λ l. Contains l y) (filter_map-append (numbered_made p) accepted (r ∷ [])) there)

-- who is not known has no report
pub record HasNothing (accepted : List Report) (p : Name) : Type 0 where
  pub count : reports_of p accepted ≡ 0
  pub last : last_report p accepted ≡ None
  pub made : filter_map (numbered_made p) accepted ≡ []

not_numbered : (p : Name) (accepted : List Report) (r : Report) → IsFit accepted r → list_any (is_birth_of p) accepted ≡ false → is_numbered_of p r ≡ false
not_numbered p accepted r fit unknown =
    elim (cases_Bool (is_numbered_of p r)) [
      | inl own ↦ absurd (true≢false (sym (reporter_is_known p accepted r fit own) ∙ unknown))
      | inr other ↦ other
    ]

pub unknown_has_nothing : {accepted : List Report} → IsFolded accepted → (p : Name) → list_any (is_birth_of p) accepted ≡ false → HasNothing accepted p
unknown_has_nothing nothing_folded p unknown = record { count = refl; last = refl; made = refl }
unknown_has_nothing (one_folded before r folded fit) p unknown =
    let parts = or_parts (list_any (is_birth_of p) before) (list_any (is_birth_of p) (r ∷ [])) (sym (list_any-append (is_birth_of p) before (r ∷ [])) ∙ unknown) in
    let no_birth : is_birth_of p r ≡ false = (or_parts (is_birth_of p r) false parts.1).0 in
    let other : is_numbered_of p r ≡ false = not_numbered p before r fit parts.0 in
    let rest = unknown_has_nothing folded p parts.0 in
    let same = untouched before r p other no_birth in
    record {
      count = same.count ∙ rest.count;
      last = same.last ∙ rest.last;
      made = filter_map-append (numbered_made p) before (r ∷ []) ∙ (ap (λ o. filter_map (numbered_made p) before ++ cons_option o []) (numbered_none p r other no_birth)
          ∙ (append-nil (filter_map (numbered_made p) before) ∙ rest.made));
    }

-- ---- elements

pub record HasMade (accepted : List Report) (p : Name) (n : ℕ) (s : Stamp) : Type 0 where
  pub few : n ≤ reports_of p accepted
  pub newest : n ≡ reports_of p accepted → (s.id ≡ registered_id p accepted) × (s.events ≡ last_events p accepted)
  pub older : n < reports_of p accepted → ExceedsOn s.id (last_events p accepted) s.events
  pub birth : IsAtOrBelow (birth_events p accepted) s.events

-- a report of the process itself
module _ (accepted : List Report) (p : Name) (m : ℕ) (t : Stamp) (a : ReportKind) (fit : IsFitReport accepted (told p m t a))
    (below : IsAtOrBelow (birth_events p accepted) (last_events p accepted)) where
  own_more : reports_of p (accepted ++ Numbered (told p m t a) ∷ []) ≡ reports_of p accepted + 1
  own_more = own_count p accepted (Numbered (told p m t a)) (same_bytes p)

  own_birth_stays : birth_events p (accepted ++ Numbered (told p m t a) ∷ []) ≡ birth_events p accepted
  own_birth_stays = ap events_after (failing (is_birth_of p) accepted (Numbered (told p m t a)) (own_no_birth accepted p m t a fit))

  own_below : IsAtOrBelow (birth_events p (accepted ++ Numbered (told p m t a) ∷ [])) t.events
  own_below =
      subst (λ (e : EventTree). IsAtOrBelow e t.events) (sym own_birth_stays)
      (below_both (birth_events p accepted) (last_events p accepted) t.events below fit.grown.0)

  own_old : (n : ℕ) (s : Stamp) → HasMade accepted p n s → HasMade (accepted ++ Numbered (told p m t a) ∷ []) p n s
  own_old n s old =
      let more = own_more in
      let few : n ≤ reports_of p accepted = old.few in
      let events = own_events accepted p m t a in
      record {
        few = omega arith;
        newest = λ is. absurd (omega arith);
        older = λ less. subst (λ (e : EventTree). ExceedsOn s.id e s.events) (sym events)
            (elim (cases_lt n (reports_of p accepted)) [
              | inl before ↦ exceeds_more s.id (last_events p accepted) t.events s.events fit.grown.0 (old.older before)
              | inr not_before ↦
                  (let newest = old.newest (omega arith) in
                  subst (λ (e : EventTree). ExceedsOn s.id t.events e) (sym newest.1)
                  (subst (λ (i : IdTree). ExceedsOn i t.events (last_events p accepted)) (sym newest.0) fit.grown.1))
            ]);
        birth = subst (λ (e : EventTree). IsAtOrBelow e s.events) (sym own_birth_stays) old.birth;
      }

  own_new : id_kept t a ≡ t.id → HasMade (accepted ++ Numbered (told p m t a) ∷ []) p m t
  own_new kept =
      let more = own_more in
      let number : m ≡ reports_of p accepted + 1 = fit.number in
      record {
        few = omega arith;
        newest = λ is. (sym (own_id accepted (told p m t a) ∙ kept), sym (own_events accepted p m t a));
        older = λ less. absurd (omega arith);
        birth = own_below;
      }

made_now : (p : Name) (m n : ℕ) (t s : Stamp) (a : ReportKind) → numbered_made p (Numbered (told p m t a)) ≡ Some (n, s) → is_birth_of p (Numbered (told p m t a)) ≡ false
    → (id_kept t a ≡ t.id) × (m ≡ n) × (t ≡ s)
made_now p m n t s Check is no_birth = (let w = same_pair m n t s (only_if_is (bytes_eq p p) (m, t) (n, s) is).1 in (refl, w.0, w.1))
made_now p m n t s Present is no_birth = absurd (none_is (n, s) is)
made_now p m n t s (Fork f) is no_birth = absurd (true≢false (sym (only_if_is (bytes_eq p f.child) _ (n, s) is).0 ∙ no_birth))
made_now p m n t s (Retire target) is no_birth = absurd (none_is (n, s) is)
made_now p m n t s (Absorb retired) is no_birth = absurd (none_is (n, s) is)

same_entry : (x y : NumberedReport) → Some (Numbered x) ≡ Some (Numbered y) → x ≡ y
same_entry x y is = cc

present_now : (p : Name) (m n : ℕ) (t s : Stamp) (a : ReportKind) → Some (Numbered (told p m t a)) ≡ Some (Numbered (told p n s Present)) → (id_kept t a ≡ t.id) × (m ≡ n) × (t ≡ s)
present_now p m n t s a is =
    let same = same_entry (told p m t a) (told p n s Present) is in
    (ap (λ (x : NumberedReport). id_kept t x.action) same, ap (λ (x : NumberedReport). x.number) same, ap (λ (x : NumberedReport). x.stamp) same)

own_made : (accepted : List Report) (p : Name) (m : ℕ) (t : Stamp) (a : ReportKind) → IsFitReport accepted (told p m t a) → IsAtOrBelow (birth_events p accepted) (last_events p accepted)
    → ((n : ℕ) (s : Stamp) → IsMadeBy accepted p n s → HasMade accepted p n s)
    → (n : ℕ) (s : Stamp) → IsMadeBy (accepted ++ Numbered (told p m t a) ∷ []) p n s → HasMade (accepted ++ Numbered (told p m t a) ∷ []) p n s
own_made accepted p m t a fit below before n s (inl there) =
    elim (made_cases p accepted (Numbered (told p m t a)) (n, s) there) [
      | inl old ↦ own_old accepted p m t a fit below n s (before n s (inl old))
      | inr new ↦
          (let w = made_now p m n t s a new (own_no_birth accepted p m t a fit) in
          subst (λ (k : ℕ). HasMade (accepted ++ Numbered (told p m t a) ∷ []) p k s) w.1
          (subst (λ (u : Stamp). HasMade (accepted ++ Numbered (told p m t a) ∷ []) p m u) w.2 (own_new accepted p m t a fit below w.0)))
    ]
own_made accepted p m t a fit below before n s (inr last) =
    let w = present_now p m n t s a (sym (own_report accepted (told p m t a)) ∙ last) in
    subst (λ (k : ℕ). HasMade (accepted ++ Numbered (told p m t a) ∷ []) p k s) w.1
    (subst (λ (u : Stamp). HasMade (accepted ++ Numbered (told p m t a) ∷ []) p m u) w.2 (own_new accepted p m t a fit below w.0))

-- a report that does not touch the process
pub was_made : (accepted : List Report) (r : Report) (p : Name) → is_numbered_of p r ≡ false → is_birth_of p r ≡ false → (n : ℕ) (s : Stamp)
    → IsMadeBy (accepted ++ r ∷ []) p n s → IsMadeBy accepted p n s
was_made accepted r p other no_birth n s (inl there) =
    elim (made_cases p accepted r (n, s) there) [
      | inl old ↦ inl old
      | inr new ↦ absurd (none_is (n, s) (sym (numbered_none p r other no_birth) ∙ new))
    ]
was_made accepted r p other no_birth n s (inr last) = inr (sym (failing (is_numbered_of p) accepted r other) ∙ last)

-- of the process's own report: it made the element, or the element was there
pub own_made_cases : (accepted : List Report) (p : Name) (m : ℕ) (t : Stamp) (a : ReportKind) → IsFitReport accepted (told p m t a) → (n : ℕ) (s : Stamp)
    → IsMadeBy (accepted ++ Numbered (told p m t a) ∷ []) p n s → IsMadeBy accepted p n s ⊎ ((m ≡ n) × (t ≡ s))
own_made_cases accepted p m t a fit n s (inl there) =
    elim (made_cases p accepted (Numbered (told p m t a)) (n, s) there) [
      | inl old ↦ inl (inl old)
      | inr new ↦ (let w = made_now p m n t s a new (own_no_birth accepted p m t a fit) in inr (w.1, w.2))
    ]
own_made_cases accepted p m t a fit n s (inr last) = (let w = present_now p m n t s a (sym (own_report accepted (told p m t a)) ∙ last) in inr (w.1, w.2))

other_made : (accepted : List Report) (r : Report) (p : Name) → is_numbered_of p r ≡ false → is_birth_of p r ≡ false
    → ((n : ℕ) (s : Stamp) → IsMadeBy accepted p n s → HasMade accepted p n s)
    → (n : ℕ) (s : Stamp) → IsMadeBy (accepted ++ r ∷ []) p n s → HasMade (accepted ++ r ∷ []) p n s
other_made accepted r p other no_birth before n s is_made =
    let same = untouched accepted r p other no_birth in
    let count : reports_of p (accepted ++ r ∷ []) ≡ reports_of p accepted = same.count in
    let events = untouched_events accepted r p same in
    let old = before n s (was_made accepted r p other no_birth n s is_made) in
    let few : n ≤ reports_of p accepted = old.few in
    record {
      few = omega arith;
      newest = λ is. (let w = old.newest (omega arith) in (w.0 ∙ sym (untouched_id accepted r p same), w.1 ∙ sym events));
      older = λ less. subst (λ (e : EventTree). ExceedsOn s.id e s.events) (sym events) (old.older (omega arith));
      birth = subst (λ (o : Option Report). IsAtOrBelow (events_after o) s.events) (sym same.birth) old.birth;
    }

-- the report by which the process is born
birth_by : (p : Name) (r : NumberedReport) (a : ReportKind) (n : ℕ) (s : Stamp) → bytes_eq p r.process ≡ false → numbered_by p r a ≡ Some (n, s)
    → (n ≡ 0) × (s.id ≡ id_given a) × (s.events ≡ r.stamp.events)
birth_by p r Check n s other is = absurd (true≢false (sym (only_if_is (bytes_eq p r.process) (r.number, r.stamp) (n, s) is).0 ∙ other))
birth_by p r Present n s other is = absurd (none_is (n, s) is)
birth_by p r (Fork f) n s other is = (let w = same_pair 0 n _ s (only_if_is (bytes_eq p f.child) _ (n, s) is).1 in (sym w.0, ap (λ (u : Stamp). u.id) (sym w.1), ap (λ (u : Stamp). u.events) (sym w.1)))
birth_by p r (Retire target) n s other is = absurd (none_is (n, s) is)
birth_by p r (Absorb retired) n s other is = absurd (none_is (n, s) is)

birth_makes : (p : Name) (r : Report) (n : ℕ) (s : Stamp) → is_numbered_of p r ≡ false → numbered_made p r ≡ Some (n, s)
    → (n ≡ 0) × (s.id ≡ id_at_birth (Some r)) × (s.events ≡ events_after (Some r))
birth_makes p (Begin q) n s other is = (let w = same_pair 0 n _ s (only_if_is (bytes_eq p q) _ (n, s) is).1 in (sym w.0, ap (λ (u : Stamp). u.id) (sym w.1), ap (λ (u : Stamp). u.events) (sym w.1)))
birth_makes p (Numbered r) n s other is = birth_by p r r.action n s other is

module _ (accepted : List Report) (r : Report) (p : Name) (folded : IsFolded accepted) (fit : IsFit accepted r) (birth : is_birth_of p r ≡ true) where
  unknown_then : list_any (is_birth_of p) accepted ≡ false
  unknown_then = birth_is_new p accepted r fit birth

  no_report : is_numbered_of p r ≡ false
  no_report = not_numbered p accepted r fit unknown_then

  born_last : last_report p (accepted ++ r ∷ []) ≡ None
  born_last = failing (is_numbered_of p) accepted r no_report ∙ (unknown_has_nothing folded p unknown_then).last

  born_now : birth_report p (accepted ++ r ∷ []) ≡ Some r
  born_now = passing (is_birth_of p) accepted r birth

  born_events : last_events p (accepted ++ r ∷ []) ≡ events_after (Some r)
  born_events = ap (λ o. events_after (first_of o (birth_report p (accepted ++ r ∷ [])))) born_last ∙ ap events_after born_now

  born_id : registered_id p (accepted ++ r ∷ []) ≡ id_at_birth (Some r)
  born_id = ap (λ o. id_after o (birth_report p (accepted ++ r ∷ []))) born_last ∙ ap id_at_birth born_now

  born_made : (n : ℕ) (s : Stamp) → IsMadeBy (accepted ++ r ∷ []) p n s → HasMade (accepted ++ r ∷ []) p n s
  born_made n s (inl there) =
      elim (made_cases p accepted r (n, s) there) [
        | inl old ↦ absurd (in_nothing (n, s) (subst (λ l. Contains l (n, s)) (unknown_has_nothing folded p unknown_then).made old))
        | inr new ↦
            (let w = birth_makes p r n s no_report new in
            let none : reports_of p (accepted ++ r ∷ []) ≡ 0 = other_count p accepted r no_report ∙ (unknown_has_nothing folded p unknown_then).count in
            let zero_number : n ≡ 0 = w.0 in
            record {
              few = omega arith;
              newest = λ is. (w.1 ∙ sym born_id, w.2 ∙ sym born_events);
              older = λ less. absurd (omega arith);
              birth = subst (λ (o : Option Report). IsAtOrBelow (events_after o) s.events) (sym born_now)
                  (subst (λ (e : EventTree). IsAtOrBelow e s.events) w.2 (below_same s.events));
            })
      ]
  born_made n s (inr last) = absurd (none_is (Numbered (told p n s Present)) (sym born_last ∙ last))

-- ---- each list

pub own_form : (p : Name) (r : Report) → is_numbered_of p r ≡ true → (m : ℕ) × (t : Stamp) × (a : ReportKind) × (r ≡ Numbered (told p m t a))
own_form p (Begin q) own = absurd (true≢false (sym own))
own_form p (Numbered r) own = (r.number, r.stamp, r.action, ap (λ (x : Name). Numbered (told x r.number r.stamp r.action)) (sym ((bytes_eq-Decides p r.process).0 own)))

born_below_next : (before : List Report) (r : Report) (p : Name) → IsFolded before → IsFit before r → IsAtOrBelow (birth_events p before) (last_events p before)
    → IsAtOrBelow (birth_events p (before ++ r ∷ [])) (last_events p (before ++ r ∷ []))
born_below_next before r p folded fit below =
    elim (cases_Bool (is_birth_of p r)) [
      | inl birth ↦
          subst (λ (e : EventTree). IsAtOrBelow (birth_events p (before ++ r ∷ [])) e) (sym (born_events before r p folded fit birth))
          (subst (λ (o : Option Report). IsAtOrBelow (events_after o) (events_after (Some r))) (sym (born_now before r p folded fit birth)) (below_same (events_after (Some r))))
      | inr no_birth ↦ elim (cases_Bool (is_numbered_of p r)) [
        | inl own ↦
            (let form = own_form p r own in
            subst (λ (x : Report). IsAtOrBelow (birth_events p (before ++ x ∷ [])) (last_events p (before ++ x ∷ []))) (sym form.3)
            (subst (λ (e : EventTree). IsAtOrBelow (birth_events p (before ++ Numbered (told p form.0 form.1 form.2) ∷ [])) e) (sym (own_events before p form.0 form.1 form.2))
            (own_below before p form.0 form.1 form.2 (subst (λ (x : Report). IsFit before x) form.3 fit) below)))
        | inr other ↦
            (let same = untouched before r p other no_birth in
            subst (λ (e : EventTree). IsAtOrBelow (birth_events p (before ++ r ∷ [])) e) (sym (untouched_events before r p same))
            (subst (λ (o : Option Report). IsAtOrBelow (events_after o) (last_events p before)) (sym same.birth) below))
      ]
    ]

pub born_below : {accepted : List Report} → IsFolded accepted → (p : Name) → IsAtOrBelow (birth_events p accepted) (last_events p accepted)
born_below nothing_folded p = below_same (Leaf 0)
born_below (one_folded before r folded fit) p = born_below_next before r p folded fit (born_below folded p)

has_made_next : (before : List Report) (r : Report) (p : Name) → IsFolded before → IsFit before r → ((n : ℕ) (s : Stamp) → IsMadeBy before p n s → HasMade before p n s)
    → (n : ℕ) (s : Stamp) → IsMadeBy (before ++ r ∷ []) p n s → HasMade (before ++ r ∷ []) p n s
has_made_next before r p folded fit old n s is_made =
    elim (cases_Bool (is_birth_of p r)) [
      | inl birth ↦ born_made before r p folded fit birth n s is_made
      | inr no_birth ↦ elim (cases_Bool (is_numbered_of p r)) [
        | inl own ↦
            (let form = own_form p r own in
            subst (λ (x : Report). HasMade (before ++ x ∷ []) p n s) (sym form.3)
            (own_made before p form.0 form.1 form.2 (subst (λ (x : Report). IsFit before x) form.3 fit) (born_below folded p) old n s
            (subst (λ (x : Report). IsMadeBy (before ++ x ∷ []) p n s) form.3 is_made)))
        | inr other ↦ other_made before r p other no_birth old n s is_made
      ]
    ]

pub has_made : {accepted : List Report} → IsFolded accepted → (p : Name) (n : ℕ) (s : Stamp) → IsMadeBy accepted p n s → HasMade accepted p n s
has_made nothing_folded p n s (inl there) = absurd (in_nothing (n, s) there)
has_made nothing_folded p n s (inr last) = absurd (none_is (Numbered (told p n s Present)) last)
has_made (one_folded before r folded fit) p n s is_made = has_made_next before r p folded fit (has_made folded p) n s is_made
