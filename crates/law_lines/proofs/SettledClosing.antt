-- The limits of a stamp-consistent cut are closed.
use Rattle.std.proofs.Common.{◌≡◌, ◌≢◌, ℕ, zero, suc, ◌+◌, ◌≤◌, ◌<◌, true, false, List, [], ◌∷◌, ◌++◌, Option, Some, None, refl, sym, ◌∙◌, ap, subst, inl, inr, append_assoc, arith}
use Rattle.std.specs.Prelude.{is_some, slice_get, nat_le}
use Rattle.std.specs.Option.{option_map, option_map_or}
use Rattle.std.proofs.lemmas.Bool.{cases_lt, true≢false, cond-true}
use Rattle.std.proofs.lemmas.Option.{slice_get-get_or, slice_get_within}
use Rattle.std.proofs.lemmas.Slice.Eq.{bytes_eq-Decides}
use Rattle.event_tree.specs.EventTree.{EventTree}
use Rattle.event_tree.specs.Values.{IsAtOrBelow}
use Rattle.stamp.specs.declared.stamp.Stamp.{Stamp}
use Rattle.report_line.specs.declared.report.ReportKind.{ReportKind}
use Rattle.report_line.specs.declared.report.ReportKind.TheVariants.{Absorb}
use Rattle.report_line.specs.declared.report.Report.{Report}
use Rattle.report_line.specs.declared.report.Report.TheVariants.{Begin, Numbered}
use Rattle.chains.specs.declared.position.Position.{Position}
use Rattle.chains.specs.declared.position.Position.TheVariants.{At, Retired}
use Rattle.chains.specs.declared.position.Place.{Place}
use Rattle.chains.specs.Processes.{Name, IsKnown, known, first_of, is_numbered_of, is_birth_of, reports_of, last_report, birth_report, events_after, last_events, target_of}
use Rattle.chains.specs.Elements.{name_of, elements, elements_of}
use Rattle.chains.specs.Positions.{is_retired, position_in}
use Rattle.chains.specs.Knowledge.{events_at, retired_events, Knows, IsStampConsistent}
use Rattle.chains.proofs.Keeps.{passes}
use Rattle.report_line.specs.declared.report.NumberedReport.{NumberedReport}
use Rattle.report_line.specs.declared.report.ReportKind.TheVariants.{Check, Present, Fork, Retire}
use Rattle.std.proofs.Common.{cond, length, ◌⊎◌}
use Rattle.std.specs.Prelude.{Contains, Bool, filter}
use Rattle.std.specs.List.{filter_map}
use Rattle.std.specs.Str.{bytes_eq}
use Rattle.std.proofs.lemmas.Bool.{cases_Bool}
use Rattle.std.proofs.lemmas.Option.{same_Some, slice_get_cases}
use Rattle.std.proofs.lemmas.List.Elements.{Contains-append_cases}
use Rattle.id_tree.specs.IdTree.{One}
use Rattle.event_tree.specs.EventTree.{Leaf}
use Rattle.chains.specs.Elements.{only_if, stable_by, stable_made, makes_stable, makers_of, element_made, present_by, present_in, present_report_by, present_report}
use Rattle.chains.specs.Positions.{IsChosen, IsCut}
use Rattle.chains.specs.Processes.{Waits}
use Rattle.chains.specs.Folded.{IsFitAction, IsFitReport, IsFit, IsFolded, nothing_folded, one_folded}
use Rattle.law_lines.proofs.Listed.{in_cases, in_filter, in_at, in_made, at_append}
use Rattle.law_lines.specs.Settled.{Limits, number_for, limit, limits_of, is_settled, SettledIsFolded}
use Rattle.law_lines.proofs.Limits.{limit_named, has_maker, one_present}
use Rattle.law_lines.proofs.Numbered.{told, is_born_by, numbered_by, numbered_made, IsMadeBy, IsLimit, AreLimitsOf}
use Rattle.law_lines.proofs.Looking.{any_known}
use Rattle.law_lines.proofs.Folding.{IsClosedFor, is_within, folded_settled}
use Rattle.law_lines.proofs.Made.{birth_events, born_below, below_both, exceeds_more, own_no_birth, has_made}
use Rattle.law_lines.proofs.Reports.{HasReport, has_report, first_element, birth_stays, fit_at, last_in}

pub known_number : (accepted : List Report) (p : Name) → IsKnown accepted p → (i : ℕ) × (name_of accepted i ≡ Some p)
known_number accepted p there = (there.0, slice_get-get_or (known accepted) there.0 p there.1 ∙ ap Some there.2)

one_name : (p q : Name) → Some p ≡ Some q → p ≡ q
one_name p q is = cc

none_some : (q : Name) → let o : Option Name = None in o ≢ Some q
none_some q is = cc

pub elements_named : (accepted : List Report) (i : ℕ) (p : Name) → name_of accepted i ≡ Some p → elements accepted i ≡ elements_of p accepted
elements_named accepted i p named = ap (λ o. option_map_or (λ name. elements_of name accepted) o []) named

pub retired_named : (accepted : List Report) (i : ℕ) (p : Name) → name_of accepted i ≡ Some p → is_some (target_of p accepted) ≡ true → retired_events accepted i ≡ Some (last_events p accepted)
retired_named accepted i p named retired =
    cond-true (is_retired accepted i) (option_map (λ name. last_events name accepted) (name_of accepted i)) None
    (ap (λ o. option_map_or (λ name. is_some (target_of name accepted)) o false) named ∙ retired)
    ∙ ap (option_map (λ name. last_events name accepted)) named

-- The place of a process that has a report at or before it is at or above that report, and above its birth.
pub place_above : (accepted : List Report) (i : ℕ) (p : Name) (n limit : ℕ) (s : Stamp) → IsFolded accepted → name_of accepted i ≡ Some p → HasReport accepted p n s → 1 ≤ n → n ≤ limit
    → (k : Position) → IsLimit accepted p k limit
    → (e : EventTree) × (events_at accepted (record { process = i; position = k }) ≡ Some e) × IsAtOrBelow s.events e × IsAtOrBelow (birth_events p accepted) e
place_above accepted i p n limit s folded named report first less (At zero) is = (let none : limit ≡ 0 = is in absurd (omega arith))
place_above accepted i p n limit s folded named report first less (At (suc k)) is =
    let stamp : Stamp = is.0 in (
      stamp.events,
      ap (option_map (λ (y : Stamp). y.events)) (ap (λ l. slice_get l k) (elements_named accepted i p named) ∙ is.1),
      report.up_to limit stamp is.2 less,
      (has_made folded p limit stamp is.2).birth,
    )
place_above accepted i p n limit s folded named report first less Retired is =
    (last_events p accepted, retired_named accepted i p named is.1, report.below, born_below folded p)

-- A place that is not before the birth is at or above the birth.
pub place_born : (accepted : List Report) (i : ℕ) (p : Name) (limit : ℕ) → IsFolded accepted → name_of accepted i ≡ Some p → (k : Position) → k ≢ At 0 → IsLimit accepted p k limit
    → (e : EventTree) × (events_at accepted (record { process = i; position = k }) ≡ Some e) × IsAtOrBelow (birth_events p accepted) e
place_born accepted i p limit folded named (At zero) born is = absurd (born refl)
place_born accepted i p limit folded named (At (suc k)) born is =
    let stamp : Stamp = is.0 in (
      stamp.events,
      ap (option_map (λ (y : Stamp). y.events)) (ap (λ l. slice_get l k) (elements_named accepted i p named) ∙ is.1),
      (has_made folded p limit stamp is.2).birth,
    )
place_born accepted i p limit folded named Retired born is = (last_events p accepted, retired_named accepted i p named is.1, born_below folded p)

-- A place that is at or above a report of another process behind that process's limit knows it after its position.
pub knows_after : (accepted : List Report) (x : Place) (j : ℕ) (q : Name) (m limit : ℕ) (t : Stamp) (e : EventTree) → IsFolded accepted → name_of accepted j ≡ Some q → HasReport accepted q m t
    → limit < m → events_at accepted x ≡ Some e → IsAtOrBelow t.events e → j ≢ x.process → (k : Position) → IsLimit accepted q k limit → Knows accepted x j k
knows_after accepted x j q m limit t e folded named report less there above other (At zero) is =
    let first = first_element folded q report.is_known in
    let stamp : Stamp = first.0 in (
      other,
      record {
        later = 1;
        stamp = stamp;
        from = omega arith;
        first = omega arith;
        is_element = ap (λ l. slice_get l 0) (elements_named accepted j q named) ∙ first.1;
        beyond = record { events = e; there = there; exceeds = exceeds_more stamp.id t.events e stamp.events above (report.after 0 stamp first.2 (omega arith)) };
      },
    )
knows_after accepted x j q m limit t e folded named report less there above other (At (suc k)) is =
    let stamp : Stamp = is.0 in (
      other,
      record {
        later = suc k;
        stamp = stamp;
        from = omega arith;
        first = omega arith;
        is_element = ap (λ l. slice_get l k) (elements_named accepted j q named) ∙ is.1;
        beyond = record { events = e; there = there; exceeds = exceeds_more stamp.id t.events e stamp.events above (report.after limit stamp is.2 less) };
      },
    )
knows_after accepted x j q m limit t e folded named report less there above other Retired is =
    (let few : m ≤ reports_of q accepted = report.few in let all : limit ≡ reports_of q accepted = is.0 in absurd (omega arith))

module _ (accepted : List Report) (cut : List Position) (limits : Limits) (folded : IsFolded accepted) (consistent : IsStampConsistent accepted cut)
    (limit : AreLimitsOf accepted cut limits) where
  -- what a report that is at or before the line is above is at or before the line
  is_at_or_before : (p q : Name) (n m : ℕ) (s t : Stamp) → HasReport accepted p n s → HasReport accepted q m t → 1 ≤ n → n ≤ limits p → p ≢ q
      → ((e : EventTree) → IsAtOrBelow s.events e → IsAtOrBelow (birth_events p accepted) e → IsAtOrBelow t.events e) → nat_le m (limits q) ≡ true
  is_at_or_before p q n m s t report_p report_q first less other above =
      let i = known_number accepted p (any_known accepted p report_p.is_known) in
      let j = known_number accepted q (any_known accepted q report_q.is_known) in
      let place = place_above accepted i.0 p n (limits p) s folded i.1 report_p first less (position_in cut i.0) (limit i.0 p i.1) in
      elim (cases_lt (limits q) m) [
        | inl behind ↦
            absurd (consistent i.0 j.0 (slice_get_within (known accepted) i.0 p i.1) (slice_get_within (known accepted) j.0 q j.1)
            (knows_after accepted (record { process = i.0; position = position_in cut i.0 }) j.0 q m (limits q) t place.0 folded j.1 report_q behind place.1
            (above place.0 place.2 place.3) (λ same. other (one_name p q (sym i.1 ∙ (ap (name_of accepted) (sym same) ∙ j.1)))) (position_in cut j.0) (limit j.0 q j.1)))
        | inr within ↦ is_within m (limits q) within
      ]

  numbers_from_one : (before after : List Report) (r : NumberedReport) → accepted ≡ before ++ Numbered r ∷ after → 1 ≤ r.number
  numbers_from_one before after r is =
      let fit : IsFitReport before r = fit_at folded before after (Numbered r) is in
      let number : r.number ≡ reports_of r.process before + 1 = fit.number in
      omega arith

  earlier_report : (before after b c : List Report) (x y : Report) → accepted ≡ before ++ x ∷ after → before ≡ b ++ y ∷ c → accepted ≡ b ++ y ∷ (c ++ x ∷ after)
  earlier_report before after b c x y is there = is ∙ (ap (λ l. l ++ x ∷ after) there ∙ append_assoc b (y ∷ c) (x ∷ after))

  report_there : (before after : List Report) (r : NumberedReport) → accepted ≡ before ++ Numbered r ∷ after → HasReport accepted r.process r.number r.stamp
  report_there before after r is = has_report folded before after r.process r.number r.stamp r.action is

  births_closed : (before after : List Report) (r : NumberedReport) (birth : Report)
      → accepted ≡ before ++ Numbered r ∷ after → r.number ≤ limits r.process → birth_report r.process before ≡ Some birth → is_settled limits birth ≡ true
  births_closed before after r (Begin q) is less found = refl
  births_closed before after r (Numbered x) is less found =
      let p = r.process in
      let stands = last_in (is_birth_of p) before (Numbered x) found in
      let there = earlier_report before after stands.0 stands.1 (Numbered r) (Numbered x) is stands.2 in
      let fit : IsFitReport stands.0 x = fit_at folded stands.0 (stands.1 ++ Numbered r ∷ after) (Numbered x) there in
      let is_birth = passes (is_birth_of p) before (Numbered x) found in
      let born : birth_events p accepted ≡ x.stamp.events = ap events_after (birth_stays folded p before after (Numbered r) (Numbered x) is found) in
      is_at_or_before p x.process r.number x.number r.stamp x.stamp (report_there before after r is) (report_there stands.0 (stands.1 ++ Numbered r ∷ after) x there)
      (numbers_from_one before after r is) less
      (λ same. true≢false (sym is_birth ∙ (ap (λ (y : Name). is_birth_of y (Numbered x)) same ∙ own_no_birth stands.0 x.process x.number x.stamp x.action fit)))
      (λ e above born_above. subst (λ (f : EventTree). IsAtOrBelow f e) born born_above)

  absorptions_closed : (before after : List Report) (r : NumberedReport) (retired : Name) (retirement : Report)
      → accepted ≡ before ++ Numbered r ∷ after → r.action ≡ Absorb retired → r.number ≤ limits r.process → last_report retired before ≡ Some retirement
      → is_settled limits retirement ≡ true
  absorptions_closed before after r retired (Begin q) is absorbs less found = refl
  absorptions_closed before after r retired (Numbered x) is absorbs less found =
      let p = r.process in
      let stands = last_in (is_numbered_of retired) before (Numbered x) found in
      let there = earlier_report before after stands.0 stands.1 (Numbered r) (Numbered x) is stands.2 in
      let of_retired : retired ≡ x.process = (bytes_eq-Decides retired x.process).0 (passes (is_numbered_of retired) before (Numbered x) found) in
      let fit : IsFitReport before r = fit_at folded before after (Numbered r) is in
      let waits : Waits before retired p × IsAtOrBelow (last_events retired before) r.stamp.events = subst (λ (b : ReportKind). IsFitAction before r b) absorbs fit.fit in
      let last : last_events retired before ≡ x.stamp.events = ap (λ o. events_after (first_of o (birth_report retired before))) found in
      let joined : IsAtOrBelow x.stamp.events r.stamp.events = subst (λ (f : EventTree). IsAtOrBelow f r.stamp.events) last waits.1 in
      is_at_or_before p x.process r.number x.number r.stamp x.stamp (report_there before after r is)
      (report_there stands.0 (stands.1 ++ Numbered r ∷ after) x there)
      (numbers_from_one before after r is) less
      (λ same. none_some p (sym fit.living ∙ (ap (λ (y : Name). target_of y before) (same ∙ sym of_retired) ∙ waits.0.0)))
      (λ e above born_above. below_both x.stamp.events r.stamp.events e joined above)

  pub consistent_is_closed : IsClosedFor limits accepted
  consistent_is_closed = record { births = births_closed; absorptions = absorptions_closed }

-- ---- the limits of a cut are those of its elements

numbered_as : (p : Name) (r : NumberedReport) (a : ReportKind) (s : Stamp) → is_born_by p a ≡ false ⊎ (bytes_eq p r.process ≡ false) → stable_by p r a ≡ Some s
    → numbered_by p r a ≡ Some (cond (bytes_eq p r.process) r.number 0, s)
numbered_as p r Check s apart is = check (bytes_eq p r.process) is
  where
    check : (b : Bool) → only_if b r.stamp ≡ Some s → only_if b (let x : ℕ × Stamp = (r.number, r.stamp) in x) ≡ Some (cond b r.number 0, s)
    check true here = ap (λ (u : Stamp). Some (let x : ℕ × Stamp = (r.number, u) in x)) (same_Some r.stamp s here)
    check false here = absurd (cc)
numbered_as p r (Fork f) s apart is =
    elim (cases_Bool (bytes_eq p f.child)) [
      | inl child ↦
          (let t : Stamp = record { id = f.given; events = r.stamp.events } in
          let same : t ≡ s = same_Some t s (sym (ap (λ b. only_if b t) child) ∙ is) in
          let other : bytes_eq p r.process ≡ false = elim apart [ inl none ↦ absurd (true≢false (sym child ∙ none)) | inr differs ↦ differs ] in
          ap (λ b. only_if b (let x : ℕ × Stamp = (0, t) in x)) child
          ∙ (ap (λ (u : Stamp). Some (let x : ℕ × Stamp = (0, u) in x)) same ∙ ap (λ b. Some (let x : ℕ × Stamp = (cond b r.number 0, s) in x)) (sym other)))
      | inr none ↦ (let gone : None ≡ Some s = sym (ap (λ b. only_if b (let t : Stamp = record { id = f.given; events = r.stamp.events } in t)) none) ∙ is in absurd (cc))
    ]
numbered_as p r Present s apart is = absurd (cc)
numbered_as p r (Retire q) s apart is = absurd (cc)
numbered_as p r (Absorb q) s apart is = absurd (cc)

pub apart_at : (accepted : List Report) → IsFolded accepted → (p : Name) (r : NumberedReport) → Contains accepted (Numbered r) → is_born_by p r.action ≡ false ⊎ (bytes_eq p r.process ≡ false)
apart_at _ nothing_folded p r at = (let lt = at.1 in absurd (omega arith))
apart_at _ (one_folded before x folded fit) p r at =
    elim (Contains-append_cases before (x ∷ []) (Numbered r) at) [
      | inl old ↦ apart_at before folded p r old
      | inr new ↦ elim (in_cases x (Numbered r) [] new) [
        | inr none ↦ (let lt = none.1 in absurd (omega arith))
        | inl is ↦
            (let fits : IsFitReport before r = subst (λ (y : Report). IsFit before y) is fit in
            elim (cases_Bool (bytes_eq p r.process)) [
              | inr differs ↦ inr differs
              | inl same ↦
                  inl (ap (λ (y : Name). is_born_by y r.action) ((bytes_eq-Decides p r.process).0 same) ∙ own_no_birth before r.process r.number r.stamp r.action fits)
            ])
      ]
    ]

-- the element of a maker, with its number
made_numbered : (accepted : List Report) → IsFolded accepted → (p : Name) (m : Report) (s : Stamp) → Contains accepted m → stable_made p m ≡ Some s → numbered_made p m ≡ Some (number_for p m, s)
made_numbered accepted folded p (Begin q) s at is = begins (bytes_eq p q) is
  where
    begins : (b : Bool) → only_if b (let t : Stamp = record { id = One; events = Leaf 0 } in t) ≡ Some s → only_if b (let x : ℕ × Stamp = (0, record { id = One; events = Leaf 0 }) in x) ≡ Some (0, s)
    begins true here = ap (λ (u : Stamp). Some (let x : ℕ × Stamp = (0, u) in x)) (same_Some (record { id = One; events = Leaf 0 }) s here)
    begins false here = absurd (cc)
made_numbered accepted folded p (Numbered r) s at is = numbered_as p r r.action s (apart_at accepted folded p r at) is

pub makes_some : {X : Type 0} (o : Option X) → is_some o ≡ true → (x : X) × (o ≡ Some x)
makes_some None is = absurd (cc)
makes_some (Some x) is = (x, refl)

pub first_there : {X : Type 0} (o last : Option X) (x y : X) → o ≡ Some x → first_of o last ≡ Some y → x ≡ y
first_there o last x y is first = same_Some x y (sym (ap (λ z. first_of z last) is) ∙ first)

present_as : (p : Name) (r m : NumberedReport) (b : ReportKind) (j : ℕ) → r.action ≡ b → slice_get (present_report_by r b) j ≡ Some (Numbered m) → r.action ≡ Present
present_as p r m Present j same is = same
present_as p r m Check j same is = absurd (cc)
present_as p r m (Fork f) j same is = absurd (cc)
present_as p r m (Retire q) j same is = absurd (cc)
present_as p r m (Absorb q) j same is = absurd (cc)

-- the present state of a process, by the place of its maker
pub record IsPresentBy (accepted : List Report) (p : Name) (m : Report) : Type 0 where
  pub report : NumberedReport
  pub is : m ≡ Numbered report
  pub last : last_report p accepted ≡ Some (Numbered report)
  pub presents : report.action ≡ Present

pub present_maker : (accepted : List Report) (p : Name) (o : Option Report) (j : ℕ) (m : Report) → last_report p accepted ≡ o → slice_get (present_report o) j ≡ Some m → IsPresentBy accepted p m
present_maker accepted p None j m same is = absurd (cc)
present_maker accepted p (Some (Begin q)) j m same is = absurd (cc)
present_maker accepted p (Some (Numbered r)) j m same is =
    let one : Numbered r ≡ m = one_present r r.action j m is in
    record {
      report = r;
      is = sym one;
      last = same;
      presents = present_as p r r r.action j refl (is ∙ ap Some (sym one));
    }

present_number : (accepted : List Report) (p : Name) (r : NumberedReport) (s : Stamp) → last_report p accepted ≡ Some (Numbered r) → r.action ≡ Present → element_made p (Numbered r) ≡ Some s
    → IsMadeBy accepted p (number_for p (Numbered r)) s
present_number accepted p r s last presents made =
    let own : bytes_eq p r.process ≡ true = passes (is_numbered_of p) accepted (Numbered r) last in
    let number : number_for p (Numbered r) ≡ r.number = cond-true (bytes_eq p r.process) r.number 0 own in
    let stamp : r.stamp ≡ s = same_Some r.stamp s (sym (ap (λ (b : ReportKind). first_of (stable_by p r b) (slice_get (present_by r.stamp b) 0)) presents) ∙ made) in
    inr (last ∙ (ap (λ (a : ReportKind). Some (Numbered (told r.process r.number r.stamp a))) presents
    ∙ (ap (λ (q : Name). Some (Numbered (told q r.number r.stamp Present))) (sym ((bytes_eq-Decides p r.process).0 own))
    ∙ (ap (λ (n : ℕ). Some (Numbered (told p n r.stamp Present))) (sym number)
    ∙ ap (λ (t : Stamp). Some (Numbered (told p (number_for p (Numbered r)) t Present))) stamp))))

pub maker_number : (accepted : List Report) → IsFolded accepted → (p : Name) (k : ℕ) (m : Report) (s : Stamp) → slice_get (makers_of p accepted) k ≡ Some m → element_made p m ≡ Some s
    → IsMadeBy accepted p (number_for p m) s
maker_number accepted folded p k m s is made =
    elim (at_append (filter (makes_stable p) accepted) (present_report (last_report p accepted)) k m is) [
      | inl there ↦
          (let w = in_filter (makes_stable p) accepted m (in_at (filter (makes_stable p) accepted) k m there) in
          let lasts = makes_some (stable_made p m) w.1 in
          let same : lasts.0 ≡ s = first_there (stable_made p m) (slice_get (present_in (Some m)) 0) lasts.0 s lasts.1 made in
          let at = in_made (numbered_made p) accepted m (number_for p m, s) w.0 (made_numbered accepted folded p m s w.0 (lasts.1 ∙ ap Some same)) in
          inl (in_at (filter_map (numbered_made p) accepted) at.0 (number_for p m, s) at.1))
      | inr there ↦
          (let w = present_maker accepted p (last_report p accepted) there.0 m refl there.2 in
          subst (λ (x : Report). IsMadeBy accepted p (number_for p x) s) (sym w.is)
          (present_number accepted p w.report s w.last w.presents (ap (element_made p) (sym w.is) ∙ made)))
    ]

limit_is : (accepted : List Report) (failed : List ℕ) → IsFolded accepted → (i : ℕ) (p : Name) → name_of accepted i ≡ Some p → (k : Position) → IsChosen accepted failed i k → IsLimit accepted p k (limit accepted p k)
limit_is accepted failed folded i p named (At zero) chosen = refl
limit_is accepted failed folded i p named Retired (inl is) = absurd (cc)
limit_is accepted failed folded i p named Retired (inr retired) = (refl, sym (ap (λ o. option_map_or (λ name. is_some (target_of name accepted)) o false) named) ∙ retired)
limit_is accepted failed folded i p named (At (suc k)) (inl is) = absurd (cc)
limit_is accepted failed folded i p named (At (suc k)) (inr w) =
    let few : suc k ≤ length (elements accepted i) = w.1 in
    elim (slice_get_cases (elements accepted i) k).1 [
      | inr past ↦ (let out : length (elements accepted i) ≤ k = past.0 in absurd (omega arith))
      | inl there ↦
          (let s : Stamp = there.0 in
          let at : slice_get (elements_of p accepted) k ≡ Some s = sym (ap (λ l. slice_get l k) (elements_named accepted i p named)) ∙ there.2 in
          let m = has_maker p accepted k s at in
          (s, at, subst (λ (n : ℕ). IsMadeBy accepted p n s) (sym (ap (λ o. option_map_or (number_for p) o 0) m.1)) (maker_number accepted folded p k m.0 s m.1 m.2)))
    ]

pub limits_of_cut : (accepted : List Report) (failed : List ℕ) (cut : List Position) → IsFolded accepted → IsCut accepted failed cut → AreLimitsOf accepted cut (limits_of accepted cut)
limits_of_cut accepted failed cut folded is_cut i p named =
    subst (λ (n : ℕ). IsLimit accepted p (position_in cut i) n) (sym (limit_named accepted cut i p folded named))
    (limit_is accepted failed folded i p named (position_in cut i) (is_cut.chosen i (slice_get_within (known accepted) i p named)))

pub settled_is_folded : SettledIsFolded
settled_is_folded accepted failed cut folded is_one =
    folded_settled folded (limits_of accepted cut)
    (consistent_is_closed accepted cut (limits_of accepted cut) folded is_one.consistent (limits_of_cut accepted failed cut folded is_one.is_cut))
