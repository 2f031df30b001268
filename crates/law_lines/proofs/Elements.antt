-- The elements of the settled list of a greatest cut are those up to the positions.
use Rattle.std.proofs.Common.{◌≡◌, ◌≢◌, ◌⊎◌, ℕ, zero, suc, ◌+◌, ◌≤◌, ◌<◌, Bool, true, false, List, [], ◌∷◌, ◌++◌, Some, None, length, refl, sym, ◌∙◌, ap, subst, inl, inr, arith, append-nil, append_assoc, length-append}
use Rattle.std.specs.Prelude.{Contains, slice_get, filter, take, nat_le}
use Rattle.std.specs.List.{list_any, cons_option}
use Rattle.std.specs.Option.{option_map_or}
use Rattle.std.specs.Str.{bytes_eq}
use Rattle.std.proofs.lemmas.Bool.{cases_Bool, cond-true, cond-false, true≢false}
use Rattle.std.proofs.lemmas.List.{take_all, take_at}
use Rattle.std.proofs.lemmas.List.Elements.{filter-append, filter_map-append, Contains-append_left, Contains-append_right}
use Rattle.std.proofs.lemmas.List.Sums.{length-filter}
use Rattle.std.proofs.lemmas.Option.{slice_get_within, slice_get_cases}
use Rattle.std.proofs.lemmas.Slice.Eq.{bytes_eq-Decides}
use Rattle.stamp.specs.declared.stamp.Stamp.{Stamp}
use Rattle.report_line.specs.declared.report.ReportKind.{ReportKind}
use Rattle.report_line.specs.declared.report.ReportKind.TheVariants.{Check, Present, Fork, Retire, Absorb}
use Rattle.report_line.specs.declared.report.NumberedReport.{NumberedReport}
use Rattle.report_line.specs.declared.report.Report.{Report}
use Rattle.report_line.specs.declared.report.Report.TheVariants.{Begin, Numbered}
use Rattle.chains.specs.declared.position.Position.{Position}
use Rattle.chains.specs.declared.position.Position.TheVariants.{At, Retired}
use Rattle.chains.specs.Processes.{Name, known, is_numbered_of, is_birth_of, reports_by, reports_of, last_report}
use Rattle.chains.specs.Elements.{name_of, elements, stable_by, stable_made, stable_of, makes_stable, present_by, present_in, present_report, elements_of}
use Rattle.chains.specs.Positions.{rank, position_in, IsChosen}
use Rattle.chains.specs.Greatest.{IsGreatestCut}
use Rattle.chains.specs.Folded.{IsFit, IsFolded, nothing_folded}
use Rattle.chains.proofs.Keeps.{passes}
use Rattle.law_lines.proofs.Longer.{front_folded}
use Rattle.law_lines.proofs.Made.{unknown_has_nothing}
use Rattle.law_lines.proofs.Folding.{own_count}
use Rattle.std.proofs.lemmas.Bool.{or_left, or_right}
use Rattle.std.proofs.lemmas.List.Folds.{list_any-append}
use Rattle.chains.proofs.Counting.{one_present}
use Rattle.chains.proofs.Numbering.{last_number, number_at}
use Rattle.chains.proofs.Reaching.{fit_before}
use Rattle.law_lines.proofs.Listed.{at_in, filter_in, at_append, at_front, first_in}
use Rattle.law_lines.specs.Settled.{Limits, number_for, limit, limits_of, is_settled, settled_by, settled, SettledElements}
use Rattle.law_lines.proofs.Limits.{limit_named, has_maker}
use Rattle.law_lines.proofs.Folding.{is_within, all_settled}
use Rattle.law_lines.proofs.Born.{made_by, birth_is_new, reporter_is_known}
use Rattle.law_lines.proofs.Made.{own_no_birth}
use Rattle.law_lines.proofs.SettledClosing.{makes_some, present_maker, elements_named}
use Rattle.law_lines.proofs.Stable.{stands_at, as_many, all_made_kept, none_made_kept, none_passing_kept, last_middle}
use Rattle.law_lines.proofs.Unborn.{contains_split, birth_is_settled, unborn_is_not_settled}

-- ---- numbers in parts of a list

own_in : (p : Name) (xs : List Report) (r : NumberedReport) → Contains xs (Numbered r) → bytes_eq p r.process ≡ true → Contains (reports_by p xs) (Numbered r)
own_in p xs r at own = filter_in (is_numbered_of p) xs (Numbered r) at own

number_front : (xs ys : List Report) → IsFolded (xs ++ ys) → (p : Name) (r : NumberedReport) → Contains xs (Numbered r) → bytes_eq p r.process ≡ true → r.number ≤ reports_of p xs
number_front xs ys folded p r at own =
    let there = at_in (reports_by p xs) (Numbered r) (own_in p xs r at own) in
    let whole : slice_get (reports_by p (xs ++ ys)) there.0 ≡ Some (Numbered r) =
    ap (λ l. slice_get l there.0) (filter-append (is_numbered_of p) xs ys) ∙ at_front (reports_by p xs) (reports_by p ys) there.0 (Numbered r) there.2 in
    let number : r.number ≡ there.0 + 1 = number_at (xs ++ ys) p there.0 r folded whole in
    let count : length (reports_by p xs) ≡ reports_of p xs = length-filter (is_numbered_of p) xs in
    let less : there.0 < length (reports_by p xs) = there.1 in
    omega arith

at_behind : (xs ys : List Report) (k : ℕ) (r : Report) → slice_get ys k ≡ Some r → slice_get (xs ++ ys) (length xs + k) ≡ Some r
at_behind [] ys k r is = (let same : 0 + k ≡ k = omega arith in ap (slice_get ys) same ∙ is)
at_behind (x ∷ xs) ys k r is = (let up : length (x ∷ xs) + k ≡ suc (length xs + k) = omega arith in ap (slice_get (x ∷ (xs ++ ys))) up ∙ at_behind xs ys k r is)

number_back : (xs ys : List Report) → IsFolded (xs ++ ys) → (p : Name) (r : NumberedReport) → Contains ys (Numbered r) → bytes_eq p r.process ≡ true → reports_of p xs < r.number
number_back xs ys folded p r at own =
    let there = at_in (reports_by p ys) (Numbered r) (own_in p ys r at own) in
    let k : ℕ = length (reports_by p xs) + there.0 in
    let whole : slice_get (reports_by p (xs ++ ys)) (length (reports_by p xs) + there.0) ≡ Some (Numbered r) =
    ap (λ l. slice_get l (length (reports_by p xs) + there.0)) (filter-append (is_numbered_of p) xs ys) ∙ at_behind (reports_by p xs) (reports_by p ys) there.0 (Numbered r) there.2 in
    let number : r.number ≡ (length (reports_by p xs) + there.0) + 1 = number_at (xs ++ ys) p (length (reports_by p xs) + there.0) r folded whole in
    let count : length (reports_by p xs) ≡ reports_of p xs = length-filter (is_numbered_of p) xs in
    omega arith

pub one_at_least : (xs : List Report) → IsFolded xs → (p : Name) (r : NumberedReport) → Contains xs (Numbered r) → bytes_eq p r.process ≡ true → 1 ≤ r.number
one_at_least xs folded p r at own = (let more : 0 < r.number = number_back [] xs folded p r at own in omega arith)

pub no_more : (xs : List Report) → IsFolded xs → (p : Name) (r : NumberedReport) → Contains xs (Numbered r) → bytes_eq p r.process ≡ true → r.number ≤ reports_of p xs
no_more xs folded p r at own = number_front xs [] (subst (λ (l : List Report). IsFolded l) (sym (append-nil xs)) folded) p r at own

-- ---- a process, its limit and the list

is_own : (limits : Limits) (p : Name) (r : NumberedReport) → bytes_eq p r.process ≡ true → is_settled limits (Numbered r) ≡ nat_le r.number (limits p)
is_own limits p r own = ap (λ (q : Name). nat_le r.number (limits q)) (sym ((bytes_eq-Decides p r.process).0 own))

own_kept : (limits : Limits) (p : Name) (r : NumberedReport) → bytes_eq p r.process ≡ true → r.number ≤ limits p → is_settled limits (Numbered r) ≡ true
own_kept limits p r own less = is_own limits p r own ∙ is_within r.number (limits p) less

behind : (n m : ℕ) → m < n → nat_le n m ≡ false
behind n m less = grind arith

own_left : (limits : Limits) (p : Name) (r : NumberedReport) → bytes_eq p r.process ≡ true → limits p < r.number → is_settled limits (Numbered r) ≡ false
own_left limits p r own less = is_own limits p r own ∙ behind r.number (limits p) less

-- all births of p that are accepted are settled, or none is
abbrev BirthsAre : Bool → Limits → List Report → Name → Type 0
BirthsAre b limits accepted p = (y : Report) → Contains accepted y → is_birth_of p y ≡ true → is_settled limits y ≡ b

number_own : (p : Name) (r : NumberedReport) → bytes_eq p r.process ≡ true → number_for p (Numbered r) ≡ r.number
number_own p r own = cond-true (bytes_eq p r.process) _ _ own

present_not : (p : Name) (r : NumberedReport) (b : ReportKind) (s : Stamp) → stable_by p r b ≡ Some s → present_by r.stamp b ≡ []
present_not p r Check s is = refl
present_not p r (Fork f) s is = refl
present_not p r Present s is = absurd (cc)
present_not p r (Retire q) s is = absurd (cc)
present_not p r (Absorb q) s is = absurd (cc)

module _ (accepted : List Report) (folded : IsFolded accepted) (limits : Limits) (p : Name) where
  -- nothing of an unborn process is left
  none_left : limits p ≡ 0 → BirthsAre false limits accepted p → elements_of p (settled_by limits accepted) ≡ []
  none_left zero_limit births =
      let own : (r : NumberedReport) → Contains accepted (Numbered r) → bytes_eq p r.process ≡ true → is_settled limits (Numbered r) ≡ false =
      λ r at is. own_left limits p r is (let more : 1 ≤ r.number = one_at_least accepted folded p r at is in omega arith) in
      let lasts : stable_of p (settled_by limits accepted) ≡ [] =
      none_made_kept (stable_made p) (is_settled limits) accepted (λ y s at made. left own y s at (made_by p y s made)) in
      let last : last_report p (settled_by limits accepted) ≡ None =
      none_passing_kept (is_numbered_of p) (is_settled limits) accepted (λ y at is. left_own own y at is) in
      ap (λ l. l ++ present_in (last_report p (settled_by limits accepted))) lasts ∙ ap present_in last
    where
      left_own : ((r : NumberedReport) → Contains accepted (Numbered r) → bytes_eq p r.process ≡ true → is_settled limits (Numbered r) ≡ false)
          → (y : Report) → Contains accepted y → is_numbered_of p y ≡ true → is_settled limits y ≡ false
      left_own own (Begin q) at is = absurd (true≢false (sym is))
      left_own own (Numbered r) at is = own r at is

      left : ((r : NumberedReport) → Contains accepted (Numbered r) → bytes_eq p r.process ≡ true → is_settled limits (Numbered r) ≡ false)
          → (y : Report) (s : Stamp) → Contains accepted y → (is_birth_of p y ≡ true) ⊎ (is_numbered_of p y ≡ true) → is_settled limits y ≡ false
      left own y s at (inl birth) = births y at birth
      left own y s at (inr is) = left_own own y at is

  -- all of a process is left whose reports are all within its limit
  all_stable : reports_of p accepted ≤ limits p → BirthsAre true limits accepted p → stable_of p (settled_by limits accepted) ≡ stable_of p accepted
  all_stable few births = all_made_kept (stable_made p) (is_settled limits) accepted (λ y s at made. stays y at (made_by p y s made))
    where
      stays : (y : Report) → Contains accepted y → (is_birth_of p y ≡ true) ⊎ (is_numbered_of p y ≡ true) → is_settled limits y ≡ true
      stays y at (inl birth) = births y at birth
      stays (Begin q) at (inr own) = refl
      stays (Numbered r) at (inr own) = own_kept limits p r own (let most : r.number ≤ reports_of p accepted = no_more accepted folded p r at own in omega arith)

  all_left : reports_of p accepted ≤ limits p → BirthsAre true limits accepted p → elements_of p (settled_by limits accepted) ≡ elements_of p accepted
  all_left few births =
      ap (λ l. l ++ present_in (last_report p (settled_by limits accepted))) (all_stable few births)
      ∙ ap (λ o. stable_of p accepted ++ present_in o) (all_settled folded p few).last

  -- up to a stable element
  module _ (before after : List Report) (m : Report) (s : Stamp) (parts : accepted ≡ before ++ m ∷ after) (makes : stable_made p m ≡ Some s)
      (here : limits p ≡ number_for p m) (births : BirthsAre true limits accepted p) where
    is_parts : IsFolded (before ++ m ∷ after)
    is_parts = subst (λ (l : List Report). IsFolded l) parts folded

    fits : IsFit before m
    fits = fit_before accepted before after m folded parts

    front_is_folded : IsFolded before
    front_is_folded = front_folded before [] (m ∷ after) nothing_folded (λ b c r is. fit_before (before ++ m ∷ after) b c r is_parts is)

    in_front : (y : Report) → Contains before y → Contains accepted y
    in_front y at = subst (λ (l : List Report). Contains l y) (sym parts) (Contains-append_left before (m ∷ after) y at)

    at_middle : Contains accepted m
    at_middle = subst (λ (l : List Report). Contains l m) (sym parts) (Contains-append_right before (m ∷ after) m (first_in m after))

    how : (is_birth_of p m ≡ true) ⊎ (is_numbered_of p m ≡ true)
    how = made_by p m s makes

    few_before : reports_of p before ≤ limits p
    few_before = subst (λ (n : ℕ). reports_of p before ≤ n) (sym here) (few m fits how)
      where
        few : (x : Report) → IsFit before x → (is_birth_of p x ≡ true) ⊎ (is_numbered_of p x ≡ true) → reports_of p before ≤ number_for p x
        few x fit (inl birth) = (let none : reports_of p before ≡ 0 = (unknown_has_nothing front_is_folded p (birth_is_new p before x fit birth)).count in omega arith)
        few (Begin q) fit (inr own) = absurd (true≢false (sym own))
        few (Numbered r) fit (inr own) =
            let same : p ≡ r.process = (bytes_eq-Decides p r.process).0 own in
            let number : r.number ≡ reports_of r.process before + 1 = fit.number in
            let count : reports_of p before ≡ reports_of r.process before = ap (λ (q : Name). reports_of q before) same in
            let value : number_for p (Numbered r) ≡ r.number = number_own p r own in
            omega arith

    birth_number : (x : Report) → IsFit before x → is_birth_of p x ≡ true → number_for p x ≡ 0
    birth_number (Begin q) fit birth = refl
    birth_number (Numbered r) fit birth =
        elim (cases_Bool (bytes_eq p r.process)) [
          | inr other ↦ cond-false (bytes_eq p r.process) _ _ other
          | inl same ↦
              absurd (true≢false (sym birth ∙ (ap (λ (q : Name). is_birth_of q (Numbered r)) ((bytes_eq-Decides p r.process).0 same)
              ∙ own_no_birth before r.process r.number r.stamp r.action fit)))
        ]

    limit_before : limits p ≤ reports_of p (before ++ m ∷ [])
    limit_before = subst (λ (n : ℕ). n ≤ reports_of p (before ++ m ∷ [])) (sym here) (at_most m fits how)
      where
        at_most : (x : Report) → IsFit before x → (is_birth_of p x ≡ true) ⊎ (is_numbered_of p x ≡ true) → number_for p x ≤ reports_of p (before ++ x ∷ [])
        at_most x fit (inl birth) = (let none : number_for p x ≡ 0 = birth_number x fit birth in omega arith)
        at_most (Begin q) fit (inr own) = absurd (true≢false (sym own))
        at_most (Numbered r) fit (inr own) =
            let same : p ≡ r.process = (bytes_eq-Decides p r.process).0 own in
            let number : r.number ≡ reports_of r.process before + 1 = fit.number in
            let count : reports_of p before ≡ reports_of r.process before = ap (λ (q : Name). reports_of q before) same in
            let value : number_for p (Numbered r) ≡ r.number = number_own p r own in
            let more : reports_of p (before ++ Numbered r ∷ []) ≡ reports_of p before + 1 = own_count p before (Numbered r) own in
            omega arith

    front_kept : (y : Report) → Contains before y → (is_birth_of p y ≡ true) ⊎ (is_numbered_of p y ≡ true) → is_settled limits y ≡ true
    front_kept y at (inl birth) = births y (in_front y at) birth
    front_kept (Begin q) at (inr own) = refl
    front_kept (Numbered r) at (inr own) =
        own_kept limits p r own (let most : r.number ≤ reports_of p before = number_front before (m ∷ after) is_parts p r at own in let few = few_before in omega arith)

    middle_kept : is_settled limits m ≡ true
    middle_kept = by m how here at_middle
      where
        by : (x : Report) → (is_birth_of p x ≡ true) ⊎ (is_numbered_of p x ≡ true) → limits p ≡ number_for p x → Contains accepted x → is_settled limits x ≡ true
        by x (inl birth) is at = births x at birth
        by (Begin q) (inr own) is at = refl
        by (Numbered r) (inr own) is at = own_kept limits p r own (let value : number_for p (Numbered r) ≡ r.number = number_own p r own in omega arith)

    whole_parts : before ++ m ∷ after ≡ (before ++ m ∷ []) ++ after
    whole_parts = sym (append_assoc before (m ∷ []) after)

    back_left : (y : Report) → Contains after y → is_numbered_of p y ≡ true → is_settled limits y ≡ false
    back_left (Begin q) at own = absurd (true≢false (sym own))
    back_left (Numbered r) at own =
        own_left limits p r own
        (let more : reports_of p (before ++ m ∷ []) < r.number = number_back (before ++ m ∷ []) after (subst (λ (l : List Report). IsFolded l) whole_parts is_parts) p r at own in
        let limited = limit_before in omega arith)

    known_by_middle : (b : List Report) → list_any (is_birth_of p) (before ++ m ∷ b) ≡ true
    known_by_middle b =
        elim how [
          | inl birth ↦ list_any-append (is_birth_of p) before (m ∷ b)
              ∙ or_right (list_any (is_birth_of p) before) (list_any (is_birth_of p) (m ∷ b)) (or_left (is_birth_of p m) (list_any (is_birth_of p) b) birth)
          | inr own ↦ list_any-append (is_birth_of p) before (m ∷ b)
              ∙ or_left (list_any (is_birth_of p) before) (list_any (is_birth_of p) (m ∷ b)) (reporter_is_known p before m fits own)
        ]

    no_birth_behind : (y : Report) → Contains after y → is_birth_of p y ≡ true → ⊥
    no_birth_behind y at birth =
        let there = contains_split after y at in
        let place : accepted ≡ (before ++ m ∷ there.0) ++ y ∷ there.1 = parts ∙ (ap (λ l. before ++ m ∷ l) there.2 ∙ sym (append_assoc before (m ∷ there.0) (y ∷ there.1))) in
        true≢false (sym (known_by_middle there.0) ∙ birth_is_new p (before ++ m ∷ there.0) y (fit_before accepted (before ++ m ∷ there.0) there.1 y folded place) birth)

    list_parts : settled_by limits accepted ≡ settled_by limits before ++ m ∷ settled_by limits after
    list_parts =
        ap (settled_by limits) parts ∙ (filter-append (is_settled limits) before (m ∷ after)
        ∙ ap (λ l. settled_by limits before ++ l) (cond-true (is_settled limits m) (m ∷ settled_by limits after) (settled_by limits after) middle_kept))

    lasts : stable_of p (settled_by limits accepted) ≡ stable_of p before ++ s ∷ []
    lasts =
        ap (stable_of p) list_parts ∙ (filter_map-append (stable_made p) (settled_by limits before) (m ∷ settled_by limits after)
        ∙ (ap (λ l. l ++ stable_of p (m ∷ settled_by limits after)) (all_made_kept (stable_made p) (is_settled limits) before (λ y t at made. front_kept y at (made_by p y t made)))
        ∙ ap (λ l. stable_of p before ++ l) (ap (λ o. cons_option o (stable_of p (settled_by limits after))) makes
        ∙ ap (λ l. s ∷ l) (none_made_kept (stable_made p) (is_settled limits) after (λ y t at made. behind_left y at (made_by p y t made))))))
      where
        behind_left : (y : Report) → Contains after y → (is_birth_of p y ≡ true) ⊎ (is_numbered_of p y ≡ true) → is_settled limits y ≡ false
        behind_left y at (inl birth) = absurd (no_birth_behind y at birth)
        behind_left y at (inr own) = back_left y at own

    no_present : present_in (last_report p (settled_by limits accepted)) ≡ []
    no_present =
        elim how [
          | inl birth ↦
              ap present_in (none_passing_kept (is_numbered_of p) (is_settled limits) accepted
              (λ y at own. first_left y at own (here ∙ birth_number m fits birth)))
          | inr own ↦
              ap (λ l. present_in (last_report p l)) list_parts
              ∙ (ap present_in (last_middle (is_numbered_of p) (settled_by limits before) m (settled_by limits after) own
              (none_passing_kept (is_numbered_of p) (is_settled limits) after back_left))
              ∙ no_present_by m makes)
        ]
      where
        first_left : (y : Report) → Contains accepted y → is_numbered_of p y ≡ true → limits p ≡ 0 → is_settled limits y ≡ false
        first_left (Begin q) at own none = absurd (true≢false (sym own))
        first_left (Numbered r) at own none = own_left limits p r own (let more : 1 ≤ r.number = one_at_least accepted folded p r at own in omega arith)

        no_present_by : (x : Report) → stable_made p x ≡ Some s → present_in (Some x) ≡ []
        no_present_by (Begin q) is = refl
        no_present_by (Numbered r) is = present_not p r r.action s is

    whole_lasts : stable_of p accepted ≡ stable_of p before ++ s ∷ stable_of p after
    whole_lasts =
        ap (stable_of p) parts ∙ (filter_map-append (stable_made p) before (m ∷ after) ∙ ap (λ o. stable_of p before ++ cons_option o (stable_of p after)) makes)

    first_ones : (k : ℕ) → length (filter (makes_stable p) before) ≡ k → elements_of p (settled_by limits accepted) ≡ take (suc k) (elements_of p accepted)
    first_ones k count =
        let rest : List Stamp = stable_of p after ++ present_in (last_report p accepted) in
        let same : elements_of p accepted ≡ (stable_of p before ++ s ∷ []) ++ (stable_of p after ++ present_in (last_report p accepted)) =
        ap (λ l. l ++ present_in (last_report p accepted)) whole_lasts
        ∙ (append_assoc (stable_of p before) (s ∷ stable_of p after) (present_in (last_report p accepted))
        ∙ sym (append_assoc (stable_of p before) (s ∷ []) (stable_of p after ++ present_in (last_report p accepted)))) in
        let many : length (filter (makes_stable p) before) ≡ length (stable_of p before) = as_many (stable_made p) before in
        let sum : length (stable_of p before ++ s ∷ []) ≡ length (stable_of p before) + 1 = length-append (stable_of p before) (s ∷ []) in
        ap (λ l. l ++ present_in (last_report p (settled_by limits accepted))) lasts
        ∙ (ap (λ l. (stable_of p before ++ s ∷ []) ++ l) no_present ∙ append-nil (stable_of p before ++ s ∷ [])
        ∙ sym (ap (take (suc k)) same ∙ take_at (stable_of p before ++ s ∷ []) (stable_of p after ++ present_in (last_report p accepted)) (suc k) (omega arith)))

-- ---- the positions of a line

module _ (accepted : List Report) (failed : List ℕ) (line : List Position) (i : ℕ) (p : Name) (folded : IsFolded accepted) (greatest : IsGreatestCut accepted failed line)
    (named : name_of accepted i ≡ Some p) where
  limit_is : limits_of accepted line p ≡ limit accepted p (position_in line i)
  limit_is = limit_named accepted line i p folded named

  births_settled : position_in line i ≢ At 0 → BirthsAre true (limits_of accepted line) accepted p
  births_settled born y at birth = birth_is_settled accepted failed line folded greatest.is_one i p named born y at birth

  as_elements : (k : Position) → position_in line i ≡ k → IsChosen accepted failed i k
      → elements_of p (settled accepted line) ≡ take (rank accepted i k) (elements_of p accepted)
  as_elements (At zero) is chosen =
      none_left accepted folded (limits_of accepted line) p (limit_is ∙ ap (limit accepted p) is)
      (λ y at birth. unborn_is_not_settled accepted failed line folded greatest i p named is y at birth)
  as_elements Retired is chosen =
      let count : limits_of accepted line p ≡ reports_of p accepted = limit_is ∙ ap (limit accepted p) is in
      let same : length (elements accepted i) ≡ length (elements_of p accepted) = ap (λ (l : List Stamp). length l) (elements_named accepted i p named) in
      all_left accepted folded (limits_of accepted line) p (omega arith) (births_settled (λ unborn. retired_at (sym is ∙ unborn)))
      ∙ sym (take_all (length (elements accepted i) + 1) (elements_of p accepted) (omega arith))
    where
      retired_at : Retired ≡ At 0 → ⊥
      retired_at e = cc
  as_elements (At (suc k)) is (inl unborn) = absurd (cc)
  as_elements (At (suc k)) is (inr w) =
      let few : suc k ≤ length (elements accepted i) = w.1 in
      elim (slice_get_cases (elements accepted i) k).1 [
        | inr past ↦ (let out : length (elements accepted i) ≤ k = past.0 in absurd (omega arith))
        | inl there ↦ at_element k is there.0 (sym (ap (λ l. slice_get l k) (elements_named accepted i p named)) ∙ there.2)
      ]
    where
      not_zero : (j : ℕ) → At (suc j) ≡ At 0 → ⊥
      not_zero j e = cc

      at_element : (j : ℕ) → position_in line i ≡ At (suc j) → (s : Stamp) → slice_get (elements_of p accepted) j ≡ Some s
          → elements_of p (settled accepted line) ≡ take (suc j) (elements_of p accepted)
      at_element j at s found =
          let maker = has_maker p accepted j s found in
          let m : Report = maker.0 in
          let count : limits_of accepted line p ≡ number_for p m = limit_is ∙ (ap (limit accepted p) at ∙ ap (λ o. option_map_or (number_for p) o 0) maker.1) in
          let births = births_settled (λ unborn. not_zero j (sym at ∙ unborn)) in
          elim (at_append (filter (makes_stable p) accepted) (present_report (last_report p accepted)) j m maker.1) [
            | inl stable ↦
                (let stands = stands_at (makes_stable p) accepted j m stable in
                let made = makes_some (stable_made p m) stands.passing in
                first_ones accepted folded (limits_of accepted line) p stands.before stands.after m made.0 stands.parts made.1 count births j stands.count)
            | inr present ↦
                (let by = present_maker accepted p (last_report p accepted) present.0 m refl present.2 in
                let r : NumberedReport = by.report in
                let number : r.number ≡ reports_of p accepted = last_number accepted p r folded by.last in
                let own : bytes_eq p r.process ≡ true = passes (is_numbered_of p) accepted (Numbered r) by.last in
                let value : number_for p m ≡ r.number = ap (number_for p) by.is ∙ number_own p r own in
                let index : j ≡ length (filter (makes_stable p) accepted) + present.0 = present.1 in
                let many : length (filter (makes_stable p) accepted) ≡ length (stable_of p accepted) = as_many (stable_made p) accepted in
                let one : length (present_in (last_report p accepted)) ≤ 1 = one_present (last_report p accepted) in
                let sum : length (elements_of p accepted) ≡ length (stable_of p accepted) + length (present_in (last_report p accepted)) =
                length-append (stable_of p accepted) (present_in (last_report p accepted)) in
                all_left accepted folded (limits_of accepted line) p (omega arith) births
                ∙ sym (take_all (suc j) (elements_of p accepted) (omega arith)))
          ]

  -- what lasts and is at or before the position lasts in the settled list
  enough_at : (k : Position) → position_in line i ≡ k → IsChosen accepted failed i k → (n : ℕ) → n ≤ length (stable_of p accepted) → ((j : ℕ) → position_in line i ≡ At j → n ≤ j)
      → n ≤ length (stable_of p (settled accepted line))
  enough_at (At zero) is chosen n few_enough up = (let none : n ≤ 0 = up 0 is in omega arith)
  enough_at Retired is chosen n few_enough up =
      let count : limits_of accepted line p ≡ reports_of p accepted = limit_is ∙ ap (limit accepted p) is in
      let same : length (stable_of p (settled accepted line)) ≡ length (stable_of p accepted) =
      ap (λ (l : List Stamp). length l) (all_stable accepted folded (limits_of accepted line) p (omega arith) (births_settled (λ unborn. retired_at (sym is ∙ unborn)))) in
      omega arith
    where
      retired_at : Retired ≡ At 0 → ⊥
      retired_at e = cc
  enough_at (At (suc k)) is (inl unborn) n few_enough up = absurd (cc)
  enough_at (At (suc k)) is (inr w) n few_enough up =
      let few : suc k ≤ length (elements accepted i) = w.1 in
      elim (slice_get_cases (elements accepted i) k).1 [
        | inr past ↦ (let out : length (elements accepted i) ≤ k = past.0 in absurd (omega arith))
        | inl there ↦ at_stable k is there.0 (sym (ap (λ l. slice_get l k) (elements_named accepted i p named)) ∙ there.2) (up (suc k) is)
      ]
    where
      not_zero : (j : ℕ) → At (suc j) ≡ At 0 → ⊥
      not_zero j e = cc

      at_stable : (j : ℕ) → position_in line i ≡ At (suc j) → (s : Stamp) → slice_get (elements_of p accepted) j ≡ Some s → n ≤ suc j
          → n ≤ length (stable_of p (settled accepted line))
      at_stable j at s found within_position =
          let maker = has_maker p accepted j s found in
          let m : Report = maker.0 in
          let count : limits_of accepted line p ≡ number_for p m = limit_is ∙ (ap (limit accepted p) at ∙ ap (λ o. option_map_or (number_for p) o 0) maker.1) in
          let births = births_settled (λ unborn. not_zero j (sym at ∙ unborn)) in
          elim (at_append (filter (makes_stable p) accepted) (present_report (last_report p accepted)) j m maker.1) [
            | inl stable ↦
                (let stands = stands_at (makes_stable p) accepted j m stable in
                let makes = makes_some (stable_made p m) stands.passing in
                let all : stable_of p (settled accepted line) ≡ stable_of p stands.before ++ makes.0 ∷ [] =
                lasts accepted folded (limits_of accepted line) p stands.before stands.after m makes.0 stands.parts makes.1 count births in
                let same : length (stable_of p (settled accepted line)) ≡ length (stable_of p stands.before ++ makes.0 ∷ []) = ap (λ (l : List Stamp). length l) all in
                let sum : length (stable_of p stands.before ++ makes.0 ∷ []) ≡ length (stable_of p stands.before) + 1 = length-append (stable_of p stands.before) (makes.0 ∷ []) in
                let many : length (filter (makes_stable p) stands.before) ≡ length (stable_of p stands.before) = as_many (stable_made p) stands.before in
                let index : length (filter (makes_stable p) stands.before) ≡ j = stands.count in
                omega arith)
            | inr present ↦
                (let by = present_maker accepted p (last_report p accepted) present.0 m refl present.2 in
                let r : NumberedReport = by.report in
                let number : r.number ≡ reports_of p accepted = last_number accepted p r folded by.last in
                let own : bytes_eq p r.process ≡ true = passes (is_numbered_of p) accepted (Numbered r) by.last in
                let value : number_for p m ≡ r.number = ap (number_for p) by.is ∙ number_own p r own in
                let same : length (stable_of p (settled accepted line)) ≡ length (stable_of p accepted) =
                ap (λ (l : List Stamp). length l) (all_stable accepted folded (limits_of accepted line) p (omega arith) births) in
                omega arith)
          ]

  pub stable_enough : (n : ℕ) → n ≤ length (stable_of p accepted) → ((j : ℕ) → position_in line i ≡ At j → n ≤ j) → n ≤ length (stable_of p (settled accepted line))
  stable_enough n few up = enough_at (position_in line i) refl (greatest.is_one.is_cut.chosen i (slice_get_within (known accepted) i p named)) n few up

pub settled_elements : SettledElements
settled_elements accepted failed line i p folded greatest named =
    as_elements accepted failed line i p folded greatest named (position_in line i) refl
    (greatest.is_one.is_cut.chosen i (slice_get_within (known accepted) i p named))
