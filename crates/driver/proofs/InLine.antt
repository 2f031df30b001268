-- The marks of a line, and the cut of its events.
use Rattle.std.proofs.Common.{◌≡◌, ◌≢◌, ℕ, zero, suc, ◌+◌, ◌⊎◌, ◌↔◌, Bool, true, false, Option, Some, None, if◌then◌else◌, List, [], ◌∷◌, ◌++◌, length, get_or, refl, sym, ◌∙◌, ap, subst, inl, inr, arith}
use Rattle.std.specs.Prelude.{not, Contains, All}
use Rattle.std.specs.List.{list_any}
use Rattle.std.specs.Option.{option_map, option_map_or}
use Rattle.std.specs.Str.{bytes_eq}
use Rattle.std.specs.Cmp.Lexicographic.{nat_list_eq_equiv}
use Rattle.std.proofs.lemmas.Bool.{cases_Bool, cond-true, cond-false, true≢false}
use Rattle.std.proofs.lemmas.Bool.Decides.{eqb_tells}
use Rattle.std.proofs.lemmas.List.{length-map, get_or-map}
use Rattle.std.proofs.lemmas.Map.Views.{list_any-from_Contains, Contains-from_any}
use Rattle.std.proofs.lemmas.Option.{slice_get-get_or, get_or_from_slice_get, slice_get_within}
use Rattle.report_line.specs.declared.report.Report.{Report}
use Rattle.report_line.specs.histories.History.{Name, History, Event}
use Rattle.report_line.specs.histories.Lawful.{IsLawful}
use Rattle.law_histories.proofs.Bytes.{bytes_are}
use Rattle.chains.specs.declared.position.Position.{Position}
use Rattle.chains.specs.declared.position.Position.TheVariants.{At, Retired}
use Rattle.chains.specs.Processes.{known, IsKnown}
use Rattle.chains.specs.Elements.{name_of}
use Rattle.chains.specs.Failures.{IsFailedSet}
use Rattle.chains.specs.Positions.{position_in, IsChosen, IsCut}
use Rattle.chains.proofs.Listing.{AreListedTo, listed_none, listed_more, listed_other}
use Rattle.law_histories.specs.Kept.{IsClosed as IsClosedFor}
use Rattle.law_lines.specs.Places.{IsUpTo, IsClosed}
use Rattle.law_lines.proofs.Listed.{at_in}
use Rattle.law_lines.specs.Agreeing.{HasEventsOf}
use Rattle.driver.specs.declared.line.NamedPosition.{NamedPosition}
use Rattle.driver.specs.declared.mark.Mark.{Mark}
use Rattle.driver.specs.Lines.{position_of, positions_by}
use Rattle.driver.specs.working.Marks.{Marks, fresh, wanted, named, failing, rooted, walked, marks_of, stands, stands_at, reaches, reaches_at, reached, cut_by, is_kept_at, is_kept_in}
use Rattle.driver.proofs.ElementEvents.{reported_of}
use Rattle.driver.proofs.Standing.{IsMarkOf, chosen_by, chosen_stands, reached_up_to}
use Rattle.driver.proofs.Walked.{IsFresh, walked_noted}

-- ---- positions

some_mark : (m : Mark) → (let o : Option Mark = None in o ≡ Some m) → ⊥
some_mark m is = cc

same_mark : (m n : Mark) → Some m ≡ Some n → m ≡ n
same_mark m n is = cc

same_name : (p q : Name) → Some p ≡ Some q → p ≡ q
same_name p q is = cc

no_name : (p : Name) → (let o : Option Name = None in o ≡ Some p) → ⊥
no_name p is = cc

pub cases_mark : (o : Option Mark) → (o ≡ None) ⊎ ((m : Mark) × (o ≡ Some m))
cases_mark None = inl refl
cases_mark (Some m) = inr (m, refl)

-- who is not named is at 0
unnamed_at : (line : List NamedPosition) (p : Name) → named line p ≡ None → position_of line p ≡ At 0
unnamed_at [] p none = refl
unnamed_at (x ∷ line) p none =
    elim (cases_Bool (bytes_eq p x.name)) [
      | inl same ↦ absurd (some_mark (fresh x.position) (sym none ∙ cond-true (bytes_eq p x.name) (Some (fresh x.position)) (named line p) same))
      | inr other ↦
          cond-false (bytes_eq p x.name) x.position (position_of line p) other
          ∙ unnamed_at line p (sym (cond-false (bytes_eq p x.name) (Some (fresh x.position)) (named line p) other) ∙ none)
    ]

-- and who is begins with its position
named_at : (line : List NamedPosition) (p : Name) (m : Mark) → named line p ≡ Some m → m ≡ fresh (position_of line p)
named_at [] p m is = absurd (some_mark m is)
named_at (x ∷ line) p m is =
    elim (cases_Bool (bytes_eq p x.name)) [
      | inl same ↦
          same_mark m (fresh x.position) (sym is ∙ cond-true (bytes_eq p x.name) (Some (fresh x.position)) (named line p) same)
          ∙ ap fresh (sym (cond-true (bytes_eq p x.name) x.position (position_of line p) same))
      | inr other ↦
          named_at line p m (sym (cond-false (bytes_eq p x.name) (Some (fresh x.position)) (named line p) other) ∙ is)
          ∙ ap fresh (sym (cond-false (bytes_eq p x.name) x.position (position_of line p) other))
    ]

pub position_at : (line : List NamedPosition) (accepted : List Report) (i : ℕ) (p : Name) → name_of accepted i ≡ Some p → position_in (positions_by line accepted) i ≡ position_of line p
position_at line accepted i p is =
    get_or-map (position_of line) (known accepted) i p (At 0) (slice_get_within (known accepted) i p is)
    ∙ ap (position_of line) (get_or_from_slice_get (known accepted) i p p is)

-- ---- the mark of a process

failing_fresh : (failed : List Name) (p : Name) (k : Position) → IsFresh (failing failed p (fresh k)) × ((failing failed p (fresh k)).position ≡ k) × ((failing failed p (fresh k)).missing ≡ wanted k)
    × ((failing failed p (fresh k)).failed ≡ list_any (bytes_eq p) failed)
failing_fresh failed p k = by_test (list_any (bytes_eq p) failed)
  where
    by_test : (b : Bool) → IsFresh (if b then record (fresh k) { failed = true } else fresh k) × ((if b then record (fresh k) { failed = true } else fresh k).position ≡ k)
        × ((if b then record (fresh k) { failed = true } else fresh k).missing ≡ wanted k) × ((if b then record (fresh k) { failed = true } else fresh k).failed ≡ b)
    by_test true = (record { present = refl; retired = refl }, refl, refl, refl)
    by_test false = (record { present = refl; retired = refl }, refl, refl, refl)

module _ (root : Name) (h : History) (failed : List Name) (line : List NamedPosition) (marks : Marks) (found : (p : Name) → marks p ≡ marks_of root h failed line p) where
  unmarked : (p : Name) → named line p ≡ None → marks p ≡ None
  unmarked p none = found p ∙ ap (λ (o : Option Mark). option_map (λ m. walked h p (rooted root p (failing failed p m))) o) none

  marked : (p : Name) (m : Mark) → named line p ≡ Some m → marks p ≡ Some (walked h p (rooted root p (failing failed p (fresh (position_of line p)))))
  marked p m is =
      found p
      ∙ (ap (λ (o : Option Mark). option_map (λ n. walked h p (rooted root p (failing failed p n))) o) is
      ∙ ap (λ (n : Mark). Some (walked h p (rooted root p (failing failed p n)))) (named_at line p m is))

  is_mark : (numbers : List ℕ) (i : ℕ) (p : Name) → IsFailedSet (reported_of root h) failed numbers → name_of (reported_of root h) i ≡ Some p
      → IsMarkOf root h p numbers i (position_of line p) (walked h p (rooted root p (failing failed p (fresh (position_of line p)))))
  is_mark numbers i p set is =
      let k = position_of line p in
      let begins = failing_fresh failed p k in
      let noted = walked_noted root h p (failing failed p (fresh k)) begins.0 in
      let failed_is = noted.failed ∙ begins.3 in
      record {
        began = failing failed p (fresh k);
        noted = noted;
        position = begins.1;
        missing = begins.2;
        failed = (
          λ holds. (set.just_named i p is).1 (Contains-from_any bytes_are p failed (sym failed_is ∙ holds)),
          λ contains. failed_is ∙ list_any-from_Contains nat_list_eq_equiv p failed ((set.just_named i p is).0 contains),
        );
      }

  position_kept : (p : Name) → (walked h p (rooted root p (failing failed p (fresh (position_of line p))))).position ≡ position_of line p
  position_kept p =
      let begins = failing_fresh failed p (position_of line p) in
      (walked_noted root h p (failing failed p (fresh (position_of line p))) begins.0).position ∙ begins.1

  -- ---- the root

  kept_at : (k : Position) → is_kept_at k ≡ true → k ≢ At 0
  kept_at k is none = true≢false (sym is ∙ ap is_kept_at none)

  left_at : (k : Position) → is_kept_at k ≡ false → k ≡ At 0
  left_at (At n) is =
      elim (eqb_tells n 0) [
        | inl zero_is ↦ ap At zero_is.1
        | inr some ↦ absurd (true≢false (sym (ap not some.0) ∙ is))
      ]
  left_at Retired is = absurd (true≢false is)

  pub root_kept : (p : Name) → is_kept_in (marks p) ≡ true → position_of line p ≢ At 0
  root_kept p is =
      elim (cases_mark (named line p)) [
        | inl none ↦ absurd (true≢false (sym is ∙ ap is_kept_in (unmarked p none)))
        | inr there ↦ kept_at (position_of line p) (ap is_kept_at (sym (position_kept p)) ∙ (ap is_kept_in (sym (marked p there.0 there.1)) ∙ is))
      ]

  pub root_left : (p : Name) → is_kept_in (marks p) ≡ false → position_of line p ≡ At 0
  root_left p is =
      elim (cases_mark (named line p)) [
        | inl none ↦ unnamed_at line p none
        | inr there ↦ left_at (position_of line p) (ap is_kept_at (sym (position_kept p)) ∙ (ap is_kept_in (sym (marked p there.0 there.1)) ∙ is))
      ]

  -- ---- whether all stand

  module _ (lawful : IsLawful root h) (numbers : List ℕ) (set : IsFailedSet (reported_of root h) failed numbers) where
    cases_named : (p : Name) → (named line p ≡ None) ⊎ ((m : Mark) × (named line p ≡ Some m))
    cases_named p = cases_mark (named line p)

    stands_as : (p : Name) (m : Mark) → named line p ≡ Some m
        → option_map_or stands (marks p) false ≡ stands_at (position_of line p) (walked h p (rooted root p (failing failed p (fresh (position_of line p)))))
    stands_as p m is =
        ap (λ (o : Option Mark). option_map_or stands o false) (marked p m is)
        ∙ ap (λ (k : Position). stands_at k (walked h p (rooted root p (failing failed p (fresh (position_of line p)))))) (position_kept p)

    chosen_at : (i : ℕ) (p : Name) → name_of (reported_of root h) i ≡ Some p → (named line p ≡ None) ⊎ (option_map_or stands (marks p) false ≡ true) → IsChosen (reported_of root h) numbers i (position_of line p)
    chosen_at i p is (inl none) = inl (unnamed_at line p none)
    chosen_at i p is (inr standing) =
        elim (cases_named p) [
          | inl none ↦ inl (unnamed_at line p none)
          | inr there ↦
              chosen_by root h i p is numbers (walked h p (rooted root p (failing failed p (fresh (position_of line p))))) (position_of line p) (is_mark numbers i p set is)
              (sym (stands_as p there.0 there.1) ∙ standing)
        ]

    complete : length (positions_by line (reported_of root h)) ≡ length (known (reported_of root h))
    complete = length-map (known (reported_of root h)) (position_of line)

    pub all_chosen : ((p : Name) → (named line p ≡ None) ⊎ (option_map_or stands (marks p) false ≡ true)) → IsCut (reported_of root h) numbers (positions_by line (reported_of root h))
    all_chosen all = record {
      complete = complete;
      chosen = λ i lt.
          (let p = get_or (known (reported_of root h)) i [] in
          let is : name_of (reported_of root h) i ≡ Some p = slice_get-get_or (known (reported_of root h)) i [] lt in
          subst (IsChosen (reported_of root h) numbers i) (sym (position_at line (reported_of root h) i p is)) (chosen_at i p is (all p)));
    }

    pub stands_if_cut : IsCut (reported_of root h) numbers (positions_by line (reported_of root h)) → (p : Name) (m : Mark) → named line p ≡ Some m → IsKnown (reported_of root h) p
        → option_map_or stands (marks p) false ≡ true
    stands_if_cut is_cut p m is is_known =
        let at = at_in (known (reported_of root h)) p is_known in
        stands_as p m is
        ∙ chosen_stands root h at.0 p at.2 numbers (walked h p (rooted root p (failing failed p (fresh (position_of line p))))) (position_of line p) (is_mark numbers at.0 p set at.2)
        (subst (IsChosen (reported_of root h) numbers at.0) (position_at line (reported_of root h) at.0 p at.2) (is_cut.chosen at.0 at.1))

    -- ---- the events of the line

    reached_as : (p : Name) (m : Mark) (n : ℕ) → named line p ≡ Some m
        → reached marks p n ≡ reaches_at (position_of line p) (walked h p (rooted root p (failing failed p (fresh (position_of line p))))) n
    reached_as p m n is =
        ap (λ (o : Option Mark). option_map_or (λ x. reaches x n) o false) (marked p m is)
        ∙ ap (λ (k : Position). reaches_at k (walked h p (rooted root p (failing failed p (fresh (position_of line p))))) n) (position_kept p)

    module _ (is_cut : IsCut (reported_of root h) numbers (positions_by line (reported_of root h))) where
      chosen : (i : ℕ) (p : Name) → name_of (reported_of root h) i ≡ Some p → IsChosen (reported_of root h) numbers i (position_of line p)
      chosen i p is = subst (IsChosen (reported_of root h) numbers i) (position_at line (reported_of root h) i p is) (is_cut.chosen i (slice_get_within (known (reported_of root h)) i p is))

      reached_iff : (i : ℕ) (e : Event) (m : Mark) → name_of (reported_of root h) i ≡ Some e.process → named line e.process ≡ Some m
          → (cut_by marks e ≡ true) ↔ IsUpTo root h (reported_of root h) i (position_of line e.process) e
      reached_iff i e m is at =
          let both = reached_up_to root h i e.process is numbers (walked h e.process (rooted root e.process (failing failed e.process (fresh (position_of line e.process))))) lawful
          (position_of line e.process) e (is_mark numbers i e.process set is) (chosen i e.process is) in
          (λ holds. both.0 (sym (reached_as e.process m e.number at) ∙ holds), λ up. reached_as e.process m e.number at ∙ both.1 up)

      pub has_events : ((p : Name) (m : Mark) → named line p ≡ Some m → IsKnown (reported_of root h) p) → HasEventsOf root h (reported_of root h) (positions_by line (reported_of root h)) (cut_by marks)
      has_events all_known e = (
        λ inside. elim (cases_named e.process) [
          | inl none ↦ absurd (true≢false (sym inside ∙ ap (λ (o : Option Mark). option_map_or (λ x. reaches x e.number) o false) (unmarked e.process none)))
          | inr there ↦
              (let at = at_in (known (reported_of root h)) e.process (all_known e.process there.0 there.1) in
              record {
                process = at.0;
                is_known = at.1;
                of_process = at.2;
                up_to = subst (λ (k : Position). IsUpTo root h (reported_of root h) at.0 k e) (sym (position_at line (reported_of root h) at.0 e.process at.2))
                    ((reached_iff at.0 e there.0 at.2 there.1).0 inside);
              })
        ],
        λ within. elim (cases_named e.process) [
          | inl none ↦
              absurd (subst (λ (k : Position). IsUpTo root h (reported_of root h) within.process k e) (position_at line (reported_of root h) within.process e.process within.of_process ∙ unnamed_at line e.process none) within.up_to)
          | inr there ↦
              (reached_iff within.process e there.0 within.of_process there.1).1
              (subst (λ (k : Position). IsUpTo root h (reported_of root h) within.process k e) (position_at line (reported_of root h) within.process e.process within.of_process) within.up_to)
        ],
      )

-- ---- closed in both senses

pub closed_by_cut : (root : Name) (h : History) (accepted : List Report) (positions : List Position) (marks : Marks) → HasEventsOf root h accepted positions (cut_by marks) → IsClosedFor root h (cut_by marks) → IsClosed root h accepted positions
closed_by_cut root h accepted positions marks has closed a b edge inside = (has a).0 (closed a b edge ((has b).1 inside))

pub cut_by_closed : (root : Name) (h : History) (accepted : List Report) (positions : List Position) (marks : Marks) → HasEventsOf root h accepted positions (cut_by marks) → IsClosed root h accepted positions → IsClosedFor root h (cut_by marks)
cut_by_closed root h accepted positions marks has closed a b edge inside = (has a).1 (closed a b edge ((has b).0 inside))

-- ---- the set of failed processes

module _ (accepted : List Report) (names : List Name) where
  -- the number is that of a named process
  IsNamed : ℕ → Type 0
  IsNamed i = (p : Name) × (name_of accepted i ≡ Some p) × Contains names p

  named_or_not : (i : ℕ) (o : Option Name) → name_of accepted i ≡ o → IsNamed i ⊎ (¬ IsNamed i)
  unfolding IsNamed
  named_or_not i None is = inr (λ w. no_name w.0 (sym is ∙ w.1))
  named_or_not i (Some p) is =
      elim (cases_Bool (list_any (bytes_eq p) names)) [
        | inl found ↦ inl (p, is, Contains-from_any bytes_are p names found)
        | inr not_found ↦ inr (λ w.
            true≢false (sym (list_any-from_Contains nat_list_eq_equiv p names (subst (Contains names) (same_name w.0 p (sym w.1 ∙ is)) w.2)) ∙ not_found))
      ]

  listed : (n : ℕ) → (numbers : List ℕ) × AreListedTo IsNamed n numbers
  listed zero = ([], listed_none IsNamed)
  listed (suc n) =
      let before = listed n in
      let up : n + 1 ≡ suc n = omega arith in
      elim (named_or_not n (name_of accepted n) refl) [
        | inl is ↦ (before.0 ++ n ∷ [], subst (λ (k : ℕ). AreListedTo IsNamed k (before.0 ++ n ∷ [])) up (listed_more IsNamed n before.0 before.1 is))
        | inr isnt ↦ (before.0, subst (λ (k : ℕ). AreListedTo IsNamed k before.0) up (listed_other IsNamed n before.0 before.1 isnt))
      ]

  pub set_of : All (IsKnown accepted) names → (numbers : List ℕ) × IsFailedSet accepted names numbers
  unfolding IsNamed
  set_of all =
      let w = listed (length (known accepted)) in (
        w.0,
        record {
          all_known = all;
          in_order = w.1.in_order;
          within = λ i at. ((w.1.just_these i).0 at).0;
          just_named = λ i p is. (
            λ at. (let that = ((w.1.just_these i).0 at).1 in subst (Contains names) (same_name that.0 p (sym that.1 ∙ is)) that.2),
            λ at. (w.1.just_these i).1 (slice_get_within (known accepted) i p is, (p, is, at)),
          );
        },
      )
