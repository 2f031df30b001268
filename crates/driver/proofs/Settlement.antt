-- What a settlement answers, by what was found of its line.
use Rattle.std.proofs.Common.{◌≡◌, ◌≢◌, ◌⊎◌, ℕ, ◌+◌, Bool, true, false, Some, None, List, [], ◌∷◌, get_or, sym, ◌∙◌, ap, inl, inr, arith}
use Rattle.std.specs.Prelude.{All, Contains, ◌&&◌}
use Rattle.std.specs.List.{list_all}
use Rattle.std.specs.Option.{option_map_or}
use Rattle.std.proofs.lemmas.Bool.{cases_Bool, true≢false}
use Rattle.std.proofs.lemmas.List.{get_or_default}
use Rattle.report_line.proofs.Cutting.{and_both}
use Rattle.report_line.specs.histories.History.{Name}
use Rattle.report_line.specs.histories.Lawful.{IsLawful}
use Rattle.chains.specs.Processes.{IsKnown}
use Rattle.chains.specs.Failures.{IsFailedSet}
use Rattle.chains.specs.Positions.{IsCut}
use Rattle.chains.proofs.Certain.{known_or_not}
use Rattle.law_histories.specs.Kept.{IsClosed}
use Rattle.law_lines.proofs.Listed.{at_in, in_at, in_cases, first_in, later_in, none_in}
use Rattle.law_lines.specs.Agreeing.{HasEventsOf}
use Rattle.driver.specs.declared.fault.StepFault.{StepFault}
use Rattle.driver.specs.declared.fault.StepFault.TheVariants.{Unknown, Retired, SelfTarget, Taken, NoMessage, NotWaiting, NotClosed, ClockFull, TooDeep, Memory}
use Rattle.driver.specs.declared.line.NamedPosition.{NamedPosition}
use Rattle.driver.specs.declared.mark.Mark.{Mark}
use Rattle.driver.specs.declared.tables.Tables.{Tables}
use Rattle.driver.specs.Chronicle.{Chronicle}
use Rattle.driver.specs.working.Keeping.{AreKept}
use Rattle.driver.specs.Lines.{reported, names_of, IsNamedOnce, positions_by}
use Rattle.driver.specs.working.Marks.{Marks, named, stands, all_stand, cut_by, marks_of, is_kept_in}
use Rattle.driver.specs.working.Seen.{chronicle_in}
use Rattle.driver.specs.Settling.{HasUnknownName, IsClosedLine, Settles, RefusesLine}
use Rattle.driver.proofs.Born.{born_is_known}
use Rattle.driver.proofs.InLine.{cases_mark, set_of, root_kept, root_left, all_chosen, stands_if_cut, has_events, closed_by_cut, cut_by_closed}
use Rattle.driver.proofs.Naming.{is_named, unnamed}
use Rattle.driver.proofs.Unknown.{name_in, entry_of}

-- ---- tests of each entry

all_at : (test : NamedPosition → Bool) (line : List NamedPosition) (x : NamedPosition) → list_all test line ≡ true → Contains line x → test x ≡ true
all_at test [] x all at = absurd (none_in x at)
all_at test (y ∷ line) x all at =
    let both = and_both (test y) (list_all test line) all in
    elim (in_cases y x line at) [
      | inl is ↦ ap test (sym is) ∙ both.0
      | inr later ↦ all_at test line x both.1 later
    ]

one_fails : (test : NamedPosition → Bool) (line : List NamedPosition) → list_all test line ≡ false → (x : NamedPosition) × Contains line x × (test x ≡ false)
one_fails test [] is = absurd (true≢false is)
one_fails test (y ∷ line) is =
    elim (cases_Bool (test y)) [
      | inl passes ↦ (let w = one_fails test line (sym (ap (λ (b : Bool). b && list_all test line) passes) ∙ is) in (w.0, later_in y w.0 line w.1, w.2))
      | inr fails ↦ (y, first_in y line, fails)
    ]

-- ---- faults

pub refuses_by : (w : Chronicle) (failed : List Name) (line : List NamedPosition) (f : StepFault) → ¬ HasUnknownName w failed line → (f ≢ Memory → (f ≡ NotClosed) × (¬ IsClosedLine w failed line)) → RefusesLine w failed line f
refuses_by w failed line Memory known told = tt
refuses_by w failed line NotClosed known told = (known, (told (λ is. cc)).1)
refuses_by w failed line Unknown known told = absurd (let is = (told (λ e. cc)).0 in cc)
refuses_by w failed line Retired known told = absurd (let is = (told (λ e. cc)).0 in cc)
refuses_by w failed line SelfTarget known told = absurd (let is = (told (λ e. cc)).0 in cc)
refuses_by w failed line Taken known told = absurd (let is = (told (λ e. cc)).0 in cc)
refuses_by w failed line NoMessage known told = absurd (let is = (told (λ e. cc)).0 in cc)
refuses_by w failed line NotWaiting known told = absurd (let is = (told (λ e. cc)).0 in cc)
refuses_by w failed line ClockFull known told = absurd (let is = (told (λ e. cc)).0 in cc)
refuses_by w failed line TooDeep known told = absurd (let is = (told (λ e. cc)).0 in cc)

-- ---- over the world

module _ (w : Chronicle) (failed : List Name) (line : List NamedPosition) (known : ¬ HasUnknownName w failed line) where
  module _ (marks : Marks) (found : (p : Name) → marks p ≡ marks_of w.root w.history failed line p) (lawful : IsLawful w.root w.history) where
    given_known : (p : Name) → Contains failed p ⊎ Contains (names_of line) p → IsKnown (reported w) p
    given_known p given =
        elim (known_or_not (reported w) p) [
          | inl is ↦ is
          | inr unknown ↦ absurd (known (record { name = p; given = given; unborn = born_is_known lawful p unknown }))
        ]

    failed_known : All (IsKnown (reported w)) failed
    failed_known k d lt = given_known (get_or failed k d) (inl (k, lt, get_or_default failed k (get_or failed k d) d lt))

    line_known : (p : Name) (m : Mark) → named line p ≡ Some m → IsKnown (reported w) p
    line_known p m is = (let there = is_named line p m is in given_known p (inr (in_at (names_of line) there.0 p there.1)))

    pub root_unborn : is_kept_in (marks w.root) ≡ false → ¬ IsClosedLine w failed line
    root_unborn is closed = closed.root_stays (root_left w.root w.history failed line marks found w.root is)

    pub not_standing : all_stand marks line ≡ false → ¬ IsClosedLine w failed line
    not_standing is closed =
        let one = one_fails (λ x. option_map_or stands (marks x.name) false) line is in
        let at = at_in (names_of line) one.0.name (name_in line one.0 one.1) in
        elim (cases_mark (named line one.0.name)) [
          | inl none ↦ unnamed line at.0 one.0.name none at.2
          | inr there ↦
              true≢false (sym (stands_if_cut w.root w.history failed line marks found lawful closed.numbers closed.are_failed closed.closed.is_cut one.0.name there.0 there.1
              (line_known one.0.name there.0 there.1)) ∙ one.2)
        ]

    is_cut : (numbers : List ℕ) → IsFailedSet (reported w) failed numbers → all_stand marks line ≡ true → IsCut (reported w) numbers (positions_by line (reported w))
    is_cut numbers set is = all_chosen w.root w.history failed line marks found lawful numbers set (λ p. by_name p (cases_mark (named line p)))
      where
        by_name : (p : Name) → (named line p ≡ None) ⊎ ((m : Mark) × (named line p ≡ Some m)) → (named line p ≡ None) ⊎ (option_map_or stands (marks p) false ≡ true)
        by_name p (inl none) = inl none
        by_name p (inr there) =
            let at = is_named line p there.0 there.1 in
            let x = entry_of line p (in_at (names_of line) at.0 p at.1) in
            inr (ap (λ (q : Name). option_map_or stands (marks q) false) (sym x.2) ∙ all_at (λ y. option_map_or stands (marks y.name) false) line x.0 is x.1)

    events : (numbers : List ℕ) → IsFailedSet (reported w) failed numbers → IsCut (reported w) numbers (positions_by line (reported w))
        → HasEventsOf w.root w.history (reported w) (positions_by line (reported w)) (cut_by marks)
    events numbers set cut = has_events w.root w.history failed line marks found lawful numbers set cut line_known

    pub not_closed : ¬ IsClosed w.root w.history (cut_by marks) → ¬ IsClosedLine w failed line
    not_closed is_open line_closed =
        is_open (cut_by_closed w.root w.history (reported w) (positions_by line (reported w)) marks (events line_closed.numbers line_closed.are_failed line_closed.closed.is_cut) line_closed.closed.closed)

    -- what is accepted
    module _ (once : IsNamedOnce line) (stays : is_kept_in (marks w.root) ≡ true) (standing : all_stand marks line ≡ true) where
      pub is_closed_line : IsClosed w.root w.history (cut_by marks) → IsClosedLine w failed line
      is_closed_line closed =
          let set = set_of (reported w) failed failed_known in
          let cut = is_cut set.0 set.1 standing in
          record {
            once = once;
            root_stays = root_kept w.root w.history failed line marks found w.root stays;
            numbers = set.0;
            are_failed = set.1;
            closed = record { is_cut = cut; closed = closed_by_cut w.root w.history (reported w) (positions_by line (reported w)) marks (events set.0 set.1 cut) closed };
          }

      pub settles : (epoch : ℕ) (t : Tables) → epoch ≡ w.epoch + 1 → AreKept w.root epoch (cut_by marks) w.history t → Settles w line (chronicle_in t)
      settles epoch t next kept =
          let set = set_of (reported w) failed failed_known in
          record {
            cut = cut_by marks;
            has_events = events set.0 set.1 (is_cut set.0 set.1 standing);
            root = kept.same_root;
            epoch = (let is : t.epoch ≡ epoch = kept.in_epoch in omega arith);
            history = kept.history;
          }
