-- The run with two settlements is obeyed.
use Rattle.std.proofs.Common.{◌≡◌, ℕ, zero, suc, ◌≤◌, ◌<◌, Bool, true, false, List, [], ◌∷◌, Some, length, refl, sym, ◌∙◌, ap, subst, inl, inr, arith}
use Rattle.std.specs.Prelude.{Contains, nat_le, ◌&&◌}
use Rattle.std.specs.Str.{bytes_eq}
use Rattle.std.proofs.lemmas.Option.{same_Some, slice_get_within}
use Rattle.id_tree.specs.IdTree.{IdTree, One}
use Rattle.id_tree.specs.Points.{Point, owns}
use Rattle.event_tree.specs.EventTree.{EventTree, Leaf}
use Rattle.event_tree.specs.Values.{value_at, ExceedsOn}
use Rattle.event_tree.specs.Grown.{IsGrown}
use Rattle.stamp.specs.declared.stamp.Stamp.{Stamp}
use Rattle.report_line.specs.declared.report.ReportKind.{ReportKind}
use Rattle.report_line.specs.declared.report.ReportKind.TheVariants as reported
use Rattle.report_line.specs.declared.report.NumberedReport.{NumberedReport}
use Rattle.report_line.specs.declared.report.Report.{Report}
use Rattle.report_line.specs.declared.report.Report.TheVariants.{Begin, Numbered}
use Rattle.report_line.specs.declared.step.StepKind.TheVariants.{Work, Check, Present, Fork}
use Rattle.report_line.specs.declared.step.Step.{Step}
use Rattle.report_line.specs.histories.History.{Name, History, Event, event_of, Living, status}
use Rattle.report_line.specs.histories.Lawful.{IsOwnWork, IsAllowed, IsLawful, next}
use Rattle.report_line.specs.histories.Events.{step, earlier as occurred}
use Rattle.report_line.specs.histories.StepReports.{report_of}
use Rattle.law_histories.specs.Example.{a, b, left, right, halves, act, told, forked}
use Rattle.law_histories.specs.Rules.{IsNewest, Obeys}
use Rattle.law_histories.proofs.Bytes.{bytes_same, bytes_are}
use Rattle.law_histories.proofs.Example.{Has, leaf, has, apart, both, some_left, some_right, above}
use Rattle.law_histories.proofs.Rules.{rules_are_the_law}
use Rattle.chains.specs.declared.position.Position.{Position}
use Rattle.chains.specs.declared.position.Position.TheVariants.{At, Retired}
use Rattle.chains.specs.Processes.{known, expected_id}
use Rattle.chains.specs.Elements.{name_of, elements, stable, element}
use Rattle.chains.specs.Positions.{rank, position_in, is_retired, IsChosen, IsCut}
use Rattle.chains.specs.Knowledge.{Knows, KnowsAfter}
use Rattle.chains.specs.Folded.{IsFitAction, IsFitReport}
use Rattle.chains.specs.Greatest.{IsConsistentCut, IsGreatestCut}
use Rattle.law_histories.specs.Kept.{Cut, kept}
use Rattle.law_lines.specs.Places.{IsPremise, IsEventAt, place, IsUpTo, IsInCut}
use Rattle.law_lines.proofs.Accepted.{filled, more_left, more_right, halved, unknown_b}
use Rattle.law_lines.proofs.Ordered.{one_event}
use Rattle.law_lines.specs.Agreeing.{HasEventsOf}
use Rattle.law_lines.specs.Runs.{Run, Made, Accepts, Settles, epoch, current, accepted, IsMarkedReport, of_current, IsObeyed, nothing, made, left_behind, begins, reports, settles}
use Rattle.law_lines.specs.TwoSettlements.{up_to_checkpoint, begun, once_settled, TwiceSettledIsObeyed, CheckpointsAreCurrent, CheckpointsAreAccepted}
use Rattle.law_lines.proofs.Folding.{within, is_within}
use Rattle.law_lines.proofs.Runs.{agrees_now, epoch_made}

-- ---- an entry more, over what is current

stepped_on : (root : Name) (run : Run) (e : ℕ) (h : History) (s : Step) (b : Event) → epoch run ≡ e → current run ≡ h → IsObeyed root run
    → status root h s.process ≡ Living b → IsAllowed root h b s s.step_kind → IsObeyed root (Made e s ∷ run)
stepped_on root run e h s b now is obeyed living allowed =
    let lawful : IsLawful root h = subst (λ (g : History). IsLawful root g) is (agrees_now obeyed).lawful in
    let w = (rules_are_the_law root h s lawful).0 (next lawful living allowed) in
    let newest : IsNewest root (current run) s.process w.0 = subst (λ (g : History). IsNewest root g s.process w.0) (sym is) w.1 in
    let obeys : Obeys root (current run) w.0 s s.step_kind = subst (λ (g : History). Obeys root g w.0 s s.step_kind) (sym is) w.2 in
    subst (λ (k : ℕ). IsObeyed root (Made k s ∷ run)) now (made obeyed newest obeys)

accepted_on : (root : Name) (run : Run) (e : ℕ) (h : History) (list : List Report) (s : Step) (r : NumberedReport) → epoch run ≡ e → current run ≡ h → accepted (Made e s ∷ run) ≡ list
    → IsObeyed root (Made e s ∷ run) → report_of root h s ≡ Some (Numbered r) → IsFitReport list r → IsObeyed root (Accepts e (Numbered r) ∷ Made e s ∷ run)
accepted_on root run e h list s r now is holds obeyed reported_so fit =
    let said : report_of root (current run) s ≡ Some (Numbered r) = subst (λ (g : History). report_of root g s ≡ Some (Numbered r)) (sym is) reported_so in
    let marked : IsMarkedReport root (Made e s ∷ run) e (Numbered r) = subst (λ (k : ℕ). IsMarkedReport root (Made k s ∷ run) k (Numbered r)) now (of_current said) in
    let same : epoch (Made e s ∷ run) ≡ e = epoch_made run e s ∙ now in
    subst (λ (k : ℕ). IsObeyed root (Accepts k (Numbered r) ∷ Made e s ∷ run)) same
    (reports obeyed (subst (λ (k : ℕ). IsMarkedReport root (Made e s ∷ run) k (Numbered r)) (sym same) marked) (subst (λ (l : List Report). IsFitReport l r) (sym holds) fit))

settled_on : (root : Name) (run : Run) (h : History) (list : List Report) (failed : List ℕ) (line : List Position) (cut : Cut) → current run ≡ h → accepted run ≡ list → IsObeyed root run
    → IsGreatestCut list failed line → HasEventsOf root h list line cut → IsObeyed root (Settles failed line cut ∷ run)
settled_on root run h list failed line cut is holds obeyed greatest has =
    settles obeyed (subst (λ (l : List Report). IsGreatestCut l failed line) (sym holds) greatest)
    (subst (λ (l : List Report). HasEventsOf root (current run) l line cut) (sym holds) (subst (λ (g : History). HasEventsOf root g list line cut) (sym is) has))

-- ---- the events up to the checkpoint

true_parts : (x y : Bool) → (x && y) ≡ true → (x ≡ true) × (y ≡ true)
true_parts true true is = (refl, refl)
true_parts true false is = absurd (cc)
true_parts false y is = absurd (cc)

both_true : (x y : Bool) → x ≡ true → y ≡ true → (x && y) ≡ true
both_true x y first second = ap (λ z. z && y) first ∙ second

same_name_of : (p q : Name) → Some p ≡ Some q → p ≡ q
same_name_of p q is = cc

module _ (h : History) (list : List Report) (line : List Position) (x : Event) (premise : IsPremise a h list) (named : name_of list 0 ≡ Some a) (at : position_in line 0 ≡ At 2)
    (x_at : IsEventAt a h list (place 0 (At 2)) x) (first : x.number ≡ 1) (others : (i : ℕ) → position_in line (suc i) ≡ At 0) where
  in_cut : (e : Event) → up_to_checkpoint e ≡ true → IsInCut a h list line e
  in_cut e is =
      let parts = true_parts (bytes_eq e.process a) (nat_le e.number 1) is in
      let few : e.number ≤ 1 = within e.number 1 parts.1 in
      record {
        process = 0;
        is_known = slice_get_within (known list) 0 a named;
        of_process = named ∙ ap Some (sym (bytes_are e.process a parts.0));
        up_to = subst (λ (k : Position). IsUpTo a h list 0 k e) (sym at) (x, x_at, omega arith);
      }

  cut_has : (e : Event) (i : ℕ) → name_of list i ≡ Some e.process → IsUpTo a h list i (position_in line i) e → up_to_checkpoint e ≡ true
  cut_has e zero is up =
      let there = subst (λ (k : Position). IsUpTo a h list 0 k e) at up in
      let one : there.0 ≡ x = one_event a h list premise.lawful (place 0 (At 2)) there.0 x there.1 x_at in
      let number : there.0.number ≡ 1 = ap (λ (y : Event). y.number) one ∙ first in
      let few : e.number ≤ there.0.number = there.2 in
      both_true (bytes_eq e.process a) (nat_le e.number 1) (bytes_same e.process a (sym (same_name_of a e.process (sym named ∙ is)))) (is_within e.number 1 (omega arith))
  cut_has e (suc i) is up = absurd (subst (λ (k : Position). IsUpTo a h list (suc i) k e) (others i) up)

  has_events : HasEventsOf a h list line up_to_checkpoint
  has_events e = (in_cut e, λ w. cut_has e w.process w.of_process w.up_to)

-- ---- what the steps do

grown_leaf : (x y : ℕ) → x < y → IsGrown One (Leaf x) (Leaf y)
grown_leaf x y less = record { same = λ t free. absurd (cc); above = λ t owned. omega arith; greater = ([], refl, omega arith) }

grown_right : (e f : EventTree) (x y z : ℕ) → Has e x y → Has f x z → y < z → IsGrown right e f
grown_right e f x y z of_e of_f less = record {
  same = elim [
    | [] ↦ λ free. of_f.at_root ∙ sym of_e.at_root
    | true ∷ t ↦ λ free. absurd (cc)
    | false ∷ t ↦ λ free. of_f.at_left t ∙ sym (of_e.at_left t)
  ];
  above = elim [
    | [] ↦ λ owned. omega (arith, of_e.at_root, of_f.at_root)
    | true ∷ t ↦ λ owned. omega (arith, of_e.at_right t, of_f.at_right t)
    | false ∷ t ↦ λ owned. omega (arith, of_e.at_left t, of_f.at_left t)
  ];
  greater = (true ∷ [], refl, omega (arith, of_e.at_right [], of_f.at_right []));
}

own : (e : Event) (s : Step) → s.stamp.id ≡ e.id → IsGrown e.id e.values s.stamp.events → IsOwnWork e e.values s
own e s same grown = record { same_id = λ t. ap (λ (i : IdTree). owns i t) same; grown = grown }

abbrev checked : History
checked = act a Check One (Leaf 1) ∷ []

abbrev shown : History
shown = act a Present One (Leaf 2) ∷ checked

abbrev forks : History
forks = act a (Fork b right) left (Leaf 2) ∷ checked

abbrev born : History
born = act b Check right (halves 2 0 1) ∷ forks

abbrev l1 : List Report
l1 = Begin a ∷ told a 1 One (Leaf 1) reported.Check ∷ []

abbrev l2 : List Report
l2 = Begin a ∷ told a 1 One (Leaf 1) reported.Check ∷ told a 2 One (Leaf 2) reported.Present ∷ []

abbrev l3 : List Report
l3 = Begin a ∷ told a 1 One (Leaf 1) reported.Check ∷ told a 2 One (Leaf 2) (forked b) ∷ []

abbrev l4 : List Report
l4 = Begin a ∷ told a 1 One (Leaf 1) reported.Check ∷ told a 2 One (Leaf 2) (forked b) ∷ told b 1 right (halves 2 0 1) reported.Check ∷ []

first_fit : IsFitReport (Begin a ∷ []) (record { process = a; number = 1; stamp = record { id = One; events = Leaf 1 }; action = reported.Check })
first_fit = record {
  begun = filled _ _;
  is_known = (0, omega arith, refl);
  living = refl;
  number = refl;
  id = refl;
  grown = more_left One (Leaf 0) (Leaf 1) 0 0 1 1 refl (leaf 0) (leaf 1) (omega arith) (omega arith);
  fit = tt;
}

-- a's second report
abbrev second_report : ReportKind → NumberedReport
second_report action = record { process = a; number = 2; stamp = record { id = One; events = Leaf 2 }; action = action }

second_fit : (action : ReportKind) → One ≡ expected_id l1 a action → IsFitAction l1 (second_report action) action → IsFitReport l1 (second_report action)
second_fit action same tested = record {
  begun = filled _ _;
  is_known = (0, omega arith, refl);
  living = refl;
  number = refl;
  id = same;
  grown = more_left One (Leaf 1) (Leaf 2) 1 1 2 2 refl (leaf 1) (leaf 2) (omega arith) (omega arith);
  fit = tested;
}

child_fit : IsFitReport l3 (record { process = b; number = 1; stamp = record { id = right; events = halves 2 0 1 }; action = reported.Check })
child_fit = record {
  begun = filled _ _;
  is_known = (1, omega arith, refl);
  living = refl;
  number = refl;
  id = refl;
  grown = more_right right (Leaf 2) (halves 2 0 1) 2 2 2 3 refl (leaf 2) (has 2 0 1) (omega arith) (omega arith);
  fit = tt;
}

-- ---- the lines

-- a failed process that did not retire is at its second stable element at most
two_at_most : (list : List Report) (p : ℕ) → length (stable list p) ≤ 2 → is_retired list p ≡ false → Contains {X = ℕ} (0 ∷ []) p → (k : Position) → IsChosen list (0 ∷ []) p k
    → (j : ℕ) × (k ≡ At j) × (j ≤ 2)
two_at_most list p few lives failed k (inl unborn) = (0, unborn, omega arith)
two_at_most list p few lives failed (At k) (inr w) = (let up : k ≤ length (stable list p) = w.2 failed in (k, refl, omega arith))
two_at_most list p few lives failed Retired (inr w) = (let both : true ≡ false = sym w ∙ lives in absurd (cc))

first_failed : Contains {X = ℕ} (0 ∷ []) 0
first_failed = (0, omega arith, refl)

one_is_cut : IsCut l2 (0 ∷ []) (At 2 ∷ [])
one_is_cut = record { complete = refl; chosen = λ p lt. by p lt }
  where
    by : (p : ℕ) → p < 1 → IsChosen l2 (0 ∷ []) p (position_in (At 2 ∷ []) p)
    by zero lt = inr (omega arith, omega arith, λ failed. omega arith)
    by (suc p) lt = absurd (omega arith)

one_greatest : IsGreatestCut l2 (0 ∷ []) (At 2 ∷ [])
one_greatest = record {
  is_one = record { is_cut = one_is_cut; consistent = λ p q lt lt' knows. alone p q lt lt' knows };
  greatest = λ d one p lt. up d one p lt;
}
  where
    alone : (p q : ℕ) → p < 1 → q < 1 → ¬ Knows l2 (record { process = p; position = position_in (At 2 ∷ []) p }) q (position_in (At 2 ∷ []) q)
    alone zero zero lt lt' knows = knows.0 refl
    alone (suc p) q lt lt' knows = absurd (omega arith)
    alone zero (suc q) lt lt' knows = absurd (omega arith)

    up : (d : List Position) → IsConsistentCut l2 (0 ∷ []) d → (p : ℕ) → p < 1 → rank l2 p (position_in d p) ≤ rank l2 p (position_in (At 2 ∷ []) p)
    up d one zero lt =
        (let w = two_at_most l2 0 (omega arith) refl first_failed (position_in d 0) (one.is_cut.chosen 0 (omega arith)) in
        let same : rank l2 0 (position_in d 0) ≡ w.0 = ap (rank l2 0) w.1 in
        let few : w.0 ≤ 2 = w.2 in
        omega arith)
    up d one (suc p) lt = absurd (omega arith)

same_values_of : (e f : EventTree) → Some e ≡ Some f → e ≡ f
same_values_of e f is = cc

-- what is 2 or more everywhere is not exceeded by 1
under : (i : IdTree) (e : EventTree) (n m : ℕ) → Has e n m → 2 ≤ n → 2 ≤ m → ExceedsOn i (Leaf 1) e → ⊥
under i e n m of_e over over' w = by w.0 w.2
  where
    by : (t : Point) → value_at e t < value_at (Leaf 1) t → ⊥
    by [] less = absurd (omega (arith, of_e.at_root))
    by (true ∷ t) less = absurd (omega (arith, of_e.at_right t))
    by (false ∷ t) less = absurd (omega (arith, of_e.at_left t))

-- a's checkpoint knows nothing of b
knows_nothing : KnowsAfter l4 (place 0 (At 2)) 1 0 → ⊥
knows_nothing w = by w.later w.first w.is_element
  where
    values : Leaf 1 ≡ w.beyond.events
    values = same_values_of (Leaf 1) w.beyond.events w.beyond.there

    less : (y : Stamp) → y ≡ w.stamp → (n m : ℕ) → Has y.events n m → 2 ≤ n → 2 ≤ m → ⊥
    less y is n m has_y over over' = under y.id y.events n m has_y over over' (subst (λ (f : EventTree). ExceedsOn y.id f y.events) (sym values) (subst (λ (x : Stamp). ExceedsOn x.id w.beyond.events x.events) (sym is) w.beyond.exceeds))

    by : (j : ℕ) → 1 ≤ j → element l4 1 j ≡ Some w.stamp → ⊥
    by zero first is = absurd (omega arith)
    by (suc zero) first is = less (record { id = right; events = Leaf 2 }) (same_Some _ _ is) 2 2 (leaf 2) (omega arith) (omega arith)
    by (suc (suc zero)) first is = less (record { id = right; events = halves 2 0 1 }) (same_Some _ _ is) 2 3 (has 2 0 1) (omega arith) (omega arith)
    by (suc (suc (suc j))) first is = absurd (cc)

two_is_cut : IsCut l4 (0 ∷ []) (At 2 ∷ At 0 ∷ [])
two_is_cut = record { complete = refl; chosen = λ p lt. by p lt }
  where
    by : (p : ℕ) → p < 2 → IsChosen l4 (0 ∷ []) p (position_in (At 2 ∷ At 0 ∷ []) p)
    by zero lt = inr (omega arith, omega arith, λ failed. omega arith)
    by (suc zero) lt = inl refl
    by (suc (suc p)) lt = absurd (omega arith)

-- b knows a's checkpoint at each of its elements
knows_checkpoint : (j k : ℕ) → 1 ≤ j → j ≤ 2 → k ≤ 2 → Knows l4 (place 1 (At j)) 0 (At k)
knows_checkpoint zero k first last few = absurd (omega arith)
knows_checkpoint (suc zero) k first last few = (
  λ e. absurd (omega arith),
  record {
    later = 2;
    stamp = record { id = One; events = Leaf 1 };
    from = few;
    first = omega arith;
    is_element = refl;
    beyond = record { events = Leaf 2; there = refl; exceeds = ([], refl, omega arith) };
  },
)
knows_checkpoint (suc (suc zero)) k first last few = (
  λ e. absurd (omega arith),
  record {
    later = 2;
    stamp = record { id = One; events = Leaf 1 };
    from = few;
    first = omega arith;
    is_element = refl;
    beyond = record { events = halves 2 0 1; there = refl; exceeds = ([], refl, omega arith) };
  },
)
knows_checkpoint (suc (suc (suc j))) k first last few = absurd (omega arith)

-- so b is unborn where a is at its checkpoint at most
b_is_unborn : (i k : Position) (j : ℕ) → i ≡ At j → j ≤ 2 → IsChosen l4 (0 ∷ []) 1 k → ¬ Knows l4 (place 1 k) 0 i → k ≡ At 0
b_is_unborn i k j is few (inl unborn) knows = unborn
b_is_unborn i (At k) j is few (inr w) knows =
    let first : 1 ≤ k = w.0 in
    let last : k ≤ length (elements l4 1) = w.1 in
    absurd (knows (subst (λ (q : Position). Knows l4 (place 1 (At k)) 0 q) (sym is) (knows_checkpoint k j (omega arith) (omega arith) few)))
b_is_unborn i Retired j is few (inr w) knows = absurd (cc)

two_greatest : IsGreatestCut l4 (0 ∷ []) (At 2 ∷ At 0 ∷ [])
two_greatest = record {
  is_one = record { is_cut = two_is_cut; consistent = λ p q lt lt' knows. none p q lt lt' knows };
  greatest = λ d one p lt. up d one p lt;
}
  where
    none : (p q : ℕ) → p < 2 → q < 2 → ¬ Knows l4 (record { process = p; position = position_in (At 2 ∷ At 0 ∷ []) p }) q (position_in (At 2 ∷ At 0 ∷ []) q)
    none zero zero lt lt' knows = knows.0 refl
    none zero (suc zero) lt lt' knows = knows_nothing knows.1
    none (suc zero) zero lt lt' knows = (let there = knows.1.beyond.there in absurd (cc))
    none (suc zero) (suc zero) lt lt' knows = knows.0 refl
    none (suc (suc p)) q lt lt' knows = absurd (omega arith)
    none zero (suc (suc q)) lt lt' knows = absurd (omega arith)
    none (suc zero) (suc (suc q)) lt lt' knows = absurd (omega arith)

    up : (d : List Position) → IsConsistentCut l4 (0 ∷ []) d → (p : ℕ) → p < 2 → rank l4 p (position_in d p) ≤ rank l4 p (position_in (At 2 ∷ At 0 ∷ []) p)
    up d one zero lt =
        (let w = two_at_most l4 0 (omega arith) refl first_failed (position_in d 0) (one.is_cut.chosen 0 (omega arith)) in
        let same : rank l4 0 (position_in d 0) ≡ w.0 = ap (rank l4 0) w.1 in
        let few : w.0 ≤ 2 = w.2 in
        omega arith)
    up d one (suc zero) lt =
        (let w = two_at_most l4 0 (omega arith) refl first_failed (position_in d 0) (one.is_cut.chosen 0 (omega arith)) in
        let is = b_is_unborn (position_in d 0) (position_in d 1) w.0 w.1 w.2 (one.is_cut.chosen 1 (omega arith)) (one.consistent 1 0 (omega arith) (omega arith)) in
        let same : rank l4 1 (position_in d 1) ≡ 0 = ap (rank l4 1) is in
        omega arith)
    up d one (suc (suc p)) lt = absurd (omega arith)

-- ---- the run

started : IsObeyed a (Accepts 0 (Begin a) ∷ [])
unfolding accepted
started = begins nothing refl

checked_run : IsObeyed a (Made 0 (act a Check One (Leaf 1)) ∷ Accepts 0 (Begin a) ∷ [])
unfolding epoch current status
checked_run = stepped_on a (Accepts 0 (Begin a) ∷ []) 0 [] (act a Check One (Leaf 1)) _ refl refl started refl (own _ _ refl (grown_leaf 0 1 (omega arith)))

check_run : IsObeyed a (Accepts 0 (told a 1 One (Leaf 1) reported.Check) ∷ Made 0 (act a Check One (Leaf 1)) ∷ Accepts 0 (Begin a) ∷ [])
unfolding epoch current accepted status
check_run = accepted_on a (Accepts 0 (Begin a) ∷ []) 0 [] (Begin a ∷ []) (act a Check One (Leaf 1)) _ refl refl refl checked_run refl first_fit

abbrev after_check : Run
after_check = Accepts 0 (told a 1 One (Leaf 1) reported.Check) ∷ Made 0 (act a Check One (Leaf 1)) ∷ Accepts 0 (Begin a) ∷ []

shown_run : IsObeyed a (Made 0 (act a Present One (Leaf 2)) ∷ after_check)
unfolding epoch current status
shown_run = stepped_on a after_check 0 checked (act a Present One (Leaf 2)) _ refl refl check_run refl (own _ _ refl (grown_leaf 1 2 (omega arith)))

begun_run : IsObeyed a begun
unfolding epoch current accepted status
begun_run = accepted_on a after_check 0 checked l1 (act a Present One (Leaf 2)) _ refl refl refl shown_run refl (second_fit reported.Present refl tt)

begun_premise : IsPremise a shown l2
unfolding epoch current accepted
begun_premise = agrees_now begun_run

-- the event of a's checkpoint
abbrev checkpoint : Event
checkpoint = event_of [] (act a Check One (Leaf 1))

once_events : HasEventsOf a shown l2 (At 2 ∷ []) up_to_checkpoint
once_events = has_events shown l2 (At 2 ∷ []) checkpoint begun_premise refl refl (record { occurs = occurred step; of_process = refl; values = refl }) refl (λ i. refl)

abbrev settled_once : Run
settled_once = Settles (0 ∷ []) (At 2 ∷ []) up_to_checkpoint ∷ begun

once_run : IsObeyed a settled_once
unfolding epoch current accepted
once_run = settled_on a begun shown l2 (0 ∷ []) (At 2 ∷ []) up_to_checkpoint refl refl begun_run one_greatest once_events

abbrev works_on : Run
works_on = Made 0 (act a Work One (Leaf 3)) ∷ settled_once

works_on_run : IsObeyed a works_on
unfolding epoch
works_on_run = left_behind once_run (omega arith)

forks_run : IsObeyed a (Made 1 (act a (Fork b right) left (Leaf 2)) ∷ works_on)
unfolding epoch current status kept
forks_run =
    stepped_on a works_on 1 checked (act a (Fork b right) left (Leaf 2)) _ refl refl works_on_run refl
    (record { grown = grown_leaf 1 2 (omega arith); new_name = refl; not_root = above 98 97 (omega arith); disjoint = apart; not_empty = some_left; child_not_empty = some_right; together = both })

abbrev forked_one : Run
forked_one = Accepts 1 (told a 2 One (Leaf 2) (forked b)) ∷ Made 1 (act a (Fork b right) left (Leaf 2)) ∷ works_on

forked_run : IsObeyed a forked_one
unfolding epoch current accepted status kept
forked_run = accepted_on a works_on 1 checked l1 (act a (Fork b right) left (Leaf 2)) _ refl refl refl forks_run refl (second_fit (forked b) refl (unknown_b, halved))

born_run : IsObeyed a (Made 1 (act b Check right (halves 2 0 1)) ∷ forked_one)
unfolding epoch current status kept
born_run = stepped_on a forked_one 1 forks (act b Check right (halves 2 0 1)) _ refl refl forked_run refl (own _ _ refl (grown_right _ _ 2 2 3 (leaf 2) (has 2 0 1) (omega arith)))

once_settled_run : IsObeyed a once_settled
unfolding epoch current accepted status kept
once_settled_run = accepted_on a forked_one 1 forks l3 (act b Check right (halves 2 0 1)) _ refl refl refl born_run refl child_fit

once_premise : IsPremise a born l4
unfolding epoch current accepted kept
once_premise = agrees_now once_settled_run

no_more : (i : ℕ) → position_in (At 2 ∷ At 0 ∷ []) (suc i) ≡ At 0
no_more zero = refl
no_more (suc i) = refl

twice_events : HasEventsOf a born l4 (At 2 ∷ At 0 ∷ []) up_to_checkpoint
twice_events =
    has_events born l4 (At 2 ∷ At 0 ∷ []) checkpoint once_premise refl refl
    (record { occurs = occurred (occurred step); of_process = refl; values = refl }) refl no_more

abbrev settled_twice : Run
settled_twice = Settles (0 ∷ []) (At 2 ∷ At 0 ∷ []) up_to_checkpoint ∷ once_settled

twice_run : IsObeyed a settled_twice
unfolding epoch current accepted kept
twice_run = settled_on a once_settled born l4 (0 ∷ []) (At 2 ∷ At 0 ∷ []) up_to_checkpoint refl refl once_settled_run two_greatest twice_events

same_id_from : IsObeyed a (Made 2 (act a Check One (Leaf 2)) ∷ settled_twice)
unfolding epoch current status kept
same_id_from = stepped_on a settled_twice 2 checked (act a Check One (Leaf 2)) _ refl refl twice_run refl (own _ _ refl (grown_leaf 1 2 (omega arith)))

pub twice_settled_is_obeyed : TwiceSettledIsObeyed
unfolding epoch current accepted status kept
twice_settled_is_obeyed = accepted_on a settled_twice 2 checked l1 (act a Check One (Leaf 2)) _ refl refl refl same_id_from refl (second_fit reported.Check refl tt)

pub checkpoints_are_current : CheckpointsAreCurrent
unfolding epoch current kept
checkpoints_are_current = refl

pub checkpoints_are_accepted : CheckpointsAreAccepted
unfolding accepted
checkpoints_are_accepted = refl
