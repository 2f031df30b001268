-- A process stands just where it may return to its position, and its mark reaches just the events up to it.
use Rattle.std.proofs.Common.{◌≡◌, ◌≢◌, ℕ, zero, suc, ◌+◌, ◌-◌, ◌≤◌, ◌<◌, ◌↔◌, Bool, true, false, Option, Some, None, if◌then◌else◌, List, [], ◌∷◌, ◌++◌, length, refl, sym, ◌∙◌, ap, subst, inl, inr, arith}
use Rattle.std.specs.Prelude.{not, ◌&&◌, ◌||◌, nat_eq, nat_le, slice_get, Contains}
use Rattle.std.specs.Option.{is_some, option_map, option_map_or}
use Rattle.std.specs.Str.{bytes_eq}
use Rattle.std.proofs.lemmas.Bool.{cases_Bool, cond-true, cond-false, true≢false, cases_lt, eq-eqb, eqb-true, or_cases, and_from}
use Rattle.std.proofs.lemmas.Bool.Decides.{eqb_tells}
use Rattle.std.proofs.lemmas.List.{length-append, length-map}
use Rattle.std.proofs.lemmas.Option.{none-some, same_Some, slice_get-map}
use Rattle.stamp.specs.declared.stamp.Stamp.{Stamp}
use Rattle.report_line.specs.declared.step.StepKind.{StepKind}
use Rattle.report_line.specs.declared.step.StepKind.TheVariants.{Work, Check, Present, Send, Receive, Fork, Retire, Absorb}
use Rattle.report_line.specs.declared.step.Step.{Step}
use Rattle.report_line.specs.histories.History.{Name, History, Event, event_of, birth_by, birth_of_root}
use Rattle.report_line.specs.histories.Lawful.{IsLawful}
use Rattle.report_line.specs.histories.Events.{Occurs, root_birth, step, birth, earlier}
use Rattle.report_line.proofs.Cutting.{and_both}
use Rattle.law_histories.proofs.Bytes.{bytes_are}
use Rattle.chains.specs.declared.position.Position.{Position}
use Rattle.chains.specs.declared.position.Position.TheVariants.{At, Retired}
use Rattle.chains.specs.Processes.{target_of}
use Rattle.chains.specs.Elements.{name_of, elements, stable, stable_of}
use Rattle.chains.specs.Positions.{is_retired, IsChosen}
use Rattle.chains.proofs.Counting.{elements_is}
use Rattle.law_lines.specs.Places.{IsEventAt, place, IsUpTo}
use Rattle.law_lines.proofs.Listed.{at_append, at_front}
use Rattle.law_lines.proofs.Ordered.{one_event}
use Rattle.law_lines.proofs.Folding.{within, is_within}
use Rattle.driver.specs.declared.mark.Mark.{Mark}
use Rattle.driver.specs.Stamping.{stamp_of}
use Rattle.driver.specs.working.Marks.{wanted, last_kept, stands_at, reaches_at}
use Rattle.driver.proofs.ElementEvents.{list_of, reported_of, stable_by, stable_events, stable_is, present_by, present_event, retired_in, retired_is, element_events, elements_are}
use Rattle.driver.proofs.Walked.{Noted, IsNoted, one_at}

-- ---- the events of elements occur

-- an event of the process
abbrev IsOf : Name → History → Name → Event → Type 0
IsOf root h p x = Occurs root h x × (x.process ≡ p)

none_at : (k : ℕ) (x : Event) → slice_get [] k ≡ Some x → ⊥
none_at k x is = cc

-- an event of a list that is there under a test
if_there : (b : Bool) (e x : Event) (k : ℕ) → slice_get (if b then e ∷ [] else []) k ≡ Some x → (b ≡ true) × (e ≡ x)
if_there true e x k is = (refl, (one_at e x k is).1)
if_there false e x k is = absurd (none_at k x is)

event_if : (root : Name) (h : History) (p : Name) (b : Bool) (e x : Event) (k : ℕ) → (b ≡ true → IsOf root h p e) → slice_get (if b then e ∷ [] else []) k ≡ Some x → IsOf root h p x
event_if root h p b e x k of is = (let w = if_there b e x k is in subst (IsOf root h p) w.1 (of w.0))

stable_by_occurs : (root : Name) (h : History) (s : Step) (p : Name) (d : StepKind) (k : ℕ) (x : Event) → s.step_kind ≡ d → slice_get (stable_by h s p d) k ≡ Some x → IsOf root (s ∷ h) p x
stable_by_occurs root h s p Check k x is at = event_if root (s ∷ h) p (bytes_eq p s.process) (event_of h s) x k (λ same. (step, sym (bytes_are p s.process same))) at
stable_by_occurs root h s p (Fork c i) k x is at = event_if root (s ∷ h) p (bytes_eq p c) (birth_by h s c i) x k (λ same. (birth is, sym (bytes_are p c same))) at
stable_by_occurs root h s p Work k x is at = absurd (none_at k x at)
stable_by_occurs root h s p Present k x is at = absurd (none_at k x at)
stable_by_occurs root h s p (Send m) k x is at = absurd (none_at k x at)
stable_by_occurs root h s p (Receive m) k x is at = absurd (none_at k x at)
stable_by_occurs root h s p (Retire q) k x is at = absurd (none_at k x at)
stable_by_occurs root h s p (Absorb r) k x is at = absurd (none_at k x at)

stable_occurs : (root : Name) (h : History) (p : Name) (k : ℕ) (x : Event) → slice_get (stable_events root h p) k ≡ Some x → IsOf root h p x
stable_occurs root [] p k x at = event_if root [] p (bytes_eq p root) (birth_of_root root) x k (λ same. (root_birth, sym (bytes_are p root same))) at
stable_occurs root (s ∷ h) p k x at =
    elim (at_append (stable_events root h p) (stable_by h s p s.step_kind) k x at) [
      | inl old ↦ (let w = stable_occurs root h p k x old in (earlier w.0, w.1))
      | inr new ↦ stable_by_occurs root h s p s.step_kind new.0 x refl new.2
    ]

present_by_occurs : (root : Name) (h : History) (s : Step) (p : Name) (d : StepKind) (o : Option Event) (x : Event) → p ≡ s.process → (o ≡ Some x → IsOf root (s ∷ h) p x) → present_by d (event_of h s) o ≡ Some x → IsOf root (s ∷ h) p x
present_by_occurs root h s p Work o x same before is = before is
present_by_occurs root h s p (Send m) o x same before is = before is
present_by_occurs root h s p (Receive m) o x same before is = before is
present_by_occurs root h s p Present o x same before is = subst (IsOf root (s ∷ h) p) (same_Some (event_of h s) x is) (step, sym same)
present_by_occurs root h s p Check o x same before is = absurd (none-some x is)
present_by_occurs root h s p (Fork c i) o x same before is = absurd (none-some x is)
present_by_occurs root h s p (Retire q) o x same before is = absurd (none-some x is)
present_by_occurs root h s p (Absorb r) o x same before is = absurd (none-some x is)

present_occurs : (root : Name) (h : History) (p : Name) (x : Event) → present_event h p ≡ Some x → IsOf root h p x
present_occurs root [] p x is = absurd (none-some x is)
present_occurs root (s ∷ h) p x is =
    let before : present_event h p ≡ Some x → IsOf root (s ∷ h) p x = λ there. (let w = present_occurs root h p x there in (earlier w.0, w.1)) in
    elim (cases_Bool (bytes_eq p s.process)) [
      | inl same ↦
          present_by_occurs root h s p s.step_kind (present_event h p) x (bytes_are p s.process same) before
          (sym (cond-true (bytes_eq p s.process) (present_by s.step_kind (event_of h s) (present_event h p)) (present_event h p) same) ∙ is)
      | inr other ↦ before (sym (cond-false (bytes_eq p s.process) (present_by s.step_kind (event_of h s) (present_event h p)) (present_event h p) other) ∙ is)
    ]

in_list : (o : Option Event) (k : ℕ) (x : Event) → slice_get (list_of o) k ≡ Some x → o ≡ Some x
in_list None k x is = absurd (none_at k x is)
in_list (Some y) k x is = ap Some (one_at y x k is).1

element_occurs : (root : Name) (h : History) (p : Name) (k : ℕ) (x : Event) → slice_get (element_events root h p) k ≡ Some x → IsOf root h p x
element_occurs root h p k x at =
    elim (at_append (stable_events root h p) (list_of (present_event h p)) k x at) [
      | inl lasts ↦ stable_occurs root h p k x lasts
      | inr shown ↦ present_occurs root h p x (in_list (present_event h p) shown.0 x shown.2)
    ]

-- ---- the last event that is kept, where the position is an element

there_is : (xs : List Event) (j : ℕ) → j < length xs → (x : Event) × (slice_get xs j ≡ Some x)
there_is [] j lt = absurd (omega arith)
there_is (x ∷ xs) zero lt = (x, refl)
there_is (x ∷ xs) (suc j) lt = there_is xs j (omega arith)

at_end : (xs : List Event) (y : Event) → slice_get (xs ++ y ∷ []) (length xs) ≡ Some y
at_end [] y = refl
at_end (x ∷ xs) y = at_end xs y

-- the event of an element, by its number from 0
record IsKeptBy (L : List Event) (P : Option Event) (j : ℕ) (m : Mark) : Type 0 where
  pub event : Event
  pub is_event : slice_get (L ++ list_of P) j ≡ Some event
  pub last : last_kept m ≡ event.number

present_kept : (f : Mark) (L : List Event) (P : Option Event) (b : Bool) (m : Mark) (j : ℕ) → Noted f L P b m → f.missing ≡ suc j → length L ≤ j → suc j ≤ length (L ++ list_of P) → IsKeptBy L P j m
present_kept f L None b m j w want past le = (let len : length (L ++ []) ≡ length L + 0 = length-append L [] in absurd (omega arith))
present_kept f L (Some y) b m j w want past le =
    let len : length (L ++ y ∷ []) ≡ length L + 1 = length-append L (y ∷ []) in
    let missing : m.missing ≡ f.missing - length L = w.missing in
    let j_is : length L ≡ j = omega arith in
    elim (eqb_tells m.missing 0) [
      | inl none ↦ (let z : m.missing ≡ 0 = none.1 in absurd (omega arith))
      | inr some ↦ record {
        event = y;
        is_event = ap (λ (k : ℕ). slice_get (L ++ y ∷ []) k) (sym j_is) ∙ at_end L y;
        last = cond-false (nat_eq m.missing 0) m.newest (option_map_or (λ n. n) m.present 0) some.0 ∙ ap (λ (o : Option ℕ). option_map_or (λ n. n) o 0) w.present;
      }
    ]

kept_by : (f : Mark) (L : List Event) (P : Option Event) (b : Bool) (m : Mark) (j : ℕ) → Noted f L P b m → f.missing ≡ suc j → suc j ≤ length (L ++ list_of P) → IsKeptBy L P j m
kept_by f L P b m j w want le =
    elim (cases_lt j (length L)) [
      | inl lt ↦
          (let there = there_is L j lt in
          let missing : m.missing ≡ f.missing - length L = w.missing in
          let none : m.missing ≡ 0 = omega arith in
          record {
            event = there.0;
            is_event = at_front L (list_of P) j there.0 there.1;
            last = cond-true (nat_eq m.missing 0) m.newest (option_map_or (λ n. n) m.present 0) (eq-eqb m.missing 0 none) ∙ w.newest j there.0 want there.1;
          })
      | inr past ↦ present_kept f L P b m j w want past le
    ]

-- ---- whether it stands, where the position is an element

or_left : (a b : Bool) → a ≡ true → (a || b) ≡ true
or_left a b is = ap (λ (x : Bool). x || b) is

or_right : (a b : Bool) → b ≡ true → (a || b) ≡ true
or_right true b is = refl
or_right false b is = is

not_true : (a : Bool) → not a ≡ true → a ≡ false
not_true true is = absurd (true≢false (sym is))
not_true false is = refl

not_zero : (j : ℕ) → not (nat_eq (suc j) 0) ≡ true
not_zero j =
    elim (eqb_tells (suc j) 0) [
      | inl is ↦ (let z : suc j ≡ 0 = is.1 in absurd (omega arith))
      | inr is ↦ ap not is.0
    ]

-- an element is there, and it is one that lasts where the process failed
abbrev Survives : List Event → Option Event → ℕ → Bool → Type 0
Survives L P k failed = (k ≤ length (L ++ list_of P)) × (failed ≡ true → k ≤ length L)

stood_by : (f : Mark) (L : List Event) (P : Option Event) (b : Bool) (m : Mark) (j : ℕ) → Noted f L P b m → f.missing ≡ suc j
    → (nat_eq m.missing 0 || (nat_eq m.missing 1 && (is_some m.present && not m.failed))) ≡ true → Survives L P (suc j) m.failed
stood_by f L P b m j w want is =
    let missing : m.missing ≡ f.missing - length L = w.missing in
    let len : length (L ++ list_of P) ≡ length L + length (list_of P) = length-append L (list_of P) in
    elim (or_cases (nat_eq m.missing 0) (nat_eq m.missing 1 && (is_some m.present && not m.failed)) is) [
      | inl none ↦ (let z : m.missing ≡ 0 = eqb-true m.missing 0 none in (omega arith, λ failed. omega arith))
      | inr one ↦
          (let both = and_both (nat_eq m.missing 1) (is_some m.present && not m.failed) one in
          let rest = and_both (is_some m.present) (not m.failed) both.1 in
          let z : m.missing ≡ 1 = eqb-true m.missing 1 both.0 in
          let shown : length (list_of P) ≡ 1 = one_shown P (ap is_some (sym w.present) ∙ rest.0) in
          (omega arith, λ failed. absurd (true≢false (sym failed ∙ not_true m.failed rest.1))))
    ]
  where
    one_shown : (o : Option Event) → is_some (option_map (λ x. x.number) o) ≡ true → length (list_of o) ≡ 1
    one_shown None is = absurd (true≢false (sym is))
    one_shown (Some y) is = refl

stands_by : (f : Mark) (L : List Event) (P : Option Event) (b : Bool) (m : Mark) (j : ℕ) → Noted f L P b m → f.missing ≡ suc j → Survives L P (suc j) m.failed
    → (nat_eq m.missing 0 || (nat_eq m.missing 1 && (is_some m.present && not m.failed))) ≡ true
stands_by f L P b m j w want survives =
    let missing : m.missing ≡ f.missing - length L = w.missing in
    elim (cases_lt j (length L)) [
      | inl lt ↦ or_left (nat_eq m.missing 0) _ (eq-eqb m.missing 0 (omega arith))
      | inr past ↦ or_right (nat_eq m.missing 0) _ (shown P w.present missing survives past)
    ]
  where
    lives : (a : Bool) → (a ≡ true → suc j ≤ length L) → length L ≤ j → not a ≡ true
    lives true lasts past = (let lt = lasts refl in absurd (omega arith))
    lives false lasts past = refl

    shown : (o : Option Event) → m.present ≡ option_map (λ x. x.number) o → m.missing ≡ f.missing - length L → Survives L o (suc j) m.failed → length L ≤ j
        → (nat_eq m.missing 1 && (is_some m.present && not m.failed)) ≡ true
    shown None is missing survives past =
        (let len : length (L ++ []) ≡ length L + 0 = length-append L [] in
        let le : suc j ≤ length (L ++ []) = survives.0 in absurd (omega arith))
    shown (Some y) is missing survives past =
        (let len : length (L ++ y ∷ []) ≡ length L + 1 = length-append L (y ∷ []) in
        let le : suc j ≤ length (L ++ y ∷ []) = survives.0 in
        and_from (nat_eq m.missing 1) _ (eq-eqb m.missing 1 (omega arith)) (and_from (is_some m.present) (not m.failed) (ap is_some is) (lives m.failed survives.1 past)))

-- ---- of a process by its number

-- the mark began at this position, and says whether the process failed
pub record IsMarkOf (root : Name) (h : History) (p : Name) (numbers : List ℕ) (i : ℕ) (k : Position) (m : Mark) : Type 0 where
  pub began : Mark
  pub noted : IsNoted root h p began m
  pub position : began.position ≡ k
  pub missing : began.missing ≡ wanted k
  pub failed : (m.failed ≡ true) ↔ Contains numbers i

module _ (root : Name) (h : History) (i : ℕ) (p : Name) (named : name_of (reported_of root h) i ≡ Some p) where
  element_count : length (elements (reported_of root h) i) ≡ length (element_events root h p)
  element_count = ap (λ l. length l) (elements_is (reported_of root h) i p named ∙ elements_are root h p) ∙ length-map (element_events root h p) stamp_of

  stable_count : length (stable (reported_of root h) i) ≡ length (stable_events root h p)
  stable_count =
      ap (λ (o : Option Name). length (option_map_or (λ name. stable_of name (reported_of root h)) o [])) named
      ∙ (ap (λ l. length l) (stable_is root h p) ∙ length-map (stable_events root h p) stamp_of)

  retired_as : is_retired (reported_of root h) i ≡ retired_in h p
  retired_as = ap (λ (o : Option Name). option_map_or (λ name. is_some (target_of name (reported_of root h))) o false) named ∙ retired_is root h p

  event_at : (j : ℕ) (x : Event) → slice_get (element_events root h p) j ≡ Some x → IsEventAt root h (reported_of root h) (place i (At (suc j))) x
  event_at j x at =
      let of = element_occurs root h p j x at in
      record {
        occurs = of.0;
        of_process = named ∙ ap Some (sym of.1);
        values =
            ap (λ (l : List Stamp). option_map (λ y. y.events) (slice_get l j)) (elements_is (reported_of root h) i p named ∙ elements_are root h p)
            ∙ (ap (λ (o : Option Stamp). option_map (λ y. y.events) o) (slice_get-map stamp_of (element_events root h p) j ∙ ap (λ (o : Option Event). option_map stamp_of o) at));
      }

  module _ (numbers : List ℕ) (m : Mark) where
    pub chosen_by : (k : Position) → IsMarkOf root h p numbers i k m → stands_at k m ≡ true → IsChosen (reported_of root h) numbers i k
    chosen_by (At zero) w is = inl refl
    chosen_by (At (suc j)) w is =
        let L = stable_events root h p in
        let P = present_event h p in
        let survives = stood_by w.began L P (retired_in h p) m j w.noted w.missing is in
        let all : length (elements (reported_of root h) i) ≡ length (element_events root h p) = element_count in
        let some : length (stable (reported_of root h) i) ≡ length L = stable_count in
        let le : suc j ≤ length (element_events root h p) = survives.0 in
        inr (omega arith, omega arith, λ contains. (let lasts : suc j ≤ length L = survives.1 (w.failed.1 contains) in omega arith))
    chosen_by Retired w is = inr (retired_as ∙ (sym w.noted.retired ∙ is))

    pub chosen_stands : (k : Position) → IsMarkOf root h p numbers i k m → IsChosen (reported_of root h) numbers i k → stands_at k m ≡ true
    chosen_stands (At zero) w chosen =
        (let missing : m.missing ≡ w.began.missing - length (stable_events root h p) = w.noted.missing in
        let want : w.began.missing ≡ 0 = w.missing in
        or_left (nat_eq m.missing 0) _ (eq-eqb m.missing 0 (omega arith)))
    chosen_stands (At (suc j)) w chosen =
        let L = stable_events root h p in
        let P = present_event h p in
        let all : length (elements (reported_of root h) i) ≡ length (element_events root h p) = element_count in
        let some : length (stable (reported_of root h) i) ≡ length L = stable_count in
        elim chosen [
          | inl first ↦ absurd (not_first j first)
          | inr there ↦
              (let le : suc j ≤ length (elements (reported_of root h) i) = there.1 in
              stands_by w.began L P (retired_in h p) m j w.noted w.missing
              (omega arith, λ failed. (let lasts : suc j ≤ length (stable (reported_of root h) i) = there.2 (w.failed.0 failed) in omega arith)))
        ]
      where
        not_first : (n : ℕ) → At (suc n) ≢ At 0
        not_first n is = cc
    chosen_stands Retired w chosen =
        elim chosen [
          | inl first ↦ absurd (not_there first)
          | inr there ↦ w.noted.retired ∙ (sym retired_as ∙ there)
        ]
      where
        not_there : Retired ≢ At 0
        not_there is = cc

    module _ (lawful : IsLawful root h) where
      pub reached_up_to : (k : Position) (e : Event) → IsMarkOf root h p numbers i k m → IsChosen (reported_of root h) numbers i k → (reaches_at k m e.number ≡ true) ↔ IsUpTo root h (reported_of root h) i k e
      reached_up_to (At zero) e w chosen = (λ is. true≢false (sym is), λ never. absurd never)
      reached_up_to Retired e w chosen = (λ is. tt, λ any. refl)
      reached_up_to (At (suc j)) e w chosen =
          let L = stable_events root h p in
          let P = present_event h p in
          let all : length (elements (reported_of root h) i) ≡ length (element_events root h p) = element_count in
          let there : suc j ≤ length (element_events root h p) = up_there j chosen all in
          let last = kept_by w.began L P (retired_in h p) m j w.noted w.missing there in
          let at = event_at j last.event last.is_event in (
            λ is. (last.event, at, subst (λ (n : ℕ). e.number ≤ n) last.last (within e.number (last_kept m) (and_both (not (nat_eq (suc j) 0)) (nat_le e.number (last_kept m)) is).1)),
            λ up.
                (let same : up.0 ≡ last.event = one_event root h (reported_of root h) lawful (place i (At (suc j))) up.0 last.event up.1 at in
                and_from (not (nat_eq (suc j) 0)) (nat_le e.number (last_kept m)) (not_zero j)
                (is_within e.number (last_kept m) (subst (λ (n : ℕ). e.number ≤ n) (ap (λ (x : Event). x.number) same ∙ sym last.last) up.2))),
          )
        where
          up_there : (n : ℕ) → IsChosen (reported_of root h) numbers i (At (suc n)) → length (elements (reported_of root h) i) ≡ length (element_events root h p) → suc n ≤ length (element_events root h p)
          up_there n (inl first) all = absurd (not_first n first)
            where
              not_first : (k : ℕ) → At (suc k) ≢ At 0
              not_first k is = cc
          up_there n (inr there) all = (let le : suc n ≤ length (elements (reported_of root h) i) = there.1 in omega arith)
