-- What is kept stays in step with the history.
use Rattle.std.proofs.Common.{◌≡◌, ◌≢◌, ℕ, suc, ◌+◌, Bool, true, false, Option, Some, None, List, [], ◌∷◌, ◌++◌, length, All, refl, sym, ◌∙◌, ap, subst, append-nil, inl, inr, arith}
use Rattle.std.specs.Prelude.{if◌then◌else◌, ◌&&◌, reverse, slice_get, IsTrue}
use Rattle.std.specs.Option.{option_map}
use Rattle.std.specs.List.{cons_option}
use Rattle.std.specs.Str.{bytes_eq}
use Rattle.std.proofs.lemmas.Bool.{cases_Bool, cond-true, cond-false, true≢false}
use Rattle.id_tree.specs.IdTree.{IdTree, One}
use Rattle.stamp.specs.declared.stamp.Stamp.{Stamp}
use Rattle.event_tree.specs.EventTree.{EventTree, Leaf}
use Rattle.report_line.specs.declared.step.StepKind.{StepKind}
use Rattle.report_line.specs.declared.step.StepKind.TheVariants.{Work, Check, Present, Send, Receive, Fork, Retire, Absorb}
use Rattle.report_line.specs.declared.step.Step.{Step as Taken}
use Rattle.report_line.specs.histories.History.{Name, History, Event, Status, Unborn, Living, Absorbed, status_of_actor, status_of_other, status, event_of, birth_by, sends, sending, birth_of_root}
use Rattle.std.proofs.lemmas.List.{reverse-append}
use Rattle.std.proofs.lemmas.List.Elements.{All-nil, All-push}
use Rattle.indexmap.specs.IndexMap.{get}
use Rattle.report_line.specs.histories.Lawful.{IsAllowed, IsLawful, start, next}
use Rattle.report_line.specs.histories.StepReports.{is_reported, reporting_steps, report_of}
use Rattle.report_line.specs.Names.{is_name}
use Rattle.report_line.specs.declared.report.Report.{Report}
use Rattle.report_line.specs.declared.report.Report.TheVariants.{Begin}
use Rattle.law_admission.specs.HandedOver.{handed_over, HasLine}
use Rattle.law_histories.proofs.Bytes.{bytes_same, bytes_other, bytes_are}
use Rattle.law_histories.proofs.Status.{status_acts, status_others}
use Rattle.law_histories.proofs.Reported.{unborn_reports}
use Rattle.law_histories.proofs.Steps.{fork_of}
use Rattle.driver.proofs.Places.{here, events_stay, events_here, standing_stays}
use Rattle.driver.specs.declared.process_status.ProcessStatus.{ProcessStatus}
use Rattle.driver.specs.declared.process_status.ProcessStatus.TheVariants.{Born, Gone}
use Rattle.driver.specs.declared.tables.Tables.{Tables}
use Rattle.driver.specs.declared.tables.Other.{Other}
use Rattle.driver.specs.working.Made.{Made}
use Rattle.driver.specs.working.Making.{IsReady, HasLineOf, Adds}
use Rattle.driver.specs.working.Tables.{AreSound, history_in, LivesWith, WaitsWith, standing, events_at, shown, carried, reports_after, kept_of_actor, kept_of_other, noted_other, noted_message}

-- the stamp 1;0
abbrev pub first_stamp : Stamp
first_stamp = record { id = One; events = Leaf 0 }

-- names are compared in either order
pub flipped : (p q : Name) → bytes_eq p q ≡ bytes_eq q p
flipped p q =
    elim (cases_Bool (bytes_eq p q)) [
      | inl is ↦ is ∙ sym (bytes_same q p (sym (bytes_are p q is)))
      | inr differs ↦ differs ∙ sym (bytes_other q p (λ e. true≢false (sym (bytes_same p q (sym e)) ∙ differs)))
    ]

-- the actor
more : (d : StepKind) (n : ℕ) → reports_after d n ≡ (if is_reported d then suc n else n)
more d n = (let up : n + 1 ≡ suc n = omega arith in ap (λ (k : ℕ). if is_reported d then k else n) up)

actor_shown : (steps : List Taken) (place : ℕ) (h : History) (s : Taken) (a : StepKind) (n : ℕ) → slice_get steps place ≡ Some s
    → Some (standing steps (kept_of_actor a place n)) ≡ shown (status_of_actor a (event_of h s)) n
actor_shown steps place h s a n at = by_step_kind a
  where
    lives : Some (option_map (λ x. LivesWith x.stamp n) (slice_get steps place)) ≡ Some (Some (LivesWith s.stamp n))
    lives = ap (λ (o : Option Taken). Some (option_map (λ x. LivesWith x.stamp n) o)) at

    by_step_kind : (d : StepKind) → Some (standing steps (kept_of_actor d place n)) ≡ shown (status_of_actor d (event_of h s)) n
    by_step_kind Work = lives
    by_step_kind Check = lives
    by_step_kind Present = lives
    by_step_kind (Send m) = lives
    by_step_kind (Receive m) = lives
    by_step_kind (Fork c i) = lives
    by_step_kind (Retire q) = ap (λ (o : Option Taken). Some (option_map (λ x. WaitsWith x.stamp q) o)) at
    by_step_kind (Absorb r) = lives

counted : (a b : Bool) (n : ℕ) → a ≡ true → (if a && b then suc n else n) ≡ (if b then suc n else n)
counted true b n is = refl
counted false b n is = absurd (cc)

uncounted : (a b : Bool) (n : ℕ) → a ≡ false → (if a && b then suc n else n) ≡ n
uncounted true b n is = absurd (cc)
uncounted false b n is = refl

-- another process: a child begins without reports
other_shown : (steps : List Taken) (root : Name) (h : History) (s : Taken) (p : Name) (kept : Option ProcessStatus) (a : StepKind)
    → ((c : Name) (i : IdTree) → a ≡ Fork c i → status root h c ≡ Unborn) → option_map (standing steps) kept ≡ shown (status root h p) (reporting_steps p h)
    → option_map (standing steps) (noted_other (kept_of_other a s.stamp) p kept) ≡ shown (status_of_other h s a p (status root h p)) (reporting_steps p h)
other_shown steps root h s p kept Work child is_kept = is_kept
other_shown steps root h s p kept Check child is_kept = is_kept
other_shown steps root h s p kept Present child is_kept = is_kept
other_shown steps root h s p kept (Send m) child is_kept = is_kept
other_shown steps root h s p kept (Receive m) child is_kept = is_kept
other_shown steps root h s p kept (Retire q) child is_kept = is_kept
other_shown steps root h s p kept (Fork c i) child is_kept =
    elim (cases_Bool (bytes_eq c p)) [
      | inl is ↦
          (let none : reporting_steps p h ≡ 0 = unborn_reports root h p (ap (status root h) (sym (bytes_are c p is)) ∙ child c i refl) in
          ap (option_map (standing steps)) (cond-true (bytes_eq c p) (Some (Born (record { id = i; events = s.stamp.events }))) kept is)
          ∙ (ap (λ (n : ℕ). Some (Some (LivesWith (record { id = i; events = s.stamp.events }) n))) (sym none)
          ∙ ap (λ (now : Status). shown now (reporting_steps p h)) (sym (cond-true (bytes_eq p c) (Living (birth_by h s c i)) (status root h p) (flipped p c ∙ is)))))
      | inr differs ↦
          ap (option_map (standing steps)) (cond-false (bytes_eq c p) (Some (Born (record { id = i; events = s.stamp.events }))) kept differs)
          ∙ (is_kept ∙ ap (λ (now : Status). shown now (reporting_steps p h)) (sym (cond-false (bytes_eq p c) (Living (birth_by h s c i)) (status root h p) (flipped p c ∙ differs))))
    ]
other_shown steps root h s p kept (Absorb r) child is_kept =
    ap (λ (b : Bool). option_map (standing steps) (if b then Some Gone else kept)) (flipped r p)
    ∙ absorbed_shown (bytes_eq p r) (status root h p) (reporting_steps p h) is_kept
  where
    absorbed_shown : (b : Bool) (now : Status) (n : ℕ) → option_map (standing steps) kept ≡ shown now n
        → option_map (standing steps) (if b then Some Gone else kept) ≡ shown (if b then Absorbed else now) n
    absorbed_shown true now n is = refl
    absorbed_shown false now n is = is

pub known_next : (steps : List Taken) (root : Name) (h : History) (s : Taken) (p : Name) (kept : Option ProcessStatus) (n : ℕ)
    → ((c : Name) (i : IdTree) → s.step_kind ≡ Fork c i → status root h c ≡ Unborn) → n ≡ reports_after s.step_kind (reporting_steps s.process h)
    → option_map (standing steps) kept ≡ shown (status root h p) (reporting_steps p h)
    → option_map (standing (steps ++ s ∷ [])) (if bytes_eq s.process p then Some (kept_of_actor s.step_kind (length steps) n) else noted_other (kept_of_other s.step_kind s.stamp) p kept)
    ≡ shown (status root (s ∷ h) p) (reporting_steps p (s ∷ h))
known_next steps root h s p kept n child count is_kept =
    elim (cases_Bool (bytes_eq s.process p)) [
      | inl is ↦
          (let same = bytes_are s.process p is in
          let counts : n ≡ reporting_steps p (s ∷ h) =
          count ∙ (ap (λ (q : Name). reports_after s.step_kind (reporting_steps q h)) same ∙ (more s.step_kind (reporting_steps p h)
          ∙ sym (counted (bytes_eq p s.process) (is_reported s.step_kind) (reporting_steps p h) (flipped p s.process ∙ is)))) in
          ap (option_map (standing (steps ++ s ∷ []))) (cond-true (bytes_eq s.process p) (Some (kept_of_actor s.step_kind (length steps) n)) (noted_other (kept_of_other s.step_kind s.stamp) p kept) is)
          ∙ (actor_shown (steps ++ s ∷ []) (length steps) h s s.step_kind n (here steps s)
          ∙ (ap (shown (status_of_actor s.step_kind (event_of h s))) counts
          ∙ ap (λ (now : Status). shown now (reporting_steps p (s ∷ h))) (sym (status_acts root h s p (sym same))))))
      | inr differs ↦
          (let other : p ≢ s.process = λ e. true≢false (sym (bytes_same s.process p (sym e)) ∙ differs) in
          ap (option_map (standing (steps ++ s ∷ []))) (cond-false (bytes_eq s.process p) (Some (kept_of_actor s.step_kind (length steps) n)) (noted_other (kept_of_other s.step_kind s.stamp) p kept) differs)
          ∙ (other_shown (steps ++ s ∷ []) root h s p kept s.step_kind child (standing_stays steps s kept (status root h p) (reporting_steps p h) is_kept)
          ∙ (ap (shown (status_of_other h s s.step_kind p (status root h p))) (sym (uncounted (bytes_eq p s.process) (is_reported s.step_kind) (reporting_steps p h) (flipped p s.process ∙ differs)))
          ∙ ap (λ (now : Status). shown now (reporting_steps p (s ∷ h))) (sym (status_others root h s p other)))))
    ]

-- a message
sent_shown : (stands : ℕ → Option EventTree) (b : Bool) (place : ℕ) (kept : Option ℕ) (e : Event) (before : Option Event)
    → stands place ≡ Some e.values → option_map stands kept ≡ carried before → option_map stands (if b then Some place else kept) ≡ carried (if b then Some e else before)
sent_shown stands true place kept e before here is_kept = ap Some here
sent_shown stands false place kept e before here is_kept = is_kept

message_shown : (stands : ℕ → Option EventTree) (h : History) (s : Taken) (m : Name) (place : ℕ) (kept : Option ℕ) (before : Option Event) (a : StepKind)
    → stands place ≡ Some s.stamp.events → option_map stands kept ≡ carried before
    → option_map stands (noted_message a place m kept) ≡ carried (if sends a m then Some (event_of h s) else before)
message_shown stands h s m place kept before Work here is_kept = is_kept
message_shown stands h s m place kept before Check here is_kept = is_kept
message_shown stands h s m place kept before Present here is_kept = is_kept
message_shown stands h s m place kept before (Send n) here is_kept = sent_shown stands (bytes_eq n m) place kept (event_of h s) before here is_kept
message_shown stands h s m place kept before (Receive n) here is_kept = is_kept
message_shown stands h s m place kept before (Fork c i) here is_kept = is_kept
message_shown stands h s m place kept before (Retire q) here is_kept = is_kept
message_shown stands h s m place kept before (Absorb r) here is_kept = is_kept

pub messages_next : (steps : List Taken) (h : History) (s : Taken) (m : Name) (kept : Option ℕ) → option_map (events_at steps) kept ≡ carried (sending h m)
    → option_map (events_at (steps ++ s ∷ [])) (noted_message s.step_kind (length steps) m kept) ≡ carried (sending (s ∷ h) m)
unfolding sending
messages_next steps h s m kept is_kept =
    message_shown (events_at (steps ++ s ∷ [])) h s m (length steps) kept (sending h m) s.step_kind (events_here steps s) (events_stay steps s kept (sending h m) is_kept)

-- the child of an allowed fork is new
pub child_is_new : (root : Name) (h : History) (b : Event) (s : Taken) → IsAllowed root h b s s.step_kind → (c : Name) (i : IdTree) → s.step_kind ≡ Fork c i → status root h c ≡ Unborn
child_is_new root h b s allowed c i is = (fork_of root h b s c i allowed is).new_name

-- ---- the lines of reports

-- with the line of the new report, if there is one
lines_with : (xs : List Report) (o : Option Report) → All HasLine xs → ((r : Report) → o ≡ Some r → HasLine r) → All HasLine (xs ++ cons_option o [])
lines_with xs None all new = subst (λ (l : List Report). All HasLine l) (sym (append-nil xs)) all
lines_with xs (Some r) all new = All-push HasLine xs r all (new r refl)

lines_next : (root : Name) (h : History) (s : Taken) → All HasLine (handed_over root h) → HasLineOf root h s → All HasLine (handed_over root (s ∷ h))
lines_next root h s all new = lines_with (handed_over root h) (report_of root h s) all new

-- the line of BEGIN
first_line : (root : Name) → IsTrue (is_name root) → All HasLine (handed_over root [])
first_line root is = All-push HasLine [] (Begin root) (All-nil HasLine) (refl, is)

-- ---- the tables after a step

-- what holds of tables, with the root and the history as variables
record Holds (t : Tables) (root : Name) (h : History) : Type 0 where
  pub lawful : IsLawful root h
  pub known : (p : Name) → option_map (standing t.steps.items) (get bytes_eq t.known p) ≡ shown (status root h p) (reporting_steps p h)
  pub messages : (m : Name) → option_map (events_at t.steps.items) (get bytes_eq t.messages m) ≡ carried (sending h m)
  pub lines : All HasLine (handed_over root h)

sound_of : (t : Tables) (root : Name) (h : History) → t.root ≡ root → history_in t ≡ h → Holds t root h → AreSound t
sound_of t root h is_root is_history w =
    let there = subst (λ (r : Name). Holds t r (history_in t)) (sym is_root) (subst (λ (g : History). Holds t root g) (sym is_history) w) in
    record { lawful = there.lawful; known = there.known; messages = there.messages; lines = there.lines }

pub adds : (old new : Tables) (made : Made) (name : Name) (place : ℕ) (after : ProcessStatus) (between : Name → Option ProcessStatus) → AreSound old → IsReady old.root (history_in old) made
    → ((q : Name) → between q ≡ noted_other made.other q (get bytes_eq old.known q))
    → name ≡ made.step.process
    → ((q : Name) → get bytes_eq new.known q ≡ (if bytes_eq name q then Some after else between q)) → after ≡ kept_of_actor made.step.step_kind place made.reports
    → place ≡ length old.steps.items → ((m : Name) → get bytes_eq new.messages m ≡ noted_message made.step.step_kind place m (get bytes_eq old.messages m))
    → new.steps.items ≡ old.steps.items ++ made.step ∷ [] → new.root ≡ old.root → new.epoch ≡ old.epoch → Adds old made.step new
adds old new made name place after between sound ready other is_name actor is_after is_place message items root epoch =
    record { root = root; epoch = epoch; history = history; sound = sound_of new old.root (s ∷ h) root history holds }
  where
    s : Taken
    s = made.step

    h : History
    h = history_in old

    history : history_in new ≡ s ∷ h
    history = ap reverse items ∙ reverse-append old.steps.items (s ∷ [])

    known : (p : Name) → option_map (standing new.steps.items) (get bytes_eq new.known p) ≡ shown (status old.root (s ∷ h) p) (reporting_steps p (s ∷ h))
    known p =
        ap (option_map (standing new.steps.items))
        (actor p
        ∙ (ap (λ (n : Name). if bytes_eq n p then Some after else between p) is_name
        ∙ (ap (λ (k : ProcessStatus). if bytes_eq s.process p then Some k else between p) (is_after ∙ ap (λ (n : ℕ). kept_of_actor s.step_kind n made.reports) is_place)
        ∙ ap (λ (o : Option ProcessStatus). if bytes_eq s.process p then Some (kept_of_actor s.step_kind (length old.steps.items) made.reports) else o)
        (other p ∙ ap (λ (o : Option Other). noted_other o p (get bytes_eq old.known p)) ready.changes.other))))
        ∙ (ap (λ (l : List Taken). option_map (standing l) (if bytes_eq s.process p then Some (kept_of_actor s.step_kind (length old.steps.items) made.reports) else noted_other (kept_of_other s.step_kind s.stamp) p (get bytes_eq old.known p)))
        items
        ∙ known_next old.steps.items old.root h s p (get bytes_eq old.known p) made.reports (child_is_new old.root h ready.before s ready.allowed) ready.changes.reports (sound.known p))

    messages : (m : Name) → option_map (events_at new.steps.items) (get bytes_eq new.messages m) ≡ carried (sending (s ∷ h) m)
    messages m =
        ap (option_map (events_at new.steps.items)) (message m)
        ∙ (ap (λ (n : ℕ). option_map (events_at new.steps.items) (noted_message s.step_kind n m (get bytes_eq old.messages m))) is_place
        ∙ (ap (λ (l : List Taken). option_map (events_at l) (noted_message s.step_kind (length old.steps.items) m (get bytes_eq old.messages m))) items
        ∙ messages_next old.steps.items h s m (get bytes_eq old.messages m) (sound.messages m)))

    holds : Holds new old.root (s ∷ h)
    holds = record { lawful = next sound.lawful ready.living ready.allowed; known = known; messages = messages; lines = lines_next old.root h s sound.lines ready.line }

-- ---- the tables at the beginning

root_shown : (steps : List Taken) (root p : Name) (t : Stamp) → t ≡ first_stamp
    → option_map (standing steps) (if bytes_eq root p then Some (Born t) else None) ≡ shown (status root [] p) (reporting_steps p [])
unfolding status
root_shown steps root p t is =
    ap (λ (s : Stamp). option_map (standing steps) (if bytes_eq root p then Some (Born s) else None)) is
    ∙ (ap (λ (b : Bool). option_map (standing steps) (if b then Some (Born first_stamp) else None)) (flipped root p) ∙ by_test (bytes_eq p root))
  where
    by_test : (b : Bool) → option_map (standing steps) (if b then Some (Born first_stamp) else None) ≡ shown (if b then Living (birth_of_root root) else Unborn) 0
    by_test true = refl
    by_test false = refl

none_sent : (m : Name) → carried (sending [] m) ≡ None
unfolding sending
none_sent m = refl

pub begins : (t : Tables) (first : Stamp) (name : Name) (before : Name → Option ProcessStatus) → IsTrue (is_name t.root) → t.steps.items ≡ [] → first ≡ first_stamp → name ≡ t.root
    → ((q : Name) → before q ≡ None)
    → ((q : Name) → get bytes_eq t.known q ≡ (if bytes_eq name q then Some (Born first) else before q))
    → ((q : Name) → get bytes_eq t.messages q ≡ None) → AreSound t
begins t first name before is_named items is_first is_name none known messages =
    sound_of t t.root [] refl (ap reverse items) (record {
      lawful = start;
      known = λ p.
          ap (option_map (standing t.steps.items))
          (known p
          ∙ (ap (λ (o : Option ProcessStatus). if bytes_eq name p then Some (Born first) else o) (none p)
          ∙ ap (λ (n : Name). if bytes_eq n p then Some (Born first) else None) is_name))
          ∙ root_shown t.steps.items t.root p first is_first;
      messages = λ m. ap (option_map (events_at t.steps.items)) (messages m) ∙ sym (none_sent m);
      lines = first_line t.root is_named;
    })
