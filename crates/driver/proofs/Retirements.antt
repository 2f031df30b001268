-- Whose retirement waits, by what is kept of it.
use Rattle.std.proofs.Common.{◌≡◌, ℕ, true, Option, Some, None, List, get_or, refl, sym, ◌∙◌, ap}
use Rattle.std.specs.Prelude.{slice_get}
use Rattle.std.specs.Option.{option_map}
use Rattle.std.specs.Str.{bytes_eq}
use Rattle.std.proofs.lemmas.Option.{get_or_from_slice_get}
use Rattle.indexmap.specs.IndexMap.{get}
use Rattle.stamp.specs.declared.stamp.Stamp.{Stamp}
use Rattle.report_line.specs.declared.step.Step.{Step as Taken}
use Rattle.report_line.specs.histories.History.{Name, Event, Status, Unborn, Living, Retired, Absorbed, status}
use Rattle.report_line.specs.histories.StepReports.{reporting_steps}
use Rattle.law_histories.proofs.Bytes.{bytes_are}
use Rattle.driver.specs.declared.process_status.ProcessStatus.{ProcessStatus}
use Rattle.driver.specs.declared.process_status.ProcessStatus.TheVariants.{Waits}
use Rattle.driver.specs.declared.tables.Tables.{Tables}
use Rattle.driver.specs.Stamping.{stamp_of}
use Rattle.driver.specs.working.Tables.{AreSound, history_in, Standing, WaitsWith, standing, shown}
use Rattle.driver.proofs.Places.{not_shown}

-- what is kept, as it is shown
told : (t : Tables) (p : Name) (k : ProcessStatus) → AreSound t → get bytes_eq t.known p ≡ Some k
    → Some (standing t.steps.items k) ≡ shown (status t.root (history_in t) p) (reporting_steps p (history_in t))
told t p k sound is = sym (ap (option_map (standing t.steps.items)) is) ∙ sound.known p

-- the step at a place of which something is shown
step_at : (steps : List Taken) (i : ℕ) (f : Taken → Standing) (now : Status) (n : ℕ) → Some (option_map f (slice_get steps i)) ≡ shown now n
    → (s : Taken) × (slice_get steps i ≡ Some s) × (Some (Some (f s)) ≡ shown now n)
step_at steps i f now n is = by_step (slice_get steps i) refl is
  where
    by_step : (o : Option Taken) → slice_get steps i ≡ o → Some (option_map f o) ≡ shown now n → (s : Taken) × (slice_get steps i ≡ Some s) × (Some (Some (f s)) ≡ shown now n)
    by_step None at none = absurd (not_shown now n none)
    by_step (Some s) at some = (s, at, some)

-- whose retirement waits with this stamp
record IsWaitingWith (s : Stamp) (q : Name) (now : Status) : Type 0 where
  pub last : Event
  pub waits : now ≡ Retired last q
  pub stamp : s ≡ stamp_of last

waiting_with : (s : Stamp) (q : Name) (now : Status) (count : ℕ) → Some (Some (WaitsWith s q)) ≡ shown now count → IsWaitingWith s q now
waiting_with s q Unborn count is = absurd (cc)
waiting_with s q (Living e) count is = absurd (cc)
waiting_with s q (Retired e r) count is = record { last = e; waits = ap (Retired e) (sym (same_target is)); stamp = same_stamp is }
  where
    same_stamp : Some (Some (WaitsWith s q)) ≡ Some (Some (WaitsWith (stamp_of e) r)) → s ≡ stamp_of e
    same_stamp is = cc

    same_target : Some (Some (WaitsWith s q)) ≡ Some (Some (WaitsWith (stamp_of e) r)) → q ≡ r
    same_target is = cc
waiting_with s q Absorbed count is = absurd (cc)

waiting_at : (t : Tables) (p : Name) (i : ℕ) (q : Name) → AreSound t → get bytes_eq t.known p ≡ Some (Waits i q)
    → (s : Taken) × (slice_get t.steps.items i ≡ Some s) × IsWaitingWith s.stamp q (status t.root (history_in t) p)
waiting_at t p i q sound is =
    let now = status t.root (history_in t) p in
    let count = reporting_steps p (history_in t) in
    let w = step_at t.steps.items i (λ x. WaitsWith x.stamp q) now count (told t p (Waits i q) sound is) in
    (w.0, w.1, waiting_with w.0.stamp q now count w.2)

-- the step at the place of a retirement into this process
pub retired_into : (t : Tables) (r p : Name) (k : ProcessStatus) (i : ℕ) (q x y : Name) (s : Taken) → AreSound t → Some k ≡ get bytes_eq t.known r → k ≡ Waits i q
    → x ≡ q → y ≡ p → bytes_eq x y ≡ true → s ≡ get_or t.steps.items i s → (e : Event) × (status t.root (history_in t) r ≡ Retired e p) × (s.stamp ≡ stamp_of e)
retired_into t r p k i q x y s sound is_kept is_waiting is_x is_y same there =
    let w = waiting_at t r i q sound (sym is_kept ∙ ap Some is_waiting) in
    let target : q ≡ p = sym is_x ∙ (bytes_are x y same ∙ is_y) in
    (w.2.last, w.2.waits ∙ ap (Retired w.2.last) target, ap (λ (z : Taken). z.stamp) (there ∙ get_or_from_slice_get t.steps.items i w.0 s w.1) ∙ w.2.stamp)
