-- What stands at a place of the steps.
use Rattle.std.proofs.Common.{◌≡◌, ℕ, zero, suc, Option, Some, None, List, [], ◌∷◌, ◌++◌, length, refl, sym, ap}
use Rattle.std.specs.Prelude.{slice_get}
use Rattle.std.specs.Option.{option_map}
use Rattle.std.proofs.lemmas.Option.{none-some, same_Some}
use Rattle.event_tree.specs.EventTree.{EventTree}
use Rattle.report_line.specs.declared.step.Step.{Step as Taken}
use Rattle.report_line.specs.histories.History.{Event, Status, Unborn, Living, Retired, Absorbed}
use Rattle.driver.specs.declared.process_status.ProcessStatus.{ProcessStatus}
use Rattle.driver.specs.declared.process_status.ProcessStatus.TheVariants.{Born, Lives, Waits, Gone}
use Rattle.driver.specs.Stamping.{stamp_of}
use Rattle.driver.specs.working.Tables.{Standing, LivesWith, WaitsWith, IsGone, standing, shown, events_at, carried}

-- a step more leaves what stands at the earlier places
stays : (X : Type 0) (f : Taken → X) (steps : List Taken) (s : Taken) (i : ℕ) (x : X) → option_map f (slice_get steps i) ≡ Some x → option_map f (slice_get (steps ++ s ∷ []) i) ≡ Some x
stays X f [] s i x is = absurd (cc)
stays X f (y ∷ steps) s zero x is = is
stays X f (y ∷ steps) s (suc i) x is = stays X f steps s i x is

-- and stands at the next place
pub here : (steps : List Taken) (s : Taken) → slice_get (steps ++ s ∷ []) (length steps) ≡ Some s
here [] s = refl
here (y ∷ steps) s = here steps s

pub events_here : (steps : List Taken) (s : Taken) → events_at (steps ++ s ∷ []) (length steps) ≡ Some s.stamp.events
events_here steps s = ap (option_map (λ x. x.stamp.events)) (here steps s)

pub events_stay : (steps : List Taken) (s : Taken) (kept : Option ℕ) (sent : Option Event) → option_map (events_at steps) kept ≡ carried sent
    → option_map (events_at (steps ++ s ∷ [])) kept ≡ carried sent
events_stay steps s None sent is = is
events_stay steps s (Some i) None is = absurd (none-some (events_at steps i) (sym is))
events_stay steps s (Some i) (Some e) is =
    ap Some (stays EventTree (λ x. x.stamp.events) steps s i e.values (same_Some (events_at steps i) (Some e.values) is))

-- ---- how processes stand

pub not_shown : (now : Status) (n : ℕ) → (let none : Option (Option Standing) = Some None in none ≡ shown now n) → ⊥
not_shown Unborn n is = cc
not_shown (Living e) n is = cc
not_shown (Retired e q) n is = cc
not_shown Absorbed n is = cc

stands_on : (steps : List Taken) (s : Taken) (k : ProcessStatus) (w : Standing) → standing steps k ≡ Some w → standing (steps ++ s ∷ []) k ≡ Some w
stands_on steps s (Born t) w is = is
stands_on steps s (Lives i n) w is = stays Standing (λ x. LivesWith x.stamp n) steps s i w is
stands_on steps s (Waits i q) w is = stays Standing (λ x. WaitsWith x.stamp q) steps s i w is
stands_on steps s Gone w is = is

pub standing_stays : (steps : List Taken) (s : Taken) (kept : Option ProcessStatus) (now : Status) (n : ℕ) → option_map (standing steps) kept ≡ shown now n
    → option_map (standing (steps ++ s ∷ [])) kept ≡ shown now n
standing_stays steps s None now n is = is
standing_stays steps s (Some k) now n is = by_status now is
  where
    on : (w : Standing) → Some (standing steps k) ≡ Some (Some w) → Some (standing (steps ++ s ∷ []) k) ≡ Some (Some w)
    on w e = ap Some (stands_on steps s k w (same_Some (standing steps k) (Some w) e))

    by_status : (st : Status) → Some (standing steps k) ≡ shown st n → Some (standing (steps ++ s ∷ []) k) ≡ shown st n
    by_status Unborn e = absurd (none-some (standing steps k) (sym e))
    by_status (Living last) e = on (LivesWith (stamp_of last) n) e
    by_status (Retired last q) e = on (WaitsWith (stamp_of last) q) e
    by_status Absorbed e = on IsGone e
