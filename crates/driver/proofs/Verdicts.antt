-- Which verdict the tests give.
use Rattle.std.proofs.Common.{Err, ◌≡◌, ◌≢◌, ◌<◌, Some, None, refl, sym, ◌∙◌, ap, subst, inl, inr}
use Rattle.report_line.specs.histories.History.{Name, History, Event, Status, Unborn, Living, Retired, status}
use Rattle.driver.specs.declared.step.StepRequest.{StepRequest}
use Rattle.driver.specs.declared.fault.StepFault.{StepFault}
use Rattle.driver.specs.declared.fault.StepFault.TheVariants as faults
use Rattle.driver.specs.Verdicts.{HasNoTarget, IsUnknown, HasRetired, HasItself, HasTakenName, HasNoMessage, HasNoRetirement, IsFullFor, IsClockFull, IsTooDeep, IsVerdict}
use Rattle.id_tree.specs.NormalForm.{depth_limit}
use Rattle.id_tree.specs.Split.{parts_depth}
use Rattle.event_tree.specs.Event.{PassesLimit}
use Rattle.stamp.specs.declared.stamp.Stamp.{Stamp}
use Rattle.driver.specs.declared.step.StepRequest.TheVariants.{Fork, Absorb}
use Rattle.driver.specs.declared.steps.Alive.{Alive}
use Rattle.driver.specs.working.Making.{IsNotAlive, IsAlive, ForkTold, AbsorbTold}

living_not_unborn : (e : Event) → Living e ≢ Unborn
living_not_unborn e is = cc

-- who does not live
pub not_alive : (root : Name) (h : History) (p : Name) (request : StepRequest) (f : StepFault) → ¬ HasNoTarget root h request → IsNotAlive (status root h p) f → IsVerdict root h p request (Some f)
not_alive root h p request f target (inl w) = inl (inl w.1, ap Some w.0)
not_alive root h p request f target (inr w) =
    inr (
      λ u. elim u [
        | inl unborn ↦ subst HasRetired unborn w.1
        | inr none ↦ target none
      ],
      inl (w.1, ap Some w.0),
    )

module _ (root : Name) (h : History) (p : Name) (request : StepRequest) (e : Event) (living : status root h p ≡ Living e) (target : ¬ HasNoTarget root h request) where
  known : ¬ IsUnknown root h p request
  known u = elim u [ inl unborn ↦ living_not_unborn e (sym living ∙ unborn) | inr none ↦ target none ]

  lives : ¬ HasRetired (status root h p)
  lives retired = subst HasRetired living retired

  pub itself : HasItself p request → IsVerdict root h p request (Some faults.SelfTarget)
  itself is = inr (known, inr (lives, inl (is, refl)))

  pub taken : ¬ HasItself p request → HasTakenName root h request → IsVerdict root h p request (Some faults.Taken)
  taken other is = inr (known, inr (lives, inr (other, inl (is, refl))))

  pub no_message : ¬ HasItself p request → ¬ HasTakenName root h request → HasNoMessage h request → IsVerdict root h p request (Some faults.NoMessage)
  no_message other free is = inr (known, inr (lives, inr (other, inr (free, inl (is, refl)))))

  pub no_retirement : ¬ HasItself p request → ¬ HasTakenName root h request → ¬ HasNoMessage h request → HasNoRetirement root h p request → IsVerdict root h p request (Some faults.NotWaiting)
  no_retirement other free sent is = inr (known, inr (lives, inr (other, inr (free, inr (sent, inl (is, refl))))))

  module _ (other : ¬ HasItself p request) (free : ¬ HasTakenName root h request) (sent : ¬ HasNoMessage h request) (waits : ¬ HasNoRetirement root h p request) where
    pub full : IsFullFor h e request → IsVerdict root h p request (Some faults.ClockFull)
    full is = inr (known, inr (lives, inr (other, inr (free, inr (sent, inr (waits, inl (subst (λ (s : Status). IsClockFull h s request) (sym living) is, refl)))))))

    fits : ¬ IsFullFor h e request → ¬ IsClockFull h (status root h p) request
    fits not is = not (subst (λ (s : Status). IsClockFull h s request) living is)

    pub deep : ¬ IsFullFor h e request → IsTooDeep (Living e) request → IsVerdict root h p request (Some faults.TooDeep)
    deep not is = inr (known, inr (lives, inr (other, inr (free, inr (sent, inr (waits, inr (fits not, inl (subst (λ (s : Status). IsTooDeep s request) (sym living) is, refl))))))))

    pub passed : ¬ IsFullFor h e request → ¬ IsTooDeep (Living e) request → IsVerdict root h p request None
    passed not shallow =
        inr (known, inr (lives, inr (other, inr (free, inr (sent, inr (waits, inr (fits not, inr ((λ is. shallow (subst (λ (s : Status). IsTooDeep s request) living is)), refl))))))))

-- an absorption's faults
pub absorb_fault : (root : Name) (h : History) (p r : Name) (e : Event) (a : Alive) (retired : Stamp) (f : StepFault) → IsAlive root h p a → status root h r ≡ Retired e p → AbsorbTold a.stamp.now retired (Err f)
    → f ≢ faults.Memory → IsVerdict root h p (Absorb r) (Some f)
absorb_fault root h p r e a retired f alive waits (inl memory) other = absurd (other memory)
absorb_fault root h p r e a retired f alive waits (inr w) other =
    subst (λ (g : StepFault). IsVerdict root h p (Absorb r) (Some g)) (sym w.0)
    (full root h p (Absorb r) alive.last alive.lives (λ no. no) (λ no. no) (λ no. no) (λ no. no) (λ none. none e waits)
    (subst (λ (s : Stamp). PassesLimit s.id s.events) alive.stamp w.1))

-- a fork's faults
pub fork_fault : (root : Name) (h : History) (p c : Name) (a : Alive) (f : StepFault) → IsAlive root h p a → status root h c ≡ Unborn → ForkTold a.stamp.now (Err f)
    → f ≢ faults.Memory → IsVerdict root h p (Fork c) (Some f)
fork_fault root h p c a f alive unborn (inl memory) other = absurd (other memory)
fork_fault root h p c a f alive unborn (inr (inl w)) other =
    subst (λ (g : StepFault). IsVerdict root h p (Fork c) (Some g)) (sym w.0)
    (full root h p (Fork c) alive.last alive.lives (λ no. no) (λ no. no) (λ taken. taken unborn) (λ no. no) (λ no. no)
    (subst (λ (s : Stamp). PassesLimit s.id s.events) alive.stamp w.1))
fork_fault root h p c a f alive unborn (inr (inr w)) other =
    subst (λ (g : StepFault). IsVerdict root h p (Fork c) (Some g)) (sym w.0)
    (deep root h p (Fork c) alive.last alive.lives (λ no. no) (λ no. no) (λ taken. taken unborn) (λ no. no) (λ no. no)
    (subst (λ (s : Stamp). ¬ PassesLimit s.id s.events) alive.stamp w.1) (subst (λ (s : Stamp). depth_limit < parts_depth s.id) alive.stamp w.2))
