-- A process is back exactly where the epoch that it returned to is the present one.
use Rattle.std.proofs.Common.{◌≡◌, ℕ, suc, ◌≤◌, ◌<◌, ◌≢◌, true, false, [], ◌∷◌, refl, sym, ◌∙◌, ap, inl, inr, nat_eq, arith}
use Rattle.std.proofs.lemmas.Bool.{cases_eq, cases_lt, cond-true, cond-false}
use Rattle.report_line.specs.declared.step.Step.{Step}
use Rattle.report_line.specs.histories.History.{History}
use Rattle.law_histories.specs.Kept.{kept}
use Rattle.law_histories.specs.Settlements.{Made, epoch, current}
use Rattle.law_histories.specs.Returns.{Life, Steps, Returns, SettlesOn, Account, is_back, current_told, settlements, epoch_of, log_of, EpochsTellReturns}
use Rattle.law_histories.proofs.Current.{current_made, current_left}

epoch_at_most : (moments : Account) (life : Life) → epoch_of moments life ≤ settlements moments
unfolding epoch_of settlements
epoch_at_most [] life = omega arith
epoch_at_most (Steps who s ∷ moments) life =
    let first : epoch_of moments who ≤ settlements moments = epoch_at_most moments who in
    let second : epoch_of moments life ≤ settlements moments = epoch_at_most moments life in
    grind arith
epoch_at_most (Returns who ∷ moments) life =
    let before : epoch_of moments life ≤ settlements moments = epoch_at_most moments life in
    grind arith
epoch_at_most (SettlesOn cut ∷ moments) life = (let before : epoch_of moments life ≤ settlements moments = epoch_at_most moments life in omega arith)

same_epoch : (n : ℕ) → nat_eq n n ≡ true
same_epoch n = grind arith

lower_epoch : (m n : ℕ) → m < n → nat_eq m n ≡ false
lower_epoch m n less = grind arith

back_is_present : (moments : Account) (life : Life) → is_back moments life ≡ nat_eq (epoch_of moments life) (settlements moments)
unfolding is_back epoch_of settlements
back_is_present [] life = refl
back_is_present (Steps who s ∷ moments) life =
    let first = back_is_present moments who in
    let second = back_is_present moments life in
    grind arith
back_is_present (Returns who ∷ moments) life =
    let before = back_is_present moments life in
    let same = same_epoch (settlements moments) in
    grind arith
back_is_present (SettlesOn cut ∷ moments) life =
    let most : epoch_of moments life ≤ settlements moments = epoch_at_most moments life in
    sym (lower_epoch (epoch_of moments life) (suc (settlements moments)) (omega arith))

epoch_of_log : (moments : Account) → epoch (log_of moments) ≡ settlements moments
unfolding epoch log_of settlements
epoch_of_log [] = refl
epoch_of_log (Steps who s ∷ moments) = epoch_of_log moments
epoch_of_log (Returns who ∷ moments) = epoch_of_log moments
epoch_of_log (SettlesOn cut ∷ moments) = ap suc (epoch_of_log moments)

other_epoch : (m n : ℕ) → m ≢ n → nat_eq m n ≡ false
other_epoch m n differs = grind arith

below_present : (m n k : ℕ) → m ≤ n → m ≢ n → k ≡ n → m < k
below_present m n k most differs same = elim (cases_lt m n) [ inl less ↦ (omega arith) | inr not_less ↦ absurd (differs (omega arith)) ]

told_step : (moments : Account) (who : Life) (s : Step) → current_told moments ≡ current (log_of moments)
    → current_told (Steps who s ∷ moments) ≡ current (Made (epoch_of moments who) s ∷ log_of moments)
unfolding current_told
told_step moments who s same =
    let present = back_is_present moments who in
    let now = epoch_of_log moments in
    elim (cases_eq (epoch_of moments who) (settlements moments)) [
      | inl is ↦
          (let back : is_back moments who ≡ true = present ∙ (ap (λ n. nat_eq n (settlements moments)) is ∙ same_epoch (settlements moments)) in
          cond-true (is_back moments who) _ _ back ∙ (ap (λ (h : History). s ∷ h) same
          ∙ (sym (current_made (log_of moments) s) ∙ ap (λ n. current (Made n s ∷ log_of moments)) (now ∙ sym is))))
      | inr differs ↦
          (let away : is_back moments who ≡ false = present ∙ other_epoch (epoch_of moments who) (settlements moments) differs in
          cond-false (is_back moments who) _ _ away ∙ (same ∙ sym (current_left (log_of moments) (epoch_of moments who) s (let most : epoch_of moments who ≤ settlements moments = epoch_at_most moments who in below_present (epoch_of moments who) (settlements moments) (epoch (log_of moments)) most differs now))))
    ]

pub epochs_tell_returns : EpochsTellReturns
unfolding current_told log_of current
epochs_tell_returns [] = refl
epochs_tell_returns (Steps who s ∷ moments) = told_step moments who s (epochs_tell_returns moments)
epochs_tell_returns (Returns who ∷ moments) = epochs_tell_returns moments
epochs_tell_returns (SettlesOn cut ∷ moments) = ap (kept cut) (epochs_tell_returns moments)
