-- The current history in the words of its definition, with each return told; and that the epochs of steps say the same.
use Rattle.std.specs.Prelude.{◌≡◌, ℕ, suc, Bool, true, false, if◌then◌else◌, ◌==◌, List, [], ◌∷◌, length}
use Rattle.report_line.specs.declared.step.Step.{Step}
use Rattle.report_line.specs.histories.History.{History}
use Rattle.law_histories.specs.Kept.{Cut, kept}
use Rattle.law_histories.specs.Settlements.{Made, Settles, Log, current}

-- Which process: the root, 0, or the one born by the fork at this moment. Names may be used again, and this is not.
abbrev pub Life : Type 0
Life = ℕ

-- A process made a step; or it returned to its position in the newest settlement; or there was a settlement.
pub data Moment : Type 0 where
  Steps : Life → Step → Moment
  Returns : Life → Moment
  SettlesOn : Cut → Moment

-- All that happened, the newest first. Moments are counted from 1.
abbrev pub Account : Type 0
Account = List Moment

-- Whether the process returned since the newest settlement, or was born since of a fork by a process of which this holds; where
-- there is none, it holds of all.
unfoldable pub is_back : Account → Life → Bool
is_back [] life = true
is_back (Steps who s ∷ moments) life = if life == suc (length moments) then is_back moments who else is_back moments life
is_back (Returns who ∷ moments) life = if life == who then true else is_back moments life
is_back (SettlesOn cut ∷ moments) life = false

-- The settled history followed by the steps made since whose process had by then returned, or was born of a fork among them.
unfoldable pub current_told : Account → History
current_told [] = []
current_told (Steps who s ∷ moments) = if is_back moments who then s ∷ current_told moments else current_told moments
current_told (Returns who ∷ moments) = current_told moments
current_told (SettlesOn cut ∷ moments) = kept cut (current_told moments)

-- how many settlements there were
unfoldable pub settlements : Account → ℕ
settlements [] = 0
settlements (Steps who s ∷ moments) = settlements moments
settlements (Returns who ∷ moments) = settlements moments
settlements (SettlesOn cut ∷ moments) = suc (settlements moments)

-- The epoch to which the process has returned: 0 before any settlement; a child begins in its parent's.
unfoldable pub epoch_of : Account → Life → ℕ
epoch_of [] life = 0
epoch_of (Steps who s ∷ moments) life = if life == suc (length moments) then epoch_of moments who else epoch_of moments life
epoch_of (Returns who ∷ moments) life = if life == who then settlements moments else epoch_of moments life
epoch_of (SettlesOn cut ∷ moments) life = epoch_of moments life

-- the steps with their epochs, and the settlements
unfoldable pub log_of : Account → Log
log_of [] = []
log_of (Steps who s ∷ moments) = Made (epoch_of moments who) s ∷ log_of moments
log_of (Returns who ∷ moments) = log_of moments
log_of (SettlesOn cut ∷ moments) = Settles cut ∷ log_of moments

abbrev pub EpochsTellReturns : Type 0
EpochsTellReturns = (moments : Account) → current_told moments ≡ current (log_of moments)
