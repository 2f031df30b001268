-- Parts of what the long-lived `serve` answers.
use Rattle.std.specs.Prelude.{◌≡◌, ◌≢◌, List, [], ℕ, Bool, false}
use Rattle.line_disk.specs.Disk.{View}
use Rattle.client_link.specs.Links.{LinkState}
use Rattle.desk.specs.declared.turn.Turn.{Turn}
use Rattle.recline.specs.Lasting.{Generation, IsLast, MayStop}
use Rattle.recline.specs.declared.lasting.Next.{Next}
use Rattle.recline.specs.declared.lasting.Next.TheVariants as nexts

-- this is the front after the last generation, whose file had not failed, and a door asked for the end
pub record IsLastFront {T D K : Type 0} (is_over : T → Type 0) (keeps : D → Type 0) (view : D → View) (client_told : K → LinkState) (first now : D) (front : ℕ) : Type 0 where
  pub last : Generation D
  pub is_last : IsLast keeps view client_told first now last
  pub front_is : last.after.held.front ≡ front
  pub over : ∥ ((door : T) × is_over door) ∥₁
  pub running : last.after.held.stopped ≡ false

-- What may come after a coordinator that made these turns, and whose file failed or did not: another one only if it made a turn.
abbrev pub MayCome : {T : Type 0} → (T → Type 0) → (T → Type 0) → Bool → List Turn → Next → Type 0
MayCome {T} is_over has_failed stopped turns nexts.Coordinator = turns ≢ []
MayCome {T} is_over has_failed stopped turns nexts.End = ∥ ((door : T) × is_over door) ∥₁ × (stopped ≡ false)
MayCome {T} is_over has_failed stopped turns (nexts.Stop why) = MayStop has_failed stopped why
