-- Working definitions: what is noted of a process that a line names, while the steps of a history are gone over.
use Rattle.std.specs.Prelude.{ℕ, ◌-◌, Bool, true, false, not, ◌&&◌, ◌||◌, nat_eq, nat_le, List, Option, Some, None, [], ◌∷◌, length, if◌then◌else◌}
use Rattle.std.specs.List.{list_any, list_all}
use Rattle.std.specs.Option.{option_map, option_map_or, is_some}
use Rattle.std.specs.Str.{bytes_eq}
use Rattle.report_line.specs.declared.step.StepKind.{StepKind}
use Rattle.report_line.specs.declared.step.StepKind.TheVariants.{Work, Check, Present, Send, Receive, Fork, Retire, Absorb}
use Rattle.report_line.specs.declared.step.Step.{Step as Taken}
use Rattle.report_line.specs.histories.History.{Name, History}
use Rattle.chains.specs.declared.position.Position.{Position}
use Rattle.chains.specs.declared.position.Position.TheVariants.{At, Retired}
use Rattle.law_histories.specs.Kept.{Cut}
use Rattle.driver.specs.declared.line.NamedPosition.{NamedPosition}
use Rattle.driver.specs.declared.mark.Mark.{Mark}

-- how many elements there are up to a position, where it is one
abbrev pub wanted : Position → ℕ
wanted (At k) = k
wanted Retired = 0

-- before the birth of the process
abbrev pub fresh : Position → Mark
fresh k = record { position = k; failed = false; missing = wanted k; newest = 0; present = None; retired = false }

-- with an element that lasts, made by the event of this number
abbrev pub lasts : ℕ → Mark → Mark
lasts n m = if nat_eq m.missing 0 then m else record m { missing = m.missing - 1; newest = n }

-- with a report of its own, which may be its present state or its retirement
abbrev pub reports : Option ℕ → Bool → Mark → Mark
reports present retired m = record m { present = present; retired = retired }

-- with a step of its own, whose event has this number
abbrev pub own : StepKind → ℕ → Mark → Mark
own Work n m = m
own Check n m = lasts n (reports None false m)
own Present n m = reports (Some n) false m
own (Send t) n m = m
own (Receive t) n m = m
own (Fork c i) n m = reports None false m
own (Retire q) n m = reports None true m
own (Absorb r) n m = reports None false m

-- with its birth, where the step is the fork
abbrev pub born : StepKind → ℕ → Name → Mark → Mark
born (Fork c i) n p m = if bytes_eq c p then lasts n m else m
born _ n p m = m

-- with a step of any process
abbrev pub seen : Taken → ℕ → Name → Mark → Mark
seen s n p m = if bytes_eq s.process p then own s.step_kind n (born s.step_kind n p m) else born s.step_kind n p m

-- with all steps of a history
abbrev pub walked : History → Name → Mark → Mark
walked [] p m = m
walked (s ∷ h) p m = seen s (length (s ∷ h)) p (walked h p m)

-- with the birth of the root
abbrev pub rooted : Name → Name → Mark → Mark
rooted root p m = if bytes_eq root p then lasts 0 m else m

-- the number of the last event up to its position, where that is an element
abbrev pub last_kept : Mark → ℕ
last_kept m = if nat_eq m.missing 0 then m.newest else option_map_or (λ n. n) m.present 0

abbrev pub stands_at : Position → Mark → Bool
stands_at (At k) m = nat_eq m.missing 0 || (nat_eq m.missing 1 && (is_some m.present && not m.failed))
stands_at Retired m = m.retired

-- whether it has its position, and may return to it
abbrev pub stands : Mark → Bool
stands m = stands_at m.position m

abbrev pub reaches_at : Position → Mark → ℕ → Bool
reaches_at (At k) m n = not (nat_eq k 0) && nat_le n (last_kept m)
reaches_at Retired m n = true

-- whether the event of this number is up to its position
abbrev pub reaches : Mark → ℕ → Bool
reaches m n = reaches_at m.position m n

-- ---- the marks of all processes of a line

-- what is noted of the processes that a line names
abbrev pub Marks : Type 0
Marks = Name → Option Mark

-- by the line alone
abbrev pub named : List NamedPosition → Marks
named [] p = None
named (x ∷ line) p = if bytes_eq p x.name then Some (fresh x.position) else named line p

-- with whether it failed
abbrev pub failing : List Name → Name → Mark → Mark
failing failed p m = if list_any (bytes_eq p) failed then record m { failed = true } else m

-- with the line, the failed processes and all steps
abbrev pub marks_of : Name → History → List Name → List NamedPosition → Marks
marks_of root h failed line p = option_map (λ m. walked h p (rooted root p (failing failed p m))) (named line p)

-- whether the process is named, at another position than 0
abbrev pub is_kept_at : Position → Bool
is_kept_at (At k) = not (nat_eq k 0)
is_kept_at Retired = true

abbrev pub is_kept_in : Option Mark → Bool
is_kept_in mark = option_map_or (λ m. is_kept_at m.position) mark false

-- whether each process of the line stands
abbrev pub all_stand : Marks → List NamedPosition → Bool
all_stand marks line = list_all (λ x. option_map_or stands (marks x.name) false) line

-- whether the event of this process and number is in the line
abbrev pub reached : Marks → Name → ℕ → Bool
reached marks p n = option_map_or (λ m. reaches m n) (marks p) false

-- the cut of the line
abbrev pub cut_by : Marks → Cut
cut_by marks e = reached marks e.process e.number
