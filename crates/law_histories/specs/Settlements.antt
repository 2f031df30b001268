-- What happened over any number of settlements, and the current history.
use Rattle.std.specs.Prelude.{ℕ, suc, ◌<◌, if◌then◌else◌, ◌==◌, List, [], ◌∷◌}
use Rattle.report_line.specs.declared.step.Step.{Step}
use Rattle.report_line.specs.histories.History.{Name, History, Event}
use Rattle.report_line.specs.histories.Lawful.{IsLawful}
use Rattle.law_histories.specs.Rules.{IsNewest, Obeys}
use Rattle.law_histories.specs.Kept.{Cut, IsClosed, kept}

-- A step, with the epoch to which its process had returned when it made it (0 before any settlement; a child begins in its
-- parent's). Or a settlement: each process is to return to its position in this cut of the history that was current.
pub data Entry : Type 0 where
  Made : (epoch : ℕ) → (step : Step) → Entry
  Settles : Cut → Entry

-- All steps and settlements, the newest first.
abbrev pub Log : Type 0
Log = List Entry

-- The present epoch: how many settlements there were.
unfoldable pub epoch : Log → ℕ
epoch [] = 0
epoch (Made e s ∷ log) = epoch log
epoch (Settles cut ∷ log) = suc (epoch log)

-- The current history: what the last settlement kept, and the steps since whose process had returned to its position there,
-- or was born of a fork that is itself among these steps.
unfoldable pub current : Log → History
current [] = []
current (Made e s ∷ log) = if e == epoch log then s ∷ current log else current log
current (Settles cut ∷ log) = kept cut (current log)

-- The processes obey the rules. A step of a process that has returned is made from the process's newest event in the
-- current history, which right after a settlement is its position; what it receives was sent, and what it absorbs was
-- retired, by an event of the current history: not by an undone step, nor by one of a process that had not returned. Of the
-- steps of the others nothing is asked. Each settlement returns to a closed cut of the current history.
pub data IsObeyed (root : Name) : Log → Type 0 where
  nothing : IsObeyed root []
  made : {log : Log} {s : Step} {before : Event}
      → IsObeyed root log → IsNewest root (current log) s.process before → Obeys root (current log) before s s.step_kind
      → IsObeyed root (Made (epoch log) s ∷ log)
  left_behind : {log : Log} {e : ℕ} {s : Step} → IsObeyed root log → e < epoch log → IsObeyed root (Made e s ∷ log)
  settled : {log : Log} {cut : Cut} → IsObeyed root log → IsClosed root (current log) cut → IsObeyed root (Settles cut ∷ log)

-- After any steps and settlements the current history is lawful.
abbrev pub CurrentIsLawful : Type 0
CurrentIsLawful = (root : Name) (log : Log) → IsObeyed root log → IsLawful root (current log)
