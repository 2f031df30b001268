-- A run without its reports is a log of steps and settlements.
use Rattle.std.proofs.Common.{◌≡◌, ℕ, suc, ◌<◌, cond, [], ◌∷◌, refl, sym, ◌∙◌, ap, subst}
use Rattle.std.specs.Prelude.{◌==◌}
use Rattle.report_line.specs.histories.History.{Name, History}
use Rattle.law_histories.specs.Rules.{IsNewest, Obeys}
use Rattle.law_histories.specs.Kept.{IsClosed, kept}
use Rattle.law_histories.specs.Settlements.{Made as LogMade, epoch as epoch_in, current as current_in, IsObeyed as IsObeyedLog, nothing as log_nothing, made as log_made, left_behind as log_left_behind, settled as log_settled}
use Rattle.law_lines.specs.Runs.{Made, Accepts, Settles, Run, epoch, current, accepted, IsObeyed, nothing, made, left_behind, begins, reports, settles, log_of, RunsAreLogs}
use Rattle.law_lines.proofs.SettledAgreeing.{closed}
use Rattle.law_lines.proofs.Runs.{agrees_now}

epoch_same : (run : Run) → epoch_in (log_of run) ≡ epoch run
unfolding epoch_in epoch log_of
epoch_same [] = refl
epoch_same (Made e s ∷ run) = epoch_same run
epoch_same (Accepts mark r ∷ run) = epoch_same run
epoch_same (Settles failed line cut ∷ run) = ap suc (epoch_same run)

current_same : (run : Run) → current_in (log_of run) ≡ current run
unfolding current_in current log_of
current_same [] = refl
current_same (Made e s ∷ run) =
    ap (λ (n : ℕ). cond (e == n) (s ∷ current_in (log_of run)) (current_in (log_of run))) (epoch_same run) ∙ ap (λ (h : History). cond (e == epoch run) (s ∷ h) h) (current_same run)
current_same (Accepts mark r ∷ run) = current_same run
current_same (Settles failed line cut ∷ run) = ap (kept cut) (current_same run)

log_obeyed : {root : Name} {run : Run} → IsObeyed root run → IsObeyedLog root (log_of run)
unfolding log_of
log_obeyed nothing = log_nothing
log_obeyed {root} (made {run = run} {s = s} {before = b} obeyed newest obeys) =
    subst (λ (n : ℕ). IsObeyedLog root (LogMade n s ∷ log_of run)) (epoch_same run)
    (log_made (log_obeyed obeyed) (subst (λ (h : History). IsNewest root h s.process b) (sym (current_same run)) newest)
    (subst (λ (h : History). Obeys root h b s s.step_kind) (sym (current_same run)) obeys))
log_obeyed (left_behind {run = run} {e = e} obeyed old) = log_left_behind (log_obeyed obeyed) (subst (λ (n : ℕ). e < n) (sym (epoch_same run)) old)
log_obeyed (begins obeyed empty) = log_obeyed obeyed
log_obeyed (reports obeyed marked fit) = log_obeyed obeyed
log_obeyed {root} (settles {run = run} {failed = failed} {line = line} {cut = cut} obeyed greatest has) =
    log_settled (log_obeyed obeyed)
    (subst (λ (h : History). IsClosed root h cut) (sym (current_same run)) (closed root (current run) (accepted run) failed line (agrees_now obeyed) cut greatest.is_one has))

pub runs_are_logs : RunsAreLogs
runs_are_logs root run obeyed = (log_obeyed obeyed, current_same run)
