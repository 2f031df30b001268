-- After any steps and settlements the current history is lawful.
use Rattle.std.proofs.Common.{◌≡◌, ℕ, ◌<◌, ◌∷◌, refl, sym, subst, arith}
use Rattle.report_line.specs.declared.step.Step.{Step}
use Rattle.report_line.specs.histories.History.{Name, History}
use Rattle.report_line.specs.histories.Lawful.{IsLawful, start}
use Rattle.law_histories.proofs.Rules.{obeying_is_lawful}
use Rattle.law_histories.specs.Kept.{Cut, kept}
use Rattle.law_histories.specs.Settlements.{Made, Settles, Log, epoch, current, IsObeyed, nothing, made, left_behind, settled, CurrentIsLawful}
use Rattle.law_histories.proofs.Keeping.{kept_is_lawful}

pub current_made : (log : Log) (s : Step) → current (Made (epoch log) s ∷ log) ≡ s ∷ current log
unfolding current
current_made log s = grind arith

pub current_left : (log : Log) (e : ℕ) (s : Step) → e < epoch log → current (Made e s ∷ log) ≡ current log
unfolding current
current_left log e s old = grind arith

pub current_settled : (log : Log) (cut : Cut) → current (Settles cut ∷ log) ≡ kept cut (current log)
unfolding current
current_settled log cut = refl

pub current_lawful : {root : Name} {log : Log} → IsObeyed root log → IsLawful root (current log)
unfolding current
current_lawful nothing = start
current_lawful {root} (made {log = log} {s = s} {before = b} obeyed newest obeys) =
    subst (λ (h : History). IsLawful root h) (sym (current_made log s)) (obeying_is_lawful root (current log) s b (current_lawful obeyed) newest obeys)
current_lawful {root} (left_behind {log = log} {e = e} {s = s} obeyed old) =
    subst (λ (h : History). IsLawful root h) (sym (current_left log e s old)) (current_lawful obeyed)
current_lawful {root} (settled {log = log} {cut = cut} obeyed closed) = kept_is_lawful root (current log) cut (current_lawful obeyed) closed

pub current_is_lawful : CurrentIsLawful
current_is_lawful root log obeyed = current_lawful obeyed
