-- How the logic stores what passes and their entries are seen as.
use Rattle.std.specs.Prelude.{ℕ, List, refl}
use Rattle.std.specs.Coded.{Coded, code_by, coded×, coded_ℕ, coded_list}
use Rattle.report_line.specs.working.SessionCodes.{reply_code}
use Rattle.report_line.specs.declared.reply.Reply.{Reply}
use Rattle.desk.specs.declared.turn.Turn.{Turn}
use Rattle.desk.specs.working.Codes.{turn_code}
use Rattle.coordinator.specs.Passes.{PassEntry, PassState}

abbrev pub entry_code : Coded PassEntry
entry_code =
    code_by (Turn × Reply) (coded× turn_code reply_code) (λ e. (record { call = e.call; receipt = e.receipt }, e.shown))
    (λ p. record { call = p.0.call; receipt = p.0.receipt; shown = p.1 }) (λ _. refl)

abbrev pub pass_code : Coded PassState
pass_code =
    code_by (ℕ × (ℕ × (ℕ × List PassEntry))) (coded× coded_ℕ (coded× coded_ℕ (coded× coded_ℕ (coded_list entry_code))))
    (λ v. (v.number, (v.front, (v.share, v.entries)))) (λ p. record { number = p.0; front = p.1.0; share = p.1.1.0; entries = p.1.1.1 }) (λ _. refl)
