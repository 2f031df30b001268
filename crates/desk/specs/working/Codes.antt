-- How the logic stores what desks are seen as.
use Rattle.std.specs.Prelude.{ℕ, List, Bool, refl}
use Rattle.std.specs.Coded.{Coded, code_by, coded×, coded_ℕ, coded_bool, coded_list}
use Rattle.report_line.specs.working.Codes.{report_code}
use Rattle.report_line.specs.working.SessionCodes.{call_code, reply_code}
use Rattle.report_line.specs.declared.report.Report.{Report}
use Rattle.report_line.specs.declared.call.Call.{Call}
use Rattle.report_line.specs.declared.reply.Reply.{Reply}
use Rattle.chains.specs.Held.{Held}
use Rattle.desk.specs.declared.turn.Turn.{Turn}
use Rattle.record_file.specs.File.{Said}
use Rattle.desk.specs.Desks.{DeskState}

abbrev pub held_code : Coded Held
held_code =
    code_by (List Report × (List ℕ × (ℕ × (ℕ × Bool)))) (coded× (coded_list report_code) (coded× (coded_list coded_ℕ) (coded× coded_ℕ (coded× coded_ℕ coded_bool))))
    (λ h. (h.accepted, (h.epochs, (h.front, (h.epoch, h.stopped)))))
    (λ p. record { accepted = p.0; epochs = p.1.0; front = p.1.1.0; epoch = p.1.1.1.0; stopped = p.1.1.1.1 }) (λ _. refl)

abbrev pub turn_code : Coded Turn
turn_code =
    code_by (Call × (ℕ × Reply)) (coded× call_code (coded× coded_ℕ reply_code)) (λ t. (t.call, (t.receipt.turn, t.receipt.reply)))
    (λ p. record { call = p.0; receipt = record { turn = p.1.0; reply = p.1.1 } }) (λ _. refl)

abbrev pub said_code : Coded Said
said_code = coded× coded_ℕ (coded_list coded_ℕ)

abbrev pub desk_code : {D : Type 0} → Coded D → Coded (DeskState D)
desk_code {D} disk =
    code_by (Held × (Held × (List Said × (List Turn × D)))) (coded× held_code (coded× held_code (coded× (coded_list said_code) (coded× (coded_list turn_code) disk))))
    (λ d. (d.held, (d.opening, (d.found, (d.turns, d.disk)))))
    (λ p. record { held = p.0; opening = p.1.0; found = p.1.1.0; turns = p.1.1.1.0; disk = p.1.1.1.1 }) (λ _. refl)
