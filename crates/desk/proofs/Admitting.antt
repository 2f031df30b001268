-- Records that are admitted one by one.
use Rattle.std.proofs.Common.{◌≡◌, ◌≢◌, inl, inr, refl, ℕ, ◌+◌, ◌<◌, List, [], ◌∷◌, ◌++◌, length, take, drop, get_or, sym, ◌∙◌, ap, subst, take-append-drop, arith}
use Rattle.std.specs.Prelude.{Vec, ⊤}
use Rattle.std.specs.declared.alloc.Global.{Global}
use Rattle.std.proofs.lemmas.List.{map_push, take_more, drop_more, map-append, length-map, length-take-le}
use Rattle.record_file.specs.File.{Said, Stands}
use Rattle.record_file.specs.Kept.{said_in}
use Rattle.report_line.proofs.OneCall.{one_call}
use Rattle.report_line.specs.Spelling.{spelling, HasSpelling}
use Rattle.report_line.specs.Replies.{code_number}
use Rattle.report_line.specs.declared.code.Code.TheVariants.{OutOfMemory}
use Rattle.report_line.specs.declared.report.Report.{Report}
use Rattle.report_line.specs.declared.report.Report.TheVariants.{Begin, Numbered}
use Rattle.report_line.specs.declared.marked.MarkedReport.{MarkedReport}
use Rattle.report_line.specs.declared.call.Call.{Call}
use Rattle.report_line.specs.declared.call.Call.TheVariants as calls
use Rattle.report_line.specs.declared.reply.Reply.TheVariants as replies
use Rattle.chains.specs.declared.refusal.No.{No}
use Rattle.chains.specs.Processes.{Name}
use Rattle.chains.specs.Answers.{IsSettleRefusal}
use Rattle.chains.specs.Turns.{Fate, fine, memory, before, unknown, IsDeviceFree, IsReportTurn}
use Rattle.chains.proofs.Certain.{sure_number}
use Rattle.chains.specs.Held.{Held}
use Rattle.desk.specs.Records.{marked, IsBegin, IsRecorded, IsLineOf, Admits, Opens, one_more}
use Rattle.desk.specs.Openings.{Reaches, IsReportRefusedBy, IsSettlementRefusedBy, IsRefusedWithEpoch, IsCallRefusedBy, RefusesRecords, RefusesFile}
use Rattle.desk.specs.working.Reading.{IsUnread, RefusesCall, RefusesRecord, IsFaultOfRefusal}
use Rattle.desk.specs.declared.fault.DeskFault.{DeskFault}
use Rattle.desk.specs.declared.fault.DeskFault.TheVariants.{Foreign, Damaged, Line, Refused, Device, Memory}

-- ---- one record, by the call that its line is read as

module _ (epoch : ℕ) (line : List ℕ) (call : Call) (has : HasSpelling call) (is : line ≡ spelling call) where
  pub line_of_call : IsRecorded call → IsLineOf (epoch, line) call
  line_of_call recorded = record { spelled = has; recorded = recorded; line = is }

  none_recorded : ¬ IsRecorded call → (other : Call) → ¬ IsLineOf (epoch, line) other
  none_recorded not other of_other = not (subst IsRecorded (other_is other of_other) of_other.recorded)
    where
      other_is : (c : Call) → IsLineOf (epoch, line) c → c ≡ call
      other_is c l = one_call c call l.spelled has (sym l.line ∙ is)

  pub refuses_record : (held : Held) (k : ℕ) (fault : DeskFault) → RefusesCall held k epoch call fault → RefusesRecord held k (epoch, line) fault
  refuses_record held k (Line j) refused = (refused.0, none_recorded refused.1)
  refuses_record held k (Refused j code) refused = (refused.0, (call, line_of_call refused.1, refused.2))
  refuses_record held k Memory refused = tt
  refuses_record held k Foreign refused = refused
  refuses_record held k (Damaged j) refused = refused
  refuses_record held k Device refused = refused

-- a line that is read as no call
pub unread_record : (held : Held) (k epoch : ℕ) (line : List ℕ) (fault : DeskFault) → IsUnread k line fault → RefusesRecord held k (epoch, line) fault
unread_record held k epoch line (Line j) unread = (unread.0, λ call l. unread.1 call l.spelled l.line)
unread_record held k epoch line (Refused j code) unread = absurd unread
unread_record held k epoch line Memory unread = tt
unread_record held k epoch line Foreign unread = unread
unread_record held k epoch line (Damaged j) unread = unread
unread_record held k epoch line Device unread = unread

-- ---- refusals

fault_is : (held : Held) (k epoch : ℕ) (call : Call) (refusal : No) (fault : DeskFault) → IsRecorded call → ((refusal.code ≢ OutOfMemory) → IsCallRefusedBy held epoch call (code_number refusal.code)) → IsFaultOfRefusal k refusal fault → RefusesCall held k epoch call fault
fault_is held k epoch call refusal fault recorded refused (inl wanting) = subst (λ (f : DeskFault). RefusesCall held k epoch call f) (sym wanting.1) tt
fault_is held k epoch call refusal fault recorded refused (inr (other, is)) = subst (λ (f : DeskFault). RefusesCall held k epoch call f) (sym is) (refl, recorded, refused other)

report_refused : (held : Held) (m : MarkedReport) (refusal : No) (fate : Fate) (after : Held) → IsDeviceFree fate → IsReportTurn fate held m (replies.No refusal.code refusal.name refusal.value) after → refusal.code ≢ OutOfMemory
    → IsReportRefusedBy held m (code_number refusal.code)
report_refused held m refusal fine after free t other = inr (refusal.code, refusal.name, refusal.value, refl, t.0)
report_refused held m refusal memory after free t other = absurd (other (let e = t.3 in cc))
report_refused held m refusal before after free t other = absurd free
report_refused held m refusal unknown after free t other = absurd free

present : (epoch now : ℕ) → ¬ (⊤ × (epoch ≢ now)) → epoch ≡ now
present epoch now not = sure_number epoch now (λ other. not (tt, other))

with_epoch : (held : Held) (epoch : ℕ) (r : Report) (code : ℕ) → ¬ (IsBegin r × (epoch ≢ held.epoch)) → IsReportRefusedBy held (marked epoch r) code → IsRefusedWithEpoch held epoch r code
with_epoch held epoch (Begin p) code not refused = inr (present epoch held.epoch not, refused)
with_epoch held epoch (Numbered r) code not refused = refused

-- a report that admission refuses
pub refuses_report : (held : Held) (k epoch : ℕ) (m : MarkedReport) (refusal : No) (fault : DeskFault) (after : Held) → m.epoch ≡ 0 → ¬ (IsBegin m.report × (epoch ≢ held.epoch))
    → ((fate : Fate) × IsDeviceFree fate × IsReportTurn fate held (marked epoch m.report) (replies.No refusal.code refusal.name refusal.value) after) → IsFaultOfRefusal k refusal fault → RefusesCall held k epoch (calls.Report m) fault
refuses_report held k epoch m refusal fault after unmarked not (fate, free, t) is =
    fault_is held k epoch (calls.Report m) refusal fault unmarked (λ other. with_epoch held epoch m.report (code_number refusal.code) not (report_refused held (marked epoch m.report) refusal fate after free t other)) is

settlement_refused : (held : Held) (front : ℕ) (names : List Name) (refusal : No) → IsSettleRefusal held front names refusal → refusal.code ≢ OutOfMemory → IsSettlementRefusedBy held front names (code_number refusal.code)
settlement_refused held front names refusal (inl settling) other = (refusal.code, refusal.name, refusal.value, refl, settling)
settlement_refused held front names refusal (inr (answer, settling, takes, code, name, value)) other = absurd (other code)

-- a settlement that its tests refuse
pub refuses_settlement : (held : Held) (k epoch front : ℕ) (names others : List Name) (refusal : No) (fault : DeskFault) → epoch ≡ held.epoch → others ≡ names → IsSettleRefusal held front others refusal → IsFaultOfRefusal k refusal fault
    → RefusesCall held k epoch (calls.Settle front names) fault
refuses_settlement held k epoch front names others refusal fault now same refused is =
    fault_is held k epoch (calls.Settle front names) refusal fault tt
    (λ other. inr (now, settlement_refused held front names refusal (subst (λ (ns : List Name). IsSettleRefusal held front ns refusal) same refused) other)) is

-- ---- all records

-- what a record says that the code keeps
abbrev pub said_at : ℕ × Vec ℕ Global → Said
said_at v = (v.0, v.1.items)

module _ (xs : List (ℕ × Vec ℕ Global)) (i : ℕ) (v : ℕ × Vec ℕ Global) (held : Held) (within : i < length xs) (is : v ≡ get_or xs i v) (opens : Opens (said_in (take i xs)) held) where
  next : said_in (take (i + 1) xs) ≡ said_in (take i xs) ++ said_at v ∷ []
  next =
      ap said_in (take_more xs i v within) ∙ map_push said_at (take i xs) (get_or xs i v)
      ∙ ap (λ (w : ℕ × Vec ℕ Global). said_in (take i xs) ++ said_at w ∷ []) (sym is)

  pub opens_next : (after : Held) → Admits held (said_at v) after → Opens (said_in (take (i + 1) xs)) after
  opens_next after admits = subst (λ (s : List Said). Opens s after) (sym next) (one_more (said_at v) after opens admits)

  parts : said_in xs ≡ said_in (take i xs) ++ said_at v ∷ said_in (drop (i + 1) xs)
  parts =
      ap said_in (sym (take-append-drop i xs) ∙ ap (λ (ys : List (ℕ × Vec ℕ Global)). take i xs ++ ys) (drop_more xs i v within))
      ∙ map-append said_at (take i xs) (get_or xs i v ∷ drop (i + 1) xs)
      ∙ ap (λ (w : ℕ × Vec ℕ Global). said_in (take i xs) ++ said_at w ∷ said_in (drop (i + 1) xs)) (sym is)

  counted : i + 1 ≡ length (said_in (take i xs)) + 1
  counted = omega (arith, length-map (take i xs) said_at, length-take-le i xs (omega (arith, within)))

  reaches : (k : ℕ) → k ≡ i + 1 → Reaches (said_in xs) k (said_at v)
  reaches k number = record { front = said_in (take i xs); rest = said_in (drop (i + 1) xs); parts = parts; number = number ∙ counted; held = held; opens = opens }

  pub refuses_records : (fault : DeskFault) → RefusesRecord held (i + 1) (said_at v) fault → RefusesRecords (said_in xs) fault
  unfolding reaches
  refuses_records (Line j) refused = (said_at v, reaches j refused.0, refused.1)
  refuses_records (Refused j code) refused = (said_at v, reaches j refused.0, refused.1)
  refuses_records Memory refused = tt
  refuses_records Foreign refused = refused
  refuses_records (Damaged j) refused = refused
  refuses_records Device refused = refused

-- a file of refused records is refused
pub refuses_file : (file : List ℕ) (said : List Said) (fault : DeskFault) → Stands said file → RefusesRecords said fault → RefusesFile file fault
refuses_file file said (Line k) stands refused = (said, stands, refused)
refuses_file file said (Refused k code) stands refused = (said, stands, refused)
refuses_file file said Memory stands refused = tt
refuses_file file said Foreign stands refused = absurd refused
refuses_file file said (Damaged k) stands refused = absurd refused
refuses_file file said Device stands refused = absurd refused
