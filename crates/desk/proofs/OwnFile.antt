-- A file of records that opening admits in order is refused for nothing that it says.
use Rattle.std.proofs.Common.{◌≡◌, ◌≢◌, ◌⊎◌, inl, inr, ℕ, ◌+◌, List, [], ◌∷◌, ◌++◌, refl, ◌∙◌, ap, subst}
use Rattle.record_file.specs.File.{Said, Stands}
use Rattle.record_file.proofs.Exclusion.{foreign_stands, damaged_stands}
use Rattle.record_file.proofs.Openings.{one_list}
use Rattle.report_line.specs.declared.report.Report.{Report}
use Rattle.report_line.specs.declared.report.Report.TheVariants.{Begin, Numbered}
use Rattle.report_line.specs.declared.marked.MarkedReport.{MarkedReport}
use Rattle.report_line.specs.declared.call.Call.{Call}
use Rattle.report_line.specs.declared.call.Call.TheVariants as calls
use Rattle.report_line.specs.declared.reply.Reply.TheVariants.{Accepted, Old, No, Settled}
use Rattle.chains.specs.Held.{Held}
use Rattle.chains.specs.Admission.{Passes}
use Rattle.chains.specs.Turns.{PassesSettle}
use Rattle.chains.proofs.OneAnswer.{one_answer, one_settling}
use Rattle.chains.proofs.Passed.{present_epoch}
use Rattle.desk.specs.Records.{marked, AdmitsCall, Admits, Opens, no_records, one_more}
use Rattle.desk.specs.Files.{MayStandFor, IsPending}
use Rattle.desk.specs.Openings.{Reaches, IsLineOfNone, IsReportRefusedBy, IsSettlementRefusedBy, IsRefusedWithEpoch, IsCallRefusedBy, IsRecordRefusedBy, RefusesFile, IsNotOfTheFile}
use Rattle.desk.specs.declared.fault.DeskFault.{DeskFault}
use Rattle.desk.specs.declared.fault.DeskFault.TheVariants.{Foreign, Damaged, Line, Refused, Device, Memory}
use Rattle.desk.specs.declared.turn.Turn.{Turn}
use Rattle.desk.proofs.OneOpening.{first_same, rest_same, both_same, same_call, one_opening}

-- ---- each record is admitted over what those before it come to

cons_same : (x : Said) (xs ys : List Said) → xs ≡ ys → x ∷ xs ≡ x ∷ ys
cons_same x xs ys e = ap (λ (zs : List Said). x ∷ zs) e

nothing_before : (before after : List Said) (x : Said) → [] ≢ before ++ x ∷ after
nothing_before [] after x e = cc
nothing_before (b ∷ bs) after x e = cc

-- what stands in a list with one more element is that element, or stands before it
last_or_before : (said before after : List Said) (one x : Said) → said ++ one ∷ [] ≡ before ++ x ∷ after
    → ((said ≡ before) × (one ≡ x)) ⊎ ((rest : List Said) × (said ≡ before ++ x ∷ rest))
last_or_before [] [] after one x e = inl (refl, first_same one x [] after e)
last_or_before [] (b ∷ bs) after one x e = absurd (nothing_before bs after x (rest_same one b [] (bs ++ x ∷ after) e))
last_or_before (a ∷ as') [] after one x e = inr (as', both_same a x as' as' (first_same a x (as' ++ one ∷ []) after e) refl)
last_or_before (a ∷ as') (b ∷ bs) after one x e =
    let same = first_same a b (as' ++ one ∷ []) (bs ++ x ∷ after) e in
    elim (last_or_before as' bs after one x (rest_same a b (as' ++ one ∷ []) (bs ++ x ∷ after) e)) [
      | inl last ↦ inl (both_same a b as' bs same last.0, last.1)
      | inr earlier ↦ inr (earlier.0, both_same a b as' (bs ++ x ∷ earlier.0) same earlier.1)
    ]

-- the record there is admitted over what was held by then
record IsAdmittedAt (before : List Said) (x : Said) : Type 0 where
  held : Held
  after : Held
  opens : Opens before held
  admits : Admits held x after

admitted_at : (said before rest : List Said) (x : Said) (held : Held) → Opens said held → said ≡ before ++ x ∷ rest → IsAdmittedAt before x
admitted_at _ before rest x _ no_records e = absurd (nothing_before before rest x e)
admitted_at _ before rest x _ (one_more {said} {held} one after opens admits) e =
    elim (last_or_before said before rest one x e) [
      | inl last ↦ subst (λ (b : List Said). IsAdmittedAt b x) last.0 (subst (λ (y : Said). IsAdmittedAt said y) last.1 (record { held = held; after = after; opens = opens; admits = admits }))
      | inr earlier ↦ admitted_at said before earlier.0 x held opens earlier.1
    ]

-- ---- what is admitted is not refused

report_not_refused : (held : Held) (m : MarkedReport) (code : ℕ) → Passes held m → IsReportRefusedBy held m code → ⊥
report_not_refused held m code passes (inl (is, (k, old))) = absurd (let e = one_answer held (Accepted (held.front + 1)) (Old k) m.epoch m.report passes old in cc)
report_not_refused held m code passes (inr (why, name, value, is, refused)) =
    absurd (let e = one_answer held (Accepted (held.front + 1)) (No why name value) m.epoch m.report passes refused in cc)

settlement_not_refused : (held : Held) (front : ℕ) (names : List (List ℕ)) (code : ℕ) → PassesSettle held front names → IsSettlementRefusedBy held front names code → ⊥
settlement_not_refused held front names code passes (why, name, value, is, refused) =
    absurd (let e = one_settling held (Settled (held.epoch + 1) (held.front + 1)) (No why name value) front names passes refused in cc)

epoch_not_refused : (held : Held) (epoch : ℕ) (r : Report) (code : ℕ) → Passes held (marked epoch r) → IsRefusedWithEpoch held epoch r code → ⊥
epoch_not_refused held epoch (Begin p) code passes (inl (other, is)) = other (present_epoch held epoch (Begin p) (held.front + 1) passes)
epoch_not_refused held epoch (Begin p) code passes (inr (same, refused)) = report_not_refused held (marked epoch (Begin p)) code passes refused
epoch_not_refused held epoch (Numbered r) code passes refused = report_not_refused held (marked epoch (Numbered r)) code passes refused

call_not_refused : (held : Held) (epoch : ℕ) (call : Call) (code : ℕ) (after : Held) → AdmitsCall held epoch call after → IsCallRefusedBy held epoch call code → ⊥
call_not_refused held epoch (calls.Report m) code after admits refused = epoch_not_refused held epoch m.report code admits.0 refused
call_not_refused held epoch (calls.Settle front names) code after admits (inl (other, is)) = other admits.0
call_not_refused held epoch (calls.Settle front names) code after admits (inr (same, refused)) = settlement_not_refused held front names code admits.1 refused
call_not_refused held epoch _ code after admits refused = absurd admits

not_refused : (held : Held) (one : Said) (code : ℕ) (after : Held) → Admits held one after → IsRecordRefusedBy held one code → ⊥
not_refused held one code after admits (call, is, refused) =
    call_not_refused held one.0 call code after (subst (λ (c : Call). AdmitsCall held one.0 c after) (same_call one admits.call call admits.is_line is) admits.admits) refused

-- ---- so nothing that the file says is refused

module _ (file : List ℕ) (said : List Said) (held : Held) (opens : Opens said held) (stands : Stands said file) where
  at_place : (others : List Said) (k : ℕ) (one : Said) → Stands others file → (at : Reaches others k one) → IsAdmittedAt at.front one
  at_place others k one stood at = admitted_at said at.front at.rest one held opens (one_list said others file stands stood ∙ at.parts)

  no_line : (others : List Said) (k : ℕ) (one : Said) → Stands others file → Reaches others k one → IsLineOfNone one → ⊥
  no_line others k one stood at none = let p = at_place others k one stood at in none p.admits.call p.admits.is_line

  no_refused : (others : List Said) (k code : ℕ) (one : Said) → Stands others file → (at : Reaches others k one) → IsRecordRefusedBy at.held one code → ⊥
  no_refused others k code one stood at refused =
      let p = at_place others k one stood at in
      let same = one_opening at.front p.held at.held p.opens at.opens in
      not_refused at.held one code p.after (subst (λ (h : Held). Admits h one p.after) same p.admits) refused

  pub own_file : (fault : DeskFault) → RefusesFile file fault → IsNotOfTheFile fault
  own_file Foreign foreign = foreign_stands file said foreign stands
  own_file (Damaged k) damaged = damaged_stands file k said damaged stands
  own_file (Line k) (others, stood, (one, at, none)) = no_line others k one stood at none
  own_file (Refused k code) (others, stood, (one, at, refused)) = no_refused others k code one stood at refused
  own_file Device refused = tt
  own_file Memory refused = tt

-- a file that a desk leaves
pub own_refused : (file : List ℕ) (said : List Said) (epoch : ℕ) (turns : List Turn) (held : Held) → Opens said held → ((one : Said) → IsPending epoch turns one → (after : Held) × Admits held one after)
    → MayStandFor said epoch turns file → (fault : DeskFault) → RefusesFile file fault → IsNotOfTheFile fault
own_refused file said epoch turns held opens pends (inl stands) fault refused = own_file file said held opens stands fault refused
own_refused file said epoch turns held opens pends (inr (one, pending, stands)) fault refused =
    let next = pends one pending in
    own_file file (said ++ one ∷ []) next.0 (one_more one next.0 opens next.1) stands fault refused
