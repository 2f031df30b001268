-- The record of a turn: what is acknowledged is what opening admits.
use Rattle.std.proofs.Common.{◌≡◌, ◌≢◌, ◌⊎◌, inl, inr, ℕ, ◌+◌, ◌-◌, Bool, true, false, List, [], ◌∷◌, ◌++◌, Option, refl, sym, ap, subst, ◌∙◌, arith, append-nil}
use Rattle.std.proofs.lemmas.Bool.{true≢false}
use Rattle.record_file.specs.File.{Said}
use Rattle.report_line.specs.Reports.{unmarked}
use Rattle.report_line.specs.Spelling.{HasSpelling}
use Rattle.report_line.specs.declared.code.Code.{Code}
use Rattle.report_line.specs.declared.marked.MarkedReport.{MarkedReport}
use Rattle.report_line.specs.declared.call.Call.{Call}
use Rattle.report_line.specs.declared.call.Call.TheVariants as calls
use Rattle.report_line.specs.declared.reply.Outcome.{Outcome}
use Rattle.report_line.specs.declared.reply.Outcome.TheVariants.{Before, Unknown}
use Rattle.report_line.specs.declared.reply.Reply.{Reply}
use Rattle.report_line.specs.declared.reply.Reply.TheVariants.{Accepted, Settled, No, Fail}
use Rattle.chains.specs.Processes.{Name}
use Rattle.chains.specs.Held.{Held}
use Rattle.chains.specs.Admission.{Decides, IsAdmission, Passes, held_after}
use Rattle.chains.specs.Settled.{IsSettled}
use Rattle.chains.specs.Turns.{Fate, fine, memory, before, unknown, IsReported, IsSettling, PassesSettle, LeavesSettled, IsSettleAnswered, IsTurn}
use Rattle.chains.proofs.Turning.{unchanged}
use Rattle.desk.specs.Lawful.{unstopped}
use Rattle.desk.specs.Records.{said_of, said_settled, Admits, Opens, one_more, IsRecordedCall, report_recorded, settlement_recorded, recorded_by}
use Rattle.desk.specs.Files.{UsesDevice}
use Rattle.desk.proofs.Running.{is_unstopped, passes}

-- With this reply the call has no record, and nothing changed but that the store may have stopped; or it has this one, and opening
-- admits that.
abbrev pub Acknowledges : Held → Call → Reply → Held → Type 0
Acknowledges held call reply after =
    ((recorded_by call reply ≡ []) × (unstopped after ≡ unstopped held))
    ⊎ ((one : Said) × (recorded_by call reply ≡ one ∷ []) × Admits (unstopped held) one (unstopped after))

-- ---- reports

said_report : (held after : Held) (m : MarkedReport) (reply : Reply) → held.stopped ≡ false → IsAdmission held m reply → after ≡ held_after held m reply
    → (UsesDevice reply → HasSpelling (calls.Report (unmarked m.report))) → Acknowledges held (calls.Report m) reply after
said_report held after m (Accepted front) goes admitted is spelled =
    inr (
      said_of m,
      refl,
      record {
        call = calls.Report (unmarked m.report);
        is_line = record { spelled = spelled tt; recorded = refl; line = refl };
        admits = (subst (λ (h : Held). Passes h m) (is_unstopped held goes) (passes held m front admitted), ap unstopped is);
      },
    )
said_report held after m (Fail Before) goes admitted is spelled = inl (refl, ap unstopped is)
said_report held after m (Fail Unknown) goes admitted is spelled = inl (refl, ap unstopped is)
said_report held after m _ goes admitted is spelled = inl (refl, ap unstopped is)

report_acknowledges : (stopped : Bool) (fate : Fate) (held : Held) (m : MarkedReport) (reply : Reply) (after : Held) → held.stopped ≡ stopped → IsReported stopped fate held m reply after
    → (UsesDevice reply → HasSpelling (calls.Report (unmarked m.report))) → Acknowledges held (calls.Report m) reply after
report_acknowledges true fate held m reply after is t spelled = inl (ap (report_recorded m) t.1, ap unstopped t.2)
report_acknowledges false fine held m reply after is t spelled = said_report held after m reply is t.0 t.1 spelled
report_acknowledges false memory held m reply after is t spelled = inl (ap (report_recorded m) t.3, ap unstopped t.4)
report_acknowledges false before held m reply after is t spelled = inl (ap (report_recorded m) t.1, ap unstopped t.2)
report_acknowledges false unknown held m reply after is t spelled = inl (ap (report_recorded m) t.1, ap unstopped t.2)

-- ---- settlements

-- a test with another reply did not decide
behind : {F L : Type 0} {answer reply : Reply} → Decides F reply answer L → answer ≢ reply → L
behind (inl h) other = absurd (other h.1)
behind (inr h) other = h.1

-- what is no refusal tells the epoch and the front behind the settlement
pub settles_so : (held : Held) (front : ℕ) (names : List Name) (answer : Reply) → ((code : Code) (name : Option Name) (value : Option (List ℕ)) → answer ≢ No code name value) → IsSettling held front names answer
    → answer ≡ Settled (held.epoch + 1) (held.front + 1)
settles_so held front names answer other h = elim (behind h (other _ _ _)) [
  | inl first ↦ absurd (other _ _ _ first.2)
  | inr all ↦ behind (behind all.1 (other _ _ _)) (other _ _ _)
]

told_epoch : (e f k n : ℕ) → Settled e f ≡ Settled k n → e ≡ k
told_epoch e f k n is = cc

pub still_goes : (held : Held) (names : List Name) (after : Held) → held.stopped ≡ false → IsSettled held names after → after.stopped ≡ false
still_goes held names after goes settled = ap (λ (h : Held). h.stopped) settled.2.is_kept ∙ goes

said_settlement : (held after : Held) (front : ℕ) (names : List Name) (reply : Reply) → held.stopped ≡ false → IsSettling held front names reply → LeavesSettled reply held names after
    → (UsesDevice reply → HasSpelling (calls.Settle front names)) → Acknowledges held (calls.Settle front names) reply after
said_settlement held after front names (Settled epoch now) goes settling left spelled =
    let is = settles_so held front names (Settled epoch now) (λ code name value e. cc) settling in
    let here = is_unstopped held goes in
    inr (
      said_settled (epoch - 1) front names,
      refl,
      record {
        call = calls.Settle front names;
        is_line = record { spelled = spelled tt; recorded = tt; line = refl };
        admits = (
          omega (arith, told_epoch epoch now (held.epoch + 1) (held.front + 1) is),
          subst (λ (h : Held). PassesSettle h front names) here (subst (λ (x : Reply). IsSettling held front names x) is settling),
          subst (λ (h : Held). IsSettled h names (unstopped after)) here (subst (λ (h : Held). IsSettled held names h) (is_unstopped after (still_goes held names after goes left)) left),
        );
      },
    )
said_settlement held after front names _ goes settling left spelled = inl (refl, ap unstopped left)

settlement_acknowledges : (stopped : Bool) (fate : Fate) (held : Held) (front : ℕ) (names : List Name) (reply : Reply) (after : Held) → held.stopped ≡ stopped → IsSettleAnswered stopped fate held front names reply after
    → (UsesDevice reply → HasSpelling (calls.Settle front names)) → Acknowledges held (calls.Settle front names) reply after
settlement_acknowledges true fate held front names reply after is t spelled = inl (ap (settlement_recorded front names) t.1, ap unstopped t.2)
settlement_acknowledges false fine held front names reply after is t spelled = said_settlement held after front names reply is t.0 t.1 spelled
settlement_acknowledges false memory held front names reply after is t spelled = inl (ap (settlement_recorded front names) t.3, ap unstopped t.4)
settlement_acknowledges false before held front names reply after is t spelled = inl (ap (settlement_recorded front names) t.1, ap unstopped t.2)
settlement_acknowledges false unknown held front names reply after is t spelled = inl (ap (settlement_recorded front names) t.1, ap unstopped t.2)

-- ---- each turn

pub acknowledges : (held after : Held) (call : Call) (reply : Reply) → IsTurn held call reply after → (UsesDevice reply → IsRecordedCall call) → Acknowledges held call reply after
acknowledges held after (calls.Report m) reply (fate, t) spelled = report_acknowledges held.stopped fate held m reply after refl t spelled
acknowledges held after (calls.Line names) reply (fate, t) spelled = inl (refl, ap unstopped (unchanged held.stopped fate held _ reply after t))
acknowledges held after calls.Garbage reply (fate, t) spelled = inl (refl, ap unstopped (unchanged held.stopped fate held _ reply after t))
acknowledges held after (calls.Settle front names) reply (fate, t) spelled = settlement_acknowledges held.stopped fate held front names reply after refl t spelled
acknowledges held after (calls.State p) reply (fate, t) spelled = inl (refl, ap unstopped (unchanged held.stopped fate held _ reply after t))
acknowledges held after calls.Bye reply (fate, t) spelled = inl (refl, ap unstopped t.2)
acknowledges held after (calls.Bad n) reply (fate, t) spelled = inl (refl, ap unstopped t.2)
acknowledges held after calls.Unread reply (fate, t) spelled = inl (refl, ap unstopped t.2)

-- so opening comes to what is held behind the turn
pub opens_more : (said : List Said) (held after : Held) (call : Call) (reply : Reply) → Opens said (unstopped held) → Acknowledges held call reply after → Opens (said ++ recorded_by call reply) (unstopped after)
opens_more said held after call reply opens (inl (none, same)) =
    subst (λ (h : Held). Opens (said ++ recorded_by call reply) h) (sym same)
    (subst (λ (more : List Said). Opens (said ++ more) (unstopped held)) (sym none) (subst (λ (s : List Said). Opens s (unstopped held)) (sym (append-nil said)) opens))
opens_more said held after call reply opens (inr (one, is, admits)) =
    subst (λ (more : List Said). Opens (said ++ more) (unstopped after)) (sym is) (one_more one (unstopped after) opens admits)

-- ---- replies without a record

pub failed_records : (call : Call) (o : Outcome) → recorded_by call (Fail o) ≡ []
failed_records (calls.Report m) o = refl
failed_records (calls.Settle front names) o = refl
failed_records _ o = refl

stopped_report : (stopped : Bool) (fate : Fate) (held : Held) (m : MarkedReport) (reply : Reply) (after : Held) → stopped ≡ true → IsReported stopped fate held m reply after → report_recorded m reply ≡ []
stopped_report true fate held m reply after is t = ap (report_recorded m) t.1
stopped_report false fate held m reply after is t = absurd (true≢false (sym is))

stopped_settlement : (stopped : Bool) (fate : Fate) (held : Held) (front : ℕ) (names : List Name) (reply : Reply) (after : Held) → stopped ≡ true → IsSettleAnswered stopped fate held front names reply after
    → settlement_recorded front names reply ≡ []
stopped_settlement true fate held front names reply after is t = ap (settlement_recorded front names) t.1
stopped_settlement false fate held front names reply after is t = absurd (true≢false (sym is))

-- a stopped store acknowledges nothing
pub stopped_records : (held after : Held) (call : Call) (reply : Reply) → held.stopped ≡ true → IsTurn held call reply after → recorded_by call reply ≡ []
stopped_records held after (calls.Report m) reply down (fate, t) = stopped_report held.stopped fate held m reply after down t
stopped_records held after (calls.Settle front names) reply down (fate, t) = stopped_settlement held.stopped fate held front names reply after down t
stopped_records held after _ reply down turn = refl
