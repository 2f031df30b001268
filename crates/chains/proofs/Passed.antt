-- What the tests of admission tell of an accepted report.
use Rattle.std.proofs.Common.{◌≡◌, inl, inr, ℕ, List, [], ◌∷◌, Option, Some, None, refl}
use Rattle.std.specs.Prelude.{slice_get}
use Rattle.report_line.specs.declared.code.Code.{Code}
use Rattle.report_line.specs.declared.report.ReportKind.{ReportKind}
use Rattle.report_line.specs.declared.report.ReportKind.TheVariants.{Fork, Retire, Absorb}
use Rattle.report_line.specs.declared.report.NumberedReport.{NumberedReport}
use Rattle.report_line.specs.declared.report.Report.{Report}
use Rattle.report_line.specs.declared.report.Report.TheVariants.{Begin, Numbered}
use Rattle.report_line.specs.declared.reply.Reply.TheVariants.{Accepted, Old, No}
use Rattle.chains.specs.Processes.{Name, known, next_number, registered_id, expected_id, last_events, target_of}
use Rattle.chains.specs.Held.{Held}
use Rattle.chains.specs.Admission.{Decides, AreGrown, IsReportReply, IsBeginReply, IsActionReply, IsStampReply, IsWaitingReply, IsStandingReply, FitsOrNot}
use Rattle.chains.specs.Folded.{IsFitAction, IsFitReport}
use Rattle.chains.proofs.Certain.{sure_known, sure_number, sure_id, sure_below, sure_grown, sure_split, sure_waits}

-- a test that answers with a refusal did not apply, and the later ones decided
pub passed : {F L : Type 0} {front : ℕ} {code : Code} {name : Option Name} {value : Option (List ℕ)} → Decides F (No code name value) (Accepted front) L → (¬ F) × L
passed (inl h) = absurd (let e = h.1 in cc)
passed (inr h) = h

pub passed_old : {F L : Type 0} {front k : ℕ} → Decides F (Old k) (Accepted front) L → (¬ F) × L
passed_old (inl h) = absurd (let e = h.1 in cc)
passed_old (inr h) = h

-- ---- from test to test

pub stamped : (held : Held) (r : NumberedReport) (a : ReportKind) (front : ℕ) → IsStampReply held r a (Accepted front)
    → (r.stamp.id ≡ expected_id held.accepted r.process a) × AreGrown (last_events r.process held.accepted) (registered_id r.process held.accepted) r.stamp.events × IsActionReply held r a (Accepted front)
stamped held r a front h =
    let f = passed h in
    let g = passed f.1 in
    (sure_id r.stamp.id (expected_id held.accepted r.process a) f.0, sure_grown (last_events r.process held.accepted) (registered_id r.process held.accepted) r.stamp.events g.0, g.1)

pub unwaited : (held : Held) (r : NumberedReport) (a : ReportKind) (front : ℕ) → IsWaitingReply held r a (Accepted front) → IsStampReply held r a (Accepted front)
unwaited held r (Absorb retired) front h = (passed h).1
unwaited held r _ front h = h

fits : (held : Held) (r : NumberedReport) (a : ReportKind) (front : ℕ) → IsWaitingReply held r a (Accepted front) → IsFitAction held.accepted r a
fits held r (Fork forked) front h =
    let f = passed (stamped held r (Fork forked) front h).2 in
    let g = passed f.1 in
    (f.0, sure_split (registered_id r.process held.accepted) forked.kept forked.given g.0)
fits held r (Absorb retired) front h =
    let f = passed h in
    let g = passed (stamped held r (Absorb retired) front f.1).2 in
    (sure_waits held.accepted retired r.process f.0, sure_below (last_events retired held.accepted) r.stamp.events g.0)
fits held r _ front h = tt

pub standing : (o : Option Name) (held : Held) (r : NumberedReport) (front : ℕ) → IsStandingReply o held r (Accepted front)
    → (o ≡ None) × (r.number ≡ next_number r.process held.accepted) × IsWaitingReply held r r.action (Accepted front)
standing None held r front h = let f = passed h in (refl, sure_number r.number (next_number r.process held.accepted) f.0, f.1)
standing (Some target) held r front h = absurd cc

pub passed_tests : (held : Held) (epoch : ℕ) (r : NumberedReport) (front : ℕ) → IsReportReply held epoch (Numbered r) (Accepted front) → IsFitReport held.accepted r
passed_tests held epoch r front h =
    let f = passed h in
    let g = passed f.1 in
    let k = passed (passed_old g.1).1 in
    let t = standing (target_of r.process held.accepted) held r front k.1 in
    let stamp = stamped held r r.action front (unwaited held r r.action front t.2) in
    record {
      begun = f.0;
      is_known = sure_known held.accepted r.process g.0;
      living = t.0;
      number = t.1;
      id = stamp.0;
      grown = stamp.1;
      fit = fits held r r.action front t.2;
    }

-- BEGIN is accepted where no process is known
pub begins : (ks : List Name) (held : Held) (epoch : ℕ) (p : Name) (front : ℕ) → IsBeginReply (slice_get ks 0) held epoch p (Accepted front) → ks ≡ []
begins [] held epoch p front h = refl
begins (k ∷ ks) held epoch p front h = absurd (let e = (passed h).1 in cc)

-- ---- the epoch

epoch_of_begin : (o : Option Name) (held : Held) (epoch : ℕ) (p : Name) (front : ℕ) → IsBeginReply o held epoch p (Accepted front) → epoch ≡ held.epoch
epoch_of_begin None held epoch p front h = sure_number epoch held.epoch (passed h).0
epoch_of_begin (Some q) held epoch p front h = absurd (let e = (passed h).1 in cc)

-- what is accepted is of the present epoch
pub present_epoch : (held : Held) (epoch : ℕ) (r : Report) (front : ℕ) → IsReportReply held epoch r (Accepted front) → epoch ≡ held.epoch
present_epoch held epoch (Begin p) front h = epoch_of_begin (slice_get (known held.accepted) 0) held epoch p front h
present_epoch held epoch (Numbered r) front h = sure_number epoch held.epoch (passed (passed_old (passed (passed h).1).1).1).0

-- ---- the last tests

room_of_action : (held : Held) (r : NumberedReport) (a : ReportKind) (front : ℕ) → IsActionReply held r a (Accepted front) → FitsOrNot held (Numbered r) (Accepted front)
room_of_action held r (Fork f) front h = (passed (passed h).1).1
room_of_action held r (Retire target) front h = (passed h).1
room_of_action held r (Absorb retired) front h = (passed h).1
room_of_action held r _ front h = h

room_of_begin : (o : Option Name) (held : Held) (epoch : ℕ) (p : Name) (front : ℕ) → IsBeginReply o held epoch p (Accepted front) → FitsOrNot held (Begin p) (Accepted front)
room_of_begin None held epoch p front h = (passed h).1
room_of_begin (Some q) held epoch p front h = absurd (let e = (passed h).1 in cc)

-- what is accepted has room
pub has_room : (held : Held) (epoch : ℕ) (r : Report) (front : ℕ) → IsReportReply held epoch r (Accepted front) → FitsOrNot held r (Accepted front)
has_room held epoch (Begin p) front h = room_of_begin (slice_get (known held.accepted) 0) held epoch p front h
has_room held epoch (Numbered r) front h =
    let t = standing (target_of r.process held.accepted) held r front (passed (passed_old (passed (passed h).1).1).1).1 in
    room_of_action held r r.action front (stamped held r r.action front (unwaited held r r.action front t.2)).2
