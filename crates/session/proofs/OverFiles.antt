-- Questions in one opening of a record file and in later ones.
use Rattle.std.proofs.Common.{◌≡◌, ℕ, ◌+◌, ◌-◌, ◌∙◌, ◌++◌, Bool, false, List, [], ◌∷◌, refl, sym, ap, subst, inl, inr, append_assoc, append-nil}
use Rattle.record_file.specs.File.{Said}
use Rattle.report_line.specs.Reports.{unmarked}
use Rattle.report_line.specs.Spelling.{HasSpelling}
use Rattle.report_line.specs.declared.call.Call.{Call}
use Rattle.report_line.specs.declared.call.Call.TheVariants as calls
use Rattle.report_line.specs.declared.marked.MarkedReport.{MarkedReport}
use Rattle.report_line.specs.declared.reply.Reply.{Reply}
use Rattle.report_line.specs.declared.reply.Reply.TheVariants.{Accepted, Settled}
use Rattle.report_line.proofs.OneCall.{one_call}
use Rattle.chains.specs.Processes.{Name, known}
use Rattle.chains.specs.Held.{Held, counting}
use Rattle.chains.specs.Turns.{fine, IsReported, IsSettleAnswered, IsTurn}
use Rattle.chains.proofs.Turning.{unchanged}
use Rattle.reasons.specs.Shown.{IsLineText}
use Rattle.law_lines.specs.Runs.{Run, Made, nothing}
use Rattle.law_turns.specs.Traces.{Trace, Stepped, Turned, AreTurns, ProcessesObey}
use Rattle.law_turns.proofs.Following.{held_at_first}
use Rattle.desk.specs.declared.turn.Turn.{Turn}
use Rattle.desk.specs.Lawful.{unstopped}
use Rattle.desk.specs.Records.{said_of, said_settled, recorded_by, recorded, AdmitsCall, Admits, Opens, no_records, one_more}
use Rattle.desk.proofs.OneOpening.{admits_once}
use Rattle.desk.proofs.Recording.{Acknowledges, acknowledges, opens_more, still_goes}
use Rattle.desk.proofs.Running.{is_unstopped}
use Rattle.session.specs.Exchanges.{Exchange, ReplayTo}
use Rattle.session.specs.SessionText.{Means, Mean}
use Rattle.session.specs.Current.{traced, trace_of, recorded_in, AreInOrder}
use Rattle.session.specs.Openings.{IsRecordable, AreRecordable, IsHeldOver, WhatIsHeldIsOpened, SessionsAreOverFiles, DesksAreOverFiles, NoLineIsBelowGarbageOverFiles}
use Rattle.session.proofs.FileTurns.{of_turns, spelled_unmarked}
use Rattle.session.proofs.OverRuns.{come_traced, replayed_turns, in_order}

-- ---- records that are admitted, the first one first

abbrev AdmitAll : Held → List Said → Held → Type 0
AdmitAll held [] after = after ≡ held
AdmitAll held (one ∷ said) after = (between : Held) × Admits held one between × AdmitAll between said after

admit_push : (held mid after : Held) (said : List Said) (one : Said) → AdmitAll held said mid → Admits mid one after → AdmitAll held (said ++ one ∷ []) after
admit_push held mid after [] one all admits = (after, subst (λ (h : Held). Admits h one after) all admits, refl)
admit_push held mid after (x ∷ said) one all admits = (all.0, all.1, admit_push all.0 mid after said one all.2 admits)

admit_all : {said : List Said} {held : Held} → Opens said held → AdmitAll (counting []) said held
admit_all no_records = refl
admit_all (one_more {said = said} {held = held} one after opens admits) = admit_push (counting []) held after said one (admit_all opens) admits

admit_parts : (held after : Held) (said more : List Said) → AdmitAll held (said ++ more) after → (mid : Held) × AdmitAll held said mid × AdmitAll mid more after
admit_parts held after [] more all = (held, refl, all)
admit_parts held after (one ∷ said) more all = let rest = admit_parts all.0 after said more all.2 in (rest.0, (all.0, all.1, rest.1), rest.2)

-- they come to one thing
admit_once : (held a b : Held) (said : List Said) → AdmitAll held said a → AdmitAll held said b → a ≡ b
admit_once held a b [] first second = first ∙ sym second
admit_once held a b (one ∷ said) (mid, admits, later) (other, admitted, more) =
    admit_once other a b said (subst (λ (h : Held). AdmitAll h said a) (admits_once held one mid other admits admitted) later) more

-- the later records are admitted over what the first of them come to
admit_rest : (said more : List Said) (first at : Held) → Opens said first → Opens (said ++ more) at → AdmitAll first more at
admit_rest said more first at opened reopened =
    let parts = admit_parts (counting []) at said more (admit_all reopened) in
    subst (λ (h : Held). AdmitAll h more at) (admit_once (counting []) parts.0 first said parts.1 (admit_all opened)) parts.2

-- ---- the turn of a record

-- the record of a report that has a line is admitted as this report
report_again : (held after : Held) (m : MarkedReport) → held.stopped ≡ false → HasSpelling (calls.Report (unmarked m.report)) → Admits held (said_of m) after
    → IsTurn held (calls.Report m) (Accepted (held.front + 1)) after × (after.stopped ≡ false)
report_again held after m goes spelled admits =
    let same = one_call admits.call (calls.Report (unmarked m.report)) admits.is_line.spelled spelled (sym admits.is_line.line) in
    let is = subst (λ (c : Call). AdmitsCall held m.epoch c after) same admits.admits in
    ((fine, subst (λ (b : Bool). IsReported b fine held m (Accepted (held.front + 1)) after) (sym goes) is), ap (λ (h : Held). h.stopped) is.1 ∙ goes)

settlement_again : (held after : Held) (epoch front : ℕ) (names : List Name) → held.stopped ≡ false → HasSpelling (calls.Settle front names) → Admits held (said_settled epoch front names) after
    → IsTurn held (calls.Settle front names) (Settled (held.epoch + 1) (held.front + 1)) after × (after.stopped ≡ false)
settlement_again held after epoch front names goes spelled admits =
    let same = one_call admits.call (calls.Settle front names) admits.is_line.spelled spelled (sym admits.is_line.line) in
    let is = subst (λ (c : Call). AdmitsCall held epoch c after) same admits.admits in (
      (fine, subst (λ (b : Bool). IsSettleAnswered b fine held front names (Settled (held.epoch + 1) (held.front + 1)) after) (sym goes) (is.1, is.2)),
      still_goes held names after goes is.2,
    )

-- ---- the turns of the records of a trace

-- Between the steps of the trace just its turns with records, with the replies of their places; and processes that obey in the trace, and
-- behind it, obey there.
record AreAdmitted (root : Name) (held after : Held) (trace : Trace) : Type 0 where
  turns : Trace
  are : AreTurns held turns after
  obey : (rest others : Trace) → ((run : Run) → ProcessesObey root run rest → ProcessesObey root run others) → (run : Run) → ProcessesObey root run (trace ++ rest)
      → ProcessesObey root run (turns ++ others)

-- a turn more in front
abbrev Later : Name → Held → Trace → Type 0
Later root after trace = (between : Held) → between.stopped ≡ false → AdmitAll between (recorded_in trace) after → AreAdmitted root between after trace

admitted_turn : (root : Name) (held after : Held) (trace : Trace) (call : Call) (reply : Reply) → held.stopped ≡ false → IsRecordable call reply → AdmitAll held (recorded_by call reply ++ recorded_in trace) after
    → Later root after trace → AreAdmitted root held after (Turned call reply ∷ trace)
admitted_turn root held after trace (calls.Report m) (Accepted front) goes fit all later =
    let t = report_again held all.0 m goes (fit tt) all.1 in
    let w = later all.0 t.1 all.2 in
    record {
      turns = Turned (calls.Report m) (Accepted (held.front + 1)) ∷ w.turns;
      are = (all.0, t.0, w.are);
      obey = λ rest others on run o. (o.0, λ between adds. w.obey rest others on between (o.1 between adds));
    }
admitted_turn root held after trace (calls.Settle front names) (Settled epoch now) goes fit all later =
    let t = settlement_again held all.0 (epoch - 1) front names goes (fit tt) all.1 in
    let w = later all.0 t.1 all.2 in
    record {
      turns = Turned (calls.Settle front names) (Settled (held.epoch + 1) (held.front + 1)) ∷ w.turns;
      are = (all.0, t.0, w.are);
      obey = λ rest others on run o. (o.0, λ between adds. w.obey rest others on between (o.1 between adds));
    }
admitted_turn root held after trace _ _ goes fit all later =
    let w = later held goes all in
    record { turns = w.turns; are = w.are; obey = λ rest others on run o. w.obey rest others on run (o.1 run refl) }

admitted_turns : (root : Name) (held after : Held) (trace : Trace) → held.stopped ≡ false → AreRecordable trace → AdmitAll held (recorded_in trace) after → AreAdmitted root held after trace
admitted_turns root held after [] goes fit all = record { turns = []; are = all; obey = λ rest others on run o. on run o }
admitted_turns root held after (Stepped e s ∷ trace) goes fit all =
    let w = admitted_turns root held after trace goes fit all in
    record { turns = Stepped e s ∷ w.turns; are = w.are; obey = λ rest others on run o. (o.0, w.obey rest others on (Made e s ∷ run) o.1) }
admitted_turns root held after (Turned call reply ∷ trace) goes fit all =
    admitted_turn root held after trace call reply goes fit.0 all (λ between running rest. admitted_turns root between after trace running fit.1 rest)

-- ---- no line is below an earlier garbage line

pub recordable_parts : (first second : Trace) → AreRecordable (first ++ second) → AreRecordable first × AreRecordable second
recordable_parts [] second all = (tt, all)
recordable_parts (Stepped e s ∷ first) second all = recordable_parts first second all
recordable_parts (Turned call reply ∷ first) second all = let rest = recordable_parts first second all.1 in ((all.0, rest.0), rest.1)

-- whether the store is stopped is nothing to a line
unstopped_text : (held : Held) (names : List Name) (text : List ℕ) → IsLineText held names text → IsLineText (unstopped held) names text
unstopped_text held names text is =
    let c = is.certifies in
    record {
      certificate = is.certificate;
      for_names = is.for_names;
      certifies = record {
        front = c.front;
        failed = c.failed;
        known_failed = c.known_failed;
        in_order = c.in_order;
        cut = c.cut;
        consistent = c.consistent;
        reasons = c.reasons;
      };
      text_is = is.text_is;
    }

in_order_there : (first at : Held) (lowest text : List ℕ) → AreInOrder (unstopped first) (unstopped at) lowest text → AreInOrder first at lowest text
in_order_there first at lowest text o = record {
  garbage = o.garbage;
  garbage_is = o.garbage_is;
  certificate = o.certificate;
  text_is = o.text_is;
  below = o.below;
  gone = o.gone;
}

over_records : (root : Name) (said more : List Said) (first at : Held) (all names : List Name) (lowest text : List ℕ) (earlier since : Trace) → Opens said (unstopped first) → Opens (said ++ more) (unstopped at)
    → all ≡ known first.accepted → IsLineText first all lowest → IsLineText at names text → recorded_in earlier ≡ said → recorded_in since ≡ more → AreRecordable (earlier ++ since)
    → ProcessesObey root [] (earlier ++ since) → AreInOrder first at lowest text
over_records root said more first at all names lowest text earlier since opened reopened each garbage line before_is since_is fit processes =
    let fits = recordable_parts earlier since fit in
    let a = admitted_turns root (counting []) (unstopped first) earlier refl fits.0 (subst (λ (s : List Said). AdmitAll (counting []) s (unstopped first)) (sym before_is) (admit_all opened)) in
    let b = admitted_turns root (unstopped first) (unstopped at) since refl fits.1
    (subst (λ (s : List Said). AdmitAll (unstopped first) s (unstopped at)) (sym since_is) (admit_rest said more (unstopped first) (unstopped at) opened reopened)) in
    in_order_there first at lowest text
    (in_order root [] (counting []) (unstopped first) (unstopped at) a.turns b.turns all names lowest text nothing held_at_first a.are b.are (a.obey since b.turns (alone b) [] processes) each
    (unstopped_text first all lowest garbage) (unstopped_text at names text line))
  where
    alone : (b : AreAdmitted root (unstopped first) (unstopped at) since) (run : Run) → ProcessesObey root run since → ProcessesObey root run b.turns
    alone b run obey =
        subst (λ (t : Trace). ProcessesObey root run t) (append-nil b.turns) (b.obey [] [] (λ r none. none) run (subst (λ (t : Trace). ProcessesObey root run t) (sym (append-nil since)) obey))

-- ---- what is held since a file was opened

-- a turn has no record, and changes nothing but that the store may have stopped, or opening admits the record that it has
acknowledged : (held after : Held) (call : Call) (reply : Reply) → IsTurn held call reply after → IsRecordable call reply → Acknowledges held call reply after
acknowledged held after (calls.Report m) reply turn fit = acknowledges held after (calls.Report m) reply turn fit
acknowledged held after (calls.Settle front names) reply turn fit = acknowledges held after (calls.Settle front names) reply turn fit
acknowledged held after (calls.Line names) reply (fate, t) fit = inl (refl, ap unstopped (unchanged held.stopped fate held _ reply after t))
acknowledged held after calls.Garbage reply (fate, t) fit = inl (refl, ap unstopped (unchanged held.stopped fate held _ reply after t))
acknowledged held after (calls.State p) reply (fate, t) fit = inl (refl, ap unstopped (unchanged held.stopped fate held _ reply after t))
acknowledged held after calls.Bye reply (fate, t) fit = inl (refl, ap unstopped t.2)
acknowledged held after (calls.Bad n) reply (fate, t) fit = inl (refl, ap unstopped t.2)
acknowledged held after calls.Unread reply (fate, t) fit = inl (refl, ap unstopped t.2)

opened_on : (said : List Said) (held after : Held) (turns : Trace) → Opens said (unstopped held) → AreTurns held turns after → AreRecordable turns → Opens (said ++ recorded_in turns) (unstopped after)
opened_on said held after [] opens are fit =
    subst (λ (h : Held). Opens (said ++ []) (unstopped h)) (sym are) (subst (λ (s : List Said). Opens s (unstopped held)) (sym (append-nil said)) opens)
opened_on said held after (Stepped e s ∷ turns) opens are fit = opened_on said held after turns opens are fit
opened_on said held after (Turned call reply ∷ turns) opens are fit =
    subst (λ (s : List Said). Opens s (unstopped after)) (append_assoc said (recorded_by call reply) (recorded_in turns))
    (opened_on (said ++ recorded_by call reply) are.0 after turns (opens_more said held are.0 call reply opens (acknowledged held are.0 call reply are.1 fit.0)) are.2 fit.1)

pub what_is_held_is_opened : WhatIsHeldIsOpened
what_is_held_is_opened said held over =
    subst (λ (s : List Said). Opens s (unstopped held)) (sym over.said_is)
    (opened_on over.found over.opening held over.turns (subst (λ (h : Held). Opens over.found h) (is_unstopped over.opening (of_turns over.opened).goes) over.opened) over.come over.recordable)

pub no_line_is_below_garbage_over_files : NoLineIsBelowGarbageOverFiles
no_line_is_below_garbage_over_files root said more first at call lowest text earlier since opened garbage reopened line before_is since_is fit processes =
    over_records root said more first at garbage.0 line.0 lowest text earlier since (what_is_held_is_opened said first opened) (what_is_held_is_opened (said ++ more) at reopened) garbage.1 garbage.2 line.2 before_is since_is fit processes

-- ---- sessions and desks

-- what is read off a line can be recorded
read_recordable : (line : List ℕ) (call : Call) (reply : Reply) → Means line call → IsRecordable call reply
read_recordable line (calls.Report m) reply (inl spells) = λ uses. spelled_unmarked m.epoch m.report spells.0
read_recordable line (calls.Report m) reply (inr (inl bad)) = absurd (let e = bad.0 in cc)
read_recordable line (calls.Report m) reply (inr (inr unread)) = absurd (cc)
read_recordable line (calls.Settle front names) reply (inl spells) = λ uses. spells.0
read_recordable line (calls.Settle front names) reply (inr (inl bad)) = absurd (let e = bad.0 in cc)
read_recordable line (calls.Settle front names) reply (inr (inr unread)) = absurd (cc)
read_recordable line _ reply means = tt

session_recordable : (lines : List (List ℕ)) (before later : List Exchange) → Mean lines (before ++ later) → AreRecordable (traced before)
session_recordable lines [] later mean = tt
session_recordable [] (e ∷ before) later mean = absurd mean
session_recordable (line ∷ lines) (e ∷ before) later mean = (read_recordable line e.call e.reply mean.0, session_recordable lines before later mean.1)

session_over : (found : List Said) (opening at : Held) (before : List Exchange) → Opens found opening → AreRecordable (traced before) → ReplayTo opening before at
    → IsHeldOver (found ++ recorded_in (traced before)) at
session_over found opening at before opens fit comes = record {
  found = found;
  opening = opening;
  opened = opens;
  turns = traced before;
  come = come_traced opening at before comes;
  recordable = fit;
  said_is = refl;
}

pub sessions_are_over_files : SessionsAreOverFiles
sessions_are_over_files found opening at lines exchanges before later opens mean same comes =
    let fit = session_recordable lines before later (subst (λ (es : List Exchange). Mean lines es) same mean) in
    (fit, session_over found opening at before opens fit comes)

recorded_of : (turns : List Turn) → recorded turns ≡ recorded_in (trace_of turns)
recorded_of [] = refl
recorded_of (t ∷ turns) = ap (λ (l : List Said). recorded_by t.call t.receipt.reply ++ l) (recorded_of turns)

pub desks_are_over_files : DesksAreOverFiles
desks_are_over_files found opening at turns opens fit replays = record {
  found = found;
  opening = opening;
  opened = opens;
  turns = trace_of turns;
  come = replayed_turns 0 opening at turns replays;
  recordable = fit;
  said_is = ap (λ (l : List Said). found ++ l) (recorded_of turns);
}
