-- The records of a file as turns from nothing.
use Rattle.std.proofs.Common.{◌≡◌, ℕ, ◌+◌, ◌-◌, Bool, false, List, [], ◌∷◌, ◌++◌, length, refl, sym, ◌∙◌, ap, subst, append_assoc, length-append, arith}
use Rattle.record_file.specs.File.{Said}
use Rattle.report_line.specs.Spelling.{spelling, IsSpelledIn}
use Rattle.report_line.specs.declared.call.Call.{Call}
use Rattle.report_line.specs.declared.call.Call.TheVariants as calls
use Rattle.report_line.specs.declared.report.Report.{Report}
use Rattle.report_line.specs.declared.report.Report.TheVariants.{Begin, Numbered}
use Rattle.report_line.specs.declared.reply.Reply.{Reply}
use Rattle.report_line.specs.declared.reply.Reply.TheVariants.{Accepted, Settled}
use Rattle.chains.specs.Held.{Held, counting}
use Rattle.chains.specs.Turns.{fine, IsReported, IsSettleAnswered, IsTurn}
use Rattle.law_turns.specs.Traces.{Trace, Stepped, Turned, turns_of, AreTurns}
use Rattle.law_turns.proofs.Following.{from_nothing}
use Rattle.law_turns.proofs.Parted.{turns_alone}
use Rattle.desk.specs.Records.{line_of, settle_line, marked, recorded_by, IsLineOf, AdmitsCall, Opens, no_records, one_more}
use Rattle.desk.proofs.Recording.{still_goes}
use Rattle.session.specs.Current.{recorded_in, EachFileTellsARun}
use Rattle.session.specs.Openings.{IsRecordable, AreRecordable, EachFileHasATrace}

-- ---- one record

-- the record is that of a turn
pub record HasTurn (held : Held) (one : Said) (after : Held) : Type 0 where
  pub call : Call
  pub reply : Reply
  pub turn : IsTurn held call reply after
  pub recorded : recorded_by call reply ≡ one ∷ []
  pub recordable : IsRecordable call reply
  pub goes : after.stopped ≡ false

one_record : (said : Said) (epoch : ℕ) (line : List ℕ) → epoch ≡ said.0 → line ≡ said.1 → (epoch, line) ∷ [] ≡ said ∷ []
one_record said epoch line first second = ap (λ (e : ℕ). (e, line) ∷ []) first ∙ ap (λ (l : List ℕ). (said.0, l) ∷ []) second

-- a report without a mark is told by what it reports
unmarked_line : (epoch : ℕ) (r : Report) → epoch ≡ 0 → line_of r ≡ spelling (calls.Report (marked epoch r))
unmarked_line epoch r first = ap (λ (e : ℕ). spelling (calls.Report (marked e r))) (sym first)

pub spelled_unmarked : (epoch : ℕ) (r : Report) → IsSpelledIn epoch r → IsSpelledIn 0 r
spelled_unmarked epoch (Begin p) is = (refl, is.1)
spelled_unmarked epoch (Numbered r) is = (omega arith, is.1)

turn_for : (held : Held) (one : Said) (call : Call) (after : Held) → held.stopped ≡ false → IsLineOf one call → AdmitsCall held one.0 call after → HasTurn held one after
turn_for held one (calls.Report m) after goes is admits = record {
  call = calls.Report (marked one.0 m.report);
  reply = Accepted (held.front + 1);
  turn = (fine, subst (λ (b : Bool). IsReported b fine held (marked one.0 m.report) (Accepted (held.front + 1)) after) (sym goes) admits);
  recorded = one_record one one.0 (line_of m.report) refl (unmarked_line m.epoch m.report is.recorded ∙ sym is.line);
  recordable = λ uses. spelled_unmarked m.epoch m.report is.spelled;
  goes = ap (λ (h : Held). h.stopped) admits.1 ∙ goes;
}
turn_for held one (calls.Settle front names) after goes is admits = record {
  call = calls.Settle front names;
  reply = Settled (held.epoch + 1) (held.front + 1);
  turn = (fine, subst (λ (b : Bool). IsSettleAnswered b fine held front names (Settled (held.epoch + 1) (held.front + 1)) after) (sym goes) (admits.1, admits.2));
  recorded = one_record one (held.epoch + 1 - 1) (settle_line front names) (let same = admits.0 in omega arith) (sym is.line);
  recordable = λ uses. is.spelled;
  goes = still_goes held names after goes admits.2;
}
turn_for held one _ after goes is admits = absurd admits

-- ---- all records

turns_push : (held mid after : Held) (turns : Trace) (call : Call) (reply : Reply) → AreTurns held turns mid → IsTurn mid call reply after → AreTurns held (turns ++ Turned call reply ∷ []) after
turns_push held mid after [] call reply are turn = (after, subst (λ (h : Held). IsTurn h call reply after) are turn, refl)
turns_push held mid after (Stepped e s ∷ turns) call reply are turn = turns_push held mid after turns call reply are turn
turns_push held mid after (Turned c r ∷ turns) call reply are turn = (are.0, are.1, turns_push are.0 mid after turns call reply are.2 turn)

alone_push : (turns : Trace) (call : Call) (reply : Reply) → turns_of turns ≡ turns → turns_of (turns ++ Turned call reply ∷ []) ≡ turns ++ Turned call reply ∷ []
alone_push turns call reply alone = of_append turns ∙ ap (λ (t : Trace). t ++ Turned call reply ∷ []) alone
  where
    of_append : (turns : Trace) → turns_of (turns ++ Turned call reply ∷ []) ≡ turns_of turns ++ Turned call reply ∷ []
    of_append [] = refl
    of_append (Stepped e s ∷ turns) = of_append turns
    of_append (Turned c r ∷ turns) = ap (λ (t : Trace). Turned c r ∷ t) (of_append turns)

recorded_push : (turns : Trace) (call : Call) (reply : Reply) (one : Said) → recorded_by call reply ≡ one ∷ [] → recorded_in (turns ++ Turned call reply ∷ []) ≡ recorded_in turns ++ one ∷ []
recorded_push [] call reply one is = ap (λ (l : List Said). l ++ []) is
recorded_push (Stepped e s ∷ turns) call reply one is = recorded_push turns call reply one is
recorded_push (Turned c r ∷ turns) call reply one is =
    ap (λ (l : List Said). recorded_by c r ++ l) (recorded_push turns call reply one is) ∙ sym (append_assoc (recorded_by c r) (recorded_in turns) (one ∷ []))

recordable_push : (turns : Trace) (call : Call) (reply : Reply) → AreRecordable turns → IsRecordable call reply → AreRecordable (turns ++ Turned call reply ∷ [])
recordable_push [] call reply all one = (one, tt)
recordable_push (Stepped e s ∷ turns) call reply all one = recordable_push turns call reply all one
recordable_push (Turned c r ∷ turns) call reply all one = (all.0, recordable_push turns call reply all.1 one)

-- the records are those of turns from nothing
pub record AreOfTurns (said : List Said) (held : Held) : Type 0 where
  pub turns : Trace
  pub alone : turns_of turns ≡ turns
  pub recorded : recorded_in turns ≡ said
  pub recordable : AreRecordable turns
  pub count : length turns ≡ length said
  pub are : AreTurns (counting []) turns held
  pub goes : held.stopped ≡ false

pub of_turns : {said : List Said} {held : Held} → Opens said held → AreOfTurns said held
of_turns no_records = record { turns = []; alone = refl; recorded = refl; recordable = tt; count = refl; are = refl; goes = refl }
of_turns (one_more {said = said} {held = held} one after opens admits) =
    let w = of_turns opens in
    let t = turn_for held one admits.call after w.goes admits.is_line admits.admits in
    record {
      turns = w.turns ++ Turned t.call t.reply ∷ [];
      alone = alone_push w.turns t.call t.reply w.alone;
      recorded = recorded_push w.turns t.call t.reply one t.recorded ∙ ap (λ (l : List Said). l ++ one ∷ []) w.recorded;
      recordable = recordable_push w.turns t.call t.reply w.recordable t.recordable;
      count = omega (arith, length-append w.turns (Turned t.call t.reply ∷ []), length-append said (one ∷ []), w.count);
      are = turns_push (counting []) held after w.turns t.call t.reply w.are t.turn;
      goes = t.goes;
    }

pub each_file_tells_a_run : EachFileTellsARun
each_file_tells_a_run said held opens =
    let w = of_turns opens in (
      w.turns,
      w.alone,
      w.recorded,
      w.count,
      w.are,
      λ root trace front processes.
          from_nothing root held trace ((turns_alone (counting []) held trace).0 (subst (λ (t : Trace). AreTurns (counting []) t held) (sym front) w.are)) processes,
    )

pub each_file_has_a_trace : EachFileHasATrace
each_file_has_a_trace said held opens = let w = of_turns opens in (w.turns, w.recorded, w.recordable)
