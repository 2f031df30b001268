-- A file that is opened twice, written out.
use Rattle.std.proofs.Common.{◌≡◌, ◌∙◌, Bool, true, false, List, [], ◌∷◌, ◌++◌, refl, sym, ap, subst, arith}
use Rattle.std.proofs.lemmas.Bool.{true≢false}
use Rattle.id_tree.specs.IdTree.{One}
use Rattle.event_tree.specs.EventTree.{Leaf}
use Rattle.record_file.specs.File.{Said}
use Rattle.report_line.specs.declared.report.ReportKind.TheVariants as reported
use Rattle.law_histories.specs.Example.{a, b, right, halves, forked}
use Rattle.law_histories.proofs.ExampleForms.{name_a, name_b, on_one, on_left, on_right, flat, halved}
use Rattle.law_admission.proofs.Example.{line}
use Rattle.chains.specs.Held.{Held, counting}
use Rattle.chains.proofs.Unfailing.{stays_stopped}
use Rattle.law_turns.specs.Traces.{Trace, Stepped, Turned, AreTurns}
use Rattle.law_turns.specs.Example.{settled_once, held_then}
use Rattle.law_turns.proofs.Parted.{turns_in_parts}
use Rattle.law_turns.proofs.Written.{settled_once_is_taken, settled_once_is_right}
use Rattle.desk.specs.Records.{Opens, no_records}
use Rattle.desk.proofs.Running.{is_unstopped}
use Rattle.session.specs.Current.{recorded_in}
use Rattle.session.specs.Openings.{AreRecordable, IsHeldOver}
use Rattle.session.specs.TwoOpenings.{in_the_first, in_the_second, TwoOpeningsArePossible}
use Rattle.session.proofs.OverFiles.{recordable_parts, what_is_held_is_opened}

-- ---- a store that is not stopped was not stopped before

stopped_on : (held after : Held) (trace : Trace) → held.stopped ≡ true → AreTurns held trace after → after.stopped ≡ true
stopped_on held after [] down are = ap (λ (h : Held). h.stopped) are ∙ down
stopped_on held after (Stepped e s ∷ trace) down are = stopped_on held after trace down are
stopped_on held after (Turned call reply ∷ trace) down are =
    let same = stays_stopped held are.0 call reply down are.1 in
    stopped_on are.0 after trace (ap (λ (h : Held). h.stopped) same ∙ down) are.2

ran_before : (held after : Held) (trace : Trace) → after.stopped ≡ false → AreTurns held trace after → held.stopped ≡ false
ran_before held after trace still are = by held.stopped refl
  where
    by : (b : Bool) → held.stopped ≡ b → held.stopped ≡ false
    by true down = absurd (true≢false (sym (stopped_on held after trace down are) ∙ still))
    by false up = up

-- ---- all that is accepted has a line

can_be_recorded : AreRecordable settled_once
can_be_recorded = (
  λ uses. (refl, name_a),
  (
    λ uses. line a 1 One (Leaf 1) reported.Check name_a (omega arith, omega arith) on_one (flat 1 (omega arith)) tt,
    (
      λ uses. line a 2 One (Leaf 2) reported.Present name_a (omega arith, omega arith) on_one (flat 2 (omega arith)) tt,
      (
        λ uses. ((omega arith, omega arith), (name_a, tt)),
        (
          λ uses. absurd uses,
          (
            λ uses. line a 2 One (Leaf 2) (forked b) name_a (omega arith, omega arith) on_one (flat 2 (omega arith)) (on_left, name_b, on_right),
            (λ uses. line b 1 right (halves 2 0 1) reported.Check name_b (omega arith, omega arith) on_right (halved 2 0 1 refl refl (omega arith)) tt, (tt, tt)),
          ),
        ),
      ),
    ),
  ),
)

-- ---- the openings

abbrev front : List Said
front = recorded_in in_the_first

over_new : (first : Held) → AreTurns (counting []) in_the_first first → IsHeldOver front first
over_new first are = record {
  found = [];
  opening = counting [];
  opened = no_records;
  turns = in_the_first;
  come = are;
  recordable = (recordable_parts in_the_first in_the_second can_be_recorded).0;
  said_is = refl;
}

over_old : (first : Held) → IsHeldOver front first → AreTurns first in_the_second held_then → (later : IsHeldOver (front ++ recorded_in in_the_second) held_then) × (later.found ≡ front)
over_old first over are = (
  record {
    found = front;
    opening = first;
    opened = subst (λ (h : Held). Opens front h) (sym (is_unstopped first (ran_before first held_then in_the_second refl are))) (what_is_held_is_opened front first over);
    turns = in_the_second;
    come = are;
    recordable = (recordable_parts in_the_first in_the_second can_be_recorded).1;
    said_is = refl;
  },
  refl,
)

pub two_openings_are_possible : TwoOpeningsArePossible
two_openings_are_possible =
    let parts = turns_in_parts (counting []) held_then in_the_first in_the_second settled_once_is_taken in
    let over = over_new parts.0 parts.1 in
    (settled_once_is_right, can_be_recorded, (parts.0, over, over_old parts.0 over parts.2))
