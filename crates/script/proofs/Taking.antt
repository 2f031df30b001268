-- What is printed line by line.
use Rattle.std.proofs.Common.{◌≡◌, ◌≢◌, inl, inr, ℕ, ◌+◌, List, [], ◌∷◌, ◌++◌, length, Option, Some, None, refl, sym, ap, subst, ◌∙◌, append_assoc, arith}
use Rattle.std.specs.Prelude.{Result, Ok, Err, OnOk}
use Rattle.std.proofs.lemmas.List.{append-nil, length-append, map-append}
use Rattle.std.proofs.lemmas.List.Concat.{flat_map-append}
use Rattle.report_line.specs.declared.call.Call.{Call}
use Rattle.report_line.specs.declared.call.Call.TheVariants as calls
use Rattle.report_line.specs.declared.marked.MarkedReport.{MarkedReport}
use Rattle.report_line.specs.declared.report.Report.{Report}
use Rattle.report_line.specs.declared.report.Report.TheVariants.{Begin}
use Rattle.report_line.specs.declared.reply.Reply.{Reply}
use Rattle.report_line.specs.Reports.{unmarked}
use Rattle.report_line.specs.Cutting.{ended}
use Rattle.report_line.specs.Spelling.{spelling}
use Rattle.chains.specs.Held.{Held, counting, held_of}
use Rattle.chains.specs.Kept.{Kept}
use Rattle.chains.specs.Turns.{fine, IsTurnWith}
use Rattle.report_line.specs.histories.History.{Name}
use Rattle.driver.specs.declared.fault.StepFault.{StepFault}
use Rattle.driver.specs.declared.fault.StepFault.TheVariants as faults
use Rattle.driver.specs.declared.line.NamedPosition.{NamedPosition}
use Rattle.driver.specs.declared.step.Step.{Step}
use Rattle.driver.specs.Chronicle.{Chronicle}
use Rattle.driver.specs.Settling.{IsClosedLine, Settles, RefusesLine}
use Rattle.driver.specs.Stamping.{Takes}
use Rattle.driver.specs.Verdicts.{IsVerdict}
use Rattle.script.specs.declared.driving.Stop.{Stop}
use Rattle.script.specs.declared.driving.Stop.TheVariants as stops
use Rattle.script.specs.declared.end.Cause.TheVariants.{Fault}
use Rattle.script.specs.declared.printing.Printout.{Printout}
use Rattle.script.specs.Driven.{Drives, goes_on, settles}
use Rattle.script.specs.working.Driving.{lines_of, IsPrinted, IsTaken, TakeTurns, PrintsLine, PrintsReport, PrintsAtOnce, Begins, GivenTold, StepTold, StopTold}
use Rattle.script.specs.Printed.{printed, report_lines, IsHeldBehind, nothing, one_more, IsLineFor, IsLineBehind}
use Rattle.script.specs.Spelling.{SpellsRoot, SpellsStep, SpellsSettle}

pub line_of_one : (line : Call) → printed (line ∷ []) ≡ ended (spelling line)
line_of_one line = append-nil (ended (spelling line))

text_more : (told : List Call) (line : Call) (old new : Printout) → old.text.items ≡ printed told → PrintsLine old line new → new.text.items ≡ printed (told ++ line ∷ [])
text_more told line old new is prints =
    prints.text_is
    ∙ (ap (λ (l : List ℕ). l ++ ended (spelling line)) is
    ∙ (ap (λ (l : List ℕ). printed told ++ l) (sym (line_of_one line)) ∙ sym (flat_map-append (λ (x : Call). ended (spelling x)) told (line ∷ []))))

count_more : (told : List Call) (line : Call) (old new : Printout) → old.lines ≡ length told → PrintsLine old line new → new.lines ≡ length (told ++ line ∷ [])
count_more told line old new is prints = omega (arith, prints.counted, is, length-append told (line ∷ []))

-- ---- reports wait, and take their turns

lines_more : (ms : List MarkedReport) (m : MarkedReport) → lines_of (ms ++ m ∷ []) ≡ lines_of ms ++ calls.Report m ∷ []
lines_more ms m = map-append (λ (x : MarkedReport). calls.Report x) ms (m ∷ [])

report_printed : (told : List Call) (m : MarkedReport) (old new : Printout) → IsPrinted told old → PrintsLine old (calls.Report m) new → new.pending.items ≡ old.pending.items ++ m ∷ []
    → new.chains ≡ old.chains → IsPrinted (told ++ calls.Report m ∷ []) new
report_printed told m old new so_far prints waits same = record {
  text_is = text_more told (calls.Report m) old new so_far.text_is prints;
  counted = count_more told (calls.Report m) old new so_far.counted prints;
  front = so_far.front;
  parts =
      ap (λ (l : List Call). l ++ calls.Report m ∷ []) so_far.parts
      ∙ (append_assoc so_far.front (lines_of old.pending.items) (calls.Report m ∷ [])
      ∙ ap (λ (l : List Call). so_far.front ++ l) (sym (ap lines_of waits ∙ lines_more old.pending.items m)));
  behind = subst (λ (k : Kept). IsHeldBehind so_far.front (held_of k)) (sym same) so_far.behind;
}

-- a report that waits is printed
pub report_then : {E : Type 0} (r : Result (Unit {0}) E) (old new : Printout) (epoch : ℕ) (kept report : Report) (bytes : List ℕ) → kept ≡ report
    → bytes ≡ ended (spelling (calls.Report (record { epoch = epoch; report = report }))) → OnOk r (new.text.items ≡ old.text.items ++ bytes) → OnOk r (new.lines ≡ old.lines + 1)
    → new.pending.items ≡ old.pending.items ++ record { epoch = epoch; report = kept } ∷ [] → new.chains ≡ old.chains → OnOk r (PrintsReport old (record { epoch = epoch; report = report }) new)
report_then (Ok u) old new epoch kept report bytes is written text counted waits chains = λ told so_far.
    report_printed told (record { epoch = epoch; report = report }) old new so_far
    (record { text_is = text ∙ ap (λ (l : List ℕ). old.text.items ++ l) written; counted = counted })
    (waits ∙ ap (λ (x : Report). old.pending.items ++ record { epoch = epoch; report = x } ∷ []) is) chains
report_then (Err e) old new epoch kept report bytes is written text counted waits chains = tt

-- one report more takes its turn
pub one_turned : (held before after : Held) (ms : List MarkedReport) (m : MarkedReport) (reply : Reply) → TakeTurns held ms before → IsTurnWith fine before (calls.Report m) reply after
    → TakeTurns held (ms ++ m ∷ []) after
one_turned held before after ms m reply turns turn front behind =
    let all : (front ++ lines_of ms) ++ calls.Report m ∷ [] ≡ front ++ lines_of (ms ++ m ∷ []) =
    append_assoc front (lines_of ms) (calls.Report m ∷ []) ∙ ap (λ (l : List Call). front ++ l) (sym (lines_more ms m))
    in
    subst (λ (l : List Call). IsHeldBehind l after) all (one_more (calls.Report m) reply (turns front behind) turn)

-- where none waits, all lines took their turns
all_behind : (told : List Call) (p : Printout) → IsPrinted told p → p.pending.items ≡ [] → IsHeldBehind told (held_of p.chains)
all_behind told p so_far none =
    subst (λ (l : List Call). IsHeldBehind l (held_of p.chains)) (sym (so_far.parts ∙ (ap (λ (ms : List MarkedReport). so_far.front ++ lines_of ms) none ∙ append-nil so_far.front))) so_far.behind

none_behind : (told : List Call) (ms : List MarkedReport) → ms ≡ [] → told ≡ told ++ lines_of ms
none_behind told ms none = sym (ap (λ (l : List MarkedReport). told ++ lines_of l) none ∙ append-nil told)

-- ---- a line takes its turn at once

once_printed : (told : List Call) (line : Call) (old new : Printout) → IsPrinted told old → old.pending.items ≡ [] → PrintsAtOnce old line new → IsPrinted (told ++ line ∷ []) new
once_printed told line old new so_far none once = record {
  text_is = text_more told line old new so_far.text_is once.prints;
  counted = count_more told line old new so_far.counted once.prints;
  front = told ++ line ∷ [];
  parts = none_behind (told ++ line ∷ []) new.pending.items once.none_waits;
  behind = one_more line once.reply (all_behind told old so_far none) once.turn;
}

-- a line that took its turn is printed
pub once_then : {E : Type 0} (r : Result (Unit {0}) E) (old new : Printout) (line : Call) (bytes : List ℕ) → bytes ≡ ended (spelling line) → OnOk r (new.text.items ≡ old.text.items ++ bytes)
    → OnOk r (new.lines ≡ old.lines + 1) → new.pending.items ≡ [] → ((reply : Reply) × IsTurnWith fine (held_of old.chains) line reply (held_of new.chains)) → OnOk r (PrintsAtOnce old line new)
once_then (Ok u) old new line bytes is text counted none turn = record {
  prints = record { text_is = text ∙ ap (λ (l : List ℕ). old.text.items ++ l) is; counted = counted };
  none_waits = none;
  reply = turn.0;
  turn = turn.1;
}
once_then (Err e) old new line bytes is text counted none turn = tt

-- so is a report, behind those that waited
pub caught_then : {E : Type 0} (r : Result (Unit {0}) E) (old caught new : Printout) (m : MarkedReport) → ((told : List Call) → IsPrinted told old → IsPrinted told caught) → caught.pending.items ≡ []
    → OnOk r (PrintsAtOnce caught (calls.Report m) new) → OnOk r (PrintsReport old m new)
caught_then (Ok u) old caught new m kept none once = λ told so_far. once_printed told (calls.Report m) caught new (kept told so_far) none once
caught_then (Err e) old caught new m kept none once = tt

-- nothing is printed
pub nothing_printed : (p : Printout) → p.text.items ≡ [] → p.lines ≡ 0 → p.pending.items ≡ [] → held_of p.chains ≡ counting [] → IsPrinted [] p
nothing_printed p text lines none chains = record {
  text_is = text;
  counted = lines;
  front = [];
  parts = none_behind [] p.pending.items none;
  behind = subst (IsHeldBehind []) (sym chains) nothing;
}

-- ---- a line is taken

pub begun : (line root : List ℕ) (world : Chronicle) (report : Report) (before after : Printout) → SpellsRoot root line → world ≡ record { root = root; epoch = 0; history = [] } → report ≡ Begin root
    → before.text.items ≡ [] → before.lines ≡ 0 → before.pending.items ≡ [] → held_of before.chains ≡ counting [] → PrintsReport before (unmarked report) after → Begins line world after
begun line root world report before after spells is told text lines none chains prints =
    let same : world.root ≡ root = ap (λ (w : Chronicle). w.root) is in
    let first : PrintsReport before (unmarked (Begin world.root)) after = subst (λ (r : Report). PrintsReport before (unmarked r) after) (told ∙ ap Begin (sym same)) prints in
    record {
      spells = subst (λ (p : List ℕ). SpellsRoot p line) (sym same) spells;
      epoch = ap (λ (w : Chronicle). w.epoch) is;
      first = ap (λ (w : Chronicle). w.history) is;
      prints = first [] (nothing_printed before text lines none chains);
    }

-- a step has no report
pub none_given : (before : Printout) (epoch : ℕ) (told : List Call) → IsPrinted told before → IsPrinted (told ++ report_lines epoch None) before
none_given before epoch told so_far = subst (λ (l : List Call). IsPrinted l before) (sym (append-nil told)) so_far

-- its report is printed
pub one_given : (before after : Printout) (epoch : ℕ) (given : Option Report) (report : Report) → given ≡ Some report → PrintsReport before (record { epoch = epoch; report = report }) after
    → (told : List Call) → IsPrinted told before → IsPrinted (told ++ report_lines epoch given) after
one_given before after epoch given report is prints told so_far =
    subst (λ (g : Option Report). IsPrinted (told ++ report_lines epoch g) after) (sym is) (prints told so_far)

pub step_told : (old new : Chronicle) (step : Step) (given : Option Report) (before after : Printout) (epoch : ℕ) (r : Result (Unit {0}) Stop) → Takes old step new given → epoch ≡ new.epoch
    → GivenTold before after epoch given r → (line : List ℕ) → SpellsStep step line → StepTold old new before after line r
step_told old new step given before after epoch (Ok u) takes is prints line spells = λ lines told driven so_far. record {
  told = told ++ report_lines new.epoch given;
  driven = goes_on driven spells takes;
  prints = subst (λ (k : ℕ). IsPrinted (told ++ report_lines k given) after) is (prints told so_far);
}
step_told old new step given before after epoch (Err stop) takes is prints line spells =
    (prints.0, λ told so_far. subst (λ (s : Stop). StopTold (Some old) told line s) (sym prints.1) tt)

pub step_refused : (old : Chronicle) (step : Step) (before : Printout) (fault : StepFault) → (fault ≢ faults.Memory → IsVerdict old.root old.history step.process step.request (Some fault))
    → (line : List ℕ) → SpellsStep step line → StepTold old old before before line (Err (stops.Refused (Fault fault)))
step_refused old step before fault refuses line spells = (refl, λ told so_far. inl (record { step = step; spells = spells; refuses = refuses }))

-- what the world is handed over, where no report waits, is the line by what was printed
line_behind : (told : List Call) (names : List Name) (target : List NamedPosition) (p : Printout) → IsPrinted told p → p.pending.items ≡ [] → IsLineFor p.chains.accepted names target
    → IsLineBehind told names target
line_behind told names target p so_far none for_names = record { held = held_of p.chains; behind = all_behind told p so_far none; for_names = for_names }

pub settle_told : (old new : Chronicle) (names : List Name) (target : List NamedPosition) (before caught after : Printout) → ((told : List Call) → IsPrinted told before → IsPrinted told caught)
    → caught.pending.items ≡ [] → IsLineFor caught.chains.accepted names target → IsClosedLine old names target → Settles old target new → PrintsAtOnce caught (calls.Settle caught.lines names) after
    → (line : List ℕ) → SpellsSettle names line → (lines : List (List ℕ)) (told : List Call) → Drives lines (Some old) told → IsPrinted told before → IsTaken (lines ++ line ∷ []) new after
settle_told old new names target before caught after kept none for_names closed returns prints line spells lines told driven so_far =
    let here : IsPrinted told caught = kept told so_far in
    record {
      told = told ++ calls.Settle (length told) names ∷ [];
      driven = settles driven spells (line_behind told names target caught here none for_names) closed returns;
      prints = subst (λ (k : ℕ). IsPrinted (told ++ calls.Settle k names ∷ []) after) here.counted (once_printed told (calls.Settle caught.lines names) caught after here none prints);
    }

pub settle_refused : (old : Chronicle) (names : List Name) (target : List NamedPosition) (before caught : Printout) (fault : StepFault) → caught.text.items ≡ before.text.items
    → ((told : List Call) → IsPrinted told before → IsPrinted told caught) → caught.pending.items ≡ [] → IsLineFor caught.chains.accepted names target → RefusesLine old names target fault
    → (line : List ℕ) → SpellsSettle names line → StepTold old old before caught line (Err (stops.Refused (Fault fault)))
settle_refused old names target before caught fault text kept none for_names refuses line spells = (
  text,
  λ told so_far. inr (record {
    names = names;
    spells = spells;
    target = target;
    behind = line_behind told names target caught (kept told so_far) none for_names;
    refuses = refuses;
  }),
)
