-- The chains that accepted each printed line hold what the world reported; so settlements for known processes are taken.
use Rattle.std.proofs.Common.{◌≡◌, ◌≢◌, ◌+◌, ℕ, suc, List, [], ◌∷◌, ◌++◌, length, map, Option, Some, None, All, inl, inr, refl, sym, ap, subst, ◌∙◌, append-nil, arith}
use Rattle.std.specs.List.{cons_option}
use Rattle.std.proofs.lemmas.List.Elements.{All-weaker}
use Rattle.report_line.specs.declared.call.Call.{Call}
use Rattle.report_line.specs.declared.call.Call.TheVariants as calls
use Rattle.report_line.specs.declared.marked.MarkedReport.{MarkedReport}
use Rattle.report_line.specs.declared.report.Report.{Report}
use Rattle.report_line.specs.declared.report.Report.TheVariants.{Begin}
use Rattle.report_line.specs.histories.History.{Name, Unborn, status}
use Rattle.report_line.specs.histories.Lawful.{IsLawful, start}
use Rattle.report_line.specs.Reports.{unmarked}
use Rattle.report_line.specs.histories.StepReports.{reports}
use Rattle.chains.specs.Folded.{IsFolded}
use Rattle.chains.specs.Greatest.{IsGreatestCut}
use Rattle.chains.specs.Held.{Held, counting, with_report}
use Rattle.chains.specs.Processes.{IsKnown}
use Rattle.chains.specs.Settled.{settled, IsSettled}
use Rattle.chains.proofs.Certain.{known_or_not}
use Rattle.propagate.proofs.Outcomes.{one_cut, one_failed_set}
use Rattle.law_lines.specs.Places.{IsPremise}
use Rattle.driver.specs.declared.fault.StepFault.{StepFault}
use Rattle.driver.specs.declared.fault.StepFault.TheVariants as faults
use Rattle.driver.specs.declared.line.NamedPosition.{NamedPosition}
use Rattle.driver.specs.declared.step.Step.{Step}
use Rattle.driver.specs.Chronicle.{Chronicle}
use Rattle.driver.specs.Lines.{reported, positions_by}
use Rattle.driver.specs.Settling.{HasUnknownName, IsClosedLine, Settles, RefusesLine}
use Rattle.driver.specs.Stamping.{Takes}
use Rattle.driver.proofs.Born.{born_is_known}
use Rattle.driver.proofs.Folds.{premise_if_folded}
use Rattle.driver.proofs.Recovery.{recovery_line_is_taken, positions_of_known, settlement_keeps_reports, settled_is_lawful}
use Rattle.script.specs.declared.end.Cause.TheVariants.{Grammar, Fault}
use Rattle.script.specs.Driven.{Drives, none, begins, goes_on, settles, RefusesSettle}
use Rattle.script.specs.Printed.{report_lines, IsHeldBehind, IsRecoveryLine, IsLineFor, IsLineBehind}
use Rattle.script.specs.Spelling.{SpellsSettle}
use Rattle.script.specs.Taken.{IsAllAccepted, ChainsHoldTheReports, AreBorn, KnownSettlementIsClosed, KnownSettlementIsTaken}
use Rattle.script.proofs.Behind.{behind_nothing, behind_once, behind_reached, last_report, last_settlement}
use Rattle.script.proofs.OneStep.{one_settle, settle_or_step}

-- what is held is what the world reported, in its epoch, and its history is lawful
record IsHeldOf (w : Chronicle) (held : Held) : Type 0 where
  pub list : held.accepted ≡ reported w
  pub epoch : held.epoch ≡ w.epoch
  pub lawful : IsLawful w.root w.history

abbrev HoldsFor : Option Chronicle → Held → Type 0
HoldsFor None held = Unit {0}
HoldsFor (Some w) held = IsHeldOf w held

premise_behind : (w : Chronicle) (told : List Call) (held : Held) → IsHeldBehind told held → IsHeldOf w held → IsPremise w.root w.history (reported w)
premise_behind w told held behind is = premise_if_folded w.root w.history is.lawful (subst IsFolded is.list (behind_reached behind).folded)

-- ---- a step

reported_more : (old new : Chronicle) (step : Step) (given : Option Report) → Takes old step new given → reported new ≡ reported old ++ cons_option given []
reported_more old new step given takes =
    ap (λ (r : Name). Begin r ∷ reports r new.history) takes.root
    ∙ (ap (λ h. Begin old.root ∷ reports old.root h) takes.history
    ∙ ap (λ (o : Option Report). Begin old.root ∷ (reports old.root old.history ++ cons_option o [])) (sym takes.report))

abbrev marked : ℕ → Report → MarkedReport
marked epoch r = record { epoch = epoch; report = r }

-- what is held behind the report of a step, if there is one, where it was accepted
record IsMore (told : List Call) (given : Option Report) (after : Held) : Type 0 where
  pub before : Held
  pub behind : IsHeldBehind told before
  pub all : before.front ≡ length told
  pub list : after.accepted ≡ before.accepted ++ cons_option given []
  pub epoch : after.epoch ≡ before.epoch

more : (told : List Call) (epoch : ℕ) (given : Option Report) (after : Held) → IsHeldBehind (told ++ report_lines epoch given) after → after.front ≡ length (told ++ report_lines epoch given)
    → IsMore told given after
more told epoch None after behind all = record {
  before = after;
  behind = subst (λ (l : List Call). IsHeldBehind l after) (append-nil told) behind;
  all = all ∙ ap length (append-nil told);
  list = sym (append-nil after.accepted);
  epoch = refl;
}
more told epoch (Some r) after behind all =
    let last = last_report told (marked epoch r) after behind all in
    record {
      before = last.0;
      behind = last.1;
      all = last.2;
      list = ap (λ (h : Held). h.accepted) last.3;
      epoch = ap (λ (h : Held). h.epoch) last.3;
    }

-- ---- the line behind what was printed

-- it is the recovery line, where the names are known
line_known : (accepted : List Report) (names : List Name) (target : List NamedPosition) → All (IsKnown accepted) names → IsLineFor accepted names target → IsRecoveryLine accepted names target
line_known accepted names target all (inl line) = line
line_known accepted names target all (inr other) = absurd (other.0 all)

line_here : (told : List Call) (held : Held) (names : List Name) (target : List NamedPosition) → IsHeldBehind told held → All (IsKnown held.accepted) names → IsLineBehind told names target
    → IsRecoveryLine held.accepted names target
line_here told held names target behind all line =
    line_known held.accepted names target all
    (subst (λ (h : Held). IsLineFor h.accepted names target) (behind_once told line.held held line.behind behind) line.for_names)

-- ---- a settlement

-- what the chains keep is what the line of the world keeps
kept_as_line : (held after : Held) (names : List Name) (target : List NamedPosition) → IsFolded held.accepted → IsRecoveryLine held.accepted names target → IsSettled held names after
    → (after.accepted ≡ settled held.accepted (positions_by target held.accepted)) × (after.epoch ≡ held.epoch + 1)
kept_as_line held after names target folded line (failed, set, is) =
    let same = one_failed_set held.accepted names failed line.failed set line.are_failed in
    let cut : is.line ≡ map (λ (x : NamedPosition). x.position) target =
    one_cut held.accepted line.failed is.line (map (λ (x : NamedPosition). x.position) target) (subst (λ (f : List ℕ). IsGreatestCut held.accepted f is.line) same is.greatest) line.greatest in (
      ap (λ (h : Held). h.accepted) is.is_kept
          ∙ ap (settled held.accepted) (cut ∙ sym (positions_of_known target held.accepted folded line.in_order)),
      ap (λ (h : Held). h.epoch) is.is_kept,
    )

settled_holds : (old new : Chronicle) (told : List Call) (held after : Held) (names : List Name) (target : List NamedPosition) → IsHeldBehind told held → IsHeldOf old held → IsSettled held names after
    → IsLineBehind told names target → IsClosedLine old names target → Settles old target new → IsHeldOf new after
settled_holds old new told held after names target behind is moves line closed returns =
    let premise = premise_behind old told held behind is in
    let kept = kept_as_line held after names target (behind_reached behind).folded (line_here told held names target behind moves.1.all_known line) moves in
    record {
      list =
          kept.0
          ∙ (ap (λ (l : List Report). settled l (positions_by target l)) is.list
          ∙ sym (settlement_keeps_reports old new names target premise closed returns));
      epoch = (let here : after.epoch ≡ held.epoch + 1 = kept.1 in let there : new.epoch ≡ suc old.epoch = returns.epoch in let same : held.epoch ≡ old.epoch = is.epoch in omega arith);
      lawful = settled_is_lawful old new names target premise closed returns;
    }

-- ---- all lines

first_holds : (root : Name) (held : Held) → IsHeldBehind (calls.Report (unmarked (Begin root)) ∷ []) held → held.front ≡ 1
    → IsHeldOf (record { root = root; epoch = 0; history = [] }) held
first_holds root held behind all =
    let last = last_report [] (unmarked (Begin root)) held behind all in
    let is : held ≡ with_report (counting []) (unmarked (Begin root)) = last.3 ∙ ap (λ (h : Held). with_report h (unmarked (Begin root))) (behind_nothing last.0 last.1) in
    record { list = ap (λ (h : Held). h.accepted) is; epoch = ap (λ (h : Held). h.epoch) is; lawful = start }

holds : {lines : List (List ℕ)} {world : Option Chronicle} {told : List Call} → Drives lines world told → (held : Held) → IsHeldBehind told held → held.front ≡ length told → HoldsFor world held
holds none held behind all = tt
holds (begins {root = root} spells) held behind all = first_holds root held behind all
holds (goes_on {step = step} {old = old} {new = new} {given = given} {told = told} driven spells takes) held behind all =
    let w = more told new.epoch given held behind all in
    let before = holds driven w.before w.behind w.all in
    record {
      list = w.list ∙ (ap (λ (l : List Report). l ++ cons_option given []) before.list ∙ sym (reported_more old new step given takes));
      epoch = w.epoch ∙ (before.epoch ∙ sym takes.epoch);
      lawful = takes.lawful;
    }
holds (settles {names = names} {target = target} {old = old} {new = new} {told = told} driven spells line closed returns) held behind all =
    let last = last_settlement told (length told) names held behind all in
    settled_holds old new told last.0 held names target last.1 (holds driven last.0 last.1 last.2) last.3 line closed returns

pub chains_hold_the_reports : ChainsHoldTheReports
chains_hold_the_reports lines w told held all = (let is = holds all.driven held all.behind all.accepted in (is.list, is.epoch))

-- ---- a settlement for known processes

known_of_born : (w : Chronicle) → IsLawful w.root w.history → (p : Name) → status w.root w.history p ≢ Unborn → IsKnown (reported w) p
known_of_born w lawful p is_born = elim (known_or_not (reported w) p) [ inl is ↦ is | inr unknown ↦ absurd (is_born (born_is_known lawful p unknown)) ]

-- what the world does with the line
record IsTaken (w : Chronicle) (names : List Name) (target : List NamedPosition) : Type 0 where
  pub named : ¬ HasUnknownName w names target
  pub closed : IsClosedLine w names target
  pub memory : (fault : StepFault) → RefusesLine w names target fault → fault ≡ faults.Memory

taken_line : (lines : List (List ℕ)) (w : Chronicle) (told : List Call) (held : Held) (names : List Name) (target : List NamedPosition)
    → IsAllAccepted lines w told held → AreBorn w names → IsLineBehind told names target → IsTaken w names target
taken_line lines w told held names target all born line =
    let is = holds all.driven held all.behind all.accepted in
    let known_names = All-weaker (λ p. status w.root w.history p ≢ Unborn) (IsKnown (reported w)) (known_of_born w is.lawful) names born in
    let recovery : IsRecoveryLine (reported w) names target =
    subst (λ (l : List Report). IsRecoveryLine l names target) is.list
    (line_here told held names target all.behind (subst (λ (l : List Report). All (IsKnown l) names) (sym is.list) known_names) line) in
    let taken = recovery_line_is_taken w names recovery.failed (map (λ (x : NamedPosition). x.position) target) target (premise_behind w told held all.behind is)
    recovery.are_failed recovery.greatest recovery.in_order refl in
    record { named = taken.0; closed = taken.1; memory = taken.2 }

pub known_settlement_is_closed : KnownSettlementIsClosed
known_settlement_is_closed lines w told held names target all born line = (let is = taken_line lines w told held names target all born line in (is.named, is.closed))

refused_so : (lines : List (List ℕ)) (line : List ℕ) (w : Chronicle) (told : List Call) (held : Held) (names : List Name) (fault : StepFault)
    → IsAllAccepted lines w told held → SpellsSettle names line → AreBorn w names → RefusesSettle w told line fault → fault ≡ faults.Memory
refused_so lines line w told held names fault all spells born refuses =
    let same : names ≡ refuses.names = one_settle line names refuses.names spells refuses.spells in
    (taken_line lines w told held refuses.names refuses.target all (subst (AreBorn w) same born) refuses.behind).memory fault refuses.refuses

pub known_settlement_is_taken : KnownSettlementIsTaken
known_settlement_is_taken lines line w told held names Grammar all spells born refuses = absurd (refuses.1 names spells)
known_settlement_is_taken lines line w told held names (Fault fault) all spells born refuses =
    elim refuses [
      | inl step ↦ absurd (settle_or_step line names step.step spells step.spells)
      | inr settlement ↦ ap (λ (f : StepFault). Fault f) (refused_so lines line w told held names fault all spells born settlement)
    ]
