-- The line that is answered for the reports of a world, by names, is taken; and what a settlement keeps of the reports.
use Rattle.std.proofs.Common.{◌≡◌, ℕ, suc, false, List, [], ◌∷◌, Some, All, map, refl, sym, ◌∙◌, ap, subst, inl, inr, arith}
use Rattle.std.specs.Prelude.{slice_get, Contains}
use Rattle.std.specs.Str.{bytes_eq}
use Rattle.std.proofs.lemmas.Bool.{cond-true, cond-false}
use Rattle.std.proofs.lemmas.List.Elements.{All-contains}
use Rattle.law_histories.proofs.Bytes.{bytes_same, bytes_other}
use Rattle.report_line.specs.declared.report.Report.{Report}
use Rattle.report_line.specs.histories.History.{Name}
use Rattle.report_line.specs.histories.Lawful.{IsLawful}
use Rattle.chains.specs.declared.position.Position.{Position}
use Rattle.chains.specs.Folded.{IsFolded}
use Rattle.chains.specs.Greatest.{IsConsistentCut}
use Rattle.chains.specs.Positions.{position_in}
use Rattle.chains.specs.Processes.{known, IsKnown}
use Rattle.law_lines.proofs.Closing.{closed_is_consistent}
use Rattle.law_lines.proofs.Known.{same_number_of}
use Rattle.law_lines.proofs.Lines.{greatest_is_greatest_closed}
use Rattle.law_lines.proofs.Listed.{first_in, later_in, at_in}
use Rattle.law_histories.proofs.Keeping.{kept_is_lawful}
use Rattle.law_lines.proofs.SettledAgreeing.{closed as closed_by}
use Rattle.law_lines.proofs.Standing.{settled_known}
use Rattle.driver.specs.declared.fault.StepFault.{StepFault}
use Rattle.driver.specs.declared.fault.StepFault.TheVariants as faults
use Rattle.driver.specs.declared.line.NamedPosition.{NamedPosition}
use Rattle.driver.specs.Chronicle.{Chronicle}
use Rattle.driver.specs.GreatestLines.{GreatestLineIsClosed, RecoveryLineIsTaken, SettlementKeepsReports}
use Rattle.driver.specs.Lines.{reported, names_of, IsNamedOnce, position_of, positions_by}
use Rattle.driver.specs.Settling.{HasUnknownName, IsClosedLine, Settles, RefusesLine}
use Rattle.driver.proofs.Born.{known_is_born}
use Rattle.driver.proofs.ElementEvents.{reported_of}
use Rattle.driver.proofs.InLine.{position_at}
use Rattle.law_lines.specs.Places.{IsPremise, IsClosedCut}
use Rattle.law_lines.proofs.KeptReports.{kept_hands_over}

-- ---- the greatest cut is a line to return to

pub greatest_line_is_closed : GreatestLineIsClosed
greatest_line_is_closed w failed numbers cut line premise set greatest once same =
    let closed = (greatest_is_greatest_closed w.root w.history (reported w) premise numbers cut greatest).is_one in
    record {
      once = once;
      root_stays = λ unborn.
          (settled_known (reported w) numbers cut 0 w.root premise.folded greatest refl).0 (first_in w.root _)
          (ap (λ (l : List Position). position_in l 0) (sym same) ∙ (position_at line (reported w) 0 w.root refl ∙ unborn));
      numbers = numbers;
      are_failed = set;
      closed = subst (IsClosedCut w.root w.history (reported w) numbers) (sym same) closed;
    }

-- ---- a line of just the known processes

-- no name stands twice
abbrev AreDistinct : List Name → Type 0
AreDistinct names = (i j : ℕ) (p : Name) → slice_get names i ≡ Some p → slice_get names j ≡ Some p → i ≡ j

known_once : (accepted : List Report) → IsFolded accepted → AreDistinct (known accepted)
known_once accepted folded i j p is same = same_number_of accepted folded i j p is same

rest_distinct : (q : Name) (names : List Name) → AreDistinct (q ∷ names) → AreDistinct names
rest_distinct q names distinct i j p is same = (let both = distinct (suc i) (suc j) p is same in omega arith)

not_later : (q : Name) (names : List Name) → AreDistinct (q ∷ names) → ¬ Contains names q
not_later q names distinct at =
    let there = at_in names q at in
    (let none = distinct 0 (suc there.0) q refl there.2 in omega arith)

-- a first entry that is no other's changes no position of the others
positions_behind : (x : NamedPosition) (line : List NamedPosition) (names : List Name) → ¬ Contains names x.name → map (position_of (x ∷ line)) names ≡ map (position_of line) names
positions_behind x line [] other = refl
positions_behind x line (p ∷ names) other =
    let differs : bytes_eq p x.name ≡ false = bytes_other p x.name (λ same. other (subst (Contains (p ∷ names)) same (first_in p names))) in
    ap (λ (k : Position). k ∷ map (position_of (x ∷ line)) names) (cond-false (bytes_eq p x.name) x.position (position_of line p) differs)
    ∙ ap (λ (l : List Position). position_of line p ∷ l) (positions_behind x line names (λ at. other (later_in p x.name names at)))

positions_are : (line : List NamedPosition) → AreDistinct (names_of line) → map (position_of line) (names_of line) ≡ map (λ (x : NamedPosition). x.position) line
positions_are [] distinct = refl
positions_are (x ∷ line) distinct =
    ap (λ (k : Position). k ∷ map (position_of (x ∷ line)) (names_of line)) (cond-true (bytes_eq x.name x.name) x.position (position_of line x.name) (bytes_same x.name x.name refl))
    ∙ ap (λ (l : List Position). x.position ∷ l)
    (positions_behind x line (names_of line) (not_later x.name (names_of line) distinct) ∙ positions_are line (rest_distinct x.name (names_of line) distinct))

no_unknown_name : (w : Chronicle) (failed : List Name) (line : List NamedPosition) → All (IsKnown (reported w)) failed → names_of line ≡ known (reported w) → ¬ HasUnknownName w failed line
no_unknown_name w failed line all named unknown =
    elim unknown.given [
      | inl there ↦ known_is_born w.root w.history unknown.name (All-contains (IsKnown (reported w)) failed unknown.name all there) unknown.unborn
      | inr there ↦ known_is_born w.root w.history unknown.name (subst (λ (l : List Name). Contains l unknown.name) named there) unknown.unborn
    ]

refused_for_memory : (w : Chronicle) (failed : List Name) (line : List NamedPosition) → ¬ HasUnknownName w failed line → IsClosedLine w failed line → (fault : StepFault) → RefusesLine w failed line fault
    → fault ≡ faults.Memory
refused_for_memory w failed line none closed faults.Memory refuses = refl
refused_for_memory w failed line none closed faults.Unknown refuses = absurd (none refuses)
refused_for_memory w failed line none closed faults.NotClosed refuses = absurd (refuses.1 closed)
refused_for_memory w failed line none closed faults.Retired refuses = absurd refuses
refused_for_memory w failed line none closed faults.SelfTarget refuses = absurd refuses
refused_for_memory w failed line none closed faults.Taken refuses = absurd refuses
refused_for_memory w failed line none closed faults.NoMessage refuses = absurd refuses
refused_for_memory w failed line none closed faults.NotWaiting refuses = absurd refuses
refused_for_memory w failed line none closed faults.ClockFull refuses = absurd refuses
refused_for_memory w failed line none closed faults.TooDeep refuses = absurd refuses

-- its positions are those that it has, one after the other
pub positions_of_known : (line : List NamedPosition) (accepted : List Report) → IsFolded accepted → names_of line ≡ known accepted → positions_by line accepted ≡ map (λ (x : NamedPosition). x.position) line
positions_of_known line accepted folded named =
    ap (map (position_of line)) (sym named) ∙ positions_are line (subst AreDistinct (sym named) (known_once accepted folded))

pub recovery_line_is_taken : RecoveryLineIsTaken
recovery_line_is_taken w failed numbers cut line premise set greatest named placed =
    let none = no_unknown_name w failed line set.all_known named in
    let once : IsNamedOnce line = subst AreDistinct (sym named) (known_once (reported w) premise.folded) in
    let closed = greatest_line_is_closed w failed numbers cut line premise set greatest once (positions_of_known line (reported w) premise.folded named ∙ placed) in
    (none, closed, refused_for_memory w failed line none closed)

-- ---- what a settlement keeps of the reports

consistent_line : (old : Chronicle) (failed : List Name) (line : List NamedPosition) → IsPremise old.root old.history (reported old) → (is_line : IsClosedLine old failed line)
    → IsConsistentCut (reported old) is_line.numbers (positions_by line (reported old))
consistent_line old failed line premise is_line = record {
  is_cut = is_line.closed.is_cut;
  consistent = (closed_is_consistent old.root old.history (reported old) premise is_line.numbers (positions_by line (reported old)) is_line.closed.is_cut).0 is_line.closed.closed;
}

pub settlement_keeps_reports : SettlementKeepsReports
settlement_keeps_reports old new failed line premise is_line settles =
    ap (λ (r : Name). reported_of r new.history) settles.root
    ∙ (ap (reported_of old.root) settles.history
    ∙ kept_hands_over old.root old.history (reported old) is_line.numbers (positions_by line (reported old)) settles.cut premise (consistent_line old failed line premise is_line) settles.has_events)

-- and the history stays lawful
pub settled_is_lawful : (old new : Chronicle) (failed : List Name) (line : List NamedPosition) → IsPremise old.root old.history (reported old) → IsClosedLine old failed line
    → Settles old line new → IsLawful new.root new.history
settled_is_lawful old new failed line premise is_line settles =
    subst (λ (r : Name). IsLawful r new.history) (sym settles.root)
    (subst (IsLawful old.root) (sym settles.history)
    (kept_is_lawful old.root old.history settles.cut premise.lawful
    (closed_by old.root old.history (reported old) is_line.numbers (positions_by line (reported old)) premise settles.cut (consistent_line old failed line premise is_line) settles.has_events)))
