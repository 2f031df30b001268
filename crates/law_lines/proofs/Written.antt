-- The settled lists that are written out.
use Rattle.std.proofs.Common.{◌≡◌, List, [], ◌∷◌, Option, Some, None, refl, subst}
use Rattle.id_tree.specs.IdTree.{One}
use Rattle.event_tree.specs.EventTree.{Leaf}
use Rattle.report_line.specs.declared.report.ReportKind.TheVariants.{Check, Present, Absorb}
use Rattle.report_line.specs.declared.report.Report.{Report}
use Rattle.report_line.specs.declared.report.Report.TheVariants.{Begin}
use Rattle.chains.specs.Processes.{Name}
use Rattle.chains.specs.Folded.{IsFit, IsFolded}
use Rattle.chains.proofs.Reaching.{fit_before}
use Rattle.law_histories.specs.Example.{a, b, c, left, right, halves, told, forked}
use Rattle.law_lines.specs.Example.{accepted_reports}
use Rattle.law_lines.specs.Settled.{settled}
use Rattle.law_lines.specs.SettledExample.{AllIsKept, OnlyBeginIsKept, is_open, kept_of_open, OpenDoesNotFold}

pub all_is_kept : AllIsKept
all_is_kept = refl

pub only_begin_is_kept : OnlyBeginIsKept
only_begin_is_kept = refl

kept_open : settled accepted_reports is_open ≡ kept_of_open
kept_open = refl

abbrev before_absorption : List Report
before_absorption = Begin a ∷ told a 1 One (Leaf 1) (forked b) ∷ told b 1 right (halves 1 0 1) Check ∷ told a 2 left (halves 3 2 0) Present ∷ []

abbrev after_absorption : List Report
after_absorption = told a 4 One (Leaf 7) (forked c) ∷ told a 5 left (halves 7 1 0) Check ∷ []

no_target : (q : Name) → (let o : Option Name = None in o) ≡ Some q → ⊥
no_target q is = cc

not_folded : ¬ IsFolded kept_of_open
not_folded folded =
    let fit : IsFit before_absorption (told a 3 One (halves 5 1 0) (Absorb b)) = fit_before kept_of_open before_absorption after_absorption (told a 3 One (halves 5 1 0) (Absorb b)) folded refl in
    no_target a fit.fit.0.0

pub open_does_not_fold : OpenDoesNotFold
open_does_not_fold = (kept_open, λ folded. not_folded (subst (λ (l : List Report). IsFolded l) kept_open folded))
