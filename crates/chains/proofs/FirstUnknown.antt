-- Of names one is the first that is not known.
use Rattle.std.proofs.Common.{◌≡◌, List, [], ◌∷◌, ◌++◌, All, sym, subst, ◌∙◌}
use Rattle.std.proofs.lemmas.List.Elements.{All-head, All-tail}
use Rattle.report_line.specs.declared.report.Report.{Report}
use Rattle.chains.specs.Processes.{Name, IsKnown}
use Rattle.chains.specs.Failures.{IsFirstUnknown}

same_parts : (p q : Name) (ps qs : List Name) → p ∷ ps ≡ q ∷ qs → (p ≡ q) × (ps ≡ qs)
same_parts p q ps qs e = (cc, cc)

module _ (accepted : List Report) where
  first_once : (front other rest more : List Name) (p q : Name) → front ++ p ∷ rest ≡ other ++ q ∷ more → All (IsKnown accepted) front → All (IsKnown accepted) other → ¬ IsKnown accepted p → ¬ IsKnown accepted q → p ≡ q
  first_once [] [] rest more p q e f g without nor = (same_parts p q rest more e).0
  first_once [] (y ∷ other) rest more p q e f g without nor = absurd (without (subst (IsKnown accepted) (sym (same_parts p y rest (other ++ q ∷ more) e).0) (All-head (IsKnown accepted) y other g)))
  first_once (x ∷ front) [] rest more p q e f g without nor = absurd (nor (subst (IsKnown accepted) (same_parts x q (front ++ p ∷ rest) more e).0 (All-head (IsKnown accepted) x front f)))
  first_once (x ∷ front) (y ∷ other) rest more p q e f g without nor =
      first_once front other rest more p q (same_parts x y (front ++ p ∷ rest) (other ++ q ∷ more) e).1 (All-tail (IsKnown accepted) x front f) (All-tail (IsKnown accepted) y other g) without nor

  pub one_first : (names : List Name) (p q : Name) → IsFirstUnknown accepted names p → IsFirstUnknown accepted names q → p ≡ q
  one_first names p q a b = first_once a.front b.front a.rest b.rest p q (sym a.parts ∙ b.parts) a.known_front b.known_front a.unknown b.unknown

  known_there : (front rest : List Name) (p : Name) → All (IsKnown accepted) (front ++ p ∷ rest) → IsKnown accepted p
  known_there [] rest p all = All-head (IsKnown accepted) p rest all
  known_there (x ∷ front) rest p all = known_there front rest p (All-tail (IsKnown accepted) x (front ++ p ∷ rest) all)

  -- none is, where all are known
  pub none_first : (names : List Name) (p : Name) → All (IsKnown accepted) names → ¬ IsFirstUnknown accepted names p
  none_first names p all first = first.unknown (known_there first.front first.rest p (subst (All (IsKnown accepted)) first.parts all))
