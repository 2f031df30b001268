-- A line of places by the names of the processes.
use Rattle.std.proofs.Common.{◌≡◌, ℕ, ◌+◌, ◌<◌, ◌≤◌, List, [], ◌∷◌, ◌++◌, length, map, take, get_or, Some, refl, sym, ap, subst, ◌∙◌, inr, All, arith}
use Rattle.std.specs.Prelude.{◌-◌, Err}
use Rattle.std.specs.List.{range_with_len}
use Rattle.std.proofs.lemmas.List.{map-append, length-map, length-append, get_or-append_right, take_all, take_more, get_or-map, map_more}
use Rattle.std.proofs.lemmas.List.FromFn.{length-range_with_len, get_or-range_with_len}
use Rattle.std.proofs.lemmas.Option.{get_or_from_slice_get}
use Rattle.report_line.specs.declared.report.Report.{Report}
use Rattle.chains.specs.declared.position.Place.{Place}
use Rattle.chains.specs.declared.position.Position.{Position}
use Rattle.chains.specs.Processes.{Name, IsKnown, known}
use Rattle.chains.specs.declared.failed.FailedFault.{FailedFault}
use Rattle.chains.specs.declared.failed.FailedFault.TheVariants.{Unknown}
use Rattle.chains.specs.Elements.{name_of}
use Rattle.chains.specs.Failures.{IsFirstUnknown, FailsAs}
use Rattle.chains.specs.Positions.{positions_of}
use Rattle.driver.specs.declared.line.NamedPosition.{NamedPosition}
use Rattle.driver.specs.Lines.{names_of}
use Rattle.script.specs.Printed.{IsLineFor}

-- the first n places by names
pub record AreNamedTo (accepted : List Report) (places : List Place) (n : ℕ) (line : List NamedPosition) : Type 0 where
  pub names : names_of line ≡ take n (known accepted)
  pub positions : map (λ x. x.position) line ≡ positions_of (take n places)

-- the places are those of the known processes, in order of birth
abbrev AreInOrder : List Report → List Place → Type 0
AreInOrder accepted places = map (λ x. x.process) places ≡ range_with_len 0 (length (known accepted))

as_many : (accepted : List Report) (places : List Place) → AreInOrder accepted places → length places ≡ length (known accepted)
as_many accepted places in_order = sym (length-map places (λ x. x.process)) ∙ (ap length in_order ∙ length-range_with_len 0 (length (known accepted)))

number_is : (accepted : List Report) (places : List Place) (i : ℕ) (d : Place) → AreInOrder accepted places → i < length places → (get_or places i d).process ≡ i
number_is accepted places i d in_order lt =
    let many = as_many accepted places in_order in
    let there : get_or (map (λ (y : Place). y.process) places) i 0 ≡ (get_or places i d).process = get_or-map (λ (y : Place). y.process) places i d 0 lt in
    let number : get_or (range_with_len 0 (length (known accepted))) i 0 ≡ 0 + i = get_or-range_with_len 0 (length (known accepted)) i 0 (omega (arith, lt, many)) in
    let same : get_or (map (λ (y : Place). y.process) places) i 0 ≡ get_or (range_with_len 0 (length (known accepted))) i 0 = ap (λ (ns : List ℕ). get_or ns i 0) in_order in
    omega (arith, there, number, same)

pub number_within : (accepted : List Report) (places : List Place) (i : ℕ) (d : Place) → AreInOrder accepted places → i < length places → (get_or places i d).process < length (known accepted)
number_within accepted places i d in_order lt = omega (arith, number_is accepted places i d in_order lt, as_many accepted places in_order, lt)

pub named_more : (accepted : List Report) (places : List Place) (i : ℕ) (d : Place) (p q : Name) (line : List NamedPosition) → AreInOrder accepted places → i < length places → p ≡ q
    → name_of accepted (get_or places i d).process ≡ Some q → AreNamedTo accepted places i line → AreNamedTo accepted places (i + 1) (line ++ record { name = p; position = (get_or places i d).position } ∷ [])
named_more accepted places i d p q line in_order lt copied name so_far =
    let number = number_is accepted places i d in_order lt in
    let within : i < length (known accepted) = omega (arith, lt, as_many accepted places in_order) in
    let here : get_or (known accepted) i q ≡ q = get_or_from_slice_get (known accepted) i q q (subst (λ (k : ℕ). name_of accepted k ≡ Some q) number name) in
    record {
      names =
          map-append (λ (y : NamedPosition). y.name) line (record { name = p; position = (get_or places i d).position } ∷ [])
          ∙ (ap (λ (ns : List Name). ns ++ p ∷ []) so_far.names
          ∙ (ap (λ (x : Name). take i (known accepted) ++ x ∷ []) (copied ∙ sym here) ∙ sym (take_more (known accepted) i q within)));
      positions =
          map-append (λ (y : NamedPosition). y.position) line (record { name = p; position = (get_or places i d).position } ∷ [])
          ∙ (ap (λ (ks : List Position). ks ++ (get_or places i d).position ∷ []) so_far.positions
          ∙ sym (map_more (λ (y : Place). y.position) places i d lt));
    }

pub all_names : (accepted : List Report) (places : List Place) (i : ℕ) (line : List NamedPosition) → AreInOrder accepted places → length places ≤ i → AreNamedTo accepted places i line → names_of line ≡ known accepted
all_names accepted places i line in_order past w = w.names ∙ take_all i (known accepted) (omega (arith, past, as_many accepted places in_order))

pub all_positions : (accepted : List Report) (places : List Place) (i : ℕ) (line : List NamedPosition) → length places ≤ i → AreNamedTo accepted places i line → map (λ (x : NamedPosition). x.position) line ≡ positions_of places
all_positions accepted places i line past w = w.positions ∙ ap positions_of (take_all i places past)

-- ---- where a name is unknown

not_all : (accepted : List Report) (names : List Name) (p : Name) → IsFirstUnknown accepted names p → ¬ All (IsKnown accepted) names
not_all accepted names p first all =
    let n = length first.front in
    let there : get_or (first.front ++ p ∷ first.rest) n p ≡ p = get_or-append_right first.front (p ∷ first.rest) n n p refl (omega arith) ∙ at_zero (n - n) (omega arith) in
    let parts : All (IsKnown accepted) (first.front ++ p ∷ first.rest) = subst (All (IsKnown accepted)) first.parts all in
    first.unknown (subst (IsKnown accepted) there (parts n p (omega (arith, length-append first.front (p ∷ first.rest)))))
  where
    at_zero : (k : ℕ) → k ≡ 0 → get_or (p ∷ first.rest) k p ≡ p
    at_zero k e = ap (λ (j : ℕ). get_or (p ∷ first.rest) j p) e

pub unknown_line : (accepted : List Report) (names : List Name) (fault : FailedFault) (p : Name) (line : List NamedPosition) → FailsAs (Err fault) accepted names → fault ≡ Unknown p → line ≡ []
    → IsLineFor accepted names line
unknown_line accepted names fault p line fails is empty = inr (not_all accepted names p (subst (λ (f : FailedFault). FailsAs (Err f) accepted names) is fails), empty)
