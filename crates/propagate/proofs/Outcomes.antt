-- A settlement has one outcome.
use Rattle.std.proofs.Common.{◌≡◌, ℕ, ◌<◌, List, [], length, get_or, sym, ap, ◌∙◌, subst, arith}
use Rattle.std.specs.Prelude.{Contains}
use Rattle.std.proofs.lemmas.Option.{slice_get-get_or}
use Rattle.report_line.specs.declared.report.Report.{Report}
use Rattle.chains.specs.declared.position.Position.{Position}
use Rattle.chains.specs.Processes.{Name, known}
use Rattle.chains.specs.Positions.{position_in}
use Rattle.chains.specs.Failures.{IsFailedSet}
use Rattle.chains.specs.Greatest.{IsGreatestCut}
use Rattle.chains.specs.Held.{Held, with_settlement}
use Rattle.chains.specs.Settled.{kept_at, IsSettledFor, IsSettled}
use Rattle.propagate.proofs.Once.{same_chosen, same_cut, same_increasing}

-- two greatest cuts are at or before each other
pub one_cut : (accepted : List Report) (failed : List ℕ) (a b : List Position) → IsGreatestCut accepted failed a → IsGreatestCut accepted failed b → a ≡ b
one_cut accepted failed a b first second =
    let one = first.is_one.is_cut in
    let two = second.is_one.is_cut in
    same_cut a b (one.complete ∙ sym two.complete) (λ p lt.
    let in_list : p < length (known accepted) = omega (arith, lt, one.complete) in
    same_chosen accepted failed p (position_in a p) (position_in b p) (one.chosen p in_list) (two.chosen p in_list)
    (omega (arith, first.greatest b second.is_one p in_list, second.greatest a first.is_one p in_list)))

-- the failed processes of the same names
still_failed : (accepted : List Report) (names : List Name) (failed others : List ℕ) → IsFailedSet accepted names failed → IsFailedSet accepted names others
    → (p : ℕ) → Contains failed p → Contains others p
still_failed accepted names failed others first second p has =
    let name = get_or (known accepted) p [] in
    let named = slice_get-get_or (known accepted) p [] (first.within p has) in
    (second.just_named p name named).1 ((first.just_named p name named).0 has)

pub one_failed_set : (accepted : List Report) (names : List Name) (failed others : List ℕ) → IsFailedSet accepted names failed → IsFailedSet accepted names others → failed ≡ others
one_failed_set accepted names failed others first second =
    same_increasing failed others first.in_order second.in_order
    (still_failed accepted names failed others first second) (still_failed accepted names others failed second first)

pub one_outcome_for : (held : Held) (failed : List ℕ) (a b : Held) → IsSettledFor held failed a → IsSettledFor held failed b → a ≡ b
one_outcome_for held failed a b first second =
    first.is_kept
    ∙ (ap (λ (line : List Position). with_settlement (kept_at held line)) (one_cut held.accepted failed first.line second.line first.greatest second.greatest)
    ∙ sym second.is_kept)

pub one_outcome : (held : Held) (names : List Name) (a b : Held) → IsSettled held names a → IsSettled held names b → a ≡ b
one_outcome held names a b (failed, set, first) (others, same, second) =
    one_outcome_for held others a b (subst (λ (f : List ℕ). IsSettledFor held f a) (one_failed_set held.accepted names failed others set same) first) second
