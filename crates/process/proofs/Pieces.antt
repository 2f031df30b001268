-- What stands at the front of bytes, while pieces come behind it.
use Rattle.std.proofs.Common.{◌≡◌, ℕ, ◌≤◌, List, ◌++◌, length, take, drop, sym, ap, ◌∙◌, arith, length-append}
use Rattle.std.proofs.Math.Seq.{take-append_seam}
use Rattle.std.proofs.lemmas.List.{take-append-le, take-append-drop}

pub begins_here : (old piece new : List ℕ) → new ≡ old ++ piece → take (length old) new ≡ old
begins_here old piece new is = ap (take (length old)) is ∙ take-append_seam old piece

-- where a piece came behind the old bytes, and these stand at the front of the new ones, so do the old ones
pub begins_on : (old piece middle new : List ℕ) → take (length middle) new ≡ middle → middle ≡ old ++ piece → take (length old) new ≡ old
begins_on old piece middle new front is =
    let longer : length old ≤ length middle = omega (arith, ap length is, length-append old piece) in
    let whole : new ≡ take (length middle) new ++ drop (length middle) new = sym (take-append-drop (length middle) new) in
    ap (take (length old)) (whole ∙ ap (λ (xs : List ℕ). xs ++ drop (length middle) new) front)
    ∙ take-append-le (length old) middle (drop (length middle) new) longer ∙ begins_here old piece middle is
