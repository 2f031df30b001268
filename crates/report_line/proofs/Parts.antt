-- Lines as parts of the bytes that they stand in.
use Rattle.std.proofs.Common.{◌≡◌, ℕ, ◌+◌, ◌-◌, ◌≤◌, ◌<◌, take, drop, map, List, [], ◌∷◌, ◌++◌, length, Option, Some, None, sym, ap, subst, ◌∙◌, append_assoc, arith}
use Rattle.std.specs.Prelude.{MatchOption, ⊤}
use Rattle.std.proofs.Math.Seq.{take-append_seam, drop-append_seam}
use Rattle.std.proofs.lemmas.List.{map-append, length-append, length-drop, drop-drop, take_rest, append-nil}
use Rattle.report_line.specs.Cutting.{onto, cut_from, cut_of, NoBreak, IsLine}
use Rattle.report_line.specs.working.Parts.{part_of, ArePartsOf, stand_from}
use Rattle.report_line.proofs.Streams.{lines_step, lines_long, lines_rest, rest_fits}

-- the line at the front of the bytes from here on
part_is : (bytes line behind : List ℕ) (at : ℕ) → drop at bytes ≡ line ++ behind → part_of bytes (at, at + length line) ≡ line
part_is bytes line behind at is =
    let n : at + length line - at ≡ length line = omega arith in
    ap (λ (k : ℕ). take k (drop at bytes)) n ∙ ap (take (length line)) is ∙ take-append_seam line behind

behind_is : (bytes line behind : List ℕ) (at : ℕ) → drop at bytes ≡ line ++ 10 ∷ behind → drop (at + length line + 1) bytes ≡ behind
behind_is bytes line behind at is =
    let n : at + length line + 1 ≡ at + length (line ++ 10 ∷ []) = omega (arith, length-append line (10 ∷ [])) in
    ap (λ (k : ℕ). drop k bytes) n ∙ sym (drop-drop (length (line ++ 10 ∷ [])) at bytes)
    ∙ ap (drop (length (line ++ 10 ∷ []))) (is ∙ sym (append_assoc line (10 ∷ []) behind)) ∙ drop-append_seam (line ++ 10 ∷ []) behind

-- what a turn of the loop keeps
pub parts_step : (bytes line behind : List ℕ) (parts new : List (ℕ × ℕ)) (at : ℕ) → new ≡ parts ++ (at, at + length line) ∷ [] → take (length bytes - at) (drop at bytes) ≡ line ++ 10 ∷ behind → NoBreak line → length line ≤ 8192
    → cut_of bytes ≡ onto (map (part_of bytes) parts) (cut_of (drop at bytes)) → cut_of bytes ≡ onto (map (part_of bytes) new) (cut_of (drop (at + length line + 1) bytes))
parts_step bytes line behind parts new at pushed front one short e =
    let is : drop at bytes ≡ line ++ 10 ∷ behind = sym (take_rest bytes at) ∙ front in
    let lines : map (part_of bytes) new ≡ map (part_of bytes) parts ++ line ∷ [] =
    ap (map (part_of bytes)) pushed ∙ map-append (part_of bytes) parts ((at, at + length line) ∷ []) ∙ ap (λ (l : List ℕ). map (part_of bytes) parts ++ l ∷ []) (part_is bytes line (10 ∷ behind) at is) in
    lines_step (cut_of bytes) (map (part_of bytes) parts) (map (part_of bytes) new) (drop at bytes) line behind lines one is short e
    ∙ ap (λ (rest : List ℕ). onto (map (part_of bytes) new) (cut_of rest)) (sym (behind_is bytes line behind at is))

parts-append : (bytes : List ℕ) (parts more : List (ℕ × ℕ)) → ArePartsOf bytes parts → ArePartsOf bytes more → ArePartsOf bytes (parts ++ more)
parts-append bytes [] more p q = q
parts-append bytes (part ∷ parts) more p q = (p.0, parts-append bytes parts more p.1 q)

-- the part lies within the bytes, and so does what comes behind its LF
end_within : (bytes line behind : List ℕ) (at : ℕ) → at ≤ length bytes → take (length bytes - at) (drop at bytes) ≡ line ++ 10 ∷ behind → at + length line + 1 ≤ length bytes
end_within bytes line behind at within front =
    let is : drop at bytes ≡ line ++ 10 ∷ behind = sym (take_rest bytes at) ∙ front in
    let n : length bytes - at ≡ length (line ++ 10 ∷ behind) = sym (length-drop at bytes) ∙ ap (λ (l : List ℕ). length l) is in
    omega (arith, length-append line (10 ∷ behind))

pub parts_within : (bytes line behind : List ℕ) (parts new : List (ℕ × ℕ)) (at : ℕ) → new ≡ parts ++ (at, at + length line) ∷ [] → at ≤ length bytes → take (length bytes - at) (drop at bytes) ≡ line ++ 10 ∷ behind
    → ArePartsOf bytes parts → ArePartsOf bytes new × (at + length line + 1 ≤ length bytes)
parts_within bytes line behind parts new at pushed within front are =
    let end : at + length line + 1 ≤ length bytes = end_within bytes line behind at within front in
    (subst (ArePartsOf bytes) (sym pushed) (parts-append bytes parts ((at, at + length line) ∷ []) are ((omega arith, omega arith), tt)), end)

-- what the loop ends with
pub parts_long : (bytes front more : List ℕ) (parts : List (ℕ × ℕ)) (at : ℕ) → take (length bytes - at) (drop at bytes) ≡ front ++ more → NoBreak front → 8192 < length front
    → cut_of bytes ≡ onto (map (part_of bytes) parts) (cut_of (drop at bytes)) → cut_of bytes ≡ (map (part_of bytes) parts, None)
parts_long bytes front more parts at is one long e = lines_long (cut_of bytes) (map (part_of bytes) parts) (drop at bytes) front more (sym (take_rest bytes at) ∙ is) one long e

pub parts_over : (bytes : List ℕ) (parts : List (ℕ × ℕ)) (at : ℕ) → NoBreak (take (length bytes - at) (drop at bytes)) → 8192 < length bytes - at
    → cut_of bytes ≡ onto (map (part_of bytes) parts) (cut_of (drop at bytes)) → cut_of bytes ≡ (map (part_of bytes) parts, None)
parts_over bytes parts at one long e =
    parts_long bytes (take (length bytes - at) (drop at bytes)) [] parts at (sym (append-nil (take (length bytes - at) (drop at bytes)))) one (omega (arith, length-drop at bytes, ap (λ (l : List ℕ). length l) (take_rest bytes at))) e

pub parts_rest : (bytes : List ℕ) (parts : List (ℕ × ℕ)) (at : ℕ) → NoBreak (take (length bytes - at) (drop at bytes)) → length bytes - at ≤ 8192
    → cut_of bytes ≡ onto (map (part_of bytes) parts) (cut_of (drop at bytes)) → cut_of bytes ≡ (map (part_of bytes) parts, Some (drop at bytes))
parts_rest bytes parts at one short e =
    lines_rest (cut_of bytes) (map (part_of bytes) parts) (drop at bytes) (subst NoBreak (take_rest bytes at) one) (omega (arith, length-drop at bytes)) e

-- ---- a piece behind a rest

pub rest_of_parts : (rest piece bytes : List ℕ) (lines : List (List ℕ)) (from : Option ℕ) → IsLine rest → cut_from (Some rest) piece ≡ (lines, stand_from bytes from) → MatchOption from ⊤ (λ at. at ≤ length bytes)
    → MatchOption from ⊤ (λ at. (at ≤ length bytes) × IsLine (drop at bytes))
rest_of_parts rest piece bytes lines None line e within = tt
rest_of_parts rest piece bytes lines (Some at) line e within = (within, rest_fits rest piece lines (drop at bytes) line e)
