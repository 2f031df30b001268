-- The first line of bytes, and that there is none.
use Rattle.std.proofs.Common.{◌≡◌, ℕ, zero, suc, ◌<◌, ◌≤◌, List, [], ◌∷◌, ◌++◌, length, take, drop, Some, None, false, refl, sym, ap, ◌∙◌, append_assoc, arith, inl, inr}
use Rattle.std.specs.Prelude.{IsTrue}
use Rattle.std.specs.List.{flat_map, AllByRecursion}
use Rattle.std.proofs.lemmas.List.{append-nil, length-append, take-append-drop, length-take}
use Rattle.std.proofs.lemmas.Bool.{cases_lt, false≢true}
use Rattle.report_line.specs.Cutting.{Stand, NoBreak, IsLine, IsLineSplit, ended, onto, cut_of}
use Rattle.report_line.proofs.Streams.{is_cut, only_cut}

abbrev Cut : Type 0
Cut = List (List ℕ) × Stand

no_break_take : (n : ℕ) (bytes : List ℕ) → NoBreak bytes → NoBreak (take n bytes)
no_break_take zero bytes none = tt
no_break_take (suc n) [] none = tt
no_break_take (suc n) (b ∷ bytes) none = (none.0, no_break_take n bytes none.1)

-- more bytes than a line may have, and no LF among the first of them
long_cut : (bytes start more : List ℕ) → NoBreak start → 8192 < length start → bytes ≡ start ++ more → cut_of bytes ≡ ([], None)
long_cut bytes start more none long is =
    let n : ℕ = 8193 in
    let split : bytes ≡ take n start ++ (drop n start ++ more) = is ∙ ap (λ (l : List ℕ). l ++ more) (sym (take-append-drop n start)) ∙ append_assoc (take n start) (drop n start) more in
    only_cut [] bytes None (bytes, tt, refl, (take n start, drop n start ++ more, split, omega (arith, length-take n start), no_break_take n start none))

short_cut : (bytes : List ℕ) → NoBreak bytes → length bytes ≤ 8192 → cut_of bytes ≡ ([], Some bytes)
short_cut bytes none short = only_cut [] bytes (Some bytes) (bytes, tt, refl, (refl, record { short = short; one = none }))

pub unbroken_cut : (bytes : List ℕ) → NoBreak bytes → (cut_of bytes).0 ≡ []
unbroken_cut bytes none = elim (cases_lt 8192 (length bytes)) [
  | inl long ↦ ap (λ (c : Cut). c.0) (long_cut bytes bytes [] none long (sym (append-nil bytes)))
  | inr short ↦ ap (λ (c : Cut). c.0) (short_cut bytes none short)
]

pub late_break_cut : (bytes start more : List ℕ) → NoBreak start → 8192 < length start → bytes ≡ start ++ more → (cut_of bytes).0 ≡ []
late_break_cut bytes start more none long is = ap (λ (c : Cut). c.0) (long_cut bytes start more none long is)

-- ---- no line is there

stand_of : (bytes : List ℕ) (cut : Cut) → IsLineSplit bytes cut.0 cut.1 → cut.0 ≡ [] → (length bytes ≤ 8192 → cut ≡ ([], Some bytes)) × (8192 < length bytes → cut ≡ ([], None))
stand_of bytes ([], Some rest) split none = (
  λ short. ap (λ (l : List ℕ). ([], Some l)) (sym (split.2 ∙ split.3.0)),
  λ long. absurd (let n = ap length (split.2 ∙ split.3.0) in let h = split.3.1.short in omega (arith, long)),
)
stand_of bytes ([], None) split none = (
  λ short. absurd (let n = ap length (split.2 ∙ split.3.2) in omega (arith, short, length-append split.3.0 split.3.1, split.3.3)),
  λ long. refl,
)
stand_of bytes (l ∷ ls, stand) split none = absurd cc

pub none_is_there : (bytes : List ℕ) → (cut_of bytes).0 ≡ [] → length bytes ≤ 8192 → cut_of bytes ≡ ([], Some bytes)
none_is_there bytes none short = (stand_of bytes (cut_of bytes) (is_cut bytes) none).0 short

pub none_can_come : (bytes : List ℕ) → (cut_of bytes).0 ≡ [] → 8192 < length bytes → cut_of bytes ≡ ([], None)
none_can_come bytes none long = (stand_of bytes (cut_of bytes) (is_cut bytes) none).1 long

-- ---- lines, and what is behind them

pub all_then : (front more : List (List ℕ)) → AllByRecursion IsLine front → AllByRecursion IsLine more → AllByRecursion IsLine (front ++ more)
all_then [] more p q = q
all_then (l ∷ ls) more p q = (p.0, all_then ls more p.1 q)

pub lines_then : (front more : List (List ℕ)) → flat_map ended front ++ flat_map ended more ≡ flat_map ended (front ++ more)
lines_then [] more = refl
lines_then (l ∷ ls) more = append_assoc (ended l) (flat_map ended ls) (flat_map ended more) ∙ ap (λ (t : List ℕ). ended l ++ t) (lines_then ls more)

-- the cut of lines and what stands behind them
pub cut_behind : (front : List (List ℕ)) (rest : List ℕ) → AllByRecursion IsLine front → cut_of (flat_map ended front ++ rest) ≡ onto front (cut_of rest)
cut_behind front rest lines =
    let cut : Cut = cut_of rest in
    let split : IsLineSplit rest cut.0 cut.1 = is_cut rest in
    only_cut (front ++ cut.0) (flat_map ended front ++ rest) cut.1
    (split.0, all_then front cut.0 lines split.1, ap (λ (t : List ℕ). flat_map ended front ++ t) split.2 ∙ sym (append_assoc (flat_map ended front) (flat_map ended cut.0) split.0) ∙ ap (λ (t : List ℕ). t ++ split.0) (lines_then front cut.0), split.3)

-- not more bytes than a line may have
pub not_long : (n : ℕ) → (8192 < n → IsTrue false) → n ≤ 8192
not_long n long = elim (cases_lt 8192 n) [
  | inl more ↦ absurd (false≢true (long more))
  | inr few ↦ few
]
