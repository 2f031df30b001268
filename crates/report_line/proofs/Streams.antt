-- Cutting a stream gives its lines, and no others, whatever pieces it comes in.
use Rattle.std.proofs.Common.{◌≡◌, ◌≢◌, ℕ, ◌+◌, ◌<◌, ◌≤◌, Bool, true, false, eqb, ltb, List, [], ◌∷◌, ◌++◌, length, Some, None, refl, sym, ap, subst, ◌∙◌, append_assoc, arith, inl, inr}
use Rattle.std.specs.Prelude.{◌↔◌, IsTrue}
use Rattle.std.specs.List.{flat_map, concat, AllByRecursion}
use Rattle.std.proofs.lemmas.Bool.{lt-ltb, le-ltb, cases_lt, cases_eq, eqb-true}
use Rattle.std.proofs.lemmas.List.{append-nil, length-append}
use Rattle.report_line.proofs.Cutting.{not_true}
use Rattle.report_line.specs.Cutting.{Stand, onto, cut_from, cut_of, fed, NoBreak, IsLine, ended, Stands, IsLineSplit}

NoBreak-append : (xs ys : List ℕ) → NoBreak xs → NoBreak ys → NoBreak (xs ++ ys)
NoBreak-append [] ys p q = q
NoBreak-append (x ∷ xs) ys p q = (p.0, NoBreak-append xs ys p.1 q)

not_break : (b : ℕ) → b ≢ 10 → eqb b 10 ≡ false
not_break b other = not_true (eqb b 10) (λ e. other (eqb-true b 10 e))

-- one byte on
at_break : (rest bs : List ℕ) → cut_from (Some rest) (10 ∷ bs) ≡ onto (rest ∷ []) (cut_from (Some []) bs)
unfolding cut_from
at_break rest bs = refl

at_byte : (rest : List ℕ) (b : ℕ) (bs : List ℕ) → b ≢ 10 → length rest < 8192 → cut_from (Some rest) (b ∷ bs) ≡ cut_from (Some (rest ++ b ∷ [])) bs
unfolding cut_from
at_byte rest b bs other short = let e : eqb b 10 ≡ false = not_break b other in let f : ltb (length rest) 8192 ≡ true = lt-ltb _ _ short in rw (e, f) refl

at_full : (rest : List ℕ) (b : ℕ) (bs : List ℕ) → b ≢ 10 → 8192 ≤ length rest → cut_from (Some rest) (b ∷ bs) ≡ ([], None)
unfolding cut_from
at_full rest b bs other long = let e : eqb b 10 ≡ false = not_break b other in let f : ltb (length rest) 8192 ≡ false = le-ltb _ _ long in rw (e, f) refl

at_nothing : (rest : List ℕ) → cut_from (Some rest) [] ≡ ([], Some rest)
unfolding cut_from
at_nothing rest = refl

-- ---- what is cut is the stream

abbrev CutOf : List ℕ → List (List ℕ) × Stand → Type 0
CutOf stream cut = IsLineSplit stream cut.0 cut.1

after_line : (rest bs : List ℕ) (cut : List (List ℕ) × Stand) → IsLine rest → CutOf bs cut → CutOf (rest ++ 10 ∷ bs) (onto (rest ∷ []) cut)
after_line rest bs cut line c = (
  c.0,
  (line, c.1),
  ap (λ (l : List ℕ). rest ++ 10 ∷ l) c.2 ∙ sym (append_assoc rest (10 ∷ []) (flat_map ended cut.0 ++ c.0)) ∙ sym (append_assoc (ended rest) (flat_map ended cut.0) c.0),
  c.3,
)

cut_is : (rest bytes : List ℕ) → IsLine rest → CutOf (rest ++ bytes) (cut_from (Some rest) bytes)
cut_is rest [] line = subst (CutOf (rest ++ [])) (sym (at_nothing rest)) (rest, tt, append-nil rest, (refl, line))
cut_is rest (b ∷ bs) line =
    elim (cases_eq b 10) [
      | inl is ↦
          let whole : CutOf (rest ++ 10 ∷ bs) (cut_from (Some rest) (10 ∷ bs)) = subst (CutOf (rest ++ 10 ∷ bs)) (sym (at_break rest bs)) (after_line rest bs (cut_from (Some []) bs) line (cut_is [] bs (record { short = omega arith; one = tt }))) in
          subst (λ (x : ℕ). CutOf (rest ++ x ∷ bs) (cut_from (Some rest) (x ∷ bs))) (sym is) whole
      | inr other ↦
          let moved : (rest ++ b ∷ []) ++ bs ≡ rest ++ b ∷ bs = append_assoc rest (b ∷ []) bs in
          elim (cases_lt (length rest) 8192) [
            | inl short ↦
                let next : IsLine (rest ++ b ∷ []) = record { short = omega (arith, length-append rest (b ∷ [])); one = NoBreak-append rest (b ∷ []) line.one (other, tt) } in
                subst (CutOf (rest ++ b ∷ bs)) (sym (at_byte rest b bs other short)) (subst (λ (s : List ℕ). CutOf s (cut_from (Some (rest ++ b ∷ [])) bs)) moved (cut_is (rest ++ b ∷ []) bs next))
            | inr long ↦
                let full : length rest ≡ 8192 = (let h = line.short in omega arith) in
                subst (CutOf (rest ++ b ∷ bs)) (sym (at_full rest b bs other long))
                (rest ++ b ∷ bs, tt, refl, (rest ++ b ∷ [], bs, sym moved, omega (arith, full, length-append rest (b ∷ [])), NoBreak-append rest (b ∷ []) line.one (other, tt)))
          ]
    ]

-- ---- and nothing else is

line_on : (rest line after : List ℕ) → NoBreak line → length rest + length line ≤ 8192 → cut_from (Some rest) (line ++ after) ≡ cut_from (Some (rest ++ line)) after
line_on rest [] after one short = ap (λ (r : List ℕ). cut_from (Some r) after) (sym (append-nil rest))
line_on rest (b ∷ bs) after one short =
    at_byte rest b (bs ++ after) one.0 (omega arith) ∙ line_on (rest ++ b ∷ []) bs after one.1 (omega (arith, length-append rest (b ∷ [])))
    ∙ ap (λ (r : List ℕ). cut_from (Some r) after) (append_assoc rest (b ∷ []) bs)

cut_long : (rest long more : List ℕ) → NoBreak long → length rest ≤ 8192 → 8192 < length rest + length long → cut_from (Some rest) (long ++ more) ≡ ([], None)
cut_long rest [] more one fits long = absurd (omega arith)
cut_long rest (b ∷ bs) more one fits long =
    elim (cases_lt (length rest) 8192) [
      | inl short ↦ at_byte rest b (bs ++ more) one.0 short ∙ cut_long (rest ++ b ∷ []) bs more one.1 (omega (arith, length-append rest (b ∷ []))) (omega (arith, length-append rest (b ∷ [])))
      | inr full ↦ at_full rest b (bs ++ more) one.0 full
    ]

rest_is : (bytes : List ℕ) (stand : Stand) → Stands bytes stand → cut_from (Some []) bytes ≡ ([], stand)
rest_is bytes (Some rest) s =
    ap (cut_from (Some [])) (s.0 ∙ sym (append-nil rest)) ∙ line_on [] rest [] s.1.one (let h = s.1.short in omega arith) ∙ at_nothing rest
rest_is bytes None s = ap (cut_from (Some [])) s.2 ∙ cut_long [] s.0 s.1 s.4 (omega arith) (omega (arith, s.3))

pub only_cut : (lines : List (List ℕ)) (stream : List ℕ) (stand : Stand) → IsLineSplit stream lines stand → cut_from (Some []) stream ≡ (lines, stand)
only_cut [] stream stand c = ap (cut_from (Some [])) c.2 ∙ rest_is c.0 stand c.3
only_cut (line ∷ lines) stream stand c =
    let after : List ℕ = flat_map ended lines ++ c.0 in
    let first = c.1.0 in
    let split : stream ≡ line ++ 10 ∷ after = c.2 ∙ append_assoc (ended line) (flat_map ended lines) c.0 ∙ append_assoc line (10 ∷ []) after in
    ap (cut_from (Some [])) split ∙ line_on [] line (10 ∷ after) first.one (let h = first.short in omega arith) ∙ at_break line after
    ∙ ap (onto (line ∷ [])) (only_cut lines after stand (c.0, c.1.1, refl, c.3))

pub is_cut : (stream : List ℕ) → IsLineSplit stream (cut_from (Some []) stream).0 (cut_from (Some []) stream).1
is_cut stream = cut_is [] stream (record { short = omega arith; one = tt })

-- ---- pieces do not matter

pub at_none : (bytes : List ℕ) → cut_from None bytes ≡ ([], None)
unfolding cut_from
at_none bytes = refl

-- a cut that goes on with these bytes
abbrev cut_on : List (List ℕ) × Stand → List ℕ → List (List ℕ) × Stand
cut_on cut bytes = onto cut.0 (cut_from cut.1 bytes)

pub cut_append : (stand : Stand) (xs ys : List ℕ) → cut_from stand (xs ++ ys) ≡ cut_on (cut_from stand xs) ys
cut_append None xs ys = at_none (xs ++ ys) ∙ sym (ap (λ (cut : List (List ℕ) × Stand). cut_on cut ys) (at_none xs) ∙ ap (onto []) (at_none ys))
cut_append (Some rest) [] ys = sym (ap (λ (cut : List (List ℕ) × Stand). cut_on cut ys) (at_nothing rest))
cut_append (Some rest) (b ∷ bs) ys =
    elim (cases_eq b 10) [
      | inl is ↦
          subst (λ (x : ℕ). cut_from (Some rest) (x ∷ bs ++ ys) ≡ cut_on (cut_from (Some rest) (x ∷ bs)) ys) (sym is)
          (at_break rest (bs ++ ys) ∙ ap (onto (rest ∷ [])) (cut_append (Some []) bs ys)
          ∙ sym (ap (λ (cut : List (List ℕ) × Stand). cut_on cut ys) (at_break rest bs)))
      | inr other ↦
          elim (cases_lt (length rest) 8192) [
            | inl short ↦
                at_byte rest b (bs ++ ys) other short ∙ cut_append (Some (rest ++ b ∷ [])) bs ys
                ∙ sym (ap (λ (cut : List (List ℕ) × Stand). cut_on cut ys) (at_byte rest b bs other short))
            | inr long ↦
                at_full rest b (bs ++ ys) other long
                ∙ sym (ap (λ (cut : List (List ℕ) × Stand). cut_on cut ys) (at_full rest b bs other long) ∙ ap (onto []) (at_none ys))
          ]
    ]

pub fed_is : (stand : Stand) (pieces : List (List ℕ)) → fed stand pieces ≡ cut_from stand (concat pieces)
fed_is None [] = sym (at_none [])
fed_is (Some rest) [] = sym (at_nothing rest)
fed_is stand (p ∷ ps) = ap (onto (cut_from stand p).0) (fed_is (cut_from stand p).1 ps) ∙ sym (cut_append stand p (concat ps))

-- ---- by lines rather than bytes

cut_front : (rest front behind : List ℕ) → NoBreak front → length rest + length front ≤ 8192 → cut_from (Some rest) (front ++ 10 ∷ behind) ≡ onto ((rest ++ front) ∷ []) (cut_from (Some []) behind)
cut_front rest front behind one short = line_on rest front (10 ∷ behind) one short ∙ at_break (rest ++ front) behind

cut_short : (rest bytes : List ℕ) → NoBreak bytes → length rest + length bytes ≤ 8192 → cut_from (Some rest) bytes ≡ ([], Some (rest ++ bytes))
cut_short rest bytes one short = ap (cut_from (Some rest)) (sym (append-nil bytes)) ∙ line_on rest bytes [] one short ∙ at_nothing (rest ++ bytes)

onto_onto : (lines more : List (List ℕ)) (cut : List (List ℕ) × Stand) → onto lines (onto more cut) ≡ onto (lines ++ more) cut
onto_onto lines more cut = ap (λ (ls : List (List ℕ)). (ls, cut.1)) (sym (append_assoc lines more cut.0))

onto_end : (lines : List (List ℕ)) (stand : Stand) → onto lines ([], stand) ≡ (lines, stand)
onto_end lines stand = ap (λ (ls : List (List ℕ)). (ls, stand)) (append-nil lines)

-- what a turn of the loop keeps
pub lines_step : (total : List (List ℕ) × Stand) (lines new : List (List ℕ)) (rest line behind : List ℕ) → new ≡ lines ++ line ∷ [] → NoBreak line → rest ≡ line ++ 10 ∷ behind → length line ≤ 8192
    → total ≡ onto lines (cut_of rest) → total ≡ onto new (cut_of behind)
lines_step total lines new rest line behind pushed one is short e =
    e ∙ ap (λ (bytes : List ℕ). onto lines (cut_of bytes)) is ∙ ap (onto lines) (cut_front [] line behind one (omega arith)) ∙ onto_onto lines (line ∷ []) (cut_of behind)
    ∙ ap (λ (ls : List (List ℕ)). onto ls (cut_of behind)) (sym pushed)

-- what the loop ends with
pub lines_long : (total : List (List ℕ) × Stand) (lines : List (List ℕ)) (rest bytes more : List ℕ) → rest ≡ bytes ++ more → NoBreak bytes → 8192 < length bytes → total ≡ onto lines (cut_of rest) → total ≡ (lines, None)
lines_long total lines rest bytes more is one long e =
    e ∙ ap (λ (b : List ℕ). onto lines (cut_of b)) is ∙ ap (onto lines) (cut_long [] bytes more one (omega arith) (omega arith)) ∙ onto_end lines None

pub lines_rest : (total : List (List ℕ) × Stand) (lines : List (List ℕ)) (rest : List ℕ) → NoBreak rest → length rest ≤ 8192 → total ≡ onto lines (cut_of rest) → total ≡ (lines, Some rest)
lines_rest total lines rest one short e = e ∙ ap (onto lines) (cut_short [] rest one (omega arith)) ∙ onto_end lines (Some rest)

-- a test that fails
pub over : (fits : Bool) (n : ℕ) → (IsTrue fits ↔ (n ≤ 8192)) → fits ≡ false → 8192 < n
over fits n tells e = elim (cases_lt 8192 n) [ inl lt ↦ lt | inr le ↦ absurd (let t : fits ≡ true = tells.1 le in cc) ]

-- a piece without LF
pub piece_short : (rest piece : List ℕ) (lines : List (List ℕ)) → lines ≡ [] → NoBreak piece → length rest + length piece ≤ 8192 → cut_from (Some rest) piece ≡ (lines, Some (rest ++ piece))
piece_short rest piece lines nothing one short = cut_short rest piece one short ∙ ap (λ (ls : List (List ℕ)). (ls, Some (rest ++ piece))) (sym nothing)

-- a piece with more bytes in front of its first LF, or of its end, than there is room for
pub piece_long : (rest piece bytes more : List ℕ) (lines : List (List ℕ)) → lines ≡ [] → piece ≡ bytes ++ more → NoBreak bytes → length rest ≤ 8192 → 8192 < length rest + length bytes → cut_from (Some rest) piece ≡ (lines, None)
piece_long rest piece bytes more lines nothing is one fit long = ap (cut_from (Some rest)) is ∙ cut_long rest bytes more one fit long ∙ ap (λ (ls : List (List ℕ)). (ls, None)) (sym nothing)

-- a piece behind a rest
pub joined_cut : (rest piece : List ℕ) → IsLine rest → cut_of (rest ++ piece) ≡ cut_from (Some rest) piece
joined_cut rest piece line = line_on [] rest piece line.one (let h = line.short in omega arith)

-- ---- what is handed out is lines, and so is the rest

abbrev FitStand : Stand → Type 0
FitStand None = Unit {0}
FitStand (Some rest) = IsLine rest

abbrev FitCut : List (List ℕ) × Stand → Type 0
FitCut cut = AllByRecursion IsLine cut.0 × FitStand cut.1

stand_fits : (bytes : List ℕ) (stand : Stand) → Stands bytes stand → FitStand stand
stand_fits bytes None s = tt
stand_fits bytes (Some rest) s = s.1

fit_cut : (rest bytes : List ℕ) → IsLine rest → FitCut (cut_from (Some rest) bytes)
fit_cut rest bytes line =
    let cut = cut_is rest bytes line in
    (cut.1, stand_fits cut.0 (cut_from (Some rest) bytes).1 cut.3)

pub lines_fit : (rest bytes : List ℕ) (lines : List (List ℕ)) (stand : Stand) → IsLine rest → cut_from (Some rest) bytes ≡ (lines, stand) → AllByRecursion IsLine lines
lines_fit rest bytes lines stand line e = (subst FitCut e (fit_cut rest bytes line)).0

pub rest_fits : (rest bytes : List ℕ) (lines : List (List ℕ)) (after : List ℕ) → IsLine rest → cut_from (Some rest) bytes ≡ (lines, Some after) → IsLine after
rest_fits rest bytes lines after line e = (subst FitCut e (fit_cut rest bytes line)).1
