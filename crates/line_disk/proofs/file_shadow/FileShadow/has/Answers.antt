use Rattle.std.proofs.Common.{◌≡◌, ℕ, ◌+◌, ◌≤◌, List, ◌++◌, false, length, take, drop, sym, ◌∙◌, ap, rules, arith, length-drop}
use Rattle.std.proofs.lemmas.List.{take-append-drop, take-append-le, drop-append-le}
use Rattle.line_disk.proofs.file_shadow.FileShadow.has.Goals as goal

-- Bytes of the front of a file are bytes of the file.
of_front : (front file bytes : List ℕ) (at : ℕ) → at + length bytes ≤ length front → front ≡ take (length front) file
    → bytes ≡ take (length bytes) (drop at front) → bytes ≡ take (length bytes) (drop at file)
of_front front file bytes at fits is here =
    let n = length bytes in
    let rest = drop (length front) file in
    let whole : front ++ rest ≡ file = ap (λ (l : List ℕ). l ++ rest) is ∙ take-append-drop (length front) file in
    let some : n ≤ length (drop at front) = omega (arith, fits, length-drop at front) in
    here ∙ sym (ap (λ (f : List ℕ). take n (drop at f)) (sym whole)
    ∙ ap (λ (l : List ℕ). take n l) (drop-append-le at front rest (omega (arith, fits)))
    ∙ take-append-le n (drop at front) rest some)

pub returns-then-covers-clause-known : goal.returns-then-covers-clause-known
returns-then-covers-clause-known c = λ equal behind size.
    let shadow = c.args.self.now in
    let covered : (shadow.failed ≡ false) × (c.args.at + length c.args.bytes.now ≤ length shadow.copy.items) = c.covers.ensures.0 c.if-covers.true in
    let same : c.args.bytes.now ≡ take (length c.args.bytes.now) (drop c.args.at shadow.copy.items) = search rules in
    of_front shadow.copy.items _ c.args.bytes.now c.args.at covered.1 (shadow.shown covered.0 behind size) same
