use Rattle.std.proofs.Common.{◌≡◌, ℕ, ◌+◌, ◌-◌, ◌≤◌, ◌/◌, ◌%◌, List, [], ◌∷◌, ◌++◌, length, take, drop, set, refl, ◌∙◌, ap, arith, length-append, length-drop, length-take}
use Rattle.std.specs.Int.{w32, to_be_bytes}
use Rattle.std.proofs.lemmas.List.{take_more_set}
use Rattle.std.proofs.lemmas.Slice.{take-put_mid}
use borrow.Rule.Slice.PartMut.{put_mid}
use Rattle.record_file.proofs.filling.fill.Goals as goal

length-put : (a k : ℕ) (xs ys : List ℕ) → a + k ≤ length xs → length ys ≡ k → length (put_mid a k xs ys) ≡ length xs
length-put a k xs ys within same =
    omega (arith, length-append (take a xs) (ys ++ drop k (drop a xs)), length-append ys (drop k (drop a xs)), length-drop k (drop a xs), length-drop a xs, length-take a xs)

-- a line and a closed gate behind the first six bytes
behind_six : (xs line : List ℕ) (n k m : ℕ) → n + 7 ≤ length xs → length line ≡ n → k ≡ n → m ≡ n + 7 → take m (set (put_mid 6 k xs line) (n + 6) 0) ≡ (take 6 xs ++ line) ++ 0 ∷ []
behind_six xs line n k m room size all last =
    let sized : length (put_mid 6 k xs line) ≡ length xs = length-put 6 k xs line (omega arith) (omega arith) in
    let more : m ≡ (n + 6) + 1 = omega arith in
    ap (λ (i : ℕ). take i (set (put_mid 6 k xs line) (n + 6) 0)) more
    ∙ take_more_set (put_mid 6 k xs line) (n + 6) 0 (omega (arith, sized))
    ∙ ap (λ (l : List ℕ). l ++ 0 ∷ []) (take-put_mid 6 k xs line (n + 6) (omega arith) (omega arith))

first_six : (b epoch : List ℕ) (high low : ℕ) → 6 ≤ length b → length epoch ≡ 4 → take 6 (put_mid 2 4 (set (set b 0 high) 1 low) epoch) ≡ high ∷ low ∷ epoch
first_six [] epoch high low room four = absurd (omega arith)
first_six (a ∷ []) epoch high low room four = absurd (omega arith)
first_six (a ∷ a' ∷ b) epoch high low room four = take-put_mid 2 4 (high ∷ low ∷ b) epoch 6 (omega arith) (omega arith)

length-first : (b epoch : List ℕ) (high low : ℕ) → 6 ≤ length b → length epoch ≡ 4 → length (put_mid 2 4 (set (set b 0 high) 1 low) epoch) ≡ length b
length-first [] epoch high low room four = absurd (omega arith)
length-first (a ∷ []) epoch high low room four = absurd (omega arith)
length-first (a ∷ a' ∷ b) epoch high low room four = length-put 2 4 (high ∷ low ∷ b) epoch (omega arith) four

filled : (b epoch line copied line_copied : List ℕ) (high low n k m : ℕ) → n + 7 ≤ length b → length line ≡ n → length epoch ≡ 4 → k ≡ n → m ≡ n + 7 → copied ≡ epoch → line_copied ≡ line
    → take m (set (put_mid 6 k (put_mid 2 4 (set (set b 0 high) 1 low) copied) line_copied) (n + 6) 0) ≡ high ∷ low ∷ ((epoch ++ line) ++ 0 ∷ [])
filled b epoch line copied line_copied high low n k m room size four all last is is' =
    let xs = put_mid 2 4 (set (set b 0 high) 1 low) epoch in
    ap (λ (l : List ℕ). take m (set (put_mid 6 k (put_mid 2 4 (set (set b 0 high) 1 low) l) line_copied) (n + 6) 0)) is
    ∙ ap (λ (l : List ℕ). take m (set (put_mid 6 k xs l) (n + 6) 0)) is'
    ∙ behind_six xs line n k m (omega (arith, length-first b epoch high low (omega arith) four)) size all last
    ∙ ap (λ (l : List ℕ). (l ++ line) ++ 0 ∷ []) (first_six b epoch high low (omega arith) four)

pub returns-clause-bytes : goal.returns-clause-bytes
returns-clause-bytes c =
    let n = length c.args.line.now in
    filled c.args.buffer.now (to_be_bytes w32 c.args.epoch) c.args.line.now _ _ ((32768 + n) / 256) ((32768 + n) % 256) n (n + 6 - 6) (n + 7) (omega (arith, c.requires.room)) refl refl (omega arith) refl
    (c.copy_from_slice.ensures.after ∙ c.to_be_bytes.ensures) c.copy_from_slice-2.ensures.after
