-- A line as words: what is cut off it, and that words without a space are the words of their line.
use Rattle.std.proofs.Common.{◌≡◌, ◌≢◌, ℕ, false, eqb, List, [], ◌∷◌, ◌++◌, length, refl, sym, ap, ◌∙◌, arith}
use Rattle.std.specs.List.{AllByRecursion, join_with_byte}
use Rattle.std.proofs.lemmas.List.{append-nil}
use Rattle.std.proofs.lemmas.List.Splits.{slice_split_none, slice_split_at, join_with_byte-slice_split, length-slice_split}
use Rattle.std.proofs.lemmas.List.Elements.{All-from_recursion}
use Rattle.report_line.specs.Cuts.{Lacks, words_in, spaced}

pub one_word : (line : List ℕ) → Lacks 32 line → words_in line ≡ line ∷ []
unfolding words_in
one_word line lacks = slice_split_none (λ b. eqb b 32) line (All-from_recursion (λ b. eqb b 32 ≡ false) line lacks)

pub word_and_rest : (line word behind : List ℕ) → Lacks 32 word → line ≡ word ++ 32 ∷ behind → words_in line ≡ word ∷ words_in behind
unfolding words_in
word_and_rest line word behind lacks is = ap words_in is ∙ slice_split_at (λ b. eqb b 32) word 32 behind (All-from_recursion (λ b. eqb b 32 ≡ false) word lacks) refl

-- the words of a line, parted by spaces, are the line
pub words_joined : (line : List ℕ) → join_with_byte 32 (words_in line) ≡ line
unfolding words_in
words_joined line = join_with_byte-slice_split 32 line

-- words without a space, parted by spaces, are the words of that line
pub joined_words : (word : List ℕ) (words : List (List ℕ)) → AllByRecursion (Lacks 32) (word ∷ words) → words_in (join_with_byte 32 (word ∷ words)) ≡ word ∷ words
joined_words word [] lack = one_word word lack.0
joined_words word (next ∷ words) lack =
    word_and_rest _ word (join_with_byte 32 (next ∷ words)) lack.0 refl ∙ ap (λ (ws : List (List ℕ)). word ∷ ws) (joined_words next words lack.1)

-- a line has a word, be it an empty one
pub some_word : (line : List ℕ) → words_in line ≢ []
unfolding words_in
some_word line none = let many = length-slice_split (λ b. eqb b 32) line in omega (arith, many, ap length none)

-- words parted by spaces, where each but the first has its space in front of it
pub joined_spaced : (word : List ℕ) (words : List (List ℕ)) → join_with_byte 32 (word ∷ words) ≡ word ++ spaced words
joined_spaced word [] = sym (append-nil word)
joined_spaced word (next ∷ words) = ap (λ (rest : List ℕ). word ++ 32 ∷ rest) (joined_spaced next words)
