-- Texts that are appended one after the other.
use Rattle.std.proofs.Common.{◌≡◌, ℕ, List, ◌++◌, append_assoc, ◌∙◌}

pub three : (old one two new a b c : List ℕ) → one ≡ old ++ a → two ≡ one ++ b → new ≡ two ++ c → new ≡ old ++ (a ++ (b ++ c))
three old one two new a b c e f g = g ∙ rw (f, e) (simp append_assoc)

pub four : (old one two three new a b c d : List ℕ) → one ≡ old ++ a → two ≡ one ++ b → three ≡ two ++ c → new ≡ three ++ d → new ≡ old ++ (a ++ (b ++ (c ++ d)))
four old one two three new a b c d e f g h = h ∙ rw (g, f, e) (simp append_assoc)

pub five : (old one two three last new a b c d k : List ℕ) → one ≡ old ++ a → two ≡ one ++ b → three ≡ two ++ c → last ≡ three ++ d → new ≡ last ++ k → new ≡ old ++ (a ++ (b ++ (c ++ (d ++ k))))
five old one two three last new a b c d k e f g h i = i ∙ rw (h, g, f, e) (simp append_assoc)

pub seven : (old one two three third fourth last new a b c d k l m : List ℕ) → one ≡ old ++ a → two ≡ one ++ b → three ≡ two ++ c → third ≡ three ++ d → fourth ≡ third ++ k → last ≡ fourth ++ l → new ≡ last ++ m
    → new ≡ old ++ (a ++ (b ++ (c ++ (d ++ (k ++ (l ++ m))))))
seven old one two three third fourth last new a b c d k l m e f g h i j n = n ∙ rw (j, i, h, g, f, e) (simp append_assoc)
