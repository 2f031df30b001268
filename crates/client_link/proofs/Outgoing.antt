-- What was written moves from what waits to what the writer has.
use Rattle.std.proofs.Common.{◌≡◌, ℕ, ◌+◌, List, [], ◌++◌, take, drop, Option, Some, None, refl, sym, ap, ◌∙◌, append_assoc}
use Rattle.std.specs.Io.KnownBytes.{Appends, Keeps, append_known}
use Rattle.std.proofs.lemmas.List.{append-nil, take-append-drop, drop-drop}

-- so many bytes were written
pub sent_on : (a b : Option (List ℕ)) (bytes : List ℕ) (k n : ℕ) → Appends a b (take n (drop k bytes)) → Keeps (append_known a (drop k bytes)) (append_known b (drop (k + n) bytes))
sent_on None b bytes k n w = tt
sent_on (Some xs) None bytes k n w = absurd w
sent_on (Some xs) (Some ys) bytes k n w =
    let rest : drop (k + n) bytes ≡ drop n (drop k bytes) = sym (drop-drop n k bytes) in
    ap (λ (l : List ℕ). l ++ drop (k + n) bytes) w ∙ append_assoc xs (take n (drop k bytes)) (drop (k + n) bytes) ∙ ap (λ (l : List ℕ). xs ++ (take n (drop k bytes) ++ l)) rest ∙ ap (λ (l : List ℕ). xs ++ l) (take-append-drop n (drop k bytes))

-- nothing waits
pub none_waits : (a : Option (List ℕ)) → append_known a [] ≡ a
none_waits None = refl
none_waits (Some xs) = ap Some (append-nil xs)

-- none were
pub unsent_kept : (a b : Option (List ℕ)) (bytes : List ℕ) → Keeps a b → Keeps (append_known a bytes) (append_known b bytes)
unsent_kept None b bytes w = tt
unsent_kept (Some xs) None bytes w = absurd w
unsent_kept (Some xs) (Some ys) bytes w = ap (λ (l : List ℕ). l ++ bytes) w

-- what waits was what was written and what waits now
pub sent_front : (bytes : List ℕ) (k n : ℕ) → (gone : List ℕ) × (drop k bytes ≡ gone ++ drop (k + n) bytes)
sent_front bytes k n = (take n (drop k bytes), sym (take-append-drop n (drop k bytes)) ∙ ap (λ (l : List ℕ). take n (drop k bytes) ++ l) (drop-drop n k bytes))

-- written in two parts
pub gone_then : (a b c : List ℕ) → ((g : List ℕ) × (a ≡ g ++ b)) → ((h : List ℕ) × (b ≡ h ++ c)) → (x : List ℕ) × (a ≡ x ++ c)
gone_then a b c p q = (p.0 ++ q.0, p.1 ∙ ap (λ (l : List ℕ). p.0 ++ l) q.1 ∙ sym (append_assoc p.0 q.0 c))

pub kept_then : (a b c : Option (List ℕ)) → Keeps a b → Keeps b c → Keeps a c
kept_then None b c p q = tt
kept_then (Some xs) None c p q = absurd p
kept_then (Some xs) (Some ys) None p q = absurd q
kept_then (Some xs) (Some ys) (Some zs) p q = q ∙ p
