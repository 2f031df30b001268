-- Why a question is refused, by the line of its reply.
use Rattle.std.proofs.Common.{◌≡◌, ◌++◌, ℕ, List, true, false, codes, refl, nat_eq}
use Rattle.std.specs.List.{starts_with}
use Rattle.report_line.specs.Cutting.{ended}
use Rattle.recline.specs.Asking.{name_in, refusal_line}

pub unknown_name : (reply : List ℕ) → starts_with nat_eq reply (codes "NO 3 ") ≡ true → refusal_line reply ≡ ended (codes "recline: unknown " ++ name_in reply)
unknown_name reply a = rw a refl

pub not_begun : (reply : List ℕ) → starts_with nat_eq reply (codes "NO 3 ") ≡ false → starts_with nat_eq reply (codes "NO 14 ") ≡ true → refusal_line reply ≡ ended (codes "recline: nothing begun")
not_begun reply a b = rw (a, b) refl

pub no_memory : (reply : List ℕ) → starts_with nat_eq reply (codes "NO 3 ") ≡ false → starts_with nat_eq reply (codes "NO 14 ") ≡ false → starts_with nat_eq reply (codes "NO 16 ") ≡ true
    → refusal_line reply ≡ ended (codes "recline: memory")
no_memory reply a b c = rw (a, b, c) refl

pub no_list : (reply : List ℕ) → starts_with nat_eq reply (codes "NO 3 ") ≡ false → starts_with nat_eq reply (codes "NO 14 ") ≡ false → starts_with nat_eq reply (codes "NO 16 ") ≡ false
    → refusal_line reply ≡ ended (codes "recline: no list of names")
no_list reply a b c = rw (a, b, c) refl
