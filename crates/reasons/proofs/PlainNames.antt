-- The bytes of a name are plain: they are UTF-8, and JSON writes them as they are.
use Rattle.std.proofs.Common.{◌≡◌, ℕ, zero, suc, ◌≤◌, List, [], ◌∷◌, true, drop, length, IsTrue, refl, ap, ◌∙◌, arith}
use Rattle.std.proofs.lemmas.Bool.{and_parts, ne_eqb, le-ltb}
use Rattle.std.proofs.lemmas.Bool.Decides.{nat_tests}
use Rattle.std.proofs.lemmas.Str.{IsUtf8-from_ascii}
use Rattle.std.specs.Prelude.{◌&&◌, nat_le, IsUtf8}
use Rattle.std.specs.Str.{IsAscii}
use Rattle.std.specs.List.{list_all}
use Rattle.report_line.specs.Names.{is_letter, is_name_byte, is_name}
use Rattle.serde_json.proofs.OnLiterals.{serde_json_on_literals}
use Rattle.serde_json.specs.Data.{string}
use Rattle.serde_json.specs.Written.{compact_text}
use Rattle.reasons.specs.CertificateText.{quoted}

name_byte_bounds : (b : ℕ) → is_name_byte b ≡ true → (45 ≤ b) × (b ≤ 122) × (b ≡ 92 → ⊥)
unfolding is_name_byte is_letter
name_byte_bounds b is = grind (arith, nat_tests)

-- the bytes of a name are name bytes, the first as well
pub name_bytes : (name : List ℕ) → IsTrue (is_name name) → IsTrue (list_all is_name_byte name)
unfolding is_name is_name_byte
name_bytes [] is = absurd cc
name_bytes (b ∷ bs) is =
    let outer = and_parts (is_letter b && nat_le (length bs) 31) (list_all is_name_byte bs) is in
    let first = and_parts (is_letter b) (nat_le (length bs) 31) outer.0 in
    rw (first.0, outer.1)

ascii : (name : List ℕ) → IsTrue (list_all is_name_byte name) → IsAscii name
ascii [] is i = omega arith
ascii (b ∷ bs) is zero = let bounds = name_byte_bounds b (and_parts (is_name_byte b) (list_all is_name_byte bs) is).0 in omega arith
ascii (b ∷ bs) is (suc i) = ascii bs (and_parts (is_name_byte b) (list_all is_name_byte bs) is).1 i

pub name_utf8 : (name : List ℕ) → IsTrue (is_name name) → IsUtf8 name
name_utf8 name is = IsUtf8-from_ascii name (ascii name (name_bytes name is))

-- a byte that needs no escape is written as it is
plain_byte : (b : ℕ) (bs : List ℕ) → 45 ≤ b → (b ≡ 92 → ⊥) → compact_text (string (b ∷ bs)) ≡ 34 ∷ b ∷ drop 1 (compact_text (string bs))
unfolding serde_json_on_literals
plain_byte b bs from other =
    rw (
      ne_eqb b 34 (λ e. omega arith),
      ne_eqb b 92 other,
      ne_eqb b 8 (λ e. omega arith),
      ne_eqb b 12 (λ e. omega arith),
      ne_eqb b 10 (λ e. omega arith),
      ne_eqb b 13 (λ e. omega arith),
      ne_eqb b 9 (λ e. omega arith),
      le-ltb b 32 (omega arith),
    )

pub plain_text : (name : List ℕ) → IsTrue (list_all is_name_byte name) → compact_text (string name) ≡ quoted name
plain_text [] is = refl
plain_text (b ∷ bs) is =
    let parts = and_parts (is_name_byte b) (list_all is_name_byte bs) is in
    let bounds = name_byte_bounds b parts.0 in
    plain_byte b bs bounds.0 bounds.2 ∙ ap (λ (l : List ℕ). 34 ∷ b ∷ drop 1 l) (plain_text bs parts.1)
