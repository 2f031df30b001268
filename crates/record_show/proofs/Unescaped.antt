-- Names in strings of JSON.
use Rattle.std.proofs.Common.{◌≡◌, ℕ, List, [], ◌∷◌, ◌++◌, true, length, IsTrue, refl, ap, arith}
use Rattle.std.proofs.lemmas.Bool.{and_parts}
use Rattle.std.proofs.lemmas.Bool.Decides.{nat_tests}
use Rattle.std.specs.Prelude.{◌&&◌, nat_le}
use Rattle.std.specs.List.{list_all, flat_map}
use Rattle.report_line.specs.Names.{is_letter, is_name_byte, is_name}
use Rattle.record_show.specs.Strings.{is_plain, escaped, string}

plain_byte : (b : ℕ) → is_name_byte b ≡ true → is_plain b ≡ true
unfolding is_name_byte is_letter is_plain
plain_byte b is = grind (arith, nat_tests)

name_bytes : (name : List ℕ) → IsTrue (is_name name) → IsTrue (list_all is_name_byte name)
unfolding is_name is_name_byte
name_bytes [] is = absurd cc
name_bytes (b ∷ bs) is =
    let outer = and_parts (is_letter b && nat_le (length bs) 31) (list_all is_name_byte bs) is in
    let first = and_parts (is_letter b) (nat_le (length bs) 31) outer.0 in
    rw (first.0, outer.1)

unescaped : (bytes : List ℕ) → IsTrue (list_all is_name_byte bytes) → flat_map escaped bytes ≡ bytes
unescaped [] is = refl
unescaped (b ∷ bs) is =
    let parts = and_parts (is_name_byte b) (list_all is_name_byte bs) is in
    rw (plain_byte b parts.0) (ap (λ (l : List ℕ). b ∷ l) (unescaped bs parts.1))

pub names_stand : (name : List ℕ) → IsTrue (is_name name) → string name ≡ 34 ∷ (name ++ 34 ∷ [])
names_stand name is = ap (λ (l : List ℕ). 34 ∷ (l ++ 34 ∷ [])) (unescaped name (name_bytes name is))
