-- The names, ids and values of the examples have the forms that reports ask for.
use Rattle.std.proofs.Common.{◌≡◌, ℕ, ◌+◌, ◌≤◌, min, max, false, refl, arith}
use Rattle.std.specs.Prelude.{◌==◌, IsTrue}
use Rattle.id_tree.specs.IdTree.{One}
use Rattle.id_tree.specs.NormalForm.{IsId}
use Rattle.event_tree.specs.EventTree.{Leaf}
use Rattle.event_tree.specs.NormalForm.{IsEvents, value_limit}
use Rattle.report_line.specs.Names.{is_letter, is_name_byte, is_name}
use Rattle.law_histories.specs.Example.{a, b, left, right, halves}

pub name_a : IsTrue (is_name a)
unfolding is_letter is_name_byte is_name
name_a = refl

pub name_b : IsTrue (is_name b)
unfolding is_letter is_name_byte is_name
name_b = refl

pub on_one : IsId One
on_one = record { normal = tt; shallow = omega arith }

pub on_left : IsId left
on_left = record { normal = (tt, tt, refl); shallow = omega arith }

pub on_right : IsId right
on_right = record { normal = (tt, tt, refl); shallow = omega arith }

pub flat : (n : ℕ) → n ≤ value_limit → IsEvents (Leaf n)
flat n few = record { normal = tt; shallow = omega arith; small = few }

pub halved : (n x y : ℕ) → min x y ≡ 0 → (x == y) ≡ false → n + max x y ≤ value_limit → IsEvents (halves n x y)
halved n x y least differs few = record { normal = (tt, tt, least, differs); shallow = omega arith; small = few }
