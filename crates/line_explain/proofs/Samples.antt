-- A word of each kind.
use Rattle.std.proofs.Common.{ℕ, List, [], refl, IsTrue, arith}
use Rattle.std.specs.Prelude.{codes}
use Rattle.std.specs.Fmt.{decimal}
use Rattle.id_tree.specs.IdTree.{One}
use Rattle.id_tree.specs.NormalForm.{IsId}
use Rattle.id_tree.specs.Spelling as ids
use Rattle.event_tree.specs.EventTree.{Leaf}
use Rattle.event_tree.specs.NormalForm.{IsEvents}
use Rattle.stamp.specs.Stamps.{stamp_text}
use Rattle.report_line.specs.Names.{is_letter, is_name_byte, is_name}
use Rattle.line_explain.specs.declared.wanted.Wanted.{Wanted}
use Rattle.line_explain.specs.declared.wanted.Wanted.TheVariants as wanted
use Rattle.line_explain.specs.Wanting.{Fits}

name_is : IsTrue (is_name (codes "a"))
unfolding is_name is_letter is_name_byte
name_is = refl

one_is : IsId One
one_is = record { normal = tt; shallow = omega arith }

zero_is : IsEvents (Leaf 0)
zero_is = record { normal = tt; shallow = omega arith; small = omega arith }

pub sample : (kind : Wanted) → (word : List ℕ) × Fits kind word
sample wanted.Name = (codes "a", name_is)
sample wanted.Number = (decimal 1, (1, (omega arith, omega arith), refl))
sample wanted.Stamp = (stamp_text (record { id = One; events = Leaf 0 }), (record { id = One; events = Leaf 0 }, record { id = one_is; events = zero_is }, refl))
sample wanted.Id = (ids.spelling One, (One, one_is, refl))
sample wanted.Names = (codes "-", ([], tt, refl))
