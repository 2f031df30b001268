-- What a look at a part of an id shows.
use Rattle.std.specs.Prelude.{◌≡◌}
use Rattle.id_tree.specs.IdTree.{IdTree, Zero, One, Pair}
use Rattle.id_tree.specs.declared.view.IdPart.{IdPart}
use Rattle.id_tree.specs.declared.view.IdPart.TheVariants.{Nothing, Everything, Halves}

-- the part is nothing, everything, or a pair of these halves
abbrev pub ShowsId : IdPart → IdTree → Type 0
ShowsId Nothing i = i ≡ Zero
ShowsId Everything i = i ≡ One
ShowsId (Halves l r) i = i ≡ Pair l r
