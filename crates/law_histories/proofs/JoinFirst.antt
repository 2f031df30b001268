-- Joining first is not lawful.
use Rattle.std.proofs.Common.{◌≡◌, ◌<◌, true, false, [], ◌∷◌, refl, sym, arith}
use Rattle.std.specs.Prelude.{max, IsTrue}
use Rattle.std.proofs.lemmas.Bool.{true≢false}
use Rattle.id_tree.specs.IdTree.{One}
use Rattle.id_tree.specs.Points.{Point, owns}
use Rattle.event_tree.specs.EventTree.{Leaf, Node}
use Rattle.event_tree.specs.Values.{value_at}
use Rattle.event_tree.specs.Event.{IsEventStep}
use Rattle.event_tree.specs.Join.{IsJoin}
use Rattle.law_histories.specs.JoinFirst.{own_id, own_events, retired_events, JoinsFirstToThree, ThreeIsNotLawful}

joined : IsJoin own_events retired_events (Node 2 (Leaf 1) (Leaf 0))
joined [] = refl
joined (false ∷ p) = refl
joined (true ∷ p) = refl

leaf_or_node : Leaf 3 ≡ Node 2 (Leaf 1) (Leaf 0) → ⊥
leaf_or_node is = cc

stepped : IsEventStep One (Node 2 (Leaf 1) (Leaf 0)) (Leaf 3)
stepped = record { filled = λ differs. refl; grown = λ same. absurd (leaf_or_node same) }

pub joins_first : JoinsFirstToThree
joins_first = (joined, stepped)

-- where the id owns the value was 3
three : (p : Point) → IsTrue (owns own_id p) → value_at own_events p ≡ 3
three [] owned = refl
three (false ∷ p) owned = refl
three (true ∷ p) owned = absurd (true≢false (sym owned))

pub not_lawful : ThreeIsNotLawful
not_lawful between grown join =
    let p = grown.greater.0 in
    let was : value_at own_events p ≡ 3 = three p grown.greater.1 in
    let more : value_at own_events p < value_at between p = grown.greater.2 in
    let is : 3 ≡ max (value_at between p) (value_at retired_events p) = join p in
    omega arith
