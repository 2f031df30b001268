-- How reason chains that share their beginnings are kept.
use Rattle.std.specs.Prelude.{ℕ, ◌<◌, ◌≡◌, List, [], ◌∷◌, ◌++◌, length, get_or, slice_get, reverse, Option, Some}
use Rattle.std.specs.Option.{option_map_or}
use Rattle.chains.specs.declared.position.Place.{Place}
use Rattle.propagate.specs.declared.arena.Node.{Node}

-- the chain of a node, where the chains before it are these
abbrev pub chain_by : List (List Place) → Node → List Place
chain_by chains node = option_map_or (λ i. get_or chains i []) node.before [] ++ node.place ∷ []

-- the chains of all nodes, behind those that are there
abbrev pub unwound : List (List Place) → List Node → List (List Place)
unwound chains [] = chains
unwound chains (node ∷ nodes) = unwound (chains ++ chain_by chains node ∷ []) nodes

-- each node goes back to an earlier one
abbrev pub AreBehind : List Node → Type 0
AreBehind nodes = (i j : ℕ) (node : Node) → slice_get nodes i ≡ Some node → node.before ≡ Some j → j < i

-- the places of a chain that were found, the last one first, and the number of the chain of the rest
pub record IsUnwinding (nodes : List Node) (chain : ℕ) (rest : Option ℕ) (places : List Place) : Type 0 where
  pub found : get_or (unwound [] nodes) chain [] ≡ option_map_or (λ i. get_or (unwound [] nodes) i []) rest [] ++ reverse places
  pub within : (i : ℕ) → rest ≡ Some i → i < length nodes
