-- Reason chains that share their beginnings.
use Rattle.std.proofs.Common.{◌≡◌, ℕ, ◌+◌, ◌<◌, List, [], ◌∷◌, ◌++◌, length, get_or, Some, None, refl, sym, ap, ◌∙◌, subst, arith, zero, suc, Option, reverse, inl, inr, append-nil}
use Rattle.std.specs.Prelude.{slice_get}
use Rattle.std.specs.Option.{option_map_or}
use Rattle.std.proofs.lemmas.List.{append_assoc, length_push, get_or_append_left, get_or_push, reverse-append}
use Rattle.std.proofs.lemmas.Bool.{cases_lt}
use Rattle.chains.proofs.Showing.{get_front, get_behind}
use Rattle.std.proofs.lemmas.Option.{none-some, same_Some, slice_get_within}
use Rattle.chains.specs.declared.position.Place.{Place}
use Rattle.propagate.specs.declared.arena.Node.{Node}
use Rattle.propagate.specs.working.Nodes.{chain_by, unwound, AreBehind, IsUnwinding}

pub unwound-push : (chains : List (List Place)) (nodes : List Node) (node : Node) → unwound chains (nodes ++ node ∷ []) ≡ unwound chains nodes ++ chain_by (unwound chains nodes) node ∷ []
unwound-push chains [] node = refl
unwound-push chains (n ∷ ns) node = unwound-push (chains ++ chain_by chains n ∷ []) ns node

pub unwound-length : (chains : List (List Place)) (nodes : List Node) → length (unwound chains nodes) ≡ length chains + length nodes
unwound-length chains [] = omega arith
unwound-length chains (n ∷ ns) = omega (arith, unwound-length (chains ++ chain_by chains n ∷ []) ns, length_push chains (chain_by chains n))

-- the chains that are there stay
pub unwound-keeps : (chains : List (List Place)) (nodes : List Node) (i : ℕ) → i < length chains → get_or (unwound chains nodes) i [] ≡ get_or chains i []
unwound-keeps chains [] i lt = refl
unwound-keeps chains (n ∷ ns) i lt =
    unwound-keeps (chains ++ chain_by chains n ∷ []) ns i (omega (arith, length_push chains (chain_by chains n)))
    ∙ get_or_append_left chains (chain_by chains n ∷ []) [] i lt

-- the chain of a node, once it is there, is the chain that it goes back to and its place
chain_by-keeps : (chains : List (List Place)) (nodes : List Node) (before : Option ℕ) (place : Place) → ((j : ℕ) → before ≡ Some j → j < length chains)
    → option_map_or (λ i. get_or (unwound chains nodes) i []) before [] ++ place ∷ [] ≡ option_map_or (λ i. get_or chains i []) before [] ++ place ∷ []
chain_by-keeps chains nodes None place within = refl
chain_by-keeps chains nodes (Some j) place within = ap (λ (xs : List Place). xs ++ place ∷ []) (unwound-keeps chains nodes j (within j refl))

unwound-at : (chains : List (List Place)) (nodes : List Node) (i : ℕ) (node : Node) → slice_get nodes i ≡ Some node → ((j k : ℕ) (n : Node) → slice_get nodes k ≡ Some n → n.before ≡ Some j → j < length chains + k)
    → get_or (unwound chains nodes) (length chains + i) [] ≡ chain_by (unwound chains nodes) node
unwound-at chains [] i node is behind = absurd (none-some node is)
unwound-at chains (n ∷ ns) zero node is behind =
    let same : n ≡ node = same_Some n node is in
    let within : (j : ℕ) → n.before ≡ Some j → j < length chains = λ j e. omega (arith, behind j 0 n refl e) in
    ap (λ (i : ℕ). get_or (unwound (chains ++ chain_by chains n ∷ []) ns) i []) (omega arith)
    ∙ unwound-keeps (chains ++ chain_by chains n ∷ []) ns (length chains) (omega (arith, length_push chains (chain_by chains n)))
    ∙ get_or_push chains (chain_by chains n) [] (length chains) refl
    ∙ sym (chain_by-keeps chains (n ∷ ns) n.before n.place within)
    ∙ ap (chain_by (unwound chains (n ∷ ns))) same
unwound-at chains (n ∷ ns) (suc i) node is behind =
    ap (λ (k : ℕ). get_or (unwound (chains ++ chain_by chains n ∷ []) ns) k []) (omega (arith, length_push chains (chain_by chains n)))
    ∙ unwound-at (chains ++ chain_by chains n ∷ []) ns i node is (λ j k m at e. omega (arith, behind j (suc k) m at e, length_push chains (chain_by chains n)))

pub chain_of_node : (nodes : List Node) (i : ℕ) (node : Node) → AreBehind nodes → slice_get nodes i ≡ Some node → get_or (unwound [] nodes) i [] ≡ chain_by (unwound [] nodes) node
chain_of_node nodes i node behind is =
    ap (λ (k : ℕ). get_or (unwound [] nodes) k []) (omega arith) ∙ unwound-at [] nodes i node is (λ j k m at e. omega (arith, behind k j m at e))

pub unwinding_first : (nodes : List Node) (chain : ℕ) → chain < length nodes → IsUnwinding nodes chain (Some chain) []
unwinding_first nodes chain lt = record { found = sym (append-nil (get_or (unwound [] nodes) chain [])); within = λ i e. subst (λ (k : ℕ). k < length nodes) (same_Some chain i e) lt }

pub unwinding_more : (nodes : List Node) (chain i : ℕ) (node : Node) (places : List Place) → AreBehind nodes → slice_get nodes i ≡ Some node → IsUnwinding nodes chain (Some i) places → IsUnwinding nodes chain node.before (places ++ node.place ∷ [])
unwinding_more nodes chain i node places behind is h = record {
  found = h.found ∙ ap (λ (xs : List Place). xs ++ reverse places) (chain_of_node nodes i node behind is)
      ∙ append_assoc (option_map_or (λ j. get_or (unwound [] nodes) j []) node.before []) (node.place ∷ []) (reverse places)
      ∙ ap (λ (xs : List Place). option_map_or (λ j. get_or (unwound [] nodes) j []) node.before [] ++ xs) (sym (reverse-append places (node.place ∷ [])));
  within = λ j e. let lt = behind i j node is e in let there = slice_get_within nodes i node is in omega arith;
}

-- an added node goes back to an earlier one
pub behind_more : (nodes : List Node) (node : Node) → AreBehind nodes → ((j : ℕ) → node.before ≡ Some j → j < length nodes) → AreBehind (nodes ++ node ∷ [])
behind_more nodes node behind within i j m at e = elim (cases_lt i (length nodes)) [
  | inl lt ↦ behind i j m (sym (get_front nodes (node ∷ []) i lt) ∙ at) e
  | inr le ↦ let past = slice_get_within (nodes ++ node ∷ []) i m at in
      let last : i ≡ length nodes = omega (arith, length_push nodes node) in
      let same : node ≡ m = same_Some node m (sym (get_behind nodes (node ∷ [])) ∙ ap (λ (k : ℕ). slice_get (nodes ++ node ∷ []) k) (sym last) ∙ at) in
      let lt = within j (ap (λ (n : Node). n.before) same ∙ e) in omega arith
]

node_there : (nodes : List Node) (i : ℕ) (d : Node) → i < length nodes → slice_get nodes i ≡ Some (get_or nodes i d)
node_there [] i d lt = absurd (omega (arith, lt))
node_there (n ∷ ns) zero d lt = refl
node_there (n ∷ ns) (suc i) d lt = node_there ns i d (omega (arith, lt))

-- one place more of a chain is found
pub unwinding_step : (nodes : List Node) (chain i : ℕ) (d : Node) (rest : Option ℕ) (places found : List Place) → AreBehind nodes → rest ≡ Some i → IsUnwinding nodes chain rest places
    → found ≡ places ++ (get_or nodes i d).place ∷ [] → IsUnwinding nodes chain (get_or nodes i d).before found
unwinding_step nodes chain i d rest places found behind is h more =
    subst (IsUnwinding nodes chain (get_or nodes i d).before) (sym more)
    (unwinding_more nodes chain i (get_or nodes i d) places behind (node_there nodes i d (h.within i is)) (subst (λ (o : Option ℕ). IsUnwinding nodes chain o places) is h))

smaller_rest : (o : Option ℕ) (i : ℕ) → ((j : ℕ) → o ≡ Some j → j < i) → option_map_or (λ (j : ℕ). j + 1) o 0 < i + 1
smaller_rest None i within = omega arith
smaller_rest (Some j) i within = omega (arith, within j refl)

pub unwinding_less : (nodes : List Node) (chain i : ℕ) (d : Node) (rest : Option ℕ) (places : List Place) → AreBehind nodes → rest ≡ Some i → IsUnwinding nodes chain rest places
    → option_map_or (λ (j : ℕ). j + 1) (get_or nodes i d).before 0 < option_map_or (λ (j : ℕ). j + 1) rest 0
unwinding_less nodes chain i d rest places behind is h =
    subst (λ (o : Option ℕ). option_map_or (λ (j : ℕ). j + 1) (get_or nodes i d).before 0 < option_map_or (λ (j : ℕ). j + 1) o 0) (sym is)
    (smaller_rest (get_or nodes i d).before i (λ j e. behind i j (get_or nodes i d) (node_there nodes i d (h.within i is)) e))

-- a chain is added
pub added : (nodes : List Node) (before : Option ℕ) (place : Place) (more : List Node) (chain : List Place) → more ≡ nodes ++ (record { place = place; before = before }) ∷ []
    → option_map_or (λ i. get_or (unwound [] nodes) i []) before [] ++ place ∷ [] ≡ chain → unwound [] more ≡ unwound [] nodes ++ chain ∷ []
added nodes before place more chain is made =
    ap (unwound []) is ∙ unwound-push [] nodes (record { place = place; before = before }) ∙ ap (λ (xs : List Place). unwound [] nodes ++ xs ∷ []) made

pub behind_added : (nodes more : List Node) (before : Option ℕ) (place : Place) → more ≡ nodes ++ (record { place = place; before = before }) ∷ [] → AreBehind nodes → ((j : ℕ) → before ≡ Some j → j < length nodes) → AreBehind more
behind_added nodes more before place is behind within = subst AreBehind (sym is) (behind_more nodes (record { place = place; before = before }) behind within)
