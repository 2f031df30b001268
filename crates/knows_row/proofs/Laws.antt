-- Laws of knowledge over an accepted list.
use Rattle.std.proofs.Common.{◌≡◌, ◌≢◌, inl, inr, ℕ, zero, suc, ◌+◌, ◌≤◌, ◌<◌, Bool, true, false, cond, List, [], length, get_or, Option, Some, None, refl, sym, ap, subst, ◌∙◌, arith}
use Rattle.std.specs.Prelude.{slice_get}
use Rattle.std.specs.Option.{option_map, option_map_or, is_some}
use Rattle.std.proofs.lemmas.Bool.{true≢false, cases_lt, lt-ltb, le-ltb}
use Rattle.std.proofs.lemmas.Option.{same_Some, slice_get_within, slice_get-get_or}
use Rattle.id_tree.specs.IdTree.{IdTree}
use Rattle.event_tree.specs.EventTree.{EventTree, Leaf}
use Rattle.event_tree.specs.Values.{IsAtOrBelow, ExceedsOn}
use Rattle.stamp.specs.declared.stamp.Stamp.{Stamp}
use Rattle.report_line.specs.declared.report.Report.{Report}
use Rattle.chains.specs.declared.position.Place.{Place}
use Rattle.chains.specs.declared.position.Position.{Position}
use Rattle.chains.specs.declared.position.Position.TheVariants.{At, Retired}
use Rattle.chains.specs.Processes.{Name, last_events, target_of}
use Rattle.chains.specs.Elements.{name_of, elements_of, elements, element}
use Rattle.chains.specs.Positions.{is_retired, last_rank, position_at, place_at}
use Rattle.chains.specs.Knowledge.{retired_events, events_at, Knows}
use Rattle.chains.specs.Folded.{IsFolded}
use Rattle.knows_row.specs.Knowing.{KnowsAt, KnowsRank}
use Rattle.knows_row.proofs.Rising.{Rise, nothing_below, below_same, below_top, below_later, elements_rise}

pub knows_from_at : (accepted : List Report) (x : Place) (q j k : ℕ) → j ≤ k → KnowsAt accepted x q k → Knows accepted x q (At j)
knows_from_at accepted x q j zero le h = absurd (let e = h.is_element in cc)
knows_from_at accepted x q j (suc k) le h = (h.other, record { later = suc k; stamp = h.stamp; from = le; first = omega arith; is_element = h.is_element; beyond = h.beyond })

pub at_from_knows : (accepted : List Report) (x : Place) (q j : ℕ) → Knows accepted x q (At j) → (k : ℕ) × (j ≤ k) × KnowsAt accepted x q k
at_from_knows accepted x q j h = (h.1.later, h.1.from, record { other = h.0; stamp = h.1.stamp; is_element = h.1.is_element; beyond = h.1.beyond })

-- ---- the position of a rank

pub at_element : (accepted : List Report) (p x : ℕ) → x ≤ length (elements accepted p) → position_at accepted p x ≡ At x
at_element accepted p x le = ap (λ (b : Bool). cond b Retired (At x)) (le-ltb (length (elements accepted p)) x le)

pub at_end : (accepted : List Report) (p x : ℕ) → length (elements accepted p) < x → position_at accepted p x ≡ Retired
at_end accepted p x lt = ap (λ (b : Bool). cond b Retired (At x)) (lt-ltb (length (elements accepted p)) x lt)

-- ---- the events of a rank

abbrev pub events_of_rank : List Report → ℕ → ℕ → Option EventTree
events_of_rank accepted p x = events_at accepted (place_at accepted p x)

of_element : (accepted : List Report) (p x : ℕ) → x ≤ length (elements accepted p) → events_of_rank accepted p x ≡ option_map (λ (y : Stamp). y.events) (element accepted p x)
of_element accepted p x le = ap (λ (k : Position). events_at accepted (record { process = p; position = k })) (at_element accepted p x le)

of_end : (accepted : List Report) (p x : ℕ) → length (elements accepted p) < x → events_of_rank accepted p x ≡ retired_events accepted p
of_end accepted p x lt = ap (λ (k : Position). events_at accepted (record { process = p; position = k })) (at_end accepted p x lt)

-- the last events of the process of this number
abbrev pub top : List Report → Option Name → EventTree
top accepted o = option_map_or (λ name. last_events name accepted) o (Leaf 0)

rise_named : (accepted : List Report) (o : Option Name) → IsFolded accepted → Rise (Leaf 0) (option_map_or (λ name. elements_of name accepted) o []) (top accepted o)
rise_named accepted None folded = nothing_below (Leaf 0)
rise_named accepted (Some p) folded = elements_rise p accepted folded

end_named : (accepted : List Report) (o : Option Name) (b : Bool) → option_map_or (λ name. is_some (target_of name accepted)) o false ≡ b → b ≡ true → cond b (option_map (λ name. last_events name accepted) o) None ≡ Some (top accepted o)
end_named accepted None b is e = absurd (true≢false (sym e ∙ sym is))
end_named accepted (Some p) b is e = rw e refl

pub retired_top : (accepted : List Report) (p : ℕ) → is_retired accepted p ≡ true → retired_events accepted p ≡ Some (top accepted (name_of accepted p))
retired_top accepted p e = end_named accepted (name_of accepted p) (is_retired accepted p) refl e

-- a rank behind the elements is that of a retirement
retired_rank : (b : Bool) (n y : ℕ) → y ≤ cond b (n + 1) n → n < y → b ≡ true
retired_rank true n y le lt = refl
retired_rank false n y le lt = absurd (omega arith)

read_events : (o : Option Stamp) (e : EventTree) → option_map (λ (y : Stamp). y.events) o ≡ Some e → (s : Stamp) × (o ≡ Some s) × (s.events ≡ e)
read_events None e h = absurd cc
read_events (Some s) e h = (s, refl, cc)

-- the events of an element are at or below the last ones
element_below : (accepted : List Report) (p x : ℕ) (e : EventTree) → IsFolded accepted → option_map (λ (y : Stamp). y.events) (element accepted p x) ≡ Some e → IsAtOrBelow e (top accepted (name_of accepted p))
element_below accepted p zero e folded h = absurd cc
element_below accepted p (suc i) e folded h =
    let s = read_events (slice_get (elements accepted p) i) e h in
    subst (λ (f : EventTree). IsAtOrBelow f (top accepted (name_of accepted p))) s.2 (below_top (Leaf 0) (elements accepted p) (top accepted (name_of accepted p)) i s.0 (rise_named accepted (name_of accepted p) folded) s.1)

-- and at or below those of a later element
element_later : (accepted : List Report) (p x y : ℕ) (e : EventTree) → IsFolded accepted → x ≤ y → y ≤ length (elements accepted p) → option_map (λ (s : Stamp). s.events) (element accepted p x) ≡ Some e
    → (f : EventTree) × (option_map (λ (s : Stamp). s.events) (element accepted p y) ≡ Some f) × IsAtOrBelow e f
element_later accepted p zero y e folded le within h = absurd cc
element_later accepted p (suc i) zero e folded le within h = absurd (omega arith)
element_later accepted p (suc i) (suc j) e folded le within h =
    let s = read_events (slice_get (elements accepted p) i) e h in
    let t = get_or (elements accepted p) j s.0 in
    let there = slice_get-get_or (elements accepted p) j s.0 (omega arith) in (
      t.events,
      ap (λ (o : Option Stamp). option_map (λ (s : Stamp). s.events) o) there,
      subst (λ (f : EventTree). IsAtOrBelow f t.events) s.2 (below_later (Leaf 0) (elements accepted p) (top accepted (name_of accepted p)) i j s.0 t (rise_named accepted (name_of accepted p) folded) (omega arith) s.1 there),
    )

later_events : (accepted : List Report) (p x y : ℕ) (e : EventTree) → IsFolded accepted → x ≤ y → y ≤ last_rank accepted p → events_of_rank accepted p x ≡ Some e
    → (f : EventTree) × (events_of_rank accepted p y ≡ Some f) × IsAtOrBelow e f
later_events accepted p x y e folded le within h = elim (cases_lt (length (elements accepted p)) y) [
  | inl past ↦
      let is_last = retired_top accepted p (retired_rank (is_retired accepted p) (length (elements accepted p)) y within past) in
      let end = of_end accepted p y past ∙ is_last in
      elim (cases_lt (length (elements accepted p)) x) [
        | inl also ↦ (top accepted (name_of accepted p), end, below_same e (top accepted (name_of accepted p)) (same_Some e _ (sym h ∙ of_end accepted p x also ∙ is_last)))
        | inr before ↦ (top accepted (name_of accepted p), end, element_below accepted p x e folded (sym (of_element accepted p x before) ∙ h))
      ]
  | inr before ↦
      let later = element_later accepted p x y e folded le before (sym (of_element accepted p x (omega arith)) ∙ h) in
      (later.0, of_element accepted p y before ∙ later.1, later.2)
]

exceeds_more : (i : IdTree) (e f g : EventTree) → IsAtOrBelow e f → ExceedsOn i e g → ExceedsOn i f g
exceeds_more i e f g le h = (h.0, h.1, let a = le h.0 in let b = h.2 in omega arith)

-- what is known at a place is known at each later one
pub later_at : (accepted : List Report) (p x y q k : ℕ) → IsFolded accepted → x ≤ y → y ≤ last_rank accepted p → KnowsAt accepted (place_at accepted p x) q k → KnowsAt accepted (place_at accepted p y) q k
later_at accepted p x y q k folded le within h =
    let later = later_events accepted p x y h.beyond.events folded le within h.beyond.there in
    record {
      other = h.other;
      stamp = h.stamp;
      is_element = h.is_element;
      beyond = record { events = later.0; there = later.1; exceeds = exceeds_more h.stamp.id h.beyond.events later.0 h.stamp.events later.2 h.beyond.exceeds };
    }

-- ---- by ranks

pub element_within : (accepted : List Report) (q k : ℕ) (s : Stamp) → element accepted q k ≡ Some s → k ≤ length (elements accepted q)
element_within accepted q zero s h = omega arith
element_within accepted q (suc k) s h = let lt = slice_get_within (elements accepted q) k s h in omega arith

pub rank_from_at : (accepted : List Report) (p x q j k : ℕ) → j ≤ k → KnowsAt accepted (place_at accepted p x) q k → KnowsRank accepted p x q j
rank_from_at accepted p x q j k le h =
    let within = element_within accepted q k h.stamp h.is_element in
    subst (λ (at : Position). Knows accepted (place_at accepted p x) q at) (sym (at_element accepted q j (omega arith))) (knows_from_at accepted (place_at accepted p x) q j k le h)

-- nobody knows a process after its last position but by its elements
pub ended : (accepted : List Report) (p x q k : ℕ) → length (elements accepted q) < k → ¬ KnowsRank accepted p x q k
ended accepted p x q k past h = subst (λ (at : Position). Knows accepted (place_at accepted p x) q at) (at_end accepted q k past) h

pub at_from_rank : (accepted : List Report) (p x q j : ℕ) → KnowsRank accepted p x q j → (k : ℕ) × (j ≤ k) × KnowsAt accepted (place_at accepted p x) q k
at_from_rank accepted p x q j h = elim (cases_lt (length (elements accepted q)) j) [
  | inl past ↦ absurd (ended accepted p x q j past h)
  | inr before ↦ at_from_knows accepted (place_at accepted p x) q j (subst (λ (at : Position). Knows accepted (place_at accepted p x) q at) (at_element accepted q j before) h)
]

pub later : (accepted : List Report) (p x y q k : ℕ) → IsFolded accepted → x ≤ y → y ≤ last_rank accepted p → KnowsRank accepted p x q k → KnowsRank accepted p y q k
later accepted p x y q k folded le within h =
    let at = at_from_rank accepted p x q k h in
    rank_from_at accepted p y q k at.0 at.1 (later_at accepted p x y q at.0 folded le within at.2)

pub earlier : (accepted : List Report) (p x q j k : ℕ) → j ≤ k → KnowsRank accepted p x q k → KnowsRank accepted p x q j
earlier accepted p x q j k le h =
    let at = at_from_rank accepted p x q k h in
    let after = at.1 in
    rank_from_at accepted p x q j at.0 (omega arith) at.2

-- nothing is known at rank 0
pub unborn : (accepted : List Report) (p q k : ℕ) → ¬ KnowsRank accepted p 0 q k
unborn accepted p q k h =
    let at = at_from_rank accepted p 0 q k h in
    none_there (at.2.beyond.events) (sym (of_element accepted p 0 (omega arith)) ∙ at.2.beyond.there)
  where
    none_there : (e : EventTree) → let o : Option EventTree = None in o ≢ Some e
    none_there e h = cc

pub own : (accepted : List Report) (p x k : ℕ) → ¬ KnowsRank accepted p x p k
own accepted p x k h = (at_from_rank accepted p x p k h).2.other refl
