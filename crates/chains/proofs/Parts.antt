-- Ids that are parts of everything, and what keeps them so.
use Rattle.std.proofs.Common.{◌≡◌, ◌≢◌, ◌⊎◌, inl, inr, sym, ap, subst, ◌∙◌, IsTrue}
use Rattle.std.proofs.lemmas.Bool.{true≢false, false_from_ne_true, or_cases, or_left, or_right}
use Rattle.id_tree.specs.IdTree.{IdTree}
use Rattle.id_tree.specs.Points.{Point, owns, OwnsSome, AreDisjoint, AreTogether}
use Rattle.id_tree.specs.Split.{IsSplit}
use Rattle.chains.specs.Processes.{Name}
use Rattle.chains.proofs.Stepping.{same_or_other}

-- the ids of those who hold are disjoint in pairs, each owns something, and together they own everything
pub record AreParts (H : Name → Type 0) (id : Name → IdTree) : Type 0 where
  pub disjoint : (p q : Name) → H p → H q → p ≢ q → AreDisjoint (id p) (id q)
  pub nonempty : (p : Name) → H p → OwnsSome (id p)
  pub all : (point : Point) → (p : Name) × H p × IsTrue (owns (id p) point)

-- ---- points

-- i owns what j does at most
abbrev pub Within : IdTree → IdTree → Type 0
Within i j = (point : Point) → IsTrue (owns i point) → IsTrue (owns j point)

disjoint_within : (i j k l : IdTree) → AreDisjoint i j → Within k i → Within l j → AreDisjoint k l
disjoint_within i j k l d f g point h = false_from_ne_true (owns l point) (λ e. true≢false (sym (g point e) ∙ d point (f point h)))

disjoint_turned : (i j : IdTree) → AreDisjoint i j → AreDisjoint j i
disjoint_turned i j d point h = false_from_ne_true (owns i point) (λ e. true≢false (sym h ∙ d point e))

left_within : (l r i : IdTree) → AreTogether l r i → Within l i
left_within l r i t point h = t point ∙ or_left (owns l point) (owns r point) h

right_within : (l r i : IdTree) → AreTogether l r i → Within r i
right_within l r i t point h = t point ∙ or_right (owns l point) (owns r point) h

disjoint_together : (l r i j : IdTree) → AreTogether l r i → AreDisjoint l j → AreDisjoint r j → AreDisjoint i j
disjoint_together l r i j t d e point h = elim (or_cases (owns l point) (owns r point) (sym (t point) ∙ h)) [ inl there ↦ d point there | inr there ↦ e point there ]

some_within : (i j : IdTree) → Within i j → OwnsSome i → OwnsSome j
some_within i j f some = (some.0, f some.0 some.1)

same_within : (i j : IdTree) → i ≡ j → Within i j
same_within i j e point h = ap (λ (t : IdTree). owns t point) (sym e) ∙ h

-- ---- the same ids

pub parts_same : {H H' : Name → Type 0} {id id' : Name → IdTree}
    → AreParts H id → ((q : Name) → H' q → H q) → ((q : Name) → H q → H' q) → ((q : Name) → id' q ≡ id q) → AreParts H' id'
parts_same {H} {H'} {id} {id'} parts back forth same = record {
  disjoint = λ p q h k n. disjoint_within (id p) (id q) (id' p) (id' q) (parts.disjoint p q (back p h) (back q k) n) (same_within (id' p) (id p) (same p)) (same_within (id' q) (id q) (same q));
  nonempty = λ p h. some_within (id p) (id' p) (same_within (id p) (id' p) (sym (same p))) (parts.nonempty p (back p h));
  all = λ point. let there = parts.all point in (there.0, forth there.0 there.1, same_within (id there.0) (id' there.0) (sym (same there.0)) point there.2);
}

-- ---- one id in two parts

-- one more holds, and it has a part of the id of p
pub record IsForked (H H' : Name → Type 0) (id id' : Name → IdTree) (p child : Name) : Type 0 where
  pub parent : H p
  pub back : (q : Name) → H' q → H q ⊎ (q ≡ child)
  pub forth : (q : Name) → H q → H' q
  pub born : H' child
  pub split : IsSplit (id p) (id' p) (id' child)
  pub others : (q : Name) → H q → q ≢ p → id' q ≡ id q

-- each keeps a part of its id
fork_within : {H H' : Name → Type 0} {id id' : Name → IdTree} {p child : Name} → IsForked H H' id id' p child → (q : Name) → H q → Within (id' q) (id q)
fork_within {H} {H'} {id} {id'} {p} {child} f q h = elim (same_or_other q p) [
  | inl e ↦ subst (λ n. Within (id' n) (id n)) (sym e) (left_within (id' p) (id' child) (id p) f.split.together)
  | inr n ↦ same_within (id' q) (id q) (f.others q h n)
]

-- the child's id is disjoint from each other
child_disjoint : {H H' : Name → Type 0} {id id' : Name → IdTree} {p child : Name} → AreParts H id → IsForked H H' id id' p child
    → (q : Name) → H q → AreDisjoint (id' q) (id' child)
child_disjoint {H} {H'} {id} {id'} {p} {child} parts f q h = elim (same_or_other q p) [
  | inl e ↦ subst (λ n. AreDisjoint (id' n) (id' child)) (sym e) f.split.disjoint
  | inr n ↦ disjoint_within (id q) (id p) (id' q) (id' child) (parts.disjoint q p h f.parent n) (fork_within f q h)
      (right_within (id' p) (id' child) (id p) f.split.together)
]

fork_disjoint : {H H' : Name → Type 0} {id id' : Name → IdTree} {p child : Name} → AreParts H id → IsForked H H' id id' p child
    → (q r : Name) → H q ⊎ (q ≡ child) → H r ⊎ (r ≡ child) → q ≢ r → AreDisjoint (id' q) (id' r)
fork_disjoint {H} {H'} {id} {id'} {p} {child} parts f q r (inl h) (inl k) n =
    disjoint_within (id q) (id r) (id' q) (id' r) (parts.disjoint q r h k n) (fork_within f q h) (fork_within f r k)
fork_disjoint {H} {H'} {id} {id'} {p} {child} parts f q r (inl h) (inr e) n = subst (λ m. AreDisjoint (id' q) (id' m)) (sym e) (child_disjoint parts f q h)
fork_disjoint {H} {H'} {id} {id'} {p} {child} parts f q r (inr e) (inl k) n =
    subst (λ m. AreDisjoint (id' m) (id' r)) (sym e) (disjoint_turned (id' r) (id' child) (child_disjoint parts f r k))
fork_disjoint {H} {H'} {id} {id'} {p} {child} parts f q r (inr e) (inr e') n = absurd (n (e ∙ sym e'))

fork_nonempty : {H H' : Name → Type 0} {id id' : Name → IdTree} {p child : Name} → AreParts H id → IsForked H H' id id' p child
    → (q : Name) → H q ⊎ (q ≡ child) → OwnsSome (id' q)
fork_nonempty {H} {H'} {id} {id'} {p} {child} parts f q (inr e) = subst (λ m. OwnsSome (id' m)) (sym e) f.split.right
fork_nonempty {H} {H'} {id} {id'} {p} {child} parts f q (inl h) = elim (same_or_other q p) [
  | inl e ↦ subst (λ m. OwnsSome (id' m)) (sym e) f.split.left
  | inr n ↦ subst OwnsSome (sym (f.others q h n)) (parts.nonempty q h)
]

fork_all : {H H' : Name → Type 0} {id id' : Name → IdTree} {p child : Name} → IsForked H H' id id' p child
    → (point : Point) (q : Name) → H q → IsTrue (owns (id q) point) → (q' : Name) × H' q' × IsTrue (owns (id' q') point)
fork_all {H} {H'} {id} {id'} {p} {child} f point q h there = elim (same_or_other q p) [
  | inr n ↦ (q, f.forth q h, same_within (id q) (id' q) (sym (f.others q h n)) point there)
  | inl e ↦ elim (or_cases (owns (id' p) point) (owns (id' child) point) (sym (f.split.together point) ∙ subst (λ m. IsTrue (owns (id m) point)) e there)) [
    | inl kept ↦ (p, f.forth p f.parent, kept)
    | inr given ↦ (child, f.born, given)
  ]
]

pub parts_fork : {H H' : Name → Type 0} {id id' : Name → IdTree} {p child : Name} → AreParts H id → IsForked H H' id id' p child → AreParts H' id'
parts_fork {H} {H'} {id} {id'} {p} {child} parts f = record {
  disjoint = λ q r h k n. fork_disjoint parts f q r (f.back q h) (f.back r k) n;
  nonempty = λ q h. fork_nonempty parts f q (f.back q h);
  all = λ point. let there = parts.all point in fork_all f point there.0 there.1 there.2;
}

-- ---- two ids in one

-- one holds no more, and p has its id too
pub record IsAbsorbed (H H' : Name → Type 0) (id id' : Name → IdTree) (p retired : Name) : Type 0 where
  pub absorbing : H p
  pub waiting : H retired
  pub apart : p ≢ retired
  pub back : (q : Name) → H' q → H q × (q ≢ retired)
  pub forth : (q : Name) → H q → q ≢ retired → H' q
  pub joined : AreTogether (id p) (id retired) (id' p)
  pub others : (q : Name) → H q → q ≢ p → id' q ≡ id q

-- the joined id is disjoint from each other
joined_disjoint : {H H' : Name → Type 0} {id id' : Name → IdTree} {p retired : Name} → AreParts H id → IsAbsorbed H H' id id' p retired
    → (q : Name) → H q → q ≢ retired → q ≢ p → AreDisjoint (id' p) (id' q)
joined_disjoint {H} {H'} {id} {id'} {p} {retired} parts f q h n m =
    subst (AreDisjoint (id' p)) (sym (f.others q h m))
    (disjoint_together (id p) (id retired) (id' p) (id q) f.joined (parts.disjoint p q f.absorbing h (λ e. m (sym e))) (parts.disjoint retired q f.waiting h (λ e. n (sym e))))

absorb_disjoint : {H H' : Name → Type 0} {id id' : Name → IdTree} {p retired : Name} → AreParts H id → IsAbsorbed H H' id id' p retired
    → (q r : Name) → H q × (q ≢ retired) → H r × (r ≢ retired) → q ≢ r → AreDisjoint (id' q) (id' r)
absorb_disjoint {H} {H'} {id} {id'} {p} {retired} parts f q r h k n = elim (same_or_other q p) [
  | inl e ↦ subst (λ m. AreDisjoint (id' m) (id' r)) (sym e) (joined_disjoint parts f r k.0 k.1 (λ e'. n (e ∙ sym e')))
  | inr m ↦ elim (same_or_other r p) [
    | inl e ↦ subst (λ m. AreDisjoint (id' q) (id' m)) (sym e) (disjoint_turned (id' p) (id' q) (joined_disjoint parts f q h.0 h.1 m))
    | inr m' ↦ disjoint_within (id q) (id r) (id' q) (id' r) (parts.disjoint q r h.0 k.0 n) (same_within (id' q) (id q) (f.others q h.0 m)) (same_within (id' r) (id r) (f.others r k.0 m'))
  ]
]

absorb_nonempty : {H H' : Name → Type 0} {id id' : Name → IdTree} {p retired : Name} → AreParts H id → IsAbsorbed H H' id id' p retired
    → (q : Name) → H q → OwnsSome (id' q)
absorb_nonempty {H} {H'} {id} {id'} {p} {retired} parts f q h = elim (same_or_other q p) [
  | inl e ↦ subst (λ m. OwnsSome (id' m)) (sym e) (some_within (id p) (id' p) (left_within (id p) (id retired) (id' p) f.joined) (parts.nonempty p f.absorbing))
  | inr n ↦ subst OwnsSome (sym (f.others q h n)) (parts.nonempty q h)
]

absorb_all : {H H' : Name → Type 0} {id id' : Name → IdTree} {p retired : Name} → IsAbsorbed H H' id id' p retired
    → (point : Point) (q : Name) → H q → IsTrue (owns (id q) point) → (q' : Name) × H' q' × IsTrue (owns (id' q') point)
absorb_all {H} {H'} {id} {id'} {p} {retired} f point q h there = elim (same_or_other q retired) [
  | inl e ↦ (p, f.forth p f.absorbing f.apart, right_within (id p) (id retired) (id' p) f.joined point (subst (λ m. IsTrue (owns (id m) point)) e there))
  | inr n ↦ elim (same_or_other q p) [
    | inl e ↦ (p, f.forth p f.absorbing f.apart, left_within (id p) (id retired) (id' p) f.joined point (subst (λ m. IsTrue (owns (id m) point)) e there))
    | inr m ↦ (q, f.forth q h n, same_within (id q) (id' q) (sym (f.others q h m)) point there)
  ]
]

pub parts_absorb : {H H' : Name → Type 0} {id id' : Name → IdTree} {p retired : Name} → AreParts H id → IsAbsorbed H H' id id' p retired → AreParts H' id'
parts_absorb {H} {H'} {id} {id'} {p} {retired} parts f = record {
  disjoint = λ q r h k n. absorb_disjoint parts f q r (f.back q h) (f.back r k) n;
  nonempty = λ q h. absorb_nonempty parts f q (f.back q h).0;
  all = λ point. let there = parts.all point in absorb_all f point there.0 there.1 there.2;
}
