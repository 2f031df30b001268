-- The steps of a run over bytes, and what a run over a spelling comes to.
use Rattle.std.proofs.Common.{◌≡◌, ◌≢◌, ◌⊎◌, inl, inr, ℕ, ◌+◌, ◌<◌, ◌≤◌, ◌==◌, Bool, true, false, cond, List, [], ◌∷◌, ◌++◌, length, get_or, drop, Some, None, Option, refl, sym, ap, ◌∙◌, arith, add-one, drop-cons, append_assoc, append-nil, length-append}
use Rattle.std.specs.Prelude.{option_and_then}
use Rattle.std.proofs.lemmas.Bool.{eqb-true}
use Rattle.std.proofs.Math.ListN.{drop_of_length-le}
use Rattle.id_tree.specs.IdTree.{IdTree, Zero, One, Pair}
use Rattle.id_tree.specs.Spelling.{spelling}
use Rattle.id_tree.specs.working.Reading.{IsStepFault, IsRunFault, State, ShowsState, StepsTo, Spells, half_of, halves_of_pairs, last_of, part_of, step_of, leaf_read, opened, halved, closed, run, start, whole}
use Rattle.id_tree.specs.declared.reading.first_fault.Part.{Part}
use Rattle.id_tree.specs.declared.fault.IdFault.{IdFault}
use Rattle.id_tree.specs.declared.fault.IdFault.TheVariants.{Syntax, NotNormal, TooDeep, Memory}
use Rattle.id_tree.specs.declared.reading.first_fault.Half.{Half}

-- ---- a loop over the bytes

-- what is left from a byte on leads from the state that is shown to where the whole leads
pub record Reads (hs : List Half) (last : Option Part) (i : ℕ) (bytes : List ℕ) : Type 0 where
  pub state : State
  pub shows : ShowsState hs last state
  pub leads : run state (drop i bytes) ≡ run start bytes

-- a run over what is left from a byte on goes on behind that byte
run_next : (s t : State) (bytes : List ℕ) (i : ℕ) → i < length bytes → step_of s (get_or bytes i 0) ≡ Some t → run s (drop i bytes) ≡ run t (drop (i + 1) bytes)
unfolding run
run_next s t bytes i h e = rw (add-one, drop-cons bytes i 0) (rw e refl)

-- or ends there
run_fails : (s : State) (bytes : List ℕ) (i : ℕ) → i < length bytes → step_of s (get_or bytes i 0) ≡ None → run s (drop i bytes) ≡ None
unfolding run
run_fails s bytes i h e = rw (drop-cons bytes i 0) (rw e refl)

pub reads_on : (hs ks : List Half) (last next : Option Part) (i : ℕ) (bytes : List ℕ) (r : Reads hs last i bytes) → i < length bytes → StepsTo r.state (get_or bytes i 0) ks next → Reads ks next (i + 1) bytes
reads_on hs ks last next i bytes r h s = record { state = s.next; shows = s.shows; leads = sym (run_next r.state s.next bytes i h s.steps) ∙ r.leads }

pub reads_start : (hs : List Half) (bytes : List ℕ) → hs ≡ [] → Reads hs None 0 bytes
reads_start hs bytes f = record { state = start; shows = record { halves = f; last_is = refl }; leads = refl }

-- a step's fault is the run's
pub run_fault : (fault : IdFault) (s : State) (bytes : List ℕ) (i : ℕ) → i < length bytes → run s (drop i bytes) ≡ run start bytes → IsStepFault fault (step_of s (get_or bytes i 0)) → IsRunFault fault (run start bytes)
run_fault Syntax s bytes i h e f = λ v g. let none : run s (drop i bytes) ≡ None = run_fails s bytes i h f in cc
run_fault NotNormal s bytes i h e f = f
run_fault TooDeep s bytes i h e f = f
run_fault Memory s bytes i h e f = f

-- with nothing left a run is where it ends
run_ends : (s : State) (bytes : List ℕ) (i : ℕ) → length bytes ≤ i → run s (drop i bytes) ≡ run start bytes → run start bytes ≡ Some s
unfolding run
run_ends s bytes i h e = sym e ∙ ap (run s) (drop_of_length-le bytes h)

same_state : (s : State) (t : IdTree) (bytes : List ℕ) (i : ℕ) → length bytes ≤ i → run s (drop i bytes) ≡ run start bytes → run start bytes ≡ Some (whole t) → s ≡ whole t
same_state s t bytes i h e f =
    let ends : run start bytes ≡ Some s = run_ends s bytes i h e in
    cc

length-halves : (ps : List (Option IdTree)) → length (halves_of_pairs ps) ≡ length ps
length-halves [] = refl
length-halves (p ∷ ps) = omega (arith, length-append (halves_of_pairs ps) (half_of p ∷ []), length-halves ps)

-- with an open pair it is none of a whole spelling
pub run_open : (hs : List Half) (last : Option Part) (i : ℕ) (bytes : List ℕ) → Reads hs last i bytes → 0 < length hs → length bytes ≤ i → (t : IdTree) → run start bytes ≢ Some (whole t)
run_open hs last i bytes r some h t f =
    let same : r.state ≡ whole t = same_state r.state t bytes i h r.leads f in
    let none : r.state.open_pairs ≡ [] = ap (λ (s : State). s.open_pairs) same in
    let closed_all : length r.state.open_pairs ≡ 0 = ap length none in
    omega (arith, ap length r.shows.halves, length-halves r.state.open_pairs)

-- nor with no tree
pub run_empty : (hs : List Half) (last : Option Part) (i : ℕ) (bytes : List ℕ) → Reads hs last i bytes → last ≡ None → length bytes ≤ i → (t : IdTree) → run start bytes ≢ Some (whole t)
run_empty hs last i bytes r none h t f =
    let same : r.state ≡ whole t = same_state r.state t bytes i h r.leads f in
    let some : last_of r.state.last ≡ Some (part_of t) = ap (λ (s : State). last_of s.last) same in
    let is = r.shows.last_is in
    absurd (cc)

same_part : (o : Option Part) (p q : Part) → o ≡ Some p → o ≡ Some q → p ≡ q
same_part o p q e f = cc

spells_whole : (hs : List Half) (last : Option Part) (part : Part) (bytes : List ℕ) (ps : List (Option IdTree)) (tree : Option IdTree) → ShowsState hs last (record { open_pairs = ps; last = tree }) → length hs ≡ 0 → last ≡ Some part
    → run start bytes ≡ Some (record { open_pairs = ps; last = tree }) → Spells part bytes
spells_whole hs last part bytes [] (Some t) s n c e = record { tree = t; part_is = same_part last part (part_of t) c s.last_is; ran = e }
spells_whole hs last part bytes [] None s n c e = absurd (let is = s.last_is in cc)
spells_whole hs last part bytes (p ∷ ps) tree s n c e = absurd (omega (arith, ap length s.halves, length-halves (p ∷ ps)))

pub run_whole : (hs : List Half) (last : Option Part) (part : Part) (i : ℕ) (bytes : List ℕ) → Reads hs last i bytes → length hs ≡ 0 → last ≡ Some part → length bytes ≤ i → Spells part bytes
run_whole hs last part i bytes r n c h = spells_whole hs last part bytes r.state.open_pairs r.state.last r.shows n c (run_ends r.state bytes i h r.leads)

-- ---- a spelling is read

run-spelling : (t : IdTree) (pairs : List (Option IdTree)) (rest : List ℕ) → run (record { open_pairs = pairs; last = None }) (spelling t ++ rest) ≡ run (record { open_pairs = pairs; last = Some t }) rest
unfolding run
run-spelling Zero pairs rest = refl
run-spelling One pairs rest = refl
run-spelling (Pair l r) pairs rest =
    ap (run (record { open_pairs = None ∷ pairs; last = None })) (append_assoc (spelling l) (44 ∷ (spelling r ++ 41 ∷ [])) rest)
    ∙ run-spelling l (None ∷ pairs) (44 ∷ ((spelling r ++ 41 ∷ []) ++ rest))
    ∙ ap (run (record { open_pairs = Some l ∷ pairs; last = None })) (append_assoc (spelling r) (41 ∷ []) rest)
    ∙ run-spelling r (Some l ∷ pairs) (41 ∷ rest)

pub run_spelled : (t : IdTree) (bytes : List ℕ) → bytes ≡ spelling t → run start bytes ≡ Some (whole t)
unfolding run
run_spelled t bytes e = ap (run start) (e ∙ sym (append-nil (spelling t))) ∙ run-spelling t [] []

-- ---- what is read was spelled

abbrev text_pairs : List (Option IdTree) → List ℕ
text_pairs [] = []
text_pairs (None ∷ ps) = text_pairs ps ++ 40 ∷ []
text_pairs (Some l ∷ ps) = text_pairs ps ++ 40 ∷ (spelling l ++ 44 ∷ [])

abbrev text_last : Option IdTree → List ℕ
text_last None = []
text_last (Some t) = spelling t

abbrev text_of : State → List ℕ
text_of s = text_pairs s.open_pairs ++ text_last s.last

after_leaf : (t : IdTree) (ps : List (Option IdTree)) (last : Option IdTree) (s : State) → leaf_read t ps last ≡ Some s → text_of s ≡ (text_pairs ps ++ text_last last) ++ spelling t
after_leaf t ps None s e = let is : record { open_pairs = ps; last = Some t } ≡ s = cc in rw (← is) (simp append-nil)
after_leaf t ps (Some u) s e = absurd (cc)

after_opened : (ps : List (Option IdTree)) (last : Option IdTree) (s : State) → opened ps last ≡ Some s → text_of s ≡ (text_pairs ps ++ text_last last) ++ 40 ∷ []
after_opened ps None s e = let is : record { open_pairs = None ∷ ps; last = None } ≡ s = cc in rw (← is) (simp append-nil)
after_opened ps (Some u) s e = absurd (cc)

after_halved : (ps : List (Option IdTree)) (last : Option IdTree) (s : State) → halved ps last ≡ Some s → text_of s ≡ (text_pairs ps ++ text_last last) ++ 44 ∷ []
after_halved ps None s e = absurd (cc)
after_halved [] (Some t) s e = absurd (cc)
after_halved (None ∷ ps) (Some t) s e = let is : record { open_pairs = Some t ∷ ps; last = None } ≡ s = cc in rw (← is) (simp (append_assoc, append-nil))
after_halved (Some l ∷ ps) (Some t) s e = absurd (cc)

after_closed : (ps : List (Option IdTree)) (last : Option IdTree) (s : State) → closed ps last ≡ Some s → text_of s ≡ (text_pairs ps ++ text_last last) ++ 41 ∷ []
after_closed ps None s e = absurd (cc)
after_closed [] (Some t) s e = absurd (cc)
after_closed (None ∷ ps) (Some t) s e = absurd (cc)
after_closed (Some l ∷ ps) (Some t) s e = let is : record { open_pairs = ps; last = Some (Pair l t) } ≡ s = cc in rw (← is) (simp append_assoc)

chosen : {X : Type 0} (b : Bool) (x y z : X) → cond b x y ≡ z → ((b ≡ true) × (x ≡ z)) ⊎ ((b ≡ false) × (y ≡ z))
chosen true x y z e = inl (refl, e)
chosen false x y z e = inr (refl, e)

after_byte : (s next : State) (byte k : ℕ) → (byte == k) ≡ true → text_of next ≡ text_of s ++ k ∷ [] → text_of next ≡ text_of s ++ byte ∷ []
after_byte s next byte k e h = h ∙ ap (λ (b : ℕ). text_of s ++ b ∷ []) (sym (eqb-true byte k e))

after_step : (s : State) (byte : ℕ) (next : State) → step_of s byte ≡ Some next → text_of next ≡ text_of s ++ byte ∷ []
after_step s byte next e =
    let ps = s.open_pairs in
    let last = s.last in
    elim (chosen (byte == 48) _ _ _ e) [
      | inl h ↦ after_byte s next byte 48 h.0 (after_leaf Zero ps last next h.1)
      | inr h ↦ elim (chosen (byte == 49) _ _ _ h.1) [
        | inl k ↦ after_byte s next byte 49 k.0 (after_leaf One ps last next k.1)
        | inr k ↦ elim (chosen (byte == 40) _ _ _ k.1) [
          | inl m ↦ after_byte s next byte 40 m.0 (after_opened ps last next m.1)
          | inr m ↦ elim (chosen (byte == 44) _ _ _ m.1) [
            | inl n ↦ after_byte s next byte 44 n.0 (after_halved ps last next n.1)
            | inr n ↦ elim (chosen (byte == 41) _ _ _ n.1) [
              | inl o ↦ after_byte s next byte 41 o.0 (after_closed ps last next o.1)
              | inr o ↦ absurd (let none : None ≡ Some next = o.1 in cc)
            ]
          ]
        ]
      ]
    ]

bind_some : {A B : Type 0} (f : A → Option B) (o : Option A) (y : B) → option_and_then f o ≡ Some y → (x : A) × (o ≡ Some x) × (f x ≡ Some y)
bind_some f None y e = absurd (let none : None ≡ Some y = e in cc)
bind_some f (Some x) y e = (x, refl, e)

text_run : (bytes : List ℕ) (s t : State) → run s bytes ≡ Some t → text_of t ≡ text_of s ++ bytes
unfolding run
text_run [] s t e = let same : s ≡ t = (let h : Some s ≡ Some t = e in cc) in ap text_of (sym same) ∙ sym (append-nil (text_of s))
text_run (byte ∷ bytes) s t e =
    let next = bind_some (λ u. run u bytes) (step_of s byte) t e in
    text_run bytes next.0 t next.2 ∙ ap (λ (text : List ℕ). text ++ bytes) (after_step s byte next.0 next.1) ∙ append_assoc (text_of s) (byte ∷ []) bytes

pub spelled : (bytes : List ℕ) (t : IdTree) → run start bytes ≡ Some (whole t) → bytes ≡ spelling t
spelled bytes t e = sym (text_run bytes start (whole t) e)
