-- The rounds choose once.
use Rattle.std.proofs.Common.{◌≡◌, ◌≢◌, inl, inr, ℕ, zero, suc, ◌+◌, ◌≤◌, ◌<◌, List, [], ◌∷◌, length, map, get_or, refl, sym, ap, ◌∙◌, subst, arith}
use Rattle.std.specs.Prelude.{slice_index, Contains, drop}
use Rattle.std.specs.List.Sorted.{IsStrictlyIncreasing}
use Rattle.std.proofs.lemmas.Bool.{cases_lt, cases_eq}
use Rattle.std.proofs.lemmas.List.{ext_get_or}
use Rattle.report_line.specs.declared.report.Report.{Report}
use Rattle.chains.specs.declared.position.Place.{Place}
use Rattle.chains.specs.declared.position.Position.{Position}
use Rattle.chains.specs.declared.position.Position.TheVariants.{At}
use Rattle.chains.specs.Held.{Held}
use Rattle.chains.specs.Processes.{known}
use Rattle.chains.specs.Positions.{rank, position_at, position_in, IsChosen, IsLastSurviving}
use Rattle.reasons.specs.Certificates.{positions_of}
use Rattle.reasons.specs.declared.certificate.Certificate.{Certificate}
use Rattle.propagate.specs.Rounds.{AreLastSurviving, IsRound, IsLowered}
use Rattle.propagate.specs.Choice.{IsFirstCause, GoesOn, IsNextChain, AreNextChains, ChainsAfter, given, AreChosen, IsChosenCertificate, place_after}
use Rattle.propagate.proofs.Ranked.{chosen_position}
use Rattle.knows_row.proofs.Listed.{there, rises}
use Rattle.propagate.proofs.Fallen.{no_member, member_first, member_more, member_cases}

-- ---- positions

-- a position that a process has is the one of its rank
pub same_chosen : (accepted : List Report) (failed : List ℕ) (p : ℕ) (a b : Position) → IsChosen accepted failed p a → IsChosen accepted failed p b → rank accepted p a ≡ rank accepted p b → a ≡ b
same_chosen accepted failed p a b first second e =
    sym (chosen_position accepted p failed a first) ∙ ap (position_at accepted p) e ∙ chosen_position accepted p failed b second

same_last : (accepted : List Report) (failed : List ℕ) (p : ℕ) (a b : Position) → IsLastSurviving accepted failed p a → IsLastSurviving accepted failed p b → a ≡ b
same_last accepted failed p a b first second =
    same_chosen accepted failed p a b (inr first.surviving) (inr second.surviving) (omega (arith, first.greatest b second.surviving, second.greatest a first.surviving))

same_lowered : (accepted : List Report) (cut : List Position) (p : ℕ) (a b : Position) → IsLowered accepted cut p a → IsLowered accepted cut p b → a ≡ b
same_lowered accepted cut p a b first second =
    same_chosen accepted [] p a b first.position second.position
    (omega (arith, first.greatest b second.position second.before second.clear, second.greatest a first.position first.before first.clear))

pub same_cut : (a b : List Position) → length a ≡ length b → ((p : ℕ) → p < length a → position_in a p ≡ position_in b p) → a ≡ b
same_cut a b same each = ext_get_or (At 0) a b same each

same_first : (accepted : List Report) (failed : List ℕ) (a b : List Position) → AreLastSurviving accepted failed a → AreLastSurviving accepted failed b → a ≡ b
same_first accepted failed a b first second = same_cut a b (first.complete ∙ sym second.complete) (λ p lt.
    let in_list : p < length (known accepted) = omega (arith, lt, first.complete) in
    same_last accepted failed p (position_in a p) (position_in b p) (first.each p in_list) (second.each p in_list))

same_round : (accepted : List Report) (cut a b : List Position) → IsRound accepted cut a → IsRound accepted cut b → a ≡ b
same_round accepted cut a b first second = same_cut a b (first.complete ∙ sym second.complete) (λ p lt.
    let in_list : p < length (known accepted) = omega (arith, lt, first.complete) in
    same_lowered accepted cut p (position_in a p) (position_in b p) (first.each p in_list) (second.each p in_list))

-- ---- chains

same_cause : (accepted : List Report) (cut : List Position) (x : Place) (q r : ℕ) → IsFirstCause accepted cut x q → IsFirstCause accepted cut x r → q ≡ r
same_cause accepted cut x q r first second = omega (arith, first.first r second.one second.knows, second.first q first.one first.knows)

same_way : (accepted : List Report) (failed : List ℕ) (cut : List Position) (chains : List (List Place)) (q : ℕ) (x : Place) (a b : List Place)
    → GoesOn accepted failed cut chains q x a → GoesOn accepted failed cut chains q x b → a ≡ b
same_way accepted failed cut chains q x a b (inl first) (inl second) = first.1 ∙ sym second.1
same_way accepted failed cut chains q x a b (inl first) (inr second) = absurd (second.0 first.0)
same_way accepted failed cut chains q x a b (inr first) (inl second) = absurd (first.0 second.0)
same_way accepted failed cut chains q x a b (inr first) (inr second) = first.1 ∙ sym second.1

same_chain : (accepted : List Report) (failed : List ℕ) (cut : List Position) (chains : List (List Place)) (next : List Position) (p : ℕ) (a b : List Place)
    → IsNextChain accepted failed cut chains next p a → IsNextChain accepted failed cut chains next p b → a ≡ b
same_chain accepted failed cut chains next p a b (inl first) (inl second) = first.1 ∙ sym second.1
same_chain accepted failed cut chains next p a b (inl first) (inr second) = absurd (second.0 first.0)
same_chain accepted failed cut chains next p a b (inr first) (inl second) = absurd (first.0 second.0)
same_chain accepted failed cut chains next p a b (inr first) (inr second) =
    let x = place_after accepted next p in
    let one = first.1 in
    let two = second.1 in
    let e : two.0 ≡ one.0 = same_cause accepted cut x two.0 one.0 two.1 one.1 in
    same_way accepted failed cut chains one.0 x a b one.2 (subst (λ (q : ℕ). GoesOn accepted failed cut chains q x b) e two.2)

same_chains : (accepted : List Report) (failed : List ℕ) (cut : List Position) (chains : List (List Place)) (next : List Position) (a b : List (List Place))
    → AreNextChains accepted failed cut chains next a → AreNextChains accepted failed cut chains next b → a ≡ b
same_chains accepted failed cut chains next a b first second = ext_get_or [] a b (first.complete ∙ sym second.complete) (λ p lt.
    let in_list : p < length (known accepted) = omega (arith, lt, first.complete) in
    same_chain accepted failed cut chains next p (get_or a p []) (get_or b p []) (first.each p in_list) (second.each p in_list))

-- ---- rounds

-- what a round makes of equal cuts and chains is equal
same_step : (accepted : List Report) (failed : List ℕ) (before other a b : List Position) (earlier others x y : List (List Place)) → before ≡ other → earlier ≡ others
    → IsRound accepted before a → IsRound accepted other b → AreNextChains accepted failed before earlier a x → AreNextChains accepted failed other others b y → (a ≡ b) × (x ≡ y)
same_step accepted failed before other a b earlier others x y e f first second made more =
    let one : IsRound accepted before b = subst (λ (c : List Position). IsRound accepted c b) (sym e) second in
    let same : a ≡ b = same_round accepted before a b first one in
    let here : AreNextChains accepted failed before earlier a y
    = subst (λ (c : List Position). AreNextChains accepted failed before earlier c y) (sym same)
    (subst (λ (c : List Position). AreNextChains accepted failed c earlier b y) (sym e) (subst (λ (z : List (List Place)). AreNextChains accepted failed other z b y) (sym f) more)) in
    (same, same_chains accepted failed before earlier a x y made here)

module _ (accepted : List Report) (failed : List ℕ) where
  -- after as many rounds there is one cut, with its chains
  after_same : (t : ℕ) (a b : List Position) (x y : List (List Place)) → ChainsAfter accepted failed t a x → ChainsAfter accepted failed t b y → (a ≡ b) × (x ≡ y)
  after_same zero a b x y first second = (same_first accepted failed a b first.0 second.0, first.1 ∙ sym second.1)
  after_same (suc t) a b x y first second =
      let before = after_same t first.0 second.0 first.1 second.1 first.2 second.2 in
      same_step accepted failed first.0 second.0 a b first.1 second.1 x y before.0 before.1 first.3 second.3 first.5 second.5

  -- a round that stands behind the t-th changed something
  still_changes : (t n : ℕ) (b : List Position) (y : List (List Place)) → t < n → ChainsAfter accepted failed n b y
      → (c next : List Position) × (z : List (List Place)) × ChainsAfter accepted failed t c z × IsRound accepted c next × (c ≢ next)
  still_changes t zero b y lt after = absurd (omega (arith, lt))
  still_changes t (suc n) b y lt after = elim (cases_eq t n) [
    | inl e ↦ (after.0, b, after.1, subst (λ (m : ℕ). ChainsAfter accepted failed m after.0 after.1) (sym e) after.2, after.3, after.4)
    | inr ne ↦ still_changes t n after.0 after.1 (omega arith) after.2
  ]

  -- none stands behind one that changed nothing
  no_more : (t n : ℕ) (a b : List Position) (x y : List (List Place)) → t < n → ChainsAfter accepted failed t a x → IsRound accepted a a → ¬ ChainsAfter accepted failed n b y
  no_more t n a b x y lt first settled second =
      let still = still_changes t n b y lt second in
      let same : still.0 ≡ a = (after_same t still.0 a still.2 x still.3 first).0 in
      let next : still.1 ≡ a = same_round accepted a still.1 a (subst (λ (c : List Position). IsRound accepted c still.1) same still.4) settled in
      still.5 (same ∙ sym next)

  as_many : (t n : ℕ) (a b : List Position) (x y : List (List Place)) → ChainsAfter accepted failed t a x → IsRound accepted a a → ChainsAfter accepted failed n b y → IsRound accepted b b → t ≡ n
  as_many t n a b x y first settled second done = elim (cases_lt t n) [
    | inl lt ↦ absurd (no_more t n a b x y lt first settled second)
    | inr ge ↦ elim (cases_lt n t) [
      | inl lt ↦ absurd (no_more n t b a y x lt second done first)
      | inr le ↦ omega arith
    ]
  ]

-- ---- lines

abbrev make : ℕ → Position → Place
make p k = record { process = p; position = k }

same_place : (p q : ℕ) (j k : Position) → p ≡ q → j ≡ k → make p j ≡ make q k
same_place p q j k e f = ap (λ (i : ℕ). make i j) e ∙ ap (make q) f

pub same_line : (xs ys : List Place) → map (λ (x : Place). x.process) xs ≡ map (λ (x : Place). x.process) ys → positions_of xs ≡ positions_of ys → xs ≡ ys
same_line [] [] e f = refl
same_line [] (y ∷ ys) e f = absurd (omega (arith, ap (λ (l : List ℕ). length l) e))
same_line (x ∷ xs) [] e f = absurd (omega (arith, ap (λ (l : List ℕ). length l) e))
same_line (x ∷ xs) (y ∷ ys) e f =
    ap (λ (z : Place). z ∷ xs) (same_place x.process y.process x.position y.position (ap (λ (l : List ℕ). get_or l 0 0) e) (ap (λ (l : List Position). get_or l 0 (At 0)) f))
    ∙ ap (λ (zs : List Place). y ∷ zs) (same_line xs ys (ap (λ (l : List ℕ). drop 1 l) e) (ap (λ (l : List Position). drop 1 l) f))

pub chosen_once : (accepted : List Report) (failed : List ℕ) (line other : List Place) (reasons others : List (List Place)) (n m : ℕ)
    → AreChosen accepted failed line reasons n → AreChosen accepted failed other others m → (line ≡ other) × (reasons ≡ others) × (n ≡ m)
chosen_once accepted failed line other reasons others n m first second =
    let many : first.changing ≡ second.changing = as_many accepted failed first.changing second.changing (positions_of line) (positions_of other) first.chains second.chains first.after first.settled second.after second.settled in
    let same = after_same accepted failed second.changing (positions_of line) (positions_of other) first.chains second.chains
    (subst (λ (t : ℕ). ChainsAfter accepted failed t (positions_of line) first.chains) many first.after) second.after in (
      same_line line other (first.in_order ∙ sym second.in_order) same.0,
      first.reasons_are ∙ ap given same.1 ∙ sym second.reasons_are,
      omega (arith, first.counted, second.counted, many),
    )

-- ---- numbers in order

least : (x q : ℕ) (xs : List ℕ) → IsStrictlyIncreasing (x ∷ xs) → Contains xs q → x < q
least x q xs h contains =
    let at = there xs q contains in
    let step : x < slice_index (x ∷ xs) 1 = h 0 (omega (arith, at.1)) in
    let far : slice_index (x ∷ xs) 1 ≤ slice_index (x ∷ xs) (suc at.0) = rises (x ∷ xs) h 1 (suc at.0) (omega arith) (omega (arith, at.1)) in
    let is : slice_index (x ∷ xs) (suc at.0) ≡ q = at.2 in
    omega (arith, step, far, is)

tail_rises : (x : ℕ) (xs : List ℕ) → IsStrictlyIncreasing (x ∷ xs) → IsStrictlyIncreasing xs
tail_rises x xs h k lt = let e : suc k + 1 ≡ suc (k + 1) = omega arith in rw e at (h (suc k) (omega (arith, lt)))

-- two that have the same heads
tail_has : (x : ℕ) (xs ys : List ℕ) → IsStrictlyIncreasing (x ∷ xs) → ((q : ℕ) → Contains (x ∷ xs) q → Contains (x ∷ ys) q) → (q : ℕ) → Contains xs q → Contains ys q
tail_has x xs ys h same q contains = elim (member_cases x q ys (same q (member_more x q xs contains))) [
  | inl e ↦ absurd (omega (arith, e, least x q xs h contains))
  | inr more ↦ more
]

head_within : (x y : ℕ) (xs ys : List ℕ) → IsStrictlyIncreasing (y ∷ ys) → ((q : ℕ) → Contains (x ∷ xs) q → Contains (y ∷ ys) q) → y ≤ x
head_within x y xs ys h same = elim (member_cases y x ys (same x (member_first x xs))) [
  | inl e ↦ omega (arith, e)
  | inr more ↦ omega (arith, least y x ys h more)
]

pub same_increasing : (xs ys : List ℕ) → IsStrictlyIncreasing xs → IsStrictlyIncreasing ys → ((q : ℕ) → Contains xs q → Contains ys q) → ((q : ℕ) → Contains ys q → Contains xs q) → xs ≡ ys
same_increasing [] [] h k to from = refl
same_increasing [] (y ∷ ys) h k to from = absurd (no_member y (from y (member_first y ys)))
same_increasing (x ∷ xs) [] h k to from = absurd (no_member x (to x (member_first x xs)))
same_increasing (x ∷ xs) (y ∷ ys) h k to from =
    let e : y ≡ x = omega (arith, head_within x y xs ys k to, head_within y x ys xs h from) in
    let k2 : IsStrictlyIncreasing (x ∷ ys) = subst (λ (z : ℕ). IsStrictlyIncreasing (z ∷ ys)) e k in
    let to2 : (q : ℕ) → Contains (x ∷ xs) q → Contains (x ∷ ys) q = subst (λ (z : ℕ). (q : ℕ) → Contains (x ∷ xs) q → Contains (z ∷ ys) q) e to in
    let from2 : (q : ℕ) → Contains (x ∷ ys) q → Contains (x ∷ xs) q = subst (λ (z : ℕ). (q : ℕ) → Contains (z ∷ ys) q → Contains (x ∷ xs) q) e from in
    ap (λ (zs : List ℕ). x ∷ zs) (same_increasing xs ys (tail_rises x xs h) (tail_rises x ys k2) (tail_has x xs ys h to2) (tail_has x ys xs k2 from2))
    ∙ ap (λ (z : ℕ). z ∷ ys) (sym e)

-- ---- certificates

abbrev certify : List ℕ → ℕ → List Place → List (List Place) → Certificate
certify failed front line reasons = record { failed = failed; front = front; line = line; reasons = reasons }

same_fields : (failed others : List ℕ) (front other : ℕ) (line place : List Place) (reasons chains : List (List Place)) → failed ≡ others → front ≡ other → line ≡ place → reasons ≡ chains
    → certify failed front line reasons ≡ certify others other place chains
same_fields failed others front other line place reasons chains e f g h =
    ap (λ (x : List ℕ). certify x front line reasons) e ∙ ap (λ (x : ℕ). certify others x line reasons) f
    ∙ ap (λ (x : List Place). certify others other x reasons) g ∙ ap (λ (x : List (List Place)). certify others other place x) h

pub one_certificate : (held : Held) (failed : List ℕ) (c d : Certificate) → IsChosenCertificate held failed c → IsChosenCertificate held failed d → c ≡ d
one_certificate held failed c d first second =
    let names : c.failed ≡ d.failed = same_increasing c.failed d.failed first.in_order second.in_order
    (λ q has. (second.just_these q).1 ((first.just_these q).0 has)) (λ q has. (first.just_these q).1 ((second.just_these q).0 has)) in
    let same = chosen_once held.accepted d.failed c.line d.line c.reasons d.reasons first.rounds second.rounds
    (subst (λ (ps : List ℕ). AreChosen held.accepted ps c.line c.reasons first.rounds) names first.chosen) second.chosen in
    same_fields c.failed d.failed c.front d.front c.line d.line c.reasons d.reasons names (first.front ∙ sym second.front) same.0 same.1
