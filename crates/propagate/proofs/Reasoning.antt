-- Along a reason chain each consistent cut stays before every place.
use Rattle.std.proofs.Common.{◌≡◌, inl, inr, ℕ, zero, suc, ◌+◌, ◌-◌, ◌≤◌, ◌<◌, Bool, true, false, cond, ◌≢◌, List, [], ◌∷◌, ◌++◌, length, Option, Some, None, refl, sym, ap, ◌∙◌, subst, arith}
use Rattle.std.specs.Prelude.{Contains}
use Rattle.std.specs.Option.{option_map, option_map_or, is_some}
use Rattle.std.proofs.lemmas.Bool.{cases_lt, true≢false}
use Rattle.std.proofs.lemmas.Option.{slice_get_past}
use Rattle.event_tree.specs.EventTree.{EventTree}
use Rattle.stamp.specs.declared.stamp.Stamp.{Stamp}
use Rattle.report_line.specs.declared.report.Report.{Report}
use Rattle.chains.specs.declared.position.Place.{Place}
use Rattle.chains.specs.declared.position.Position.{Position}
use Rattle.chains.specs.declared.position.Position.TheVariants.{At, Retired}
use Rattle.chains.specs.Processes.{Name, known, target_of, last_events}
use Rattle.chains.specs.Elements.{elements, elements_of, element, name_of}
use Rattle.chains.specs.Positions.{is_retired, rank, position_at, position_in, IsSurviving, IsChosen}
use Rattle.chains.specs.Knowledge.{Knows, events_at}
use Rattle.knows_row.specs.Knowing.{KnowsRank, AreLawfulPlaces}
use Rattle.reasons.specs.Certificates.{IsReasonChain, AreLinked, EndsAfter, HaveReasons, position_below}
use Rattle.propagate.specs.Greatest.{IsConsistentCut}
use Rattle.knows_row.proofs.Laws.{at_element}
use Rattle.propagate.proofs.Ranked.{chosen_within, chosen_position, surviving_known}
use Rattle.propagate.proofs.Fallen.{member_cases}

-- ---- a place that has events is one that its process has

none_of : {X Y : Type 0} (f : X → Y) (y : Y) (o : Option X) → option_map f o ≡ Some y → o ≢ None
none_of f y None e = absurd (cc)
none_of f y (Some x) e = λ h. cc

if_retired : (b : Bool) (o : Option EventTree) (events : EventTree) → cond b o None ≡ Some events → b ≡ true
if_retired true o events e = refl
if_retired false o events e = absurd (cc)

module _ (accepted : List Report) (p : ℕ) where
  -- a process with a position has a name
  unnamed : length (known accepted) ≤ p → name_of accepted p ≡ None
  unnamed ge = slice_get_past (known accepted) p ge

  process_of_element : (k : ℕ) → k < length (elements accepted p) → p < length (known accepted)
  process_of_element k lt = elim (cases_lt p (length (known accepted))) [
    | inl small ↦ small
    | inr ge ↦ absurd (omega (arith, lt, ap (λ (name : Option Name). length (option_map_or (λ (n : Name). elements_of n accepted) name [])) (unnamed ge)))
  ]

  process_of_retired : is_retired accepted p ≡ true → p < length (known accepted)
  process_of_retired e = elim (cases_lt p (length (known accepted))) [
    | inl small ↦ small
    | inr ge ↦ absurd (true≢false (sym e ∙ ap (λ (name : Option Name). option_map_or (λ (n : Name). is_some (target_of n accepted)) name false) (unnamed ge)))
  ]

  pub has_events : (k : Position) (events : EventTree) → events_at accepted (record { process = p; position = k }) ≡ Some events → (p < length (known accepted)) × IsSurviving accepted [] p k
  has_events (At zero) events e = absurd (none_of (λ (y : Stamp). y.events) events (element accepted p 0) e refl)
  has_events (At (suc k)) events e = elim (cases_lt k (length (elements accepted p))) [
    | inl lt ↦ (process_of_element k lt, (omega arith, omega (arith, lt), λ h. absurd (omega (arith, h.1))))
    | inr ge ↦ absurd (none_of (λ (y : Stamp). y.events) events (element accepted p (suc k)) e (slice_get_past (elements accepted p) k ge))
  ]
  has_events Retired events e =
      let retired = if_retired (is_retired accepted p) (option_map (λ (name : Name). last_events name accepted) (name_of accepted p)) events e in
      (process_of_retired retired, retired)

  -- the position below one that the process has
  pub below_has : (k : Position) → IsSurviving accepted [] p k → let x : Place = record { process = p; position = k } in
      (rank accepted p (position_below accepted x) + 1 ≡ rank accepted p k) × (position_at accepted p (rank accepted p (position_below accepted x)) ≡ position_below accepted x)
  below_has (At k) h = (omega (arith, h.0), at_element accepted p (k - 1) (omega (arith, h.1)))
  below_has Retired h = (refl, at_element accepted p (length (elements accepted p)) (omega arith))

-- what knows something has events
knower : (accepted : List Report) (x : Place) (q : ℕ) (k : Position) → Knows accepted x q k → (x.process < length (known accepted)) × IsSurviving accepted [] x.process x.position
knower accepted x q (At k) h = has_events accepted x.process x.position h.1.beyond.events h.1.beyond.there
knower accepted x q Retired h = absurd h

-- a position that a process may have is not past its last surviving one
pub first_reaches : (accepted : List Report) (failed : List ℕ) (q : ℕ) (k first : Position) → IsChosen accepted failed q k → ((j : Position) → IsSurviving accepted failed q j → rank accepted q j ≤ rank accepted q first)
    → rank accepted q k ≤ rank accepted q first
first_reaches accepted failed q k first (inl e) h = omega (arith, ap (rank accepted q) e)
first_reaches accepted failed q k first (inr s) h = h k s

-- ---- a consistent cut

module _ (accepted : List Report) (laws : AreLawfulPlaces accepted) (failed : List ℕ) (d : List Position) (one : IsConsistentCut accepted failed d) where
  chosen : (p : ℕ) → p < length (known accepted) → IsChosen accepted failed p (position_in d p)
  chosen p lt = one.is_cut.chosen p lt

  abbrev at : ℕ → ℕ
  at p = rank accepted p (position_in d p)

  -- it is before a place that knows a process after a rank that it is not past
  before_rank : (p q x k : ℕ) → p < length (known accepted) → q < length (known accepted) → at q ≤ k → KnowsRank accepted p x q k → at p < x
  before_rank p q x k pin qin le knows = elim (cases_lt (at p) x) [
    | inl lt ↦ lt
    | inr ge ↦
        let here : KnowsRank accepted p (at p) q (at q)
        = laws.earlier p (at p) q (at q) k le (laws.later p x (at p) q k ge (chosen_within accepted p failed (position_in d p) (chosen p pin)) knows) in
        absurd (one.consistent p q pin qin (rw (chosen_position accepted p failed (position_in d p) (chosen p pin), chosen_position accepted q failed (position_in d q) (chosen q qin)) at here))
  ]

  before_place : (x : Place) (q : ℕ) (k : Position) → q < length (known accepted) → at q ≤ rank accepted q k → position_at accepted q (rank accepted q k) ≡ k → Knows accepted x q k
      → at x.process < rank accepted x.process x.position
  before_place x q k qin le is knows =
      let has = knower accepted x q k knows in
      before_rank x.process q (rank accepted x.process x.position) (rank accepted q k) has.0 qin le
      (rw (is, chosen_position accepted x.process [] x.position (inr has.1)) knows)

  before_last : (q : ℕ) (k : Position) (front : List Place) (last : Place) → q < length (known accepted) → at q ≤ rank accepted q k → position_at accepted q (rank accepted q k) ≡ k
      → AreLinked accepted q k (front ++ last ∷ []) → at last.process < rank accepted last.process last.position
  before_last q k [] last qin le is linked = before_place last q k qin le is linked.0
  before_last q k (x ∷ front) last qin le is linked =
      let has = knower accepted x q k linked.0 in
      let below = below_has accepted x.process x.position has.1 in
      before_last x.process (position_below accepted x) front last has.0 (omega (arith, before_place x q k qin le is linked.0, below.0)) below.1 linked.1

  pub before_end : (front : List Place) (last : Place) → IsReasonChain accepted failed (front ++ last ∷ []) → at last.process < rank accepted last.process last.position
  before_end [] last reason = absurd reason
  before_end (first ∷ []) last reason =
      let there = surviving_known accepted failed first.process first.position reason.1.surviving in
      before_last first.process first.position [] last there (first_reaches accepted failed first.process (position_in d first.process) first.position (chosen first.process there) reason.1.greatest)
      (chosen_position accepted first.process failed first.position (inr reason.1.surviving)) reason.2
  before_end (first ∷ x ∷ front) last reason =
      let there = surviving_known accepted failed first.process first.position reason.1.surviving in
      before_last first.process first.position (x ∷ front) last there (first_reaches accepted failed first.process (position_in d first.process) first.position (chosen first.process there) reason.1.greatest)
      (chosen_position accepted first.process failed first.position (inr reason.1.surviving)) reason.2

-- ---- the chain of a process that has one

pub reason_of : (accepted : List Report) (failed : List ℕ) (line : List Position) (p : ℕ) (ps : List ℕ) (chains : List (List Place)) → HaveReasons accepted failed line ps chains → Contains ps p
    → (chain : List Place) × IsReasonChain accepted failed chain × EndsAfter accepted p (position_in line p) chain
reason_of accepted failed line p [] chains have there = absurd (omega (arith, there.1))
reason_of accepted failed line p (q ∷ ps) [] have there = absurd have
reason_of accepted failed line p (q ∷ ps) (chain ∷ chains) have there = elim (member_cases q p ps there) [
  | inl e ↦ (chain, have.0, subst (λ (j : ℕ). EndsAfter accepted j (position_in line j) chain) e have.1)
  | inr more ↦ reason_of accepted failed line p ps chains have.2 more
]
