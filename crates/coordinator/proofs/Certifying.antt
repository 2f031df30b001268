-- The certificate of which a text is the text.
use Rattle.std.proofs.Common.{◌≡◌, ◌≢◌, inl, inr, ℕ, ◌+◌, ◌<◌, ◌≤◌, Bool, true, false, IsTrue, List, [], ◌∷◌, length, map, get_or, Option, Some, None, Result, Ok, Err, refl, sym, ap, ◌∙◌, subst, arith}
use Rattle.std.specs.Prelude.{◌⊎◌, ◌↔◌, IfSome, All, Contains, slice_index_or}
use Rattle.std.specs.List.{range_with_len}
use Rattle.std.proofs.lemmas.List.{get_or-map, length-map}
use Rattle.std.proofs.lemmas.List.Elements.{All-cons, All-from_recursion, All-weaker, All-contains_itself}
use Rattle.std.proofs.lemmas.Bool.{cases_eq, true≢false}
use Rattle.std.proofs.lemmas.Option.{get_or_from_slice_get, slice_get-get_or, slice_get_within}
use Rattle.std.proofs.lemmas.List.FromFn.{get_or-range_with_len, length-range_with_len}
use Rattle.report_line.specs.declared.report.Report.{Report}
use Rattle.chains.specs.declared.position.Place.{Place}
use Rattle.chains.specs.declared.position.Position.{Position}
use Rattle.chains.specs.declared.position.Position.TheVariants.{At, Retired}
use Rattle.chains.specs.Processes.{Name, known}
use Rattle.chains.specs.Elements.{name_of}
use Rattle.chains.specs.Failures.{AreMarked}
use Rattle.chains.specs.Positions.{IsChosen, IsSurviving, position_in}
use Rattle.chains.specs.Knowledge.{Knows}
use Rattle.chains.specs.Held.{Held}
use Rattle.chains.specs.Admission.{report_limit}
use Rattle.chains.specs.Folded.{IsReached}
use Rattle.reasons.specs.declared.certificate.Certificate.{Certificate}
use Rattle.reasons.specs.declared.fault.CertificateFault.{CertificateFault}
use Rattle.reasons.specs.declared.fault.CertificateFault.TheVariants as faults
use Rattle.reasons.specs.Certificates.{Certifies, IsForNames, IsReasonChain, AreLinked, HaveReasons, positions_of, position_below}
use Rattle.reasons.specs.CertificateText.{certificate_text}
use Rattle.reasons.specs.CertificateReading.{IsSmall, IsKnownPlace, HasKnownNumbers, IsReadAs}
use Rattle.reasons.specs.Shown.{IsLineText}
use Rattle.propagate.proofs.Ranked.{surviving_known}
use Rattle.propagate.proofs.Reasoning.{has_events}
use Rattle.propagate.proofs.Placing.{few_elements}

-- ---- what certifies has the numbers of known processes, within their limits

module _ (accepted : List Report) (few : length accepted ≤ report_limit) where
  small : (failed : List ℕ) (p : ℕ) (k : Position) → IsChosen accepted failed p k → IsSmall k
  small failed p (At k) (inl e) = let zero_is : k ≡ 0 = cc e in omega (arith, zero_is)
  small failed p (At k) (inr h) = omega (arith, h.1, few_elements accepted p, few)
  small failed p Retired h = tt

  known_place : (failed : List ℕ) (x : Place) → IsSurviving accepted failed x.process x.position → IsKnownPlace accepted x
  known_place failed x h = (surviving_known accepted failed x.process x.position h, small failed x.process x.position (inr h))

  knower : (x : Place) (q : ℕ) (k : Position) → Knows accepted x q k → IsKnownPlace accepted x
  knower x q (At k) h =
      let has = has_events accepted x.process x.position h.1.beyond.events h.1.beyond.there in
      (has.0, small [] x.process x.position (inr has.1))
  knower x q Retired h = absurd h

  linked : (q : ℕ) (k : Position) (xs : List Place) → AreLinked accepted q k xs → All (IsKnownPlace accepted) xs
  linked q k [] h = All-from_recursion (IsKnownPlace accepted) [] tt
  linked q k (x ∷ xs) h = All-cons (IsKnownPlace accepted) x xs (knower x q k h.0) (linked x.process (position_below accepted x) xs h.1)

  chained : (failed : List ℕ) (chain : List Place) → IsReasonChain accepted failed chain → All (IsKnownPlace accepted) chain
  chained failed [] never = absurd never
  chained failed (first ∷ []) never = absurd never
  chained failed (first ∷ x ∷ xs) h =
      All-cons (IsKnownPlace accepted) first (x ∷ xs) (known_place failed first h.1.surviving) (linked first.process first.position (x ∷ xs) h.2)

  reasoned : (failed : List ℕ) (cut : List Position) (ps : List ℕ) (chains : List (List Place)) → HaveReasons accepted failed cut ps chains → All (All (IsKnownPlace accepted)) chains
  reasoned failed cut [] [] h = All-from_recursion (All (IsKnownPlace accepted)) [] tt
  reasoned failed cut (p ∷ ps) (chain ∷ chains) h = All-cons (All (IsKnownPlace accepted)) chain chains (chained failed chain h.0) (reasoned failed cut ps chains h.2)
  reasoned failed cut [] (chain ∷ chains) never = absurd never
  reasoned failed cut (p ∷ ps) [] never = absurd never

  lined : (failed : List ℕ) (line : List Place) → map (λ (x : Place). x.process) line ≡ range_with_len 0 (length (known accepted))
      → ((p : ℕ) → p < length (known accepted) → IsChosen accepted failed p (position_in (positions_of line) p)) → All (IsKnownPlace accepted) line
  lined failed line order chosen i d in_range =
      let x : Place = get_or line i d in
      let n = length (known accepted) in
      let long : length line ≡ n = sym (length-map line (λ (y : Place). y.process)) ∙ ap length order ∙ length-range_with_len 0 n in
      let below : i < n = omega (arith, in_range, long) in
      let is : x.process ≡ i = omega (arith, get_or-map (λ (y : Place). y.process) line i d 0 in_range, ap (λ (xs : List ℕ). get_or xs i 0) order, get_or-range_with_len 0 n i 0 below) in
      let at : position_in (positions_of line) i ≡ x.position = get_or-map (λ (y : Place). y.position) line i d (At 0) in_range in
      (omega (arith, is, below), small failed i x.position (subst (IsChosen accepted failed i) at (chosen i below)))

known_numbers : (held : Held) (c : Certificate) → IsReached held → held.front ≤ report_limit → Certifies held c → HasKnownNumbers held.accepted c
known_numbers held c reach few certifies = let fewer : length held.accepted ≤ report_limit = omega (arith, few, reach.counted) in record {
  failed = All-weaker (Contains c.failed) (λ p. p < length (known held.accepted)) certifies.known_failed c.failed (All-contains_itself c.failed);
  front = omega (arith, certifies.front, few);
  line = lined held.accepted fewer c.failed c.line certifies.in_order certifies.cut.chosen;
  reasons = reasoned held.accepted fewer c.failed (positions_of c.line) certifies.reasons.fallen c.reasons certifies.reasons.each;
}

-- ---- one text, one certificate

-- what reading tells of the texts of certificates
abbrev pub ReadsOnly : List Report → Type 0
ReadsOnly accepted =
    (c : Certificate) → HasKnownNumbers accepted c → (result : Result Certificate CertificateFault) → IsReadAs accepted (certificate_text accepted c) result → (result ≡ Ok c) ⊎ (result ≡ Err faults.Memory)

same_ok : (a b : Certificate) (r : Result Certificate CertificateFault) → r ≡ Ok a → r ≡ Ok b → a ≡ b
same_ok a b r e f = cc

module _ (held : Held) (text : List ℕ) (reach : IsReached held) (few : held.front ≤ report_limit) (only : ReadsOnly held.accepted) where
  read_of : (c : Certificate) (result : Result Certificate CertificateFault) → IsReadAs held.accepted text result → Certifies held c → text ≡ certificate_text held.accepted c
      → (result ≡ Ok c) ⊎ (result ≡ Err faults.Memory)
  read_of c result read certifies is = only c (known_numbers held c reach few certifies) result (subst (λ (t : List ℕ). IsReadAs held.accepted t result) is read)

  -- what was read is the one that certifies
  pub is_read : (read c : Certificate) → IsReadAs held.accepted text (Ok read) → Certifies held c → text ≡ certificate_text held.accepted c → c ≡ read
  is_read read c is certifies said = elim (read_of c (Ok read) is certifies said) [
    | inl same ↦ sym (same_ok read c (Ok read) refl same)
    | inr other ↦ absurd (let o = other in cc)
  ]

  -- where nothing was read, memory was wanting, or none certifies
  pub none_read : (fault : CertificateFault) (c : Certificate) → IsReadAs held.accepted text (Err fault) → fault ≢ faults.Memory → Certifies held c → text ≢ certificate_text held.accepted c
  none_read fault c is other certifies said = elim (read_of c (Err fault) is certifies said) [
    | inl same ↦ absurd (let e = same in cc)
    | inr memory ↦ other (let e = memory in cc)
  ]

-- ---- whether it is the line for these names

line_from : (held : Held) (names : List Name) (text : List ℕ) (c : Certificate) → Certifies held c → text ≡ certificate_text held.accepted c → IsForNames held.accepted names c → IsLineText held names text
line_from held names text c certifies is for = record { certificate = c; for_names = for; certifies = certifies; text_is = is }

abbrev pub IsOnly : Held → List ℕ → Option Certificate → Type 0
IsOnly held text found = (c : Certificate) → Certifies held c → text ≡ certificate_text held.accepted c → found ≡ Some c

same_some : (a b : Certificate) → Some a ≡ Some b → a ≡ b
same_some a b e = cc

pub line_found : (held : Held) (names : List Name) (text : List ℕ) (c : Certificate) (b : Bool) → Certifies held c → text ≡ certificate_text held.accepted c → IsOnly held text (Some c)
    → (IsTrue b ↔ IsForNames held.accepted names c) → (IsTrue b ↔ IsLineText held names text)
line_found held names text c b certifies is all told = (
  λ yes. line_from held names text c certifies is (told.0 yes),
  λ line. told.1 (subst (IsForNames held.accepted names) (sym (same_some c line.certificate (all line.certificate line.certifies line.text_is))) line.for_names),
)

pub line_missing : (held : Held) (names : List Name) (text : List ℕ) → IsOnly held text None → ¬ IsLineText held names text
line_missing held names text all line = absurd (let e = all line.certificate line.certifies line.text_is in cc)

-- ---- whether the failed processes are those that are named

-- of the first processes
abbrev pub AreToldTo : List Report → List Name → List ℕ → ℕ → Type 0
AreToldTo accepted names failed n = (p : ℕ) (name : Name) → p < n → name_of accepted p ≡ Some name → (Contains failed p ↔ Contains names name)

pub told_all : (accepted : List Report) (names : List Name) (failed : List ℕ) (c : Certificate) (n : ℕ) → failed ≡ c.failed → length (known accepted) ≤ n → AreToldTo accepted names failed n
    → (IsTrue true ↔ IsForNames accepted names c)
told_all accepted names failed c n is whole told = (
  λ _ p name at. subst (λ (fs : List ℕ). Contains fs p ↔ Contains names name) is (told p name (omega (arith, whole, slice_get_within (known accepted) p name at)) at),
  λ _. refl,
)

-- the failed numbers below n are just those with a flag
abbrev pub AreFlaggedTo : List ℕ → List Bool → ℕ → Type 0
AreFlaggedTo failed named n = (p : ℕ) → p < n → (Contains failed p ↔ IsTrue (slice_index_or named p false))

pub flagged_all : (accepted : List Report) (failed : List ℕ) (named : List Bool) (c : Certificate) (n : ℕ) → failed ≡ c.failed → length (known accepted) ≤ n → AreFlaggedTo failed named n
    → (names : List Name) → AreMarked accepted names named → (IsTrue true ↔ IsForNames accepted names c)
flagged_all accepted failed named c n is whole flagged names marks =
    told_all accepted names failed c n is whole (λ p name lt at. (λ x. (marks.named p name at).0 ((flagged p lt).0 x), λ y. (flagged p lt).1 ((marks.named p name at).1 y)))

-- one that has a flag and did not fail, or the other way round
pub flagged_not : (accepted : List Report) (failed : List ℕ) (named : List Bool) (c : Certificate) (p : ℕ) (b : Bool) → failed ≡ c.failed → p < length (known accepted)
    → (IsTrue b ↔ (Contains failed p ↔ IsTrue (slice_index_or named p false))) → b ≡ false
    → (names : List Name) → AreMarked accepted names named → (IsTrue false ↔ IsForNames accepted names c)
flagged_not accepted failed named c p b is within told none names marks =
    let name : Name = get_or (known accepted) p [] in
    let at : name_of accepted p ≡ Some name = slice_get-get_or (known accepted) p [] within in (
      λ never. absurd (true≢false (sym never)),
      λ for.
          let here : Contains failed p ↔ Contains names name = subst (λ (fs : List ℕ). Contains fs p ↔ Contains names name) (sym is) (for p name at) in
          absurd (true≢false (sym (told.1 (λ x. (marks.named p name at).1 (here.0 x), λ y. here.1 ((marks.named p name at).0 y))) ∙ none)),
    )

-- whether all are failed
pub below_more : (failed : List ℕ) (n : ℕ) → ((p : ℕ) → p < n → Contains failed p) → Contains failed n → (p : ℕ) → p < n + 1 → Contains failed p
below_more failed n so_far this p lt = elim (cases_eq p n) [
  | inl same ↦ subst (Contains failed) (sym same) this
  | inr apart ↦ so_far p (omega (arith, lt, apart))
]

has_known : (accepted : List Report) (p : ℕ) (name : Name) → name_of accepted p ≡ Some name → Contains (known accepted) name
has_known accepted p name at = (p, slice_get_within (known accepted) p name at, get_or_from_slice_get (known accepted) p name name at)

pub all_failed : (accepted : List Report) (failed : List ℕ) (c : Certificate) (n : ℕ) → failed ≡ c.failed → length (known accepted) ≤ n → ((p : ℕ) → p < n → Contains failed p)
    → (IsTrue true ↔ IsForNames accepted (known accepted) c)
all_failed accepted failed c n is whole each = (
  λ _ p name at. (
    λ _. has_known accepted p name at,
    λ _. subst (λ (fs : List ℕ). Contains fs p) is (each p (omega (arith, whole, slice_get_within (known accepted) p name at))),
  ),
  λ _. refl,
)

pub not_failed : (accepted : List Report) (failed : List ℕ) (c : Certificate) (p : ℕ) (b : Bool) → failed ≡ c.failed → p < length (known accepted) → (IsTrue b ↔ Contains failed p) → b ≡ false
    → (IsTrue false ↔ IsForNames accepted (known accepted) c)
not_failed accepted failed c p b is lt told none = (
  λ never. absurd (true≢false (sym never)),
  λ for.
      let at = slice_get-get_or (known accepted) p [] lt in
      let has : Contains c.failed p = (for p _ at).1 (has_known accepted p _ at) in
      absurd (true≢false (sym (told.1 (subst (λ (fs : List ℕ). Contains fs p) (sym is) has)) ∙ none)),
)

-- ---- what one certificate tells

pub only_one : (held : Held) (text : List ℕ) (read : Certificate) → ((c : Certificate) → Certifies held c → text ≡ certificate_text held.accepted c → c ≡ read) → IsOnly held text (Some read)
only_one held text read one c certifies is = ap Some (sym (one c certifies is))

-- what was read does not certify, or has another text
pub only_none : (held : Held) (text : List ℕ) (read : Certificate) → IsOnly held text (Some read) → (Certifies held read → text ≢ certificate_text held.accepted read) → IsOnly held text None
only_none held text read only wrong c certifies is =
    let same : read ≡ c = same_some read c (only c certifies is) in
    absurd (wrong (subst (Certifies held) (sym same) certifies) (subst (λ (x : Certificate). text ≡ certificate_text held.accepted x) (sym same) is))

pub only_nothing : (held : Held) (text : List ℕ) → ((c : Certificate) → Certifies held c → text ≢ certificate_text held.accepted c) → IsOnly held text None
only_nothing held text none c certifies is = absurd (none c certifies is)

pub line_when : (held : Held) (names : List Name) (text : List ℕ) (found : Option Certificate) (c : Certificate) (b : Bool) → found ≡ Some c
    → IfSome found (λ (x : Certificate). Certifies held x × (text ≡ certificate_text held.accepted x)) → IsOnly held text found
    → (IsTrue b ↔ IsForNames held.accepted names c) → (IsTrue b ↔ IsLineText held names text)
line_when held names text found c b is some only told =
    let s : IfSome (Some c) (λ (x : Certificate). Certifies held x × (text ≡ certificate_text held.accepted x)) =
    subst (λ (o : Option Certificate). IfSome o (λ (x : Certificate). Certifies held x × (text ≡ certificate_text held.accepted x))) is some in
    line_found held names text c b s.0 s.1 (subst (IsOnly held text) is only) told
