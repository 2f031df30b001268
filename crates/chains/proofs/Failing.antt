-- Sets of failed processes, as they are found.
use Rattle.std.proofs.Common.{◌≡◌, ◌≢◌, ◌⊎◌, inl, inr, ℕ, ◌+◌, ◌<◌, ◌≤◌, Bool, true, false, List, [], ◌∷◌, ◌++◌, length, get_or, set, take, replicate, Some, All, Contains, IsTrue, ◌↔◌, sym, ap, subst, ◌∙◌, arith, append_assoc}
use Rattle.std.specs.Prelude.{slice_index_or}
use Rattle.std.proofs.lemmas.Bool.{cases_eq, true≢false}
use Rattle.std.proofs.lemmas.List.{append-nil, get_or_default, take_more, take_all, length-set, get_or-set_same, get_or-set_other, length-replicate, get_or-replicate}
use Rattle.std.proofs.lemmas.List.Elements.{All-push, All-from_recursion, Contains-push, Contains-push_cases, Contains-append_left, All-from_get_or}
use Rattle.std.proofs.lemmas.Option.{same_Some, slice_get_within, get_or_from_slice_get}
use Rattle.report_line.specs.declared.report.Report.{Report}
use Rattle.chains.specs.Processes.{Name, known, IsKnown}
use Rattle.chains.specs.Elements.{name_of}
use Rattle.chains.specs.Failures.{IsFailedSet, IsFirstUnknown, AreMarked}
use Rattle.chains.specs.working.Flags.{AreNumbersOf, AreFlagged}
use Rattle.chains.specs.working.Inside.{AreDistinctNames}
use Rattle.chains.proofs.LookUps.{known_from}
use Rattle.chains.proofs.Listing.{AreListedTo}

-- the place of a set flag
abbrev pub IsSet : List Bool → ℕ → Type 0
IsSet flags p = IsTrue (slice_index_or flags p false)

-- ---- the places of set flags

pub all_listed : (flags : List Bool) (i : ℕ) (numbers : List ℕ) → i ≡ length flags → AreListedTo (IsSet flags) i numbers → AreNumbersOf flags numbers
all_listed flags i numbers e h = record { in_order = h.in_order; just_set = λ p. subst (λ (k : ℕ). Contains numbers p ↔ ((p < k) × IsSet flags p)) e (h.just_these p) }

-- ---- flags of named processes

pub same_number : (accepted : List Report) (i j : ℕ) (p : Name) → AreDistinctNames (known accepted) → name_of accepted i ≡ Some p → name_of accepted j ≡ Some p → i ≡ j
same_number accepted i j p distinct a b =
    distinct i j p (slice_get_within (known accepted) i p a) (slice_get_within (known accepted) j p b)
    (get_or_from_slice_get (known accepted) i p p a ∙ sym (get_or_from_slice_get (known accepted) j p p b))

-- the items so far hold one more
more_items : {X : Type 0} (xs : List X) (i : ℕ) (x y : X) → i < length xs → x ≡ get_or xs i x → Contains (take (i + 1) xs) y → Contains (take i xs) y ⊎ (x ≡ y)
more_items xs i x y lt is there = elim (Contains-push_cases (take i xs) (get_or xs i x) y (subst (λ l. Contains l y) (take_more xs i x lt) there)) [
  | inl old ↦ inl old
  | inr e ↦ inr (is ∙ e)
]

new_item : {X : Type 0} (xs : List X) (i : ℕ) (x : X) → i < length xs → x ≡ get_or xs i x → Contains (take (i + 1) xs) x
new_item xs i x lt is = subst (λ l. Contains l x) (sym (take_more xs i x lt)) (subst (λ p. Contains (take i xs ++ get_or xs i x ∷ []) p) (sym is) (Contains-push (take i xs) (get_or xs i x)))

old_item : {X : Type 0} (xs : List X) (i : ℕ) (x y : X) → i < length xs → Contains (take i xs) y → Contains (take (i + 1) xs) y
old_item xs i x y lt there = subst (λ l. Contains l y) (sym (take_more xs i x lt)) (Contains-append_left (take i xs) (get_or xs i x ∷ []) y there)

-- ---- names, one after the other

-- flags for just the names that were taken, with those that are left
pub record IsMarkedBefore (accepted : List Report) (names left : List Name) (flags : List Bool) : Type 0 where
  pub front : List Name
  pub parts : names ≡ front ++ left
  pub marked : AreMarked accepted front flags

none_marked_first : (accepted : List Report) (flags : List Bool) (n : ℕ) → flags ≡ replicate n false → n ≡ length (known accepted) → AreMarked accepted [] flags
none_marked_first accepted flags n e is = record {
  complete = ap (λ (l : List Bool). length l) e ∙ length-replicate n false ∙ is;
  named = λ p name named. (
    λ holds. let lt = slice_get_within (known accepted) p name named in absurd (true≢false (sym holds ∙ ap (λ (l : List Bool). get_or l p false) e ∙ get_or-replicate n p false false (omega (arith, lt, is)))),
    λ there. absurd (omega (arith, there.1)),
  );
}

pub none_marked : (accepted : List Report) (names left : List Name) (flags : List Bool) (n : ℕ) → left ≡ names → flags ≡ replicate n false → n ≡ length (known accepted) → IsMarkedBefore accepted names left flags
none_marked accepted names left flags n all e is = record { front = []; parts = sym all; marked = none_marked_first accepted flags n e is }

pub all_marked_before : (accepted : List Report) (names left : List Name) (flags : List Bool) → left ≡ [] → IsMarkedBefore accepted names left flags → AreMarked accepted names flags
all_marked_before accepted names left flags none h = subst (λ (l : List Name). AreMarked accepted l flags) (sym (h.parts ∙ ap (λ (l : List Name). h.front ++ l) none ∙ append-nil h.front)) h.marked

-- a list that goes on with a name has it behind its front
moved : (names front left : List Name) (q : Name) (behind : List Name) → names ≡ front ++ left → left ≡ q ∷ behind → names ≡ (front ++ q ∷ []) ++ behind
moved names front left q behind parts is = parts ∙ ap (λ (l : List Name). front ++ l) is ∙ sym (append_assoc front (q ∷ []) behind)

-- a name that no process has marks none
pub marked_unknown : (accepted : List Report) (names left : List Name) (q : Name) (behind : List Name) (flags : List Bool) → IsMarkedBefore accepted names left flags → left ≡ q ∷ behind → ¬ IsKnown accepted q → IsMarkedBefore accepted names behind flags
marked_unknown accepted names left q behind flags h is new = record {
  front = h.front ++ q ∷ [];
  parts = moved names h.front left q behind h.parts is;
  marked = record {
    complete = h.marked.complete;
    named = λ p name named. (
      λ holds. Contains-append_left h.front (q ∷ []) name ((h.marked.named p name named).0 holds),
      λ there. elim (Contains-push_cases h.front q name there) [
        | inl old ↦ (h.marked.named p name named).1 old
        | inr e ↦ absurd (new (subst (IsKnown accepted) (sym e) (known_from accepted p name named)))
      ],
    );
  };
}

marked_here : (accepted : List Report) (front : List Name) (j p : ℕ) (q name : Name) (flags : List Bool) → AreMarked accepted front flags → AreDistinctNames (known accepted) → name_of accepted j ≡ Some q → name_of accepted p ≡ Some name → (p ≡ j) ⊎ (p ≢ j)
    → (IsTrue (slice_index_or (set flags j true) p false) ↔ Contains (front ++ q ∷ []) name)
marked_here accepted front j p q name flags h distinct found named (inl e) =
    let within = slice_get_within (known accepted) j q found in
    let there : j < length flags = omega (arith, h.complete) in
    let same : name ≡ q = same_Some name q (sym named ∙ ap (λ (k : ℕ). name_of accepted k) e ∙ found) in (
      λ holds. subst (λ (n : Name). Contains (front ++ q ∷ []) n) (sym same) (Contains-push front q),
      λ there'. ap (λ (k : ℕ). get_or (set flags j true) k false) e ∙ get_or-set_same flags j true false there,
    )
marked_here accepted front j p q name flags h distinct found named (inr other) =
    let unchanged = get_or-set_other flags j p true false other in (
      λ holds. Contains-append_left front (q ∷ []) name ((h.named p name named).0 (sym unchanged ∙ holds)),
      λ there. elim (Contains-push_cases front q name there) [
        | inl old ↦ unchanged ∙ (h.named p name named).1 old
        | inr e ↦ absurd (other (same_number accepted p j q distinct (named ∙ ap (λ (n : Name). Some n) (sym e)) found))
      ],
    )

-- a name that a process has marks it
pub marked_known : (accepted : List Report) (names left : List Name) (q : Name) (behind : List Name) (j : ℕ) (flags : List Bool) → IsMarkedBefore accepted names left flags → left ≡ q ∷ behind → AreDistinctNames (known accepted) → name_of accepted j ≡ Some q → IsMarkedBefore accepted names behind (set flags j true)
marked_known accepted names left q behind j flags h is distinct found = record {
  front = h.front ++ q ∷ [];
  parts = moved names h.front left q behind h.parts is;
  marked = record {
    complete = length-set flags j true ∙ h.marked.complete;
    named = λ p name named. marked_here accepted h.front j p q name flags h.marked distinct found named (cases_eq p j);
  };
}

-- flags for just the names that were taken, all of which are known, with those that are left
pub record AreFoundBefore (accepted : List Report) (names left : List Name) (flags : List Bool) : Type 0 where
  pub front : List Name
  pub parts : names ≡ front ++ left
  pub known_front : All (IsKnown accepted) front
  pub marked : AreMarked accepted front flags

pub none_found : (accepted : List Report) (names left : List Name) (flags : List Bool) (n : ℕ) → left ≡ names → flags ≡ replicate n false → n ≡ length (known accepted) → AreFoundBefore accepted names left flags
none_found accepted names left flags n all e is = record {
  front = [];
  parts = sym all;
  known_front = All-from_recursion (IsKnown accepted) [] tt;
  marked = (none_marked_first accepted flags n e is);
}

pub one_found : (accepted : List Report) (names left : List Name) (q : Name) (behind : List Name) (j : ℕ) (flags : List Bool) → AreFoundBefore accepted names left flags → left ≡ q ∷ behind → AreDistinctNames (known accepted) → name_of accepted j ≡ Some q → AreFoundBefore accepted names behind (set flags j true)
one_found accepted names left q behind j flags h is distinct found = record {
  front = h.front ++ q ∷ [];
  parts = moved names h.front left q behind h.parts is;
  known_front = All-push (IsKnown accepted) h.front q h.known_front (known_from accepted j q found);
  marked = record {
    complete = length-set flags j true ∙ h.marked.complete;
    named = λ p name named. marked_here accepted h.front j p q name flags h.marked distinct found named (cases_eq p j);
  };
}

pub not_found : (accepted : List Report) (names left : List Name) (q : Name) (behind : List Name) (flags : List Bool) → AreFoundBefore accepted names left flags → left ≡ q ∷ behind → ¬ IsKnown accepted q → IsFirstUnknown accepted names q
not_found accepted names left q behind flags h is new = record { front = h.front; rest = behind; parts = h.parts ∙ ap (λ (l : List Name). h.front ++ l) is; known_front = h.known_front; unknown = new }

pub all_found : (accepted : List Report) (names left : List Name) (flags : List Bool) → left ≡ [] → AreFoundBefore accepted names left flags → All (IsKnown accepted) names × AreMarked accepted names flags
all_found accepted names left flags none h =
    let whole = sym (h.parts ∙ ap (λ (l : List Name). h.front ++ l) none ∙ append-nil h.front) in
    (subst (λ (l : List Name). All (IsKnown accepted) l) whole h.known_front, subst (λ (l : List Name). AreMarked accepted l flags) whole h.marked)

pub flag_found : (accepted : List Report) (names left : List Name) (j : ℕ) (q : Name) (flags : List Bool) → AreFoundBefore accepted names left flags → name_of accepted j ≡ Some q → j < length flags
flag_found accepted names left j q flags h found = omega (arith, slice_get_within (known accepted) j q found, h.marked.complete)

pub flag_before : (accepted : List Report) (names left : List Name) (j : ℕ) (q : Name) (flags : List Bool) → IsMarkedBefore accepted names left flags → name_of accepted j ≡ Some q → j < length flags
flag_before accepted names left j q flags h found = omega (arith, slice_get_within (known accepted) j q found, h.marked.complete)

-- ---- the set

pub failed_set : (accepted : List Report) (names : List Name) (flags : List Bool) (numbers : List ℕ) → All (IsKnown accepted) names → AreMarked accepted names flags → AreNumbersOf flags numbers → IsFailedSet accepted names numbers
failed_set accepted names flags numbers all marks listed = record {
  all_known = all;
  in_order = listed.in_order;
  within = λ p there. let lt = ((listed.just_set p).0 there).0 in omega (arith, marks.complete);
  just_named = λ p name named. (
    λ there. (marks.named p name named).0 ((listed.just_set p).0 there).1,
    λ there. let lt = slice_get_within (known accepted) p name named in (listed.just_set p).1 (omega (arith, marks.complete), (marks.named p name named).1 there),
  );
}

-- all flags are set
pub all_set : (accepted : List Report) (flags : List Bool) (n : ℕ) → flags ≡ replicate n true → n ≡ length (known accepted) → AreMarked accepted (known accepted) flags
all_set accepted flags n e is = record {
  complete = ap (λ (l : List Bool). length l) e ∙ length-replicate n true ∙ is;
  named = λ p name named. let lt = slice_get_within (known accepted) p name named in (
    λ holds. known_from accepted p name named,
    λ there. ap (λ (l : List Bool). get_or l p false) e ∙ get_or-replicate n p true false (omega arith),
  );
}

pub all_are_known : (accepted : List Report) → All (IsKnown accepted) (known accepted)
all_are_known accepted = All-from_get_or (IsKnown accepted) (known accepted) [] (λ i lt. (i, lt, get_or_default (known accepted) i (get_or (known accepted) i []) [] lt))

-- ---- flags of numbers

flagged_at : (numbers : List ℕ) (i n p : ℕ) (flags : List Bool) → AreFlagged (take i numbers) n flags → i < length numbers → get_or numbers i 0 < n → p < n → (p ≡ get_or numbers i 0) ⊎ (p ≢ get_or numbers i 0)
    → (IsTrue (slice_index_or (set flags (get_or numbers i 0) true) p false) ↔ Contains (take (i + 1) numbers) p)
flagged_at numbers i n p flags h lt below within (inl e) = (
  λ holds. subst (λ (k : ℕ). Contains (take (i + 1) numbers) k) (sym e) (new_item numbers i (get_or numbers i 0) lt (get_or_default numbers i 0 (get_or numbers i 0) lt)),
  λ there. ap (λ (k : ℕ). get_or (set flags (get_or numbers i 0) true) k false) e ∙ get_or-set_same flags (get_or numbers i 0) true false (omega (arith, h.complete)),
)
flagged_at numbers i n p flags h lt below within (inr other) =
    let unchanged = get_or-set_other flags (get_or numbers i 0) p true false other in (
      λ holds. old_item numbers i (get_or numbers i 0) p lt ((h.just p within).0 (sym unchanged ∙ holds)),
      λ there. elim (more_items numbers i (get_or numbers i 0) p lt (get_or_default numbers i 0 (get_or numbers i 0) lt) there) [
        | inl old ↦ unchanged ∙ (h.just p within).1 old
        | inr e ↦ absurd (other (sym e))
      ],
    )

pub flagged_more : (numbers : List ℕ) (i n : ℕ) (flags : List Bool) → AreFlagged (take i numbers) n flags → i < length numbers → get_or numbers i 0 < n → AreFlagged (take (i + 1) numbers) n (set flags (get_or numbers i 0) true)
flagged_more numbers i n flags h lt below = record {
  complete = length-set flags (get_or numbers i 0) true ∙ h.complete;
  just = λ p within. flagged_at numbers i n p flags h lt below within (cases_eq p (get_or numbers i 0));
}

-- a number that is not below n has no flag
pub flagged_other : (numbers : List ℕ) (i n : ℕ) (flags : List Bool) → AreFlagged (take i numbers) n flags → i < length numbers → n ≤ get_or numbers i 0 → AreFlagged (take (i + 1) numbers) n flags
flagged_other numbers i n flags h lt past = record {
  complete = h.complete;
  just = λ p within. (
    λ holds. old_item numbers i (get_or numbers i 0) p lt ((h.just p within).0 holds),
    λ there. elim (more_items numbers i (get_or numbers i 0) p lt (get_or_default numbers i 0 (get_or numbers i 0) lt) there) [
      | inl old ↦ (h.just p within).1 old
      | inr e ↦ absurd (omega (arith, e))
    ],
  );
}

pub all_flagged : (numbers : List ℕ) (i n : ℕ) (flags : List Bool) → length numbers ≤ i → AreFlagged (take i numbers) n flags → AreFlagged numbers n flags
all_flagged numbers i n flags le h = subst (λ (l : List ℕ). AreFlagged l n flags) (take_all i numbers le) h

-- the numbers whose flags are set are those below n
pub flagged_numbers : (numbers : List ℕ) (n : ℕ) (flags : List Bool) (found : List ℕ) → AreFlagged numbers n flags → AreNumbersOf flags found → (p : ℕ) → (Contains found p ↔ (Contains numbers p × (p < n)))
flagged_numbers numbers n flags found h is p = (
  λ there.
      let was = (is.just_set p).0 there in
      let within : p < n = omega (arith, was.0, h.complete) in ((h.just p within).0 was.1, within),
  λ both. (is.just_set p).1 (omega (arith, both.1, h.complete), (h.just p both.1).1 both.0),
)
