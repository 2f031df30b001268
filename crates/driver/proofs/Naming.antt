-- The marks of a line by its names alone.
use Rattle.std.proofs.Common.{◌≡◌, ◌≢◌, ℕ, zero, suc, ◌+◌, ◌≤◌, ◌<◌, Bool, true, false, Option, Some, None, if◌then◌else◌, List, [], ◌∷◌, ◌++◌, length, get_or, take, drop, refl, sym, ◌∙◌, ap, subst, inl, inr, arith}
use Rattle.std.specs.Prelude.{slice_get, ◌||◌}
use Rattle.std.specs.List.{list_any}
use Rattle.std.specs.Option.{is_some, option_map, option_or as first_of}
use Rattle.std.specs.Str.{bytes_eq}
use Rattle.std.proofs.Math.Bool.{or-false}
use Rattle.std.proofs.lemmas.Bool.{cases_Bool, cond-true, cond-false, true≢false}
use Rattle.std.proofs.lemmas.List.{map-append, take_more, take_all, take-append-drop, length-map, length-take-le}
use Rattle.std.proofs.lemmas.List.Folds.{list_any-append}
use Rattle.std.proofs.lemmas.Option.{slice_get-map, slice_get-get_or, slice_get_within}
use Rattle.report_line.specs.histories.History.{Name}
use Rattle.law_histories.proofs.Bytes.{bytes_are, bytes_same}
use Rattle.law_lines.proofs.Listed.{at_front}
use Rattle.driver.specs.declared.line.NamedPosition.{NamedPosition}
use Rattle.driver.specs.declared.mark.Mark.{Mark}
use Rattle.driver.specs.Lines.{names_of, IsNamedOnce}
use Rattle.driver.specs.working.Marks.{fresh, named, failing}
use Rattle.driver.proofs.Walked.{after_one}
use Rattle.driver.proofs.Sound.{flipped}

some_mark : (m : Mark) → Some m ≢ None
some_mark m is = cc

same_name : (p q : Name) → Some p ≡ Some q → p ≡ q
same_name p q is = cc

no_name : (p : Name) → (let o : Option Name = None in o ≢ Some p)
no_name p is = cc

-- who has no mark is not named
pub unnamed : (line : List NamedPosition) (j : ℕ) (p : Name) → named line p ≡ None → slice_get (names_of line) j ≡ Some p → ⊥
unnamed [] j p none at = no_name p at
unnamed (x ∷ line) zero p none at =
    some_mark (fresh x.position) (sym (cond-true (bytes_eq p x.name) (Some (fresh x.position)) (named line p) (bytes_same p x.name (sym (same_name x.name p at)))) ∙ none)
unnamed (x ∷ line) (suc j) p none at =
    elim (cases_Bool (bytes_eq p x.name)) [
      | inl same ↦ some_mark (fresh x.position) (sym (cond-true (bytes_eq p x.name) (Some (fresh x.position)) (named line p) same) ∙ none)
      | inr other ↦ unnamed line j p (sym (cond-false (bytes_eq p x.name) (Some (fresh x.position)) (named line p) other) ∙ none) at
    ]

-- and who has one is
pub is_named : (line : List NamedPosition) (p : Name) (m : Mark) → named line p ≡ Some m → (j : ℕ) × (slice_get (names_of line) j ≡ Some p)
is_named [] p m at = absurd (some_mark m (sym at))
is_named (x ∷ line) p m at =
    elim (cases_Bool (bytes_eq p x.name)) [
      | inl same ↦ (0, ap Some (sym (bytes_are p x.name same)))
      | inr other ↦ (let w = is_named line p m (sym (cond-false (bytes_eq p x.name) (Some (fresh x.position)) (named line p) other) ∙ at) in (suc w.0, w.1))
    ]

-- ---- one more name

named_push : (line : List NamedPosition) (x : NamedPosition) (p : Name) → named (line ++ x ∷ []) p ≡ first_of (named line p) (if bytes_eq p x.name then Some (fresh x.position) else None)
named_push [] x p = refl
named_push (y ∷ line) x p =
    elim (cases_Bool (bytes_eq p y.name)) [
      | inl same ↦
          cond-true (bytes_eq p y.name) (Some (fresh y.position)) (named (line ++ x ∷ []) p) same
          ∙ ap (λ o. first_of o (if bytes_eq p x.name then Some (fresh x.position) else None)) (sym (cond-true (bytes_eq p y.name) (Some (fresh y.position)) (named line p) same))
      | inr other ↦
          cond-false (bytes_eq p y.name) (Some (fresh y.position)) (named (line ++ x ∷ []) p) other
          ∙ (named_push line x p
          ∙ ap (λ o. first_of o (if bytes_eq p x.name then Some (fresh x.position) else None)) (sym (cond-false (bytes_eq p y.name) (Some (fresh y.position)) (named line p) other)))
    ]

none_first : (o : Option Mark) → first_of o None ≡ o
none_first None = refl
none_first (Some m) = refl

once_push : (line : List NamedPosition) (x : NamedPosition) → IsNamedOnce line → named line x.name ≡ None → IsNamedOnce (line ++ x ∷ [])
once_push line x once none i j p at_i at_j =
    let names : names_of (line ++ x ∷ []) ≡ names_of line ++ x.name ∷ [] = map-append (λ (y : NamedPosition). y.name) line (x ∷ []) in
    let none_there : (k : ℕ) → slice_get (names_of line) k ≡ Some p → x.name ≡ p → ⊥ = λ k at same. unnamed line k x.name none (at ∙ ap Some (sym same)) in
    elim (after_one (names_of line) x.name p i (subst (λ (l : List Name). slice_get l i ≡ Some p) names at_i)) [
      | inl old_i ↦ elim (after_one (names_of line) x.name p j (subst (λ (l : List Name). slice_get l j ≡ Some p) names at_j)) [
        | inl old_j ↦ once i j p old_i old_j
        | inr new_j ↦ absurd (none_there i old_i new_j.1)
      ]
      | inr new_i ↦ elim (after_one (names_of line) x.name p j (subst (λ (l : List Name). slice_get l j ≡ Some p) names at_j)) [
        | inl old_j ↦ absurd (none_there j old_j new_i.1)
        | inr new_j ↦ new_i.0 ∙ sym new_j.0
      ]
    ]

module _ (line : List NamedPosition) (i : ℕ) (x : NamedPosition) (lt : i < length line) (is : x ≡ get_or line i x) where
  more_line : take (i + 1) line ≡ take i line ++ x ∷ []
  more_line = take_more line i x lt ∙ ap (λ (y : NamedPosition). take i line ++ y ∷ []) (sym is)

  pub still_once : IsNamedOnce (take i line) → named (take i line) x.name ≡ None → IsNamedOnce (take (i + 1) line)
  still_once once none = subst IsNamedOnce (sym more_line) (once_push (take i line) x once none)

  pub named_more : (p : Name) (before after : Option Mark) → before ≡ named (take i line) p → named (take i line) x.name ≡ None
      → after ≡ (if bytes_eq x.name p then Some (fresh x.position) else before) → after ≡ named (take (i + 1) line) p
  named_more p before after is_before none is_after =
      is_after
      ∙ (ap (λ (b : Bool). if b then Some (fresh x.position) else before) (flipped x.name p)
      ∙ (ap (λ (o : Option Mark). if bytes_eq p x.name then Some (fresh x.position) else o) is_before
      ∙ (first_or p
      ∙ (sym (named_push (take i line) x p) ∙ ap (λ (l : List NamedPosition). named l p) (sym more_line)))))
    where
      first_or : (q : Name) → (if bytes_eq q x.name then Some (fresh x.position) else named (take i line) q) ≡ first_of (named (take i line) q) (if bytes_eq q x.name then Some (fresh x.position) else None)
      first_or q =
          elim (cases_Bool (bytes_eq q x.name)) [
            | inl same ↦
                cond-true (bytes_eq q x.name) (Some (fresh x.position)) (named (take i line) q) same
                ∙ sym (ap (λ (b : Bool). first_of (named (take i line) q) (if b then Some (fresh x.position) else None)) same
                ∙ ap (λ (o : Option Mark). first_of o (Some (fresh x.position))) (ap (named (take i line)) (bytes_are q x.name same) ∙ none))
            | inr other ↦
                cond-false (bytes_eq q x.name) (Some (fresh x.position)) (named (take i line) q) other
                ∙ sym (ap (λ (b : Bool). first_of (named (take i line) q) (if b then Some (fresh x.position) else None)) other ∙ none_first (named (take i line) q))
          ]

  pub named_twice : (m : Mark) → named (take i line) x.name ≡ Some m → ¬ IsNamedOnce line
  named_twice m at once =
      let there = is_named (take i line) x.name m at in
      let lt' : there.0 < length (names_of (take i line)) = slice_get_within (names_of (take i line)) there.0 x.name there.1 in
      let few : length (names_of (take i line)) ≡ length (take i line) = length-map (take i line) (λ (y : NamedPosition). y.name) in
      let front : length (take i line) ≡ i = length-take-le i line (omega arith) in
      let parts : names_of (take i line) ++ names_of (drop i line) ≡ names_of line = sym (map-append (λ (y : NamedPosition). y.name) (take i line) (drop i line)) ∙ ap names_of (take-append-drop i line) in
      let first : slice_get (names_of line) there.0 ≡ Some x.name =
      subst (λ (l : List Name). slice_get l there.0 ≡ Some x.name) parts (at_front (names_of (take i line)) (names_of (drop i line)) there.0 x.name there.1) in
      let second : slice_get (names_of line) i ≡ Some x.name =
      slice_get-map (λ (y : NamedPosition). y.name) line i ∙ ap (λ (o : Option NamedPosition). option_map (λ y. y.name) o) (slice_get-get_or line i x lt ∙ ap Some (sym is)) in
      let same : there.0 ≡ i = once there.0 i x.name first second in
      omega arith

  -- by what a look-up told
  pub twice_by : (b : Bool) (found : Option Mark) → found ≡ named (take i line) x.name → b ≡ is_some found → b ≡ true → ¬ IsNamedOnce line
  twice_by b None is told holds = absurd (true≢false (sym holds ∙ told))
  twice_by b (Some m) is told holds = named_twice m (sym is)

  pub none_by : (b : Bool) (found : Option Mark) → found ≡ named (take i line) x.name → b ≡ is_some found → b ≡ false → named (take i line) x.name ≡ None
  none_by b None is told not = sym is
  none_by b (Some m) is told not = absurd (true≢false (sym told ∙ not))

pub all_once : (line : List NamedPosition) (i : ℕ) → length line ≤ i → IsNamedOnce (take i line) → IsNamedOnce line
all_once line i past once = subst IsNamedOnce (take_all i line past) once

-- ---- failed processes

pub mapped : (f g k : Mark → Mark) (o : Option Mark) → ((m : Mark) → f (g m) ≡ k m) → option_map f (option_map g o) ≡ option_map k o
mapped f g k None same = refl
mapped f g k (Some m) same = ap Some (same m)

failed_by : (a b : Bool) (m : Mark) → (if b then record (if a then record m { failed = true } else m) { failed = true } else (if a then record m { failed = true } else m)) ≡ (if a || b then record m { failed = true } else m)
failed_by true true m = refl
failed_by true false m = refl
failed_by false true m = refl
failed_by false false m = refl

failing_push : (names : List Name) (q p : Name) (m : Mark) → (if bytes_eq q p then record (failing names p m) { failed = true } else failing names p m) ≡ failing (names ++ q ∷ []) p m
failing_push names q p m =
    ap (λ (b : Bool). if b then record (failing names p m) { failed = true } else failing names p m) (flipped q p)
    ∙ (failed_by (list_any (bytes_eq p) names) (bytes_eq p q) m
    ∙ ap (λ (b : Bool). if b then record m { failed = true } else m)
    (sym (list_any-append (bytes_eq p) names (q ∷ []) ∙ ap (λ (b : Bool). list_any (bytes_eq p) names || b) (or-false (bytes_eq p q)))))

pub failing_none : (p : Name) (o : Option Mark) → o ≡ option_map (failing [] p) o
failing_none p None = refl
failing_none p (Some m) = refl

pub failing_more : (names : List Name) (i : ℕ) (q p : Name) (first before after : Option Mark) → i < length names → q ≡ get_or names i q → before ≡ option_map (failing (take i names) p) first
    → after ≡ option_map (λ m. if bytes_eq q p then record m { failed = true } else m) before → after ≡ option_map (failing (take (i + 1) names) p) first
failing_more names i q p first before after lt is is_before is_after =
    is_after
    ∙ (ap (option_map (λ m. if bytes_eq q p then record m { failed = true } else m)) is_before
    ∙ (mapped (λ m. if bytes_eq q p then record m { failed = true } else m) (failing (take i names) p) (failing (take i names ++ q ∷ []) p) first (failing_push (take i names) q p)
    ∙ ap (λ (l : List Name). option_map (failing l p) first) (sym (take_more names i q lt ∙ ap (λ (y : Name). take i names ++ y ∷ []) (sym is)))))

pub all_failing : (names : List Name) (i : ℕ) (p : Name) (first now : Option Mark) → length names ≤ i → now ≡ option_map (failing (take i names) p) first → now ≡ option_map (failing names p) first
all_failing names i p first now past is = is ∙ ap (λ (l : List Name). option_map (failing l p) first) (take_all i names past)
