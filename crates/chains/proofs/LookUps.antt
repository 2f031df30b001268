-- Looking a process up by its name.
use Rattle.std.proofs.Common.{◌≡◌, ℕ, ◌<◌, ◌∷◌, ◌++◌, false, List, [], length, get_or, All, Some, position, sym, ap, subst, ◌∙◌, append_assoc}
use Rattle.std.specs.Prelude.{nat_eq}
use Rattle.std.specs.List.{list_any}
use Rattle.std.specs.Cmp.Lexicographic.{pointwise, nat_list_eq_equiv}
use Rattle.std.proofs.lemmas.Bool.{true≢false}
use Rattle.std.proofs.lemmas.Map.Views.{list_any-from_Contains}
use Rattle.std.proofs.lemmas.List.Quantifiers.{position-Some}
use Rattle.std.proofs.lemmas.List.{append-nil}
use Rattle.std.proofs.lemmas.List.Elements.{All-push, All-from_recursion}
use Rattle.std.proofs.lemmas.Option.{slice_get_within, get_or_from_slice_get}
use Rattle.std.proofs.lemmas.Slice.Eq.{bytes_eq-Decides}
use Rattle.report_line.specs.declared.report.Report.{Report}
use Rattle.chains.specs.Processes.{Name, known, IsKnown}
use Rattle.chains.specs.Elements.{name_of}
use Rattle.chains.specs.Failures.{IsFirstUnknown}

-- a name that is not found is not known
pub absent : (keys : List Name) (accepted : List Report) (p : Name) → keys ≡ known accepted → list_any (pointwise nat_eq p) keys ≡ false → ¬ IsKnown accepted p
absent keys accepted p e none there = true≢false (sym (list_any-from_Contains nat_list_eq_equiv p (known accepted) there) ∙ ap (list_any (pointwise nat_eq p)) (sym e) ∙ none)

-- what a name is found at is it
pub found_name : (keys : List Name) (accepted : List Report) (p : Name) (i : ℕ) → keys ≡ known accepted → position (pointwise nat_eq p) keys ≡ Some i → (i < length (known accepted)) × (get_or (known accepted) i p ≡ p)
found_name keys accepted p i e at =
    let there = position-Some (pointwise nat_eq p) (known accepted) i p (subst (λ (ks : List Name). position (pointwise nat_eq p) ks ≡ Some i) e at) in
    (there.0, sym ((bytes_eq-Decides p (get_or (known accepted) i p)).0 there.1))

-- a name that a number was found for is known
pub known_from : (accepted : List Report) (i : ℕ) (p : Name) → name_of accepted i ≡ Some p → IsKnown accepted p
known_from accepted i p h = (i, slice_get_within (known accepted) i p h, get_or_from_slice_get (known accepted) i p p h)

-- ---- names, one after the other

-- the names that were taken are known, with those that are left
pub record AreKnownBefore (accepted : List Report) (names left : List Name) : Type 0 where
  pub front : List Name
  pub parts : names ≡ front ++ left
  pub known_front : All (IsKnown accepted) front

pub none_taken : (accepted : List Report) (names left : List Name) → left ≡ names → AreKnownBefore accepted names left
none_taken accepted names left all = record { front = []; parts = sym all; known_front = All-from_recursion (IsKnown accepted) [] tt }

pub one_taken : (accepted : List Report) (names left : List Name) (q : Name) (behind : List Name) → AreKnownBefore accepted names left → left ≡ q ∷ behind → IsKnown accepted q → AreKnownBefore accepted names behind
one_taken accepted names left q behind h is new = record {
  front = h.front ++ q ∷ [];
  parts = h.parts ∙ ap (λ (l : List Name). h.front ++ l) is ∙ sym (append_assoc h.front (q ∷ []) behind);
  known_front = All-push (IsKnown accepted) h.front q h.known_front new;
}

pub unknown_next : (accepted : List Report) (names left : List Name) (q : Name) (behind : List Name) → AreKnownBefore accepted names left → left ≡ q ∷ behind → ¬ IsKnown accepted q → IsFirstUnknown accepted names q
unknown_next accepted names left q behind h is new = record { front = h.front; rest = behind; parts = h.parts ∙ ap (λ (l : List Name). h.front ++ l) is; known_front = h.known_front; unknown = new }

pub all_taken : (accepted : List Report) (names left : List Name) → AreKnownBefore accepted names left → left ≡ [] → All (IsKnown accepted) names
all_taken accepted names left h none = subst (λ (l : List Name). All (IsKnown accepted) l) (sym (h.parts ∙ ap (λ (l : List Name). h.front ++ l) none ∙ append-nil h.front)) h.known_front
