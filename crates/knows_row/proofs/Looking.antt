-- Looking through the elements of a process, upward and downward.
use Rattle.std.proofs.Common.{◌≡◌, ◌≢◌, inl, inr, ℕ, zero, suc, ◌+◌, ◌-◌, ◌≤◌, ◌<◌, ◌↔◌, false, IsTrue, List, length, Some, refl, sym, ap, subst, ◌∙◌, arith}
use Rattle.std.proofs.lemmas.Bool.{true≢false, cases_lt}
use Rattle.std.proofs.lemmas.Option.{same_Some}
use Rattle.event_tree.specs.EventTree.{EventTree}
use Rattle.event_tree.specs.Values.{ExceedsOn}
use Rattle.stamp.specs.declared.stamp.Stamp.{Stamp}
use Rattle.report_line.specs.declared.report.Report.{Report}
use Rattle.chains.specs.declared.position.Place.{Place}
use Rattle.chains.specs.declared.position.Position.TheVariants.{At}
use Rattle.chains.specs.Elements.{elements, element}
use Rattle.chains.specs.Knowledge.{events_at, Knows}
use Rattle.knows_row.specs.Knowing.{KnowsAt, IsNeed, IsLastKnown}
use Rattle.knows_row.proofs.Laws.{at_from_knows, element_within}
use Rattle.knows_row.specs.working.Beyond.{element_number, IsBeyondAt, IsLastBeyond}

-- beyond none of the elements from `from` on and below `to`
abbrev pub NoneOf : EventTree → List Stamp → ℕ → ℕ → Type 0
NoneOf events stamps from to = (k : ℕ) → from ≤ k → k < to → ¬ IsBeyondAt events stamps k

-- ---- of a place

same_element : (accepted : List Report) (q k : ℕ) → element accepted q k ≡ element_number (elements accepted q) k
same_element accepted q zero = refl
same_element accepted q (suc k) = refl

pub at_from_beyond : (accepted : List Report) (x : Place) (q k : ℕ) (events : EventTree) → q ≢ x.process → events_at accepted x ≡ Some events → IsBeyondAt events (elements accepted q) k → KnowsAt accepted x q k
at_from_beyond accepted x q k events other there h = record {
  other = other;
  stamp = h.stamp;
  is_element = same_element accepted q k ∙ h.is_element;
  beyond = record { events = events; there = there; exceeds = h.exceeds };
}

pub beyond_from_at : (accepted : List Report) (x : Place) (q k : ℕ) (events : EventTree) → events_at accepted x ≡ Some events → KnowsAt accepted x q k → IsBeyondAt events (elements accepted q) k
beyond_from_at accepted x q k events there h = record {
  stamp = h.stamp;
  is_element = sym (same_element accepted q k) ∙ h.is_element;
  exceeds = subst (λ (e : EventTree). ExceedsOn h.stamp.id e h.stamp.events) (same_Some h.beyond.events events (sym h.beyond.there ∙ there)) h.beyond.exceeds;
}

pub knows_none : (accepted : List Report) (x : Place) (q j : ℕ) → ((k : ℕ) → ¬ KnowsAt accepted x q k) → IsTrue false ↔ Knows accepted x q (At j)
knows_none accepted x q j none = (λ yes. absurd (true≢false (sym yes)), λ known. let at = at_from_knows accepted x q j known in absurd (none at.0 at.2))

pub last_from_beyond : (accepted : List Report) (x : Place) (q from to found : ℕ) (events : EventTree) (stamps : List Stamp) → stamps ≡ elements accepted q → q ≢ x.process → events_at accepted x ≡ Some events
    → IsLastBeyond events stamps from to found → IsLastKnown accepted x q from to found
last_from_beyond accepted x q from to found events stamps all other there h = record {
  within = h.within;
  none = λ k le lt known. h.none k le lt (subst (λ (ss : List Stamp). IsBeyondAt events ss k) (sym all) (beyond_from_at accepted x q k events there known));
  last = λ lt. at_from_beyond accepted x q (found - 1) events other there (subst (λ (ss : List Stamp). IsBeyondAt events ss (found - 1)) all (h.last lt));
}

pub last_none : (accepted : List Report) (x : Place) (q from to : ℕ) → ((k : ℕ) → ¬ KnowsAt accepted x q k) → IsLastKnown accepted x q from to 0
last_none accepted x q from to none = record { within = omega arith; none = λ k le lt. none k; last = λ lt. absurd (omega arith) }

-- where the place knows no element from the bound on, the last one known below it is the last of all
pub need_from_last : (accepted : List Report) (x : Place) (q bound found : ℕ) → ((k : ℕ) → bound ≤ k → ¬ KnowsAt accepted x q k) → IsLastKnown accepted x q 0 bound found → IsNeed accepted x q found
need_from_last accepted x q bound found past h = of_number found refl
  where
    none : (k : ℕ) → found ≤ k → ¬ KnowsAt accepted x q k
    none k le known = elim (cases_lt k bound) [
      | inl below ↦ h.none k le below known
      | inr above ↦ past k above known
    ]

    of_number : (n : ℕ) → n ≡ found → IsNeed accepted x q n
    of_number zero e = λ k. none k (omega (arith, e))
    of_number (suc n) e = (
      let at : found - 1 ≡ n = omega (arith, e) in subst (λ (k : ℕ). KnowsAt accepted x q k) at (h.last (omega (arith, e))),
      λ j known. elim (cases_lt n j) [
        | inl above ↦ absurd (none j (omega (arith, above, e)) known)
        | inr le ↦ le
      ],
    )

-- no element has a greater number than there are
pub past_elements : (accepted : List Report) (x : Place) (q n : ℕ) → n ≡ length (elements accepted q) → (k : ℕ) → n + 1 ≤ k → ¬ KnowsAt accepted x q k
past_elements accepted x q n count k le known = let within = element_within accepted q k known.stamp known.is_element in omega arith

-- all elements are below one more than their number
pub need_from_beyond : (accepted : List Report) (x : Place) (q n found : ℕ) (events : EventTree) (stamps : List Stamp) → stamps ≡ elements accepted q → n ≡ length stamps → q ≢ x.process → events_at accepted x ≡ Some events
    → IsLastBeyond events stamps 0 (n + 1) found → IsNeed accepted x q found
need_from_beyond accepted x q n found events stamps all count other there h =
    need_from_last accepted x q (n + 1) found (past_elements accepted x q n (count ∙ ap (λ (ss : List Stamp). length ss) all)) (last_from_beyond accepted x q 0 (n + 1) found events stamps all other there h)
