-- How a process goes down to a rank that is clear.
use Rattle.std.proofs.Common.{◌≡◌, inl, inr, ℕ, ◌+◌, ◌≤◌, ◌<◌, List, length, Option, Some, None, sym, ap, ◌∙◌, subst, arith}
use Rattle.std.specs.Prelude.{slice_index, Contains, MatchOption}
use Rattle.std.proofs.lemmas.Bool.{cases_lt}
use Rattle.report_line.specs.declared.report.Report.{Report}
use Rattle.chains.specs.Positions.{last_rank}
use Rattle.knows_row.specs.Knowing.{KnowsRank, AreLawfulPlaces}
use Rattle.propagate.specs.working.Ranks.{IsClearBut, IsClearRank, IsNextRank, IsCauseOf}
use Rattle.propagate.specs.working.Brackets.{IsBracket}
use Rattle.propagate.specs.declared.falls.Bracket.{Bracket}
use Rattle.chains.specs.Processes.{known}
use Rattle.knows_row.specs.Looks.{IsFirstKnown, KnowsOne, last_ranks}
use Rattle.knows_row.specs.Needs.{IsUnknownAtLast}
use Rattle.knows_row.proofs.Lasts.{lasts_len, last_at}
use Rattle.propagate.proofs.Rounding.{clear_of_fallen}

module _ (accepted : List Report) (fell cut : List ℕ) (p rank : ℕ) where
  module _ (laws : AreLawfulPlaces accepted) (but : IsClearBut accepted fell cut) (known_one : p < length cut) (top : slice_index cut p ≤ last_rank accepted p) where
    -- where none of those that fell is known, the rank is clear
    pub look_clear : rank ≤ slice_index cut p → ¬ KnowsOne accepted fell cut p rank → IsClearRank accepted cut p rank
    look_clear within none = clear_of_fallen accepted fell cut p rank laws but known_one within top (λ q fallen lt knows. none (q, fallen, knows))

    -- where one is known, no rank from there on is clear
    pub unclear_above : ((q : ℕ) → Contains fell q → q < length cut) → KnowsOne accepted fell cut p rank → (j : ℕ) → rank ≤ j → j ≤ slice_index cut p → ¬ IsClearRank accepted cut p j
    unclear_above within one j past least clear = clear one.0 (within one.0 one.1) (laws.later p rank j one.0 (slice_index cut one.0) past (omega (arith, least, top)) one.2)

    -- a clear rank right below one that is not is the next one
    pub next_below : ((q : ℕ) → Contains fell q → q < length cut) → (b : Bracket) → b.high ≡ rank → b.high ≡ b.low + 1 → IsBracket accepted fell cut p b → IsNextRank accepted cut p b.low
    next_below within b here close h = record {
      before = omega (arith, h.order, h.within);
      clear = h.clear;
      greatest = λ j past least. unclear_above within (subst (KnowsOne accepted fell cut p) here h.known) j (omega (arith, past, close, here)) least;
    }

    -- the first known of the processes that fell is the first of all
    first_of_all : (q : ℕ) → rank ≤ slice_index cut p → IsFirstKnown accepted fell cut p rank q → (j : ℕ) → j < length cut → KnowsRank accepted p rank j (slice_index cut j) → q ≤ j
    first_of_all q le h j lt knows = elim (cases_lt j q) [
      | inl before ↦ absurd (but p j known_one lt (λ fallen. let past = h.first j fallen knows in omega arith) (laws.later p rank (slice_index cut p) j (slice_index cut j) le top knows))
      | inr past ↦ past
    ]

-- nothing is known at rank 0
pub unborn_knows_none : (accepted : List Report) (fell cut : List ℕ) (p rank : ℕ) → AreLawfulPlaces accepted → rank ≤ 0 → ¬ KnowsOne accepted fell cut p rank
unborn_knows_none accepted fell cut p rank laws low one = laws.unborn p one.0 (slice_index cut one.0) (subst (λ (r : ℕ). KnowsRank accepted p r one.0 (slice_index cut one.0)) (omega (arith, low)) one.2)

-- what is found above the next rank is the cause
pub cause_of : (accepted : List Report) (fell cut : List ℕ) (p r : ℕ) → AreLawfulPlaces accepted → IsClearBut accepted fell cut → p < length cut → slice_index cut p ≤ last_rank accepted p
    → r < slice_index cut p → KnowsOne accepted fell cut p (r + 1) → (found : Option ℕ)
    → MatchOption found ((q : ℕ) → Contains fell q → ¬ KnowsRank accepted p (r + 1) q (slice_index cut q)) (λ q. (q < length cut) × IsFirstKnown accepted fell cut p (r + 1) q) → IsCauseOf accepted cut p r found
cause_of accepted fell cut p r laws but pin top below one None none = absurd (none one.0 one.1 one.2)
cause_of accepted fell cut p r laws but pin top below one (Some q) first = (below, first.0, first.1.known, first_of_all accepted fell cut p (r + 1) laws but pin top q (omega (arith, below)) first.1)

-- a rank that is clear is the next one
pub clear_stays : (accepted : List Report) (cut : List ℕ) (p r : ℕ) → r ≡ slice_index cut p → IsClearRank accepted cut p (slice_index cut p) → IsNextRank accepted cut p r
clear_stays accepted cut p r e clear = record {
  before = omega (arith, e);
  clear = subst (IsClearRank accepted cut p) (sym e) clear;
  greatest = λ j past within. absurd (omega (arith, e, past, within));
}

-- where the last place knows nothing, it is clear in the cut of the last places
pub clear_at_last : (accepted other : List Report) (cut : List ℕ) (p : ℕ) → other ≡ accepted → cut ≡ last_ranks accepted → p < length cut
    → ((q : ℕ) → q < length (known other) → IsUnknownAtLast other p q) → IsClearRank accepted cut p (slice_index cut p)
clear_at_last accepted other cut p same are_lasts pin unknown q qin knows =
    let count : length cut ≡ length (known accepted) = ap length are_lasts ∙ lasts_len accepted in
    let here : slice_index cut p ≡ last_rank accepted p = ap (λ (xs : List ℕ). slice_index xs p) are_lasts ∙ last_at accepted p (omega (arith, pin, count)) in
    let there : slice_index cut q ≡ last_rank accepted q = ap (λ (xs : List ℕ). slice_index xs q) are_lasts ∙ last_at accepted q (omega (arith, qin, count)) in
    let none : IsUnknownAtLast accepted p q = subst (λ (rs : List Report). IsUnknownAtLast rs p q) same (unknown q (omega (arith, qin, count, ap (λ (rs : List Report). length (known rs)) same))) in
    none (subst (λ (k : ℕ). KnowsRank accepted p (last_rank accepted p) q k) there (subst (λ (x : ℕ). KnowsRank accepted p x q (slice_index cut q)) here knows))
