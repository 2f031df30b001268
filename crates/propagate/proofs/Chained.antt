-- A reason chain with one more place.
use Rattle.std.proofs.Common.{◌≡◌, ◌≢◌, inl, inr, ℕ, ◌+◌, ◌-◌, ◌<◌, List, [], ◌∷◌, ◌++◌, length, sym, ap, ◌∙◌, arith}
use Rattle.std.specs.Prelude.{All, drop}
use Rattle.std.proofs.lemmas.Bool.{cases_lt}
use Rattle.std.proofs.lemmas.List.Elements.{All-nil, All-push, All-head, All-tail}
use Rattle.report_line.specs.declared.report.Report.{Report}
use Rattle.chains.specs.declared.position.Place.{Place}
use Rattle.chains.specs.declared.position.Position.{Position}
use Rattle.chains.specs.declared.position.Position.TheVariants.{At}
use Rattle.chains.specs.Elements.{elements}
use Rattle.chains.specs.Positions.{position_at, place_at, last_rank}
use Rattle.chains.specs.Knowledge.{Knows}
use Rattle.reasons.specs.Certificates.{IsReasonChain, AreLinked, AreDistinct, position_below}
use Rattle.knows_row.proofs.Laws.{at_element, at_end}
use Rattle.knows_row.proofs.Lasts.{last_below}

-- the position below the next place
pub below_next : (accepted : List Report) (q r : ℕ) → r < last_rank accepted q → position_below accepted (place_at accepted q (r + 1)) ≡ position_at accepted q r
below_next accepted q r lt = elim (cases_lt (length (elements accepted q)) (r + 1)) [
  | inl over ↦
      let e : r ≡ length (elements accepted q) = omega (arith, over, lt, last_below accepted q) in
      ap (λ (k : Position). position_below accepted (record { process = q; position = k })) (at_end accepted q (r + 1) over)
      ∙ ap At (sym e) ∙ sym (at_element accepted q r (omega arith))
  | inr le ↦
      let e : (r + 1) - 1 ≡ r = omega arith in
      ap (λ (k : Position). position_below accepted (record { process = q; position = k })) (at_element accepted q (r + 1) le)
      ∙ ap At e ∙ sym (at_element accepted q r (omega arith))
]

module _ (accepted : List Report) (last new : Place) where
  linked_more : (q : ℕ) (k : Position) (front : List Place) → AreLinked accepted q k (front ++ last ∷ []) → Knows accepted new last.process (position_below accepted last)
      → AreLinked accepted q k ((front ++ last ∷ []) ++ new ∷ [])
  linked_more q k [] linked knows = (linked.0, (knows, tt))
  linked_more q k (x ∷ front) linked knows = (linked.0, linked_more x.process (position_below accepted x) front linked.1 knows)

distinct_more : (new : Place) (xs : List Place) → AreDistinct xs → All (λ (y : Place). y ≢ new) xs → AreDistinct (xs ++ new ∷ [])
distinct_more new [] distinct apart = (All-nil (λ (y : Place). new ≢ y), tt)
distinct_more new (x ∷ xs) distinct apart =
    (All-push (λ (y : Place). x ≢ y) xs new distinct.0 (All-head (λ (y : Place). y ≢ new) x xs apart), distinct_more new xs distinct.1 (All-tail (λ (y : Place). y ≢ new) x xs apart))

-- a chain with one more place that knows the last one, and is none of those after the first
pub reason_more : (accepted : List Report) (failed : List ℕ) (front : List Place) (last new : Place) → IsReasonChain accepted failed (front ++ last ∷ [])
    → Knows accepted new last.process (position_below accepted last) → All (λ (y : Place). y ≢ new) (drop 1 (front ++ last ∷ []))
    → IsReasonChain accepted failed ((front ++ last ∷ []) ++ new ∷ [])
reason_more accepted failed [] last new reason knows apart = absurd reason
reason_more accepted failed (first ∷ []) last new reason knows apart =
    (reason.0, reason.1, linked_more accepted last new first.process first.position [] reason.2 knows, distinct_more new (last ∷ []) reason.3 apart)
reason_more accepted failed (first ∷ x ∷ xs) last new reason knows apart =
    (reason.0, reason.1, linked_more accepted last new first.process first.position (x ∷ xs) reason.2 knows, distinct_more new (x ∷ (xs ++ last ∷ [])) reason.3 apart)
