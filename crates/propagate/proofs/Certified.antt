-- What certifies is the greatest cut.
use Rattle.std.proofs.Common.{inl, inr, ℕ, ◌≤◌, ◌<◌, List, length, subst, arith}
use Rattle.std.proofs.lemmas.Bool.{cases_lt}
use Rattle.chains.specs.declared.position.Position.{Position}
use Rattle.chains.specs.Processes.{known}
use Rattle.chains.specs.Held.{Held}
use Rattle.chains.specs.Positions.{position_in, rank}
use Rattle.knows_row.specs.Knowing.{AreLawfulPlaces}
use Rattle.reasons.specs.declared.certificate.Certificate.{Certificate}
use Rattle.reasons.specs.Certificates.{Certifies, IsReasonChain, Falls, positions_of}
use Rattle.propagate.specs.Greatest.{IsGreatestCut, IsConsistentCut}
use Rattle.propagate.proofs.Reasoning.{first_reaches, before_end, reason_of}

-- a consistent cut is not past the position of a process in the line
not_past : (held : Held) (c : Certificate) → AreLawfulPlaces held.accepted → Certifies held c → (d : List Position) → IsConsistentCut held.accepted c.failed d → (p : ℕ) → p < length (known held.accepted)
    → rank held.accepted p (position_in d p) ≤ rank held.accepted p (position_in (positions_of c.line) p)
not_past held c laws h d one p lt = elim (cases_lt (rank held.accepted p (position_in (positions_of c.line) p)) (rank held.accepted p (position_in d p))) [
  | inr ge ↦ ge
  | inl past ↦
      let falls : Falls held.accepted c.failed (positions_of c.line) p = (lt, λ last. omega (arith, past, first_reaches held.accepted c.failed p (position_in d p) (position_in (positions_of c.line) p) (one.is_cut.chosen p lt) last.greatest)) in
      let reason = reason_of held.accepted c.failed (positions_of c.line) p h.reasons.fallen c.reasons h.reasons.each ((h.reasons.just_these p).1 falls) in
      let ends = reason.2 in
      let before = before_end held.accepted laws c.failed d one ends.0 ends.1 (subst (IsReasonChain held.accepted c.failed) ends.2 reason.1) in
      let here = subst (λ (j : ℕ). rank held.accepted j (position_in d j) < rank held.accepted j ends.1.position) ends.3 before in
      absurd (omega (arith, past, here, ends.4))
]

pub certified_is_greatest : (held : Held) (c : Certificate) → AreLawfulPlaces held.accepted → Certifies held c → IsGreatestCut held.accepted c.failed (positions_of c.line)
certified_is_greatest held c laws h = record {
  is_one = record { is_cut = h.cut; consistent = h.consistent };
  greatest = not_past held c laws h;
}
