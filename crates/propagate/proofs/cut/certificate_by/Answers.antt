use Rattle.std.proofs.Common.{◌≡◌, ◌<◌, ◌↔◌, sym, subst, ◌∙◌, List, ℕ, length, Contains}
use Rattle.chains.specs.Processes.{known}
use Rattle.std.specs.List.Sorted.{IsStrictlyIncreasing}
use Rattle.chains.specs.Positions.{IsCut}
use Rattle.reasons.specs.Certificates.{AreReasons, positions_of}
use Rattle.law_lines.specs.Headline.{IsLineOfHistories}
use Rattle.propagate.specs.Choice.{AreChosen}
use Rattle.propagate.proofs.cut.certificate_by.Goals as goal

module _ (c : goal.After-front) where
  failed : c.in_ok-failed.failed ≡ c.from_vec.result
  failed = sym (c.from_vec.ensures ∙ c.into_numbers.ensures.numbers)

  just_these : (p : ℕ) → (Contains c.from_vec.result p ↔ (Contains c.args.failed.now p × (p < length (known c.args.chains.now.accepted))))
  just_these = subst (λ (ps : List ℕ). (p : ℕ) → (Contains ps p ↔ (Contains c.args.failed.now p × (p < length (known c.args.chains.now.accepted))))) failed c.in_ok-failed.ensures

pub returns : goal.returns
returns c =
    let accepted = c.args.chains.now.accepted in
    let cut = c.in_ok-cut.cut in
    let found = c.in_ok-cut.ensures in
    let rises = subst IsStrictlyIncreasing (sym c.from_vec.ensures) c.into_numbers.ensures.in_order in
    record {
      certifies = record {
        front = c.front.ensures;
        failed = rises;
        known_failed = λ p there. ((just_these c p).0 there).1;
        in_order = found.in_order;
        cut = subst (λ (ps : List ℕ). IsCut accepted ps (positions_of cut.line)) (failed c) found.line.is_one.is_cut;
        consistent = found.line.is_one.consistent;
        reasons = subst (λ (ps : List ℕ). AreReasons accepted ps (positions_of cut.line) cut.reasons) (failed c) found.reasons;
      };
      of_histories = subst (λ (ps : List ℕ). IsLineOfHistories accepted ps (positions_of cut.line)) (failed c) found.of_histories;
      failed = just_these c;
      chosen = record {
        front = c.front.ensures;
        in_order = rises;
        just_these = just_these c;
        rounds = cut.rounds;
        chosen = subst (λ (ps : List ℕ). AreChosen accepted ps cut.line cut.reasons cut.rounds) (failed c) found.chosen;
      };
    }
