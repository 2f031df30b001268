-- What is known where the rounds end.
use Rattle.std.proofs.Common.{◌≡◌, ap, sym, subst, ◌∙◌, arith, List, ℕ, ◌+◌, sum}
use Rattle.report_line.specs.declared.report.Report.{Report}
use Rattle.chains.specs.declared.position.Place.{Place}
use Rattle.chains.specs.Folded.{IsFolded}
use Rattle.knows_row.proofs.Lawful.{lawful}
use Rattle.reasons.specs.Certificates.{AreReasons, positions_of}
use Rattle.law_lines.proofs.Lines.{line_of_histories}
use Rattle.propagate.specs.declared.cut.Reached.{Reached}
use Rattle.propagate.specs.working.Ranks.{IsStage}
use Rattle.propagate.specs.Rounds.{AreRounds}
use Rattle.propagate.specs.Choice.{AreChosen, ChainsAfter}
use Rattle.propagate.specs.working.Stages.{chains_at, needed_chains, shown}
use Rattle.propagate.specs.working.Reached.{IsReached}
use Rattle.propagate.specs.Cuts.{IsGreatestLine, IsCutFor}
use Rattle.propagate.proofs.Grounding.{are_reasons}
use Rattle.propagate.proofs.Rounding.{are_rounds}
use Rattle.propagate.proofs.Cutting.{same_tops, stage_of}
use Rattle.propagate.proofs.Choosing.{given_reasons}

pub line_reached : (accepted : List Report) (failed : List ℕ) (r : Reached) → IsFolded accepted → IsReached accepted failed r → IsGreatestLine accepted failed r.line
line_reached accepted failed r folded h = record {
  in_order = h.in_order;
  line = h.line;
  of_histories = line_of_histories accepted failed (positions_of r.line) folded h.line;
}

module _ (accepted : List Report) (failed : List ℕ) (r : Reached) (folded : IsFolded accepted) (h : IsReached accepted failed r) where
  abbrev cut : List ℕ
  cut = r.last.stage.cut.items

  abbrev chains : List (List Place)
  chains = chains_at r.last.arena r.last.stage.chain_ends.items

  stage : IsStage accepted failed r.surviving_ranks.items cut chains
  stage = stage_of accepted failed r.surviving_ranks.items cut r.last.stage.chain_ends.items r.last.stage.fell.items r.last.arena h.surviving_ranks h.stands.standing h.stands.grounded

  rounds : AreRounds accepted failed r.last.rounds (positions_of r.line)
  rounds =
      subst (λ (n : ℕ). AreRounds accepted failed n (positions_of r.line)) (sym h.rounds.1)
      (subst (AreRounds accepted failed (h.rounds.0 + 1)) h.positions (are_rounds accepted failed r.surviving_ranks.items cut h.rounds.0 (lawful accepted folded) h.surviving_ranks h.rounds.2 h.still))

  module _ (reasons : List (List Place)) (due : reasons ≡ needed_chains r.surviving_ranks.items cut chains) where
    reasons_are : AreReasons accepted failed (positions_of r.line) reasons
    reasons_are =
        subst (λ (rs : List (List Place)). AreReasons accepted failed (positions_of r.line) rs) (sym due)
        (subst (λ positions. AreReasons accepted failed positions (needed_chains r.surviving_ranks.items cut chains)) h.positions (are_reasons accepted failed r.surviving_ranks.items cut chains h.surviving_ranks stage))

    chosen : AreChosen accepted failed r.line reasons r.last.rounds
    chosen = record {
      in_order = h.in_order;
      changing = h.rounds.0;
      counted = h.rounds.1;
      chains = shown r.surviving_ranks.items cut chains;
      after = subst (λ positions. ChainsAfter accepted failed h.rounds.0 positions (shown r.surviving_ranks.items cut chains)) h.positions (h.rounds.3 failed h.surviving_ranks);
      settled = rounds.3;
      reasons_are = due ∙ given_reasons accepted failed r.surviving_ranks.items cut chains stage;
    }

    pub cut_reached : IsCutFor accepted failed (record { line = r.line; reasons = reasons; rounds = r.last.rounds })
    cut_reached =
        let line = line_reached accepted failed r folded h in
        record {
          in_order = line.in_order;
          line = line.line;
          of_histories = line.of_histories;
          reasons = reasons_are;
          rounds = rounds;
          chosen = chosen;
          few = λ ts tops_of. omega (arith, h.few, ap sum (same_tops accepted failed ts r.surviving_ranks.items tops_of h.surviving_ranks));
        }
