use Rattle.std.proofs.Common.{◌≡◌, ap, sym, subst, ◌∙◌, arith}
use Rattle.knows_row.proofs.Lawful.{lawful}
use Rattle.reasons.specs.Certificates.{positions_of}
use Rattle.propagate.specs.Greatest.{IsGreatestCut}
use Rattle.propagate.specs.working.Ranks.{positions_from, places_from}
use Rattle.propagate.specs.Rounds.{AreSurvivingRanks}
use Rattle.propagate.proofs.Rounding.{settled_is_greatest}
use Rattle.propagate.proofs.Cutting.{few_tops, line_in_order, line_positions}
use Rattle.propagate.proofs.cut.reach.Goals as goal

pub last_stage-requires-clause-at_most : goal.last_stage-requires-clause-at_most
last_stage-requires-clause-at_most c =
    rw c.deref-2.ensures.value (few_tops c.in_ok-surviving_ranks.surviving_ranks.items (omega (arith, c.in_ok-surviving_ranks.ensures.surviving_ranks.complete, c.recall_lawful.ensures.known_at_most)) c.in_ok-surviving_ranks.ensures.at_most)

pub last_stage-requires-clause-table : goal.last_stage-requires-clause-table
last_stage-requires-clause-table c = rw (c.deref-2.ensures.value ∙ sym c.deref.ensures.value) (c.at_last.ensures c.args.chains.now.accepted c.requires)

pub returns : goal.returns
returns c =
    let accepted = c.args.chains.now.accepted in
    let failed = c.args.failed.now in
    let last = c.in_ok-last.last in
    let cut = last.stage.cut.items in
    let rounds = c.in_ok-last.ensures.rounds in
    let surviving_ranks : AreSurvivingRanks accepted failed c.deref-2.result.now = subst (AreSurvivingRanks accepted failed) (sym c.deref-2.ensures.value) c.in_ok-surviving_ranks.ensures.surviving_ranks in
    let line : c.in_ok-line.line ≡ places_from accepted 0 cut = c.in_ok-line.ensures ∙ ap (places_from accepted 0) c.deref-3.ensures.value in
    let positions : positions_from accepted 0 cut ≡ positions_of c.in_ok-line.line = sym (line_positions accepted cut c.in_ok-line.line line) in
    let same : c.deref-2.result.now ≡ c.in_ok-surviving_ranks.surviving_ranks.items = c.deref-2.ensures.value in
    record {
      surviving_ranks = c.in_ok-surviving_ranks.ensures.surviving_ranks;
      stands = rw same at c.in_ok-last.ensures.stands;
      rounds = rw same at rounds;
      still = c.in_ok-last.ensures.still;
      few = rw same at c.in_ok-last.ensures.at_most;
      in_order = line_in_order accepted cut c.in_ok-line.line c.in_ok-last.ensures.stands.standing.complete line;
      positions = positions;
      line = subst (IsGreatestCut accepted failed) positions (settled_is_greatest accepted failed c.deref-2.result.now cut rounds.0 (lawful accepted c.recall_lawful.ensures.folded) surviving_ranks rounds.2 c.in_ok-last.ensures.still);
    }
