use Rattle.std.proofs.Common.{◌≡◌, ◌≢◌, sym, ◌∙◌, subst, arith, List, ℕ, vec_len}
use Rattle.std.proofs.lemmas.Bool.{eqb-true, eqb-false}
use Rattle.std.proofs.lemmas.Option.{IfSome_then}
use Rattle.propagate.specs.working.Ranks.{AreNextRanks, RanksAfter}
use Rattle.propagate.proofs.Rounding.{sum_falls}
use Rattle.propagate.specs.working.Stages.{IsStanding, AreChosenBy}
use Rattle.propagate.proofs.Cutting.{running_first, running_more, has_changed, has_settled}
use Rattle.propagate.proofs.Choosing.{chosen_first, chosen_still, chosen_more}
use Rattle.propagate.proofs.cut.last_stage.Goals as goal

pub loop-stage-init : goal.loop-stage-init
loop-stage-init c =
    let s = c.in_ok-stage.stage in (
      running_first c.args.chains.now.accepted c.args.surviving_ranks.now s c.new-arena.result
          c.in_ok-stage.ensures.cut c.in_ok-stage.ensures.standing (c.in_ok-stage.ensures.there c.new-arena.result)
          c.in_ok-stage.ensures.from
          (subst (λ (cut : List ℕ). AreChosenBy c.args.chains.now.accepted c.args.surviving_ranks.now 0 cut s.chain_ends.items c.new-arena.result) (sym c.in_ok-stage.ensures.cut)
          (chosen_first c.args.chains.now.accepted c.args.surviving_ranks.now s.chain_ends.items s.fell.items c.new-arena.result
          (subst (λ (cut : List ℕ). IsStanding c.args.chains.now.accepted c.args.surviving_ranks.now cut s.chain_ends.items s.fell.items) c.in_ok-stage.ensures.cut c.in_ok-stage.ensures.standing))),
      IfSome_then c.args.needs c.requires.table (λ n h. (h.0, c.in_ok-stage.ensures.cut ∙ h.1, c.in_ok-stage.ensures.all)),
    )

same : (c : goal.After-drop-stage-then-is_empty) → c.loop-stage.stage.cut.items ≡ c.in_ok-next.next.cut.items
same c =
    let fell = c.in_ok-next.next.fell in
    has_settled c.args.chains.now.accepted c.loop-stage.stage.cut.items c.in_ok-next.next.cut.items fell.items c.in_ok-next.ensures.ranks c.in_ok-next.ensures.fallen
    (omega (arith, fell.ok.0, eqb-true (vec_len fell) 0 (sym c.if-is_empty.ensures)))

pub returns-then-is_empty-clause-rounds : goal.returns-then-is_empty-clause-rounds
returns-then-is_empty-clause-rounds c =
    let rounds = c.loop-stage.invariant.0.rounds in
    let accepted = c.args.chains.now.accepted in
    let surviving_ranks = c.args.surviving_ranks.now in
    let s = c.loop-stage.stage in
    let next = c.in_ok-next.next in (
      rounds.0,
      rounds.1,
      subst (RanksAfter accepted surviving_ranks rounds.0) (same c) rounds.2,
      chosen_still accepted surviving_ranks s.cut.items next.cut.items s.chain_ends.items next.chain_ends.items s.fell.items next.fell.items c.loop-stage.arena c.round.new.arena
          c.loop-stage.invariant.0.stands.standing c.in_ok-next.ensures.stands.standing c.in_ok-next.ensures.ranks c.in_ok-next.ensures.chains rounds.0 (same c) rounds.3,
    )

pub returns-then-is_empty-clause-still : goal.returns-then-is_empty-clause-still
returns-then-is_empty-clause-still c =
    subst (λ (cut : List ℕ). AreNextRanks c.args.chains.now.accepted cut c.in_ok-next.next.cut.items) (same c) c.in_ok-next.ensures.ranks

pub returns-then-is_empty-clause-at_most : goal.returns-then-is_empty-clause-at_most
returns-then-is_empty-clause-at_most c = omega (arith, c.loop-stage.invariant.0.few)

changed : (c : goal.After-drop-stage-in-loop-stage) → c.loop-stage.stage.cut.items ≢ c.in_ok-next.next.cut.items
changed c =
    let fell = c.in_ok-next.next.fell in
    has_changed c.loop-stage.stage.cut.items c.in_ok-next.next.cut.items fell.items c.in_ok-next.ensures.fallen
    (omega (arith, fell.ok.0, eqb-false (vec_len fell) 0 (sym c.if-is_empty.ensures)))

pub overflow_add-rounds : goal.overflow_add-rounds
overflow_add-rounds c = omega (
  arith,
  c.requires.at_most,
  c.loop-stage.invariant.0.few,
  sum_falls c.args.chains.now.accepted c.loop-stage.stage.cut.items c.in_ok-next.next.cut.items c.in_ok-next.ensures.ranks (changed c),
)

pub loop-stage-smaller : goal.loop-stage-smaller
loop-stage-smaller c = sum_falls c.args.chains.now.accepted c.loop-stage.stage.cut.items c.in_ok-next.next.cut.items c.in_ok-next.ensures.ranks (changed c)

pub loop-stage-preserved : goal.loop-stage-preserved
loop-stage-preserved c =
    let s = c.loop-stage.stage in
    let next = c.in_ok-next.next in (
      running_more c.args.chains.now.accepted c.args.surviving_ranks.now s c.loop-stage.arena c.loop-stage.rounds c.loop-stage.invariant.0 next c.round.new.arena c.in_ok-next.ensures (changed c)
          (λ t chosen. chosen_more c.args.chains.now.accepted c.args.surviving_ranks.now s.cut.items next.cut.items s.chain_ends.items next.chain_ends.items s.fell.items next.fell.items c.loop-stage.arena c.round.new.arena
          c.loop-stage.invariant.0.stands.standing c.in_ok-next.ensures.stands.standing c.in_ok-next.ensures.ranks c.in_ok-next.ensures.chains t (changed c) chosen),
      tt,
    )

pub round-requires-clause-table : goal.round-requires-clause-table
round-requires-clause-table c = c.loop-stage.invariant.1
