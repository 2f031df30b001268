use Rattle.std.proofs.Common.{◌≡◌, ◌<◌, ◌++◌, List, [], length, ap, sym, ◌∙◌, append_assoc, append-nil, arith}
use Rattle.std.proofs.lemmas.List.{get_or_default}
use Rattle.chains.specs.declared.position.Place.{Place}
use Rattle.propagate.specs.working.Ranks.{IsNextRank}
use Rattle.propagate.proofs.Staging.{next_none, next_fallen, next_stays, next_ranks, next_fell, next_standing, next_lowered, heads_none, heads_more, heads_there, heads_grounded, there_grown, grounded_grown}
use Rattle.propagate.proofs.Choosing.{chains_more}
use Rattle.propagate.proofs.rounds.round_by.Goals.{then-low-index+in_ok-push, else-low-index}
use Rattle.propagate.proofs.rounds.round_by.Goals as goal

pub loop-process-init : goal.loop-process-init
loop-process-init c = rw (c.in_ok-cut.ensures.items, c.in_ok-chain_ends.ensures.items, c.new-fell.ensures.items) (record {
  ranks = next_none c.args.chains.now.accepted c.args.stage.now.cut.items;
  chain_ends = heads_none c.args.chains.now.accepted c.args.surviving_ranks.now c.args.stage.now.cut.items c.args.arena.now;
  stands = c.requires.stands;
  more = ([], sym (append-nil c.args.arena.now));
  chains = λ p lt. absurd (omega (arith, lt));
})

pub loop-process-preserved : goal.loop-process-preserved
loop-process-preserved c =
    let accepted = c.args.chains.now.accepted in
    let surviving_ranks = c.args.surviving_ranks.now in
    let cut = c.args.stage.now.cut.items in
    let i = c.loop-process.process in
    let next = c.loop-process.cut.items in
    let r = c.lower-low.result.rank in
    let was = c.loop-process.invariant in
    let more = c.in_ok-head.ensures.more in
    let lt : i < length cut = omega (arith, c.loop-process-test.true, c.count-process-end.ensures, c.requires.stands.standing.complete) in
    let here = c.index.ensures ∙ get_or_default cut i c.index.result.now 0 lt in
    let rank : IsNextRank accepted cut i r = c.lower-low.ensures.rank in
    rw (c.in_ok-push-2.ensures.items, c.in_ok-push-3.ensures.items) (record {
      ranks = elim c.if-low-index.branch [
        | then-low-index+in_ok-push w ↦ rw (w.fell-is, w.in_ok-push.ensures.items) (next_fallen accepted cut i next c.loop-process.fell.items r was.ranks rank (omega (arith, w.if-low-index.true, here)))
        | else-low-index w ↦ rw w.fell-is (next_stays accepted cut i next c.loop-process.fell.items r was.ranks rank (omega (arith, w.if-low-index.false, here)))
      ];
      chain_ends = heads_more accepted surviving_ranks cut i next c.loop-process.chain_ends.items c.loop-process.arena more.0 c.next_head.new.arena r c.in_ok-head.head was.chain_ends was.ranks.complete more.1
          c.in_ok-head.ensures.there c.in_ok-head.ensures.grounded;
      stands = record {
        standing = was.stands.standing;
        grounded = grounded_grown accepted surviving_ranks cut c.args.stage.now.chain_ends.items c.loop-process.arena more.0 c.next_head.new.arena more.1 was.stands.standing.headed was.stands.there was.stands.grounded;
        there = there_grown surviving_ranks cut c.args.stage.now.chain_ends.items c.loop-process.arena more.0 c.next_head.new.arena more.1 was.stands.there;
      };
      more = (was.more.0 ++ more.0, more.1 ∙ ap (λ (xs : List (List Place)). xs ++ more.0) was.more.1 ∙ append_assoc c.args.arena.now was.more.0 more.0);
      chains = chains_more accepted surviving_ranks cut c.args.stage.now.chain_ends.items c.args.arena.now c.requires.stands.standing.surviving i next c.loop-process.chain_ends.items c.loop-process.arena more.0 c.next_head.new.arena was.more.0
          r c.in_ok-head.head lt was.ranks.complete was.chain_ends.complete c.requires.stands.there was.more.1 more.1 was.chain_ends.there was.chains c.in_ok-head.ensures.chain;
    })

-- all processes were looked at
all_done : (c : goal.After-loop-process) → c.loop-process.process ≡ length c.args.stage.now.cut.items
all_done c = omega (arith, c.loop-process-test.false, c.loop-process.auto.process-end, c.count-process-end.ensures, c.requires.stands.standing.complete)

pub returns : goal.returns
returns c =
    let accepted = c.args.chains.now.accepted in
    let surviving_ranks = c.args.surviving_ranks.now in
    let cut = c.args.stage.now.cut.items in
    let i = c.loop-process.process in
    let next = c.loop-process.cut.items in
    let chain_ends = c.loop-process.chain_ends.items in
    let fell = c.loop-process.fell.items in
    let arena = c.loop-process.arena in
    let done = c.loop-process.invariant in
    let stage = c.requires.stands.standing in
    let ranks = next_ranks accepted cut i next fell done.ranks (all_done c) in
    record {
      ranks = ranks;
      fallen = next_fell accepted cut i next fell done.ranks (all_done c);
      stands = record {
        standing = next_standing accepted cut i next fell done.ranks (all_done c) surviving_ranks chain_ends c.args.stage.now.chain_ends.items c.args.stage.now.fell.items stage (done.chain_ends.complete ∙ all_done c);
        grounded = heads_grounded accepted surviving_ranks cut i next chain_ends arena done.chain_ends done.ranks.complete ranks;
        there = heads_there accepted surviving_ranks cut i next chain_ends arena done.chain_ends done.ranks.complete;
      };
      from = rw (c.in_ok-before.ensures.items, c.deref.ensures.value) (next_lowered accepted cut next ranks);
      chains = λ p lt. done.chains p (omega (arith, lt, done.ranks.complete));
    }
