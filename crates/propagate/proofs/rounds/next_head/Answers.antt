use Rattle.std.proofs.Common.{ℕ, ◌≡◌, ◌≢◌, ◌<◌, inl, inr, ◌++◌, ◌∷◌, [], Some, List, length, get_or, refl, ap, sym, ◌∙◌, append_assoc, arith}
use Rattle.std.specs.Prelude.{slice_index}
use Rattle.std.proofs.lemmas.Result.{IfOk-weaker}
use Rattle.std.proofs.lemmas.List.{append-nil, get_or_default}
use Rattle.chains.specs.declared.position.Place.{Place}
use Rattle.chains.specs.Positions.{place_at}
use Rattle.knows_row.proofs.Lawful.{lawful}
use Rattle.propagate.specs.working.Ranks.{IsCauseOf}
use Rattle.propagate.proofs.Choosing.{BeginsAt, goes_on_at}
use Rattle.propagate.proofs.Staging.{head_stays, head_starts, head_prolongs, added, added_there}
use Rattle.propagate.proofs.rounds.next_head.Goals.{then-after-surviving_ranks+in_ok-before, else-after-surviving_ranks}
use Rattle.propagate.proofs.rounds.next_head.Goals as goal

pub returns-in_default-clause-grounded : goal.returns-in_default-clause-grounded
returns-in_default-clause-grounded c =
    let s = c.requires.stands.standing in
    rw (c.index.ensures ∙ get_or_default c.args.stage.now.chain_ends.items c.args.process c.index.result.now 0 (omega (arith, c.requires.process, s.headed)))
    (head_stays c.args.chains.now.accepted c.args.surviving_ranks.now c.args.stage.now.cut.items c.args.stage.now.chain_ends.items c.args.stage.now.fell.items c.args.arena.now c.args.process c.args.low.now.rank s c.requires.process
    c.requires.stands.grounded (rw c.in_default.is at c.requires.cause))

-- the chains that are there when the new one is added
grown : (c : goal.After-prolong) → (more : List (List Place)) × (c.if-after-surviving_ranks.arena ≡ c.args.arena.now ++ more)
grown c = elim c.if-after-surviving_ranks.branch [
  | then-after-surviving_ranks+in_ok-before w ↦ ((w.place_at.result ∷ []) ∷ [], w.arena-is ∙ w.in_ok-before.ensures.ok.1)
  | else-after-surviving_ranks w ↦ ([], w.arena-is ∙ sym (append-nil c.args.arena.now))
]

pub returns-clause-more : goal.returns-clause-more
returns-clause-more c = IfOk-weaker c.prolong.result _ _ (λ head h.
    let new = (get_or c.if-after-surviving_ranks.arena c.if-after-surviving_ranks.before [] ++ c.place_at-place.result ∷ []) ∷ [] in
    ((grown c).0 ++ new, h.1 ∙ ap (λ (xs : List (List Place)). xs ++ new) (grown c).1 ∙ append_assoc c.args.arena.now (grown c).0 new)) c.prolong.ensures.ok

pub returns-clause-there : goal.returns-clause-there
returns-clause-there c = IfOk-weaker c.prolong.result _ _ (λ head h below.
    added_there c.if-after-surviving_ranks.arena c.prolong.new.self (get_or c.if-after-surviving_ranks.arena c.if-after-surviving_ranks.before [] ++ c.place_at-place.result ∷ []) head h.0 h.1) c.prolong.ensures.ok

-- the rank of the cause in the cut
after_is : (c : goal.After-prolong) → c.index-after.result.now ≡ slice_index c.args.stage.now.cut.items c.in-Some.cause
after_is c =
    let cause : IsCauseOf c.args.chains.now.accepted c.args.stage.now.cut.items c.args.process c.args.low.now.rank (Some c.in-Some.cause) = rw c.in-Some.is at c.requires.cause in
    c.index-after.ensures ∙ get_or_default c.args.stage.now.cut.items c.in-Some.cause c.index-after.result.now 0 cause.1

pub returns-clause-grounded : goal.returns-clause-grounded
returns-clause-grounded c = IfOk-weaker c.prolong.result _ _ (λ head h.
    let s = c.requires.stands.standing in
    let accepted = c.args.chains.now.accepted in
    let surviving_ranks = c.args.surviving_ranks.now in
    let cut = c.args.stage.now.cut.items in
    let chain_ends = c.args.stage.now.chain_ends.items in
    let fell = c.args.stage.now.fell.items in
    let arena = c.args.arena.now in
    let p = c.args.process in
    let r = c.args.low.now.rank in
    let q = c.in-Some.cause in
    let cause : IsCauseOf accepted cut p r (Some q) = rw c.in-Some.is at c.requires.cause in
    let before = get_or c.if-after-surviving_ranks.arena c.if-after-surviving_ranks.before [] in
    let chain = before ++ c.place_at-place.result ∷ [] in
    rw (added c.if-after-surviving_ranks.arena c.prolong.new.self chain head h.0 h.1) (elim c.if-after-surviving_ranks.branch [
      | then-after-surviving_ranks+in_ok-before w ↦ let first : before ≡ w.place_at.result ∷ [] = rw w.before-is (added arena c.if-after-surviving_ranks.arena (w.place_at.result ∷ []) w.in_ok-before.before w.in_ok-before.ensures.ok.0 (w.arena-is ∙ w.in_ok-before.ensures.ok.1)) in
          head_starts accepted surviving_ranks cut chain_ends fell arena p r s c.requires.process q chain (lawful accepted c.recall_lawful.ensures.folded) cause (sym (after_is c) ∙ w.if-after-surviving_ranks.true)
          (rw (first, w.place_at.ensures, c.place_at-place.ensures, after_is c) refl)
      | else-after-surviving_ranks w ↦ let there : before ≡ get_or arena (slice_index chain_ends q) [] = rw (w.before-is, w.arena-is) (rw (w.index-else-after-surviving_ranks.ensures ∙ get_or_default chain_ends q w.index-else-after-surviving_ranks.result.now 0 (omega (arith, s.headed, cause.1))) refl) in
          head_prolongs accepted surviving_ranks cut chain_ends fell arena p r s c.requires.process q chain (lawful accepted c.recall_lawful.ensures.folded) c.requires.stands.grounded cause (λ e. w.if-after-surviving_ranks.false (after_is c ∙ e))
          (rw (there, c.place_at-place.ensures) refl)
    ])) c.prolong.ensures.ok

pub returns-in_default-clause-chain : goal.returns-in_default-clause-chain
returns-in_default-clause-chain c =
    inl (
      rw c.in_default.is at c.requires.cause,
      λ below. ap (λ h. get_or c.args.arena.now h []) (c.index.ensures ∙ get_or_default c.args.stage.now.chain_ends.items c.args.process c.index.result.now 0 (omega (arith, c.requires.process, c.requires.stands.standing.headed))),
    )

-- what the new chain goes on from
begins : (c : goal.After-prolong) → BeginsAt c.args.chains.now.accepted c.args.surviving_ranks.now c.args.stage.now.cut.items c.args.stage.now.chain_ends.items c.args.arena.now c.in-Some.cause (get_or c.if-after-surviving_ranks.arena c.if-after-surviving_ranks.before [])
begins c =
    let s = c.requires.stands.standing in
    let accepted = c.args.chains.now.accepted in
    let surviving_ranks = c.args.surviving_ranks.now in
    let cut = c.args.stage.now.cut.items in
    let chain_ends = c.args.stage.now.chain_ends.items in
    let arena = c.args.arena.now in
    let q = c.in-Some.cause in
    let cause : IsCauseOf accepted cut c.args.process c.args.low.now.rank (Some q) = rw c.in-Some.is at c.requires.cause in
    let qin : q < length cut = cause.1 in
    let surviving = s.surviving q qin in
    elim c.if-after-surviving_ranks.branch [
      | then-after-surviving_ranks+in_ok-before w ↦
          inl (
            sym (after_is c) ∙ w.if-after-surviving_ranks.true,
            rw w.before-is (added arena c.if-after-surviving_ranks.arena (w.place_at.result ∷ []) w.in_ok-before.before w.in_ok-before.ensures.ok.0 (w.arena-is ∙ w.in_ok-before.ensures.ok.1))
                ∙ ap (λ (x : Place). x ∷ []) w.place_at.ensures ∙ ap (λ (r : ℕ). place_at accepted q r ∷ []) (after_is c),
          )
      | else-after-surviving_ranks w ↦
          let differs : slice_index cut q ≢ slice_index surviving_ranks q = λ e. w.if-after-surviving_ranks.false (after_is c ∙ e) in
          inr (
            omega (arith, surviving, differs),
            rw (w.before-is, w.arena-is) (rw (w.index-else-after-surviving_ranks.ensures ∙ get_or_default chain_ends q w.index-else-after-surviving_ranks.result.now 0 (omega (arith, s.headed, qin))) refl),
          )
    ]

pub returns-clause-chain : goal.returns-clause-chain
returns-clause-chain c = IfOk-weaker c.prolong.result _ _ (λ head h.
    let before = get_or c.if-after-surviving_ranks.arena c.if-after-surviving_ranks.before [] in
    let new = before ++ c.place_at-place.result ∷ [] in
    inr (
      c.in-Some.cause,
      rw c.in-Some.is at c.requires.cause,
      goes_on_at c.args.chains.now.accepted c.args.surviving_ranks.now c.args.stage.now.cut.items c.args.stage.now.chain_ends.items c.args.arena.now c.args.process c.args.low.now.rank c.in-Some.cause
          before (get_or c.prolong.new.self head []) c.place_at-place.result (begins c) (added c.if-after-surviving_ranks.arena c.prolong.new.self new head h.0 h.1) c.place_at-place.ensures,
    )) c.prolong.ensures.ok
