use Rattle.std.proofs.Common.{◌≡◌, ℕ, ◌+◌, ◌<◌, List, [], ◌∷◌, ◌++◌, length, take, get_or, Some, refl, sym, ap, ◌∙◌, subst, arith, append_assoc}
use Rattle.std.specs.Prelude.{slice_get}
use Rattle.std.proofs.lemmas.List.{take_more}
use Rattle.std.proofs.lemmas.Option.{slice_get_read}
use Rattle.coordinator.specs.Passes.{PassEntry, PassState}
use Rattle.coordinator.specs.Closing.{entries_of, IsAtTurn}
use Rattle.coordinator.specs.working.Marks.{IsMarked}
use Rattle.coordinator.proofs.Marked.{at-below, marked_more, strange_twice}
use Rattle.coordinator.proofs.Owned.{owned_more, owned_pass}
use Rattle.coordinator.proofs.marking.mark.Goals as goal

pub returns-then-marks-at-ne0-clause-err : goal.returns-then-marks-at-ne0-clause-err
returns-then-marks-at-ne0-clause-err g c opening =
    let p : PassState = c.index-passes-place.result in
    let e : PassEntry = c.index-entries-k.result in
    let ts = c.args.turns.now in
    let passes : List PassState = c.args.passes.now in
    let idx : ℕ = c.loop-k.k in
    let fits : IsAtTurn ts e = c.is_at_turn.ensures.0 c.if-not-is_at_turn.false in
    let es-is = c.entries-entries.ensures.entries in
    let positive : 0 < p.number = omega (arith, c.number-number.ensures.number, c.number-number.ensures.positive) in
    let within : idx < length p.entries = omega (arith, ap length es-is) in
    rw c.number-number.ensures.number
    (strange_twice opening ts passes c.args.place p c.loop-k.marks idx e
    (slice_get_read passes (length passes) c.args.place p refl c.requires.place c.index-passes-place.is)
    positive c.entries-entries.ensures.rises within
    (subst (λ (es : List PassEntry). e ≡ get_or es idx e) es-is c.index-entries-k.is)
    (subst (λ (es : List PassEntry). IsMarked ts c.loop-k.marks (entries_of (take c.args.place passes) ++ take idx es)) es-is c.loop-k.invariant.0)
    fits.0 (omega (arith, at-below ts e fits, c.requires.length)) (rw c.receipt.ensures at c.if-marks-at-ne0.true))

pub bounds-marks-at-in-loop-k : goal.bounds-marks-at-in-loop-k
bounds-marks-at-in-loop-k g c =
    let fits : IsAtTurn c.args.turns.now c.index-entries-k.result = c.is_at_turn.ensures.0 c.if-not-is_at_turn.false in
    rw c.receipt.ensures (omega (arith, at-below c.args.turns.now c.index-entries-k.result fits, c.requires.length))

pub bounds-owners-at : goal.bounds-owners-at
bounds-owners-at g c =
    let fits : IsAtTurn c.args.turns.now c.index-entries-k.result = c.is_at_turn.ensures.0 c.if-not-is_at_turn.false in
    rw c.receipt.ensures (omega (arith, at-below c.args.turns.now c.index-entries-k.result fits, c.requires.owners_length))

pub loop-k-preserved : goal.loop-k-preserved
loop-k-preserved g c =
    let p : PassState = c.index-passes-place.result in
    let e : PassEntry = c.index-entries-k.result in
    let ts = c.args.turns.now in
    let passes : List PassState = c.args.passes.now in
    let es : List PassEntry = c.entries-entries.result.now in
    let earlier : List PassEntry = entries_of (take c.args.place passes) in
    let idx : ℕ = c.loop-k.k in
    let fits : IsAtTurn ts e = c.is_at_turn.ensures.0 c.if-not-is_at_turn.false in
    let within : idx < length es = omega arith in
    let more : take (idx + 1) es ≡ take idx es ++ e ∷ [] = take_more es idx e within ∙ ap (λ (x : PassEntry). take idx es ++ x ∷ []) (sym c.index-entries-k.is) in
    let free = rw c.receipt.ensures at c.if-marks-at-ne0.false in
    let stands : slice_get passes c.args.place ≡ Some p = slice_get_read passes (length passes) c.args.place p refl c.requires.place c.index-passes-place.is in
    let at : slice_get p.entries idx ≡ Some e = subst (λ (xs : List PassEntry). slice_get xs idx ≡ Some e) c.entries-entries.ensures.entries (slice_get_read es (length es) idx e refl within c.index-entries-k.is) in
    rw c.receipt.ensures (
      rw (more, ← append_assoc) (marked_more ts c.loop-k.marks (earlier ++ take idx es) e c.loop-k.invariant.0 fits (omega (arith, c.requires.length)) free),
      owned_more ts passes c.args.place p c.loop-k.marks c.loop-k.owners idx e stands at fits
          (omega (arith, at-below ts e fits, c.requires.length)) (omega (arith, at-below ts e fits, c.requires.owners_length)) free c.loop-k.invariant.1,
    )

pub returns-clause-owned : goal.returns-clause-owned
returns-clause-owned g c =
    let p : PassState = c.index-passes-place.result in
    let passes : List PassState = c.args.passes.now in
    let es : List PassEntry = c.entries-entries.result.now in
    owned_pass c.args.turns.now passes c.args.place p c.loop-k.marks c.loop-k.owners c.loop-k.k
    (slice_get_read passes (length passes) c.args.place p refl c.requires.place c.index-passes-place.is)
    (omega (arith, ap length c.entries-entries.ensures.entries)) c.loop-k.invariant.1
