use Rattle.std.proofs.Common.{◌≡◌, length, refl, sym, ap, ◌∙◌, Some, List, subst, arith}
use Rattle.std.specs.Prelude.{slice_get}
use Rattle.std.proofs.lemmas.Option.{slice_get_read}
use Rattle.chains.specs.Held.{held_of}
use Rattle.coordinator.specs.Passes.{PassEntry, PassState}
use Rattle.coordinator.proofs.Remembered.{checked_by}
use Rattle.coordinator.proofs.replaying.check_entry.Goals as goal

pub returns-in-Ok-false-clause-err : goal.returns-in-Ok-false-clause-err
returns-in-Ok-false-clause-err g c =
    let p : PassState = c.index-passes-owner.result in
    let e : PassEntry = c.index-entries-owner.result in
    let o = c.args.owner in
    let passes : List PassState = c.args.passes.now in
    let es : List PassEntry = c.entries-entries.result.now in (
      p,
      e,
      (
        slice_get_read passes (length passes) o.pass p refl (omega arith) c.index-passes-owner.is,
        subst (λ (xs : List PassEntry). slice_get xs o.entry ≡ Some e) c.entries-entries.ensures.entries (slice_get_read es (length es) o.entry e refl (omega arith) c.index-entries-owner.is),
        sym (ap (λ r. r.turn) c.receipt.ensures) ∙ c.if-receipt-turn.false,
      ),
      sym c.number.ensures.number,
      c.number.ensures.positive,
      c.in-Ok-false.ensures.wrong c.in-Ok-false.field-0-test,
    )

pub returns-then-is_found-clause-ok : goal.returns-then-is_found-clause-ok
returns-then-is_found-clause-ok g c =
    let p : PassState = c.index-passes-owner.result in
    let e : PassEntry = c.index-entries-owner.result in
    let o = c.args.owner in
    let passes : List PassState = c.args.passes.now in
    let es : List PassEntry = c.entries-entries.result.now in
    checked_by passes (held_of c.args.chains.now) o c.args.turn e (
      p,
      slice_get_read passes (length passes) o.pass p refl (omega arith) c.index-passes-owner.is,
      subst (λ (xs : List PassEntry). slice_get xs o.entry ≡ Some e) c.entries-entries.ensures.entries (slice_get_read es (length es) o.entry e refl (omega arith) c.index-entries-owner.is),
    ) (c.is_found.ensures c.if-is_found.true (held_of c.args.chains.now) c.requires)

pub returns-in-Ok-true-clause-ok : goal.returns-in-Ok-true-clause-ok
returns-in-Ok-true-clause-ok g c =
    let p : PassState = c.index-passes-owner.result in
    let e : PassEntry = c.index-entries-owner.result in
    let o = c.args.owner in
    let passes : List PassState = c.args.passes.now in
    let es : List PassEntry = c.entries-entries.result.now in
    checked_by passes (held_of c.args.chains.now) o c.args.turn e (
      p,
      slice_get_read passes (length passes) o.pass p refl (omega arith) c.index-passes-owner.is,
      subst (λ (xs : List PassEntry). slice_get xs o.entry ≡ Some e) c.entries-entries.ensures.entries (slice_get_read es (length es) o.entry e refl (omega arith) c.index-entries-owner.is),
    ) (c.in-Ok-true.ensures.right c.in-Ok-true.field-0-test)
