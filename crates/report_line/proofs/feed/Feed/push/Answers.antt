use Rattle.std.proofs.Common.{◌≡◌, [], Some, None, refl, sym, ap, ◌∙◌}
use Rattle.std.proofs.lemmas.List.{append-nil}
use Rattle.report_line.specs.Cutting.{NoBreak}
use Rattle.report_line.proofs.Streams.{at_none, over, piece_short, piece_long}
use Rattle.report_line.proofs.feed.Feed.push.Goals as goal

pub returns-then-self-clause-cut : goal.returns-then-self-clause-cut
returns-then-self-clause-cut c = let none : c.args.self.now ≡ None = sym c.self.view_is ∙ rw c.if-self.true refl in rw (none, c.new.ensures) (at_none c.args.piece.now)

pub returns-then-not-fits-clause-cut : goal.returns-then-not-fits-clause-cut
returns-then-not-fits-clause-cut c =
    let rest : c.args.self.now ≡ Some c.deref.result.now = sym c.self.view_is ∙ rw c.if-self.false (ap Some (sym c.deref.ensures.value)) in
    let one : NoBreak c.args.piece.now = c.in_default.ensures in
    rw rest (piece_long c.deref.result.now c.args.piece.now c.args.piece.now [] c.new-then-not-fits.result c.new-then-not-fits.ensures (sym (append-nil c.args.piece.now)) one (rw c.deref.ensures.value c.self.invariant.short)
    (over _ _ c.fits.ensures c.if-not-fits.true))

pub returns-in_default-clause-cut : goal.returns-in_default-clause-cut
returns-in_default-clause-cut c =
    let rest : c.args.self.now ≡ Some c.self.inside.rest.items = sym c.self.view_is ∙ rw c.if-self.false refl in
    let one : NoBreak c.args.piece.now = c.in_default.ensures in
    rw (rest, c.if-self.false, c.in_ok-extend_from_slice.ensures.items)
    (piece_short c.self.inside.rest.items c.args.piece.now c.new-in_default.result c.new-in_default.ensures one (rw (← c.deref.ensures.value) (c.fits.ensures.0 c.if-not-fits.false)))
