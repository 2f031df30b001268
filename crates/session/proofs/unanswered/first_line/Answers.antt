use Rattle.std.proofs.Common.{◌+◌, take, drop, ◌∷◌, [], sym, ◌∙◌, append_assoc, arith}
use Rattle.std.proofs.lemmas.List.{length-take}
use Rattle.session.proofs.FirstLines.{unbroken_cut, late_break_cut}
use Rattle.session.proofs.unanswered.first_line.Goals as goal

pub returns-in_default : goal.returns-in_default
returns-in_default c = unbroken_cut c.args.bytes.now c.in_default.ensures.first

pub returns-then-at-gt-MOST : goal.returns-then-at-gt-MOST
returns-then-at-gt-MOST c =
    late_break_cut c.args.bytes.now (take c.in-Some.at c.args.bytes.now) (10 ∷ drop (c.in-Some.at + 1) c.args.bytes.now) c.in-Some.ensures.first.0 (omega (arith, length-take c.in-Some.at c.args.bytes.now, c.in-Some.ensures.within, c.if-at-gt-MOST.true)) c.in-Some.ensures.first.1

pub returns : goal.returns
returns c =
    let start = take c.in-Some.at c.args.bytes.now in
    let rest = drop (c.in-Some.at + 1) c.args.bytes.now in
    (record { short = omega (arith, length-take c.in-Some.at c.args.bytes.now, c.if-at-gt-MOST.false); one = c.in-Some.ensures.first.0 }, (rest, c.in-Some.ensures.first.1 ∙ sym (append_assoc start (10 ∷ []) rest)))
