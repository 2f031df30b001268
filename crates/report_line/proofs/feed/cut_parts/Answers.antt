use Rattle.std.proofs.Common.{◌∷◌}
use Rattle.report_line.proofs.Parts.{parts_step, parts_within, parts_long, parts_over, parts_rest}
use Rattle.report_line.proofs.feed.cut_parts.Goals as goal

pub returns-then-line-gt-MOST-clause-cut : goal.returns-then-line-gt-MOST-clause-cut
returns-then-line-gt-MOST-clause-cut c =
    parts_long c.args.bytes.now c.in-Some.line.now (10 ∷ c.in-Some.field-0-1.now) c.loop-line.parts.items c.loop-line.at c.in-Some.ensures.1 c.in-Some.ensures.0 c.if-line-gt-MOST.true c.loop-line.invariant.cut

pub loop-line-preserved : goal.loop-line-preserved
loop-line-preserved c =
    let both = parts_within c.args.bytes.now c.in-Some.line.now c.in-Some.field-0-1.now c.loop-line.parts.items c.push.new.self.items c.loop-line.at c.in_ok-push.ensures.items c.loop-line.invariant.within c.in-Some.ensures.1 c.loop-line.invariant.parts in
    record {
      cut = parts_step c.args.bytes.now c.in-Some.line.now c.in-Some.field-0-1.now c.loop-line.parts.items c.push.new.self.items c.loop-line.at c.in_ok-push.ensures.items c.in-Some.ensures.1 c.in-Some.ensures.0 c.if-line-gt-MOST.false
          c.loop-line.invariant.cut;
      parts = both.0;
      within = both.1;
    }

pub returns-then-bytes-at-gt-MOST-clause-cut : goal.returns-then-bytes-at-gt-MOST-clause-cut
returns-then-bytes-at-gt-MOST-clause-cut c = parts_over c.args.bytes.now c.loop-line.parts.items c.loop-line.at c.in_default.ensures c.if-bytes-at-gt-MOST.true c.loop-line.invariant.cut

pub returns-clause-cut : goal.returns-clause-cut
returns-clause-cut c = parts_rest c.args.bytes.now c.loop-line.parts.items c.loop-line.at c.in_default.ensures c.if-bytes-at-gt-MOST.false c.loop-line.invariant.cut
