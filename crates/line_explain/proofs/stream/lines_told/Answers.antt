use Rattle.std.proofs.Common.{◌≡◌, length, take, refl, subst, List, ℕ, ap, ◌∙◌, arith}
use Rattle.std.proofs.Math.Seq.{take-length}
use Rattle.line_explain.proofs.Streamed.{IsTextOf, more_text, said_of}
use Rattle.line_explain.proofs.stream.lines_told.Goals as goal

pub loop-i-preserved : goal.loop-i-preserved
loop-i-preserved c =
    more_text c.args.lines.now c.args.first c.loop-i.i _ c.loop-i.text.items c.push_line.new.out.items c.line.result.now c.loop-i.calls c.in_ok-call.call c.both-calls.result c.loop-i.invariant (omega arith) c.line.ensures refl
    c.in_ok-call.ensures c.both-calls.ensures

pub returns : goal.returns
returns c =
    let all : c.loop-i.i ≡ length c.args.lines.now = omega arith in
    let whole : take c.loop-i.i c.args.lines.now ≡ c.args.lines.now = ap (λ (n : ℕ). take n c.args.lines.now) all ∙ take-length c.args.lines.now in
    said_of c.args.lines.now c.args.first _ (subst (λ (ls : List (List ℕ)). IsTextOf ls c.args.first c.loop-i.text.items c.loop-i.calls) whole c.loop-i.invariant) c.len.ensures
