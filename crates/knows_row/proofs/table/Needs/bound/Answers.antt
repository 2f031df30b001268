use Rattle.std.proofs.Common.{◌<◌, List, length, refl, sym, ap, subst, ◌∙◌, arith}
use Rattle.std.proofs.lemmas.List.{get_or_default}
use Rattle.report_line.specs.declared.report.Report.{Report}
use Rattle.chains.specs.Processes.{known}
use Rattle.knows_row.specs.Knowing.{KnowsAt}
use Rattle.knows_row.specs.Needs.{NeedsTable}
use Rattle.knows_row.proofs.Lawful.{lawful}
use Rattle.knows_row.proofs.Lasts.{lasts_len, unknown_at}
use Rattle.knows_row.proofs.Looking.{past_elements}
use Rattle.knows_row.proofs.table.Needs.bound.Goals as goal

pub index-last-requires : goal.index-last-requires
index-last-requires c = let lasts = c.self.inside.lasts in
    omega (arith, c.if-place-count.false, c.count.ensures, ap length c.self.invariant.0, lasts_len c.self.inside.chains.now.accepted, lasts.ok.0)

pub index-requires-then-process-index : goal.index-requires-then-process-index
index-requires-then-process-index c =
    let lasts = c.self.inside.lasts in
    let same = ap (λ (t : NeedsTable). length (known t.accepted)) c.self.view_is in
    omega (arith, c.requires, same, ap length c.self.invariant.0, lasts_len c.self.inside.chains.now.accepted, lasts.ok.0)

pub returns-then-process-index : goal.returns-then-process-index
returns-then-process-index c = λ k le knows.
    let t = c.self.inside in
    let accepted = t.chains.now.accepted in
    let same = ap (λ (v : NeedsTable). v.accepted) c.self.view_is in
    let pin : c.args.place.process < length (known accepted) = omega (arith, c.if-place-count.false, c.count.ensures) in
    let qin : c.args.process < length (known accepted) = omega (arith, c.requires, ap (λ (ss : List Report). length (known ss)) same) in
    let lasts = ap length c.self.invariant.0 ∙ lasts_len accepted in
    unknown_at accepted (lawful accepted c.recall_lawful.ensures.folded) c.args.place.process c.index-last.result.now c.index-then-process-index.result.now c.args.process c.args.place t.lasts.items t.unknown.items
    pin qin c.self.invariant.0 c.self.invariant.1
    (c.index-last.ensures ∙ get_or_default t.lasts.items c.args.place.process c.index-last.result.now 0 (omega (arith, pin, lasts)))
    (c.if-is_at.ensures refl)
    (omega (arith, c.if-process-index.true, c.index.ensures ∙ get_or_default t.unknown.items c.args.place.process c.index.result.now 0 (omega (arith, pin, c.self.invariant.1.complete))))
    (c.index-then-process-index.ensures ∙ get_or_default t.lasts.items c.args.process c.index-then-process-index.result.now 0 (omega (arith, qin, lasts)))
    k le (subst (λ (ss : List Report). KnowsAt ss c.args.place c.args.process k) (sym same) knows)

pub returns : goal.returns
returns c = λ k le knows.
    let t = c.self.inside in
    let accepted = t.chains.now.accepted in
    let same = ap (λ (v : NeedsTable). v.accepted) c.self.view_is in
    past_elements accepted c.args.place c.args.process c.len-all.result (c.len-all.ensures.count ∙ ap length c.elements.ensures) k le
    (subst (λ (ss : List Report). KnowsAt ss c.args.place c.args.process k) (sym same) knows)
