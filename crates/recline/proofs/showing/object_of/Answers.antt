use Rattle.std.proofs.Common.{rules, ◌≡◌, true, ◌∙◌}
use Rattle.std.proofs.lemmas.Result.{IfOk-weaker}
use Rattle.recline.proofs.Shown.{object_with_records}
use Rattle.recline.proofs.showing.object_of.Goals as goal

pub returns : goal.returns
returns c =
    let asked : c.args.reports ≡ true = search rules in
    let same = c.records.ensures ∙ c.in_ok-store.ensures in
    IfOk-weaker c.to_json-2.result _ _ (λ text is. object_with_records c.chains-2.result.now c.args.desk.now.held c.args.facts _ _ c.args.reports text.items c.chains-2.ensures.held
    c.chains-2.ensures.accepted same asked is) c.to_json-2.ensures
