use Rattle.std.proofs.Common.{rules, ◌≡◌, true, ◌++◌, ◌∙◌}
use Rattle.recline.proofs.Shown.{table_with_records}
use Rattle.recline.proofs.showing.table_of.Goals as goal

pub returns : goal.returns
returns c =
    let asked : c.args.reports ≡ true = search rules in
    let written : c.extend_from_slice.new.self.items ≡ c.in_ok-text.text.items ++ c.in_ok-lines.lines.items = search rules in
    let same = c.records.ensures ∙ c.in_ok-store.ensures in
    table_with_records c.chains.result.now c.args.desk.now.held c.args.facts _ _ c.args.reports c.in_ok-text.text.items c.in_ok-lines.lines.items _ c.chains.ensures.held c.chains.ensures.accepted same
    asked written c.in_ok-text.ensures c.in_ok-lines.ensures
