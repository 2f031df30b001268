use Rattle.std.proofs.Common.{◌≡◌, ◌++◌, ◌∙◌, List, ℕ, codes, rules, subst, ap}
use Rattle.std.specs.Prelude.{OnOk}
use Rattle.std.specs.Fmt.{decimal}
use Rattle.line_explain.proofs.Pieces.{settle_text}
use Rattle.line_explain.proofs.text.push_settle.Goals as goal

pub returns-clause-ok : goal.returns-clause-ok
returns-clause-ok c =
    let front : c.as_slice.result.now ≡ codes "a settlement at the front " = search rules in
    let between : c.as_slice-2.result.now ≡ codes ": SETTLE, names: " = search rules in
    let number = c.as_bytes.ensures.value ∙ c.format.ensures.text in
    let count = c.as_bytes-2.ensures.value ∙ c.format-2.ensures.text ∙ ap decimal c.count.ensures in
    let text = settle_text c.as_slice.result.now c.as_bytes.result.now c.as_slice-2.result.now c.as_bytes-2.result.now c.args.front c.args.names.now front number between count in
    subst (λ (l : List ℕ). OnOk c.push_pieces.result (c.push_pieces.new.out.items ≡ c.args.out.now.items ++ l)) text c.push_pieces.ensures.ok
