use Rattle.line_explain.proofs.Walks.{all_told, wrong_first}
use Rattle.std.proofs.Common.{subst, sym, List, ℕ}
use Rattle.line_explain.specs.Reasons.{IsWrongAt}
use Rattle.line_explain.proofs.fields.wrong_word.Goals as goal

pub returns-in-Some-shape_of : goal.returns-in-Some-shape_of
returns-in-Some-shape_of c = all_told c.wrong_behind.result c.in-Some-shape_of.shape c.args.words.now c.in-Some.kind.now c.next.new.self c.in-Some-shape_of.ensures c.in-Some.ensures.word c.wrong_behind.ensures

pub returns-in-None : goal.returns-in-None
returns-in-None c =
    subst (λ (ws : List (List ℕ)). IsWrongAt ws 1 c.wrong_kind.result) (sym c.in-Some.ensures.word) (wrong_first c.in-Some.kind.now c.next.new.self c.wrong_kind.result c.in-None.ensures c.wrong_kind.ensures)
