use Rattle.std.proofs.Common.{◌≡◌, ◌++◌, ◌∙◌, List, ℕ, codes, rules, subst}
use Rattle.std.specs.Prelude.{OnOk}
use Rattle.line_explain.proofs.Pieces.{state_text}
use Rattle.line_explain.proofs.text.push_call.Goals as goal

pub returns-in-State-clause-ok : goal.returns-in-State-clause-ok
returns-in-State-clause-ok c =
    let front : c.as_slice-in-State.result.now ≡ codes "a question: STATE of " = search rules in
    let text = state_text c.as_slice-in-State.result.now c.as_bytes.result.now c.in-State.process front (c.as_bytes.ensures.value ∙ c.deref-in-State.ensures) in
    rw c.in-State.is (subst (λ (l : List ℕ). OnOk c.push_pieces-in-State.result (c.push_pieces-in-State.new.out.items ≡ c.args.out.now.items ++ l)) text c.push_pieces-in-State.ensures.ok)
