-- Texts that are put together of pieces.
use Rattle.std.proofs.Common.{◌≡◌, ℕ, List, [], ◌++◌, ap, length}
use Rattle.std.specs.Prelude.{codes}
use Rattle.std.specs.Fmt.{decimal}
use Rattle.std.proofs.lemmas.List.{append-nil}
use Rattle.report_line.specs.declared.call.Call.TheVariants as calls
use Rattle.line_explain.specs.Words.{call_text}

pub settle_text : (a b c d : List ℕ) (front : ℕ) (names : List (List ℕ)) → a ≡ codes "a settlement at the front " → b ≡ decimal front → c ≡ codes ": SETTLE, names: " → d ≡ decimal (length names)
    → a ++ (b ++ (c ++ (d ++ []))) ≡ call_text (calls.Settle front names)
settle_text a b c d front names e f g h =
    rw (e, f, g, h) (ap (λ (l : List ℕ). codes "a settlement at the front " ++ (decimal front ++ (codes ": SETTLE, names: " ++ l))) (append-nil (decimal (length names))))

pub state_text : (a b process : List ℕ) → a ≡ codes "a question: STATE of " → b ≡ process → a ++ (b ++ []) ≡ call_text (calls.State process)
state_text a b process e f = rw (e, f) (ap (λ (l : List ℕ). codes "a question: STATE of " ++ l) (append-nil process))
