-- The widths of columns.
use Rattle.std.proofs.Common.{◌≡◌, ℕ, ◌+◌, ◌<◌, List, [], ◌∷◌, ◌++◌, length, get_or, take, refl, sym, ap, ◌∙◌, arith}
use Rattle.std.specs.Prelude.{max}
use Rattle.std.proofs.lemmas.List.{take_more}
use Rattle.record_show.specs.declared.shown.ShownProcess.{ShownProcess}
use Rattle.record_show.specs.declared.columns.Column.{Column}
use Rattle.record_show.specs.Tables.{width, cell}

width_push : (ps : List ShownProcess) (p : ShownProcess) (c : Column) → width (ps ++ p ∷ []) c ≡ max (width ps c) (length (cell p c))
width_push [] p c = refl
width_push (q ∷ ps) p c = ap (λ (n : ℕ). max n (length (cell q c))) (width_push ps p c) ∙ omega arith

pub width_more : (ps : List ShownProcess) (i : ℕ) (p : ShownProcess) (c : Column) (old new : ℕ) → i < length ps → p ≡ get_or ps i p → old ≡ width (take i ps) c → new ≡ max old (length (cell p c))
    → new ≡ width (take (i + 1) ps) c
width_more ps i p c old new lt is e f =
    f ∙ ap (λ (n : ℕ). max n (length (cell p c))) e ∙ sym (ap (λ (qs : List ShownProcess). width qs c) (take_more ps i p lt ∙ ap (λ (q : ShownProcess). take i ps ++ q ∷ []) (sym is)) ∙ width_push (take i ps) p c)
