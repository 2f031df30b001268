use Rattle.std.proofs.Common.{◌≡◌, ℕ, ap, ◌∙◌, eqb-true, eq-eqb, Decides}
use Rattle.std.proofs.lemmas.Bool.{and_parts, and_from}
use Rattle.std.proofs.lemmas.Slice.Eq.{slice_eq-Decides}
use Rattle.event_tree.specs.contracts.layout.entries.EntryPartialEq.TheImpl.{eq-value}
use Rattle.event_tree.specs.working.Entries.{entry}
use Rattle.event_tree.specs.declared.layout.entries.Entry.{Entry}
use Rattle.event_tree.proofs.layout.entries.are_same.Goals as goal

same : (m n s t : ℕ) → m ≡ n → s ≡ t → entry m s ≡ entry n t
same m n s t e f = ap (λ (k : ℕ). entry k s) e ∙ ap (λ (k : ℕ). entry n k) f

decides : (a b : Entry) → Decides (eq-value.it a b) (a ≡ b)
decides a b = (
  λ h. let both = and_parts _ _ h in same a.value b.value a.size b.size (eqb-true _ _ both.0) (eqb-true _ _ both.1),
  λ e. and_from _ _ (eq-eqb a.value b.value (ap (λ (x : Entry). x.value) e)) (eq-eqb a.size b.size (ap (λ (x : Entry). x.size) e)),
)

pub returns : goal.returns
returns c = slice_eq-Decides decides _ _ _ c.eq.ensures
