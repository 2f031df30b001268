use Rattle.std.proofs.Common.{◌<◌, ℕ, List, [], length, get_or, sym, ◌∙◌, subst}
use Rattle.std.specs.Prelude.{MatchOption}
use Rattle.event_tree.specs.EventTree.{EventTree}
use Rattle.knows_row.specs.Thresholds.{AreRows, Passes, tree_in, IsFirstPassed}
use Rattle.knows_row.proofs.thresholds.Thresholds.first_passed.Goals as goal

pub first_of_rows-requires : goal.first_of_rows-requires
first_of_rows-requires c = record { rows = subst AreRows (sym (c.deref.ensures.value ∙ c.self.view_is)) c.requires.rows }

pub returns : goal.returns
returns c =
    let v = c.args.events.now in
    subst
    (λ (rows : List (List EventTree)). MatchOption c.first_of_rows.result ((i : ℕ) → i < length (get_or rows 0 []) → ¬ Passes v (tree_in (get_or rows 0 []) i)) (λ i. IsFirstPassed v (get_or rows 0 []) i))
    (c.deref.ensures.value ∙ c.self.view_is) c.first_of_rows.ensures
