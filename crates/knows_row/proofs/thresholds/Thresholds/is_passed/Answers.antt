use Rattle.std.proofs.Common.{◌↔◌, IsTrue, List, [], get_or, sym, ◌∙◌, subst}
use Rattle.event_tree.specs.EventTree.{EventTree}
use Rattle.knows_row.specs.Thresholds.{AreRows, PassesOne}
use Rattle.knows_row.proofs.thresholds.Thresholds.is_passed.Goals as goal

pub are_passed-requires : goal.are_passed-requires
are_passed-requires c = record { rows = subst AreRows (sym (c.deref.ensures.value ∙ c.self.view_is)) c.requires.rows }

pub returns : goal.returns
returns c =
    subst (λ (rows : List (List EventTree)). IsTrue c.are_passed.result ↔ PassesOne c.args.events.now (get_or rows 0 [])) (c.deref.ensures.value ∙ c.self.view_is) c.are_passed.ensures
