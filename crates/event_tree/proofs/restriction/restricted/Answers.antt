use Rattle.std.proofs.Common.{sym, ◌∙◌}
use Rattle.event_tree.proofs.Restrictions.{everything_kept, nothing_owned}
use Rattle.event_tree.proofs.restriction.restricted.Goals as goal

pub returns-then-owns_everything : goal.returns-then-owns_everything
returns-then-owns_everything c = rw (everything_kept c.args.id.now c.args.e.now (c.owns_everything.ensures c.if-owns_everything.true)) c.copy.ensures.copy

pub returns-then-is_nothing : goal.returns-then-is_nothing
returns-then-is_nothing c = rw (nothing_owned c.args.id.now c.args.e.now (sym c.view.ensures ∙ c.is_nothing.ensures.0 c.if-is_nothing.true)) c.leaf.ensures
