use Rattle.recline.proofs.Watched.{told_one}
use Rattle.recline.proofs.notices.tell_where.Goals as goal

pub returns-then-holds : goal.returns-then-holds
returns-then-holds g c = told_one c.args.notice (c.requires c.if-holds.true) c.tell_notice.ensures
