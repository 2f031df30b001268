use Rattle.std.specs.Prelude.{option_copied}
use Rattle.record_show.proofs.Listed.{shown_one}
use Rattle.record_show.proofs.gathering.shown.Goals as goal

pub returns : goal.returns
returns c = λ p named.
    shown_one c.args.chains.now.accepted c.args.process c.name_of-name.result.now p c.in-Some.state c.is_absorbed-absorbed.result c.in_ok-last.last (option_copied c.lost_in.result) c.shown_by.result c.name_of-name.ensures named
    c.in-Some.ensures.1 (c.is_absorbed-absorbed.ensures p named) (c.in_ok-last.ensures p named) (c.lost_in.ensures p named) c.shown_by.ensures
