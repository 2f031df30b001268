use Rattle.std.proofs.Common.{length, rules, ◌∙◌}
use Rattle.std.proofs.lemmas.Iterator.{YieldsList-from_chars}
use Rattle.std.proofs.lemmas.List.{length_push}
use Rattle.std.proofs.lemmas.Iterator.Consumers.{YieldsList-turn, YieldsList-end}
use Rattle.std.specs.Str.{chars}
use Rattle.recline.proofs.Escapes.{ended_at, one_more, all_shown}
use Rattle.recline.proofs.escaping.shown_name.Goals as goal

pub returns-then-escaped_length-len : goal.returns-then-escaped_length-len
returns-then-escaped_length-len c =
    let t = YieldsList-turn (YieldsList-from_chars c.args.name.now c.utf8.name cc) c.loop-c.yielded _ c.loop-c.yielded_by _ _ c.in-Some.c c.in-Some.is c.next.ensures.steps in
    c.in_ok-extend_from_slice.ensures.items ∙ ended_at c.loop-c.text.items (length c.loop-c.yielded) c.in-Some.c c.escaped_length.result (chars c.args.name.now) c.loop-c.invariant t c.escaped_length.ensures (search rules)

pub loop-c-preserved : goal.loop-c-preserved
loop-c-preserved c =
    let t = YieldsList-turn (YieldsList-from_chars c.args.name.now c.utf8.name cc) c.loop-c.yielded _ c.loop-c.yielded_by _ _ c.in-Some.c c.in-Some.is c.next.ensures.steps in
    let more = one_more c.loop-c.text.items (length c.loop-c.yielded) c.in-Some.c c.escaped_length.result (chars c.args.name.now) c.loop-c.invariant t c.escaped_length.ensures (search rules) in
    rw (c.in_ok-push_escaped.ensures, length_push c.loop-c.yielded c.in-Some.c) more

pub returns : goal.returns
returns c =
    let t = YieldsList-end (YieldsList-from_chars c.args.name.now c.utf8.name cc) c.loop-c.yielded _ c.loop-c.yielded_by _ _ c.in-None.is c.next.ensures.steps in
    all_shown c.loop-c.text.items (length c.loop-c.yielded) (chars c.args.name.now) c.loop-c.invariant t.1
