use Rattle.std.proofs.Common.{map}
use Rattle.std.proofs.lemmas.Result.{err_from_is_err_and}
use Rattle.command_line.specs.Parts.{values_of}
use Rattle.command_line.proofs.Asked.{asks_for, fails_by, is_named, parse_fails, parse_refused}
use Rattle.command_line.proofs.args.read_args.Goals as goal

pub returns-in_err-matches-clause-refused : goal.returns-in_err-matches-clause-refused
returns-in_err-matches-clause-refused g c =
    let texts = map g.S.AsStr.text c.args.words.now in
    let p = err_from_is_err_and c.from_residual-in_err-matches.result c.from_residual-in_err-matches.ensures.1 in
    rw (p.1, p.2) (parse_fails texts c.in_err-matches.field-0.0 (parse_refused _ texts c.in_err-matches.field-0.0 c.in_ok-program.ensures c.in_err-matches.ensures.kinds))

pub wanted_asked-requires-clause-one : goal.wanted_asked-requires-clause-one
wanted_asked-requires-clause-one g c =
    let texts = map g.S.AsStr.text c.args.words.now in
    (is_named _ texts c.in_ok-matches.matches c.in-Some.name.now (values_of c.in-Some.asked.now) c.in_ok-program.ensures c.in_ok-matches.ensures.kinds c.in_ok-matches.ensures.matches
    c.in-Some.ensures.name c.in-Some.ensures.rows).one

pub wanted_asked-requires-clause-wanted : goal.wanted_asked-requires-clause-wanted
wanted_asked-requires-clause-wanted g c =
    let texts = map g.S.AsStr.text c.args.words.now in
    (is_named _ texts c.in_ok-matches.matches c.in-Some.name.now (values_of c.in-Some.asked.now) c.in_ok-program.ensures c.in_ok-matches.ensures.kinds c.in_ok-matches.ensures.matches
    c.in-Some.ensures.name c.in-Some.ensures.rows).full

pub returns-clause-asked : goal.returns-clause-asked
returns-clause-asked g c =
    let texts = map g.S.AsStr.text c.args.words.now in
    asks_for texts c.in-Some.name.now (values_of c.in-Some.asked.now) c.wanted_asked.result
    (is_named _ texts c.in_ok-matches.matches c.in-Some.name.now (values_of c.in-Some.asked.now) c.in_ok-program.ensures c.in_ok-matches.ensures.kinds c.in_ok-matches.ensures.matches
    c.in-Some.ensures.name c.in-Some.ensures.rows)
    c.wanted_asked.ensures

pub returns-clause-refused : goal.returns-clause-refused
returns-clause-refused g c =
    let texts = map g.S.AsStr.text c.args.words.now in
    fails_by texts c.in-Some.name.now (values_of c.in-Some.asked.now) c.wanted_asked.result
    (is_named _ texts c.in_ok-matches.matches c.in-Some.name.now (values_of c.in-Some.asked.now) c.in_ok-program.ensures c.in_ok-matches.ensures.kinds c.in_ok-matches.ensures.matches
    c.in-Some.ensures.name c.in-Some.ensures.rows)
    c.wanted_asked.ensures
