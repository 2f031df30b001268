use Rattle.std.proofs.Common.{ap}
use Rattle.session.specs.SessionText.{session_text}
use Rattle.session.proofs.SameTexts.{same_calls, same_lines, more_lines, same_sessions}
use Rattle.session.proofs.laws.same_lines_have_one_text.Goals as goal

pub returns-clause-calls : goal.returns-clause-calls
returns-clause-calls c = same_calls

pub returns-clause-lines : goal.returns-clause-lines
returns-clause-lines c = λ held lines ours theirs a b m n. let same = same_lines held lines ours theirs a b m n in (same, ap session_text same)

pub returns-clause-more : goal.returns-clause-more
returns-clause-more c = more_lines

pub returns-clause-sessions : goal.returns-clause-sessions
returns-clause-sessions c = same_sessions
