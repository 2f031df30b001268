use Rattle.std.proofs.Common.{length}
use Rattle.line_explain.proofs.fields.+wrong_field.Given as goal

abbrev pub decreases-wrong_field : goal.decreases-wrong_field
decreases-wrong_field l = length l.wanted.now
