use Rattle.std.specs.Prelude.{◌+◌, ◌*◌}
use Rattle.event_tree.proofs.writing.+put.Given as goal

abbrev pub decreases-put_number : goal.decreases-put_number
decreases-put_number l = 2 * l.n + 1

abbrev pub decreases-put_digits : goal.decreases-put_digits
decreases-put_digits l = 2 * l.n
