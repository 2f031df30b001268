use Rattle.std.proofs.Common.{sym, arith}
use Rattle.event_tree.proofs.Lengths.{digits_between}
use Rattle.event_tree.proofs.writing.digits_behind.Goals as goal

pub returns-in-0-to-99-clause-are : goal.returns-in-0-to-99-clause-are
returns-in-0-to-99-clause-are c = sym (digits_between 1 c.args.n (omega arith) (omega arith) (omega arith))

pub returns-in-100-to-999-clause-are : goal.returns-in-100-to-999-clause-are
returns-in-100-to-999-clause-are c = sym (digits_between 2 c.args.n (omega arith) (omega arith) (omega arith))

pub returns-in-1000-to-9999-clause-are : goal.returns-in-1000-to-9999-clause-are
returns-in-1000-to-9999-clause-are c = sym (digits_between 3 c.args.n (omega arith) (omega arith) (omega arith))

pub returns-in-10000-to-99999-clause-are : goal.returns-in-10000-to-99999-clause-are
returns-in-10000-to-99999-clause-are c = sym (digits_between 4 c.args.n (omega arith) (omega arith) (omega arith))

pub returns-in-100000-to-999999-clause-are : goal.returns-in-100000-to-999999-clause-are
returns-in-100000-to-999999-clause-are c = sym (digits_between 5 c.args.n (omega arith) (omega arith) (omega arith))

pub returns-in-1000000-to-9999999-clause-are : goal.returns-in-1000000-to-9999999-clause-are
returns-in-1000000-to-9999999-clause-are c = sym (digits_between 6 c.args.n (omega arith) (omega arith) (omega arith))

pub returns-in-10000000-to-99999999-clause-are : goal.returns-in-10000000-to-99999999-clause-are
returns-in-10000000-to-99999999-clause-are c = sym (digits_between 7 c.args.n (omega arith) (omega arith) (omega arith))

pub returns-in-100000000-to-999999999-clause-are : goal.returns-in-100000000-to-999999999-clause-are
returns-in-100000000-to-999999999-clause-are c = sym (digits_between 8 c.args.n (omega arith) (omega arith) (omega arith))

pub returns-in_default-clause-are : goal.returns-in_default-clause-are
returns-in_default-clause-are c = sym (digits_between 9 c.args.n (omega arith) (omega arith) (omega arith))
