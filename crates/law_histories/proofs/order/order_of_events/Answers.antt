-- The clauses are proved in `Later`, `Holders`, `Paths` and `Retiring`.
use Rattle.std.proofs.Common.{sym}
use Rattle.law_histories.proofs.Later.{own_past, past_up}
use Rattle.law_histories.proofs.Holders.{each_point_has_one_holder}
use Rattle.law_histories.proofs.Paths.{owners_lie_on_one_path}
use Rattle.law_histories.proofs.Retiring.{from_occurs, none_after, to_occurs}
use Rattle.law_histories.proofs.order.order_of_events.Goals as goal

pub returns-clause-own : goal.returns-clause-own
returns-clause-own c root h x y lawful occurs_x occurs_y of_one less = own_past lawful x y occurs_x occurs_y (sym of_one) less

pub returns-clause-rising : goal.returns-clause-rising
returns-clause-rising c root h x y lawful past t = past_up lawful past t

pub returns-clause-holder : goal.returns-clause-holder
returns-clause-holder c = each_point_has_one_holder

pub returns-clause-retirement : goal.returns-clause-retirement
returns-clause-retirement c root h d e q lawful occurs retires occurs_e of_one = none_after lawful d q occurs retires e occurs_e of_one

pub returns-clause-ends : goal.returns-clause-ends
returns-clause-ends c root h x y edge = (from_occurs edge, to_occurs edge)

pub returns-clause-path : goal.returns-clause-path
returns-clause-path c = owners_lie_on_one_path
