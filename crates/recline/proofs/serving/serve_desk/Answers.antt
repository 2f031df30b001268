-- `serve_desk`: what the coordinator had at its opening is what the desk had.
use Rattle.std.proofs.Common.{inl, inr, refl, rules}
use Rattle.std.proofs.lemmas.Result.{IfErr-weaker}
use Rattle.recline.proofs.serving.serve_desk.Goals as goal

pub returns-in-Ok-with_workers-clause-ok : goal.returns-in-Ok-with_workers-clause-ok
returns-in-Ok-with_workers-clause-ok g c = rw c.in-Ok-with_workers.ensures.ok at c.serve_over.ensures.ok

pub returns-in-Ok-with_workers-clause-err : goal.returns-in-Ok-with_workers-clause-err
returns-in-Ok-with_workers-clause-err g c = IfErr-weaker c.serve_over.result _ _ (λ s stops. (stops.0, stops.1, inr stops.2)) (rw c.in-Ok-with_workers.ensures.ok at c.serve_over.ensures.err)

pub returns-in_default-clause-err : goal.returns-in_default-clause-err
returns-in_default-clause-err g c = (c.args.service.sessions, inl refl, inl (search rules))

pub returns-in_default-local_addr-clause-err : goal.returns-in_default-local_addr-clause-err
returns-in_default-local_addr-clause-err g c = (c.args.service.sessions, inl refl, inl (search rules))

pub returns-in-Err-clause-err : goal.returns-in-Err-clause-err
returns-in-Err-clause-err g c = (c.args.service.sessions, inl refl, inl (search rules))
