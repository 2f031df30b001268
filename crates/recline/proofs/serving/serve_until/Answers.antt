use Rattle.std.proofs.Common.{ℕ, List, inl, inr, refl, rules, subst}
use Rattle.recline.specs.Outcome.{Tells}
use Rattle.recline.proofs.serving.serve_until.Goals as goal

pub returns-in-Ok-serve_desk : goal.returns-in-Ok-serve_desk
returns-in-Ok-serve_desk g c =
    let opened = c.in-Ok.ensures in
    let served = c.in-Ok-serve_desk.ensures.ok in (
      served.0,
      served.1,
      inl (record {
        desk = c.in-Ok.desk;
        opened = record { records = opened.records; opened = opened.opened; any_moment = opened.any_moment; fresh = opened.fresh; premise = opened.premise };
        serves = inl (record { dropped = c.in-Ok-serve_desk.dropped; served = served.2; told = c.tell_dropped.ensures; status_is = refl });
      }),
    )

pub returns-in-Err-serve_desk : goal.returns-in-Err-serve_desk
returns-in-Err-serve_desk g c =
    let opened = c.in-Ok.ensures in
    let told = subst (λ (l : List ℕ). Tells (g.F.Link.told c.args.faults.now) (g.F.Link.told c.tell.new.faults) l) c.line_of.ensures c.tell.ensures in
    let stopped = c.in-Err-serve_desk.ensures.err in (
      stopped.0,
      stopped.1,
      inl (record {
        desk = c.in-Ok.desk;
        opened = record { records = opened.records; opened = opened.opened; any_moment = opened.any_moment; fresh = opened.fresh; premise = opened.premise };
        serves = inr (record { stop = c.in-Err-serve_desk.field-0.stop; stops_so = stopped.2; faults_are = told; status_is = refl });
      }),
    )

pub returns-in-Err : goal.returns-in-Err
returns-in-Err g c = (c.args.service.sessions, inl refl, inr (search rules))
