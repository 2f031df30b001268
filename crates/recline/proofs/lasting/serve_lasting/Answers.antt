-- `serve_lasting`: the first desk, and what was told.
use Rattle.std.proofs.Common.{ℕ, List, inl, inr, refl, subst}
use Rattle.recline.specs.Outcome.{IsOpened, Tells}
use Rattle.recline.proofs.lasting.serve_lasting.Goals as goal

pub returns-in-Ok-serve_from : goal.returns-in-Ok-serve_from
returns-in-Ok-serve_from g c =
    let opened = c.in-Ok.ensures in
    let is : IsOpened g.D.Disk.keeps g.D.Disk.view c.args.disk c.in-Ok.desk = record { records = opened.records; opened = opened.opened; any_moment = opened.any_moment; fresh = opened.fresh; premise = opened.premise } in
    inl (record { ends = inl (c.in-Ok-serve_from.ensures c.args.disk is, (refl, refl)) })

pub returns-in-Err-serve_from : goal.returns-in-Err-serve_from
returns-in-Err-serve_from g c =
    let opened = c.in-Ok.ensures in
    let is : IsOpened g.D.Disk.keeps g.D.Disk.view c.args.disk c.in-Ok.desk = record { records = opened.records; opened = opened.opened; any_moment = opened.any_moment; fresh = opened.fresh; premise = opened.premise } in
    let told = subst (λ (l : List ℕ). Tells (g.F.Link.told c.args.faults.now) (g.F.Link.told c.tell.new.faults) l) c.line_of.ensures c.tell.ensures in
    inl (record { ends = inr (c.in-Err-serve_from.field-0.stop, (c.in-Err-serve_from.ensures c.args.disk is, (told, refl))) })

pub returns-in-Err : goal.returns-in-Err
returns-in-Err g c =
    let unopened = c.in-Err.ensures in
    inr (record {
      fault = c.in-Err.fault;
      refused = unopened.refused;
      any_moment = unopened.any_moment_err;
      cause = unopened.cause;
      premise = unopened.premise;
      client_rests = refl;
      status_is = refl;
      faults_are = c.tell_unopened.ensures;
    })
