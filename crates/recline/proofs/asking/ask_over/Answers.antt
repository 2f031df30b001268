use Rattle.std.proofs.Common.{inl, inr, refl}
use Rattle.recline.proofs.asking.ask_over.Goals as goal

pub returns-in-Ok : goal.returns-in-Ok
returns-in-Ok g c =
    let opened = c.in-Ok.ensures in
    inl (record {
      desk = c.in-Ok.desk;
      after = c.ask_desk-status.new.desk;
      opened = record { records = opened.records; opened = opened.opened; any_moment = opened.any_moment; fresh = opened.fresh; premise = opened.premise };
      asks = c.ask_desk-status.ensures;
      lawful = c.recall_lawful.ensures.lawful;
    })

pub returns-in-Err : goal.returns-in-Err
returns-in-Err g c =
    let why = c.in-Err.ensures in
    inr (
      c.in-Err.disk,
      record {
        fault = c.in-Err.fault;
        refused = why.refused;
        any_moment = why.any_moment_err;
        cause = why.cause;
        premise = why.premise;
        client_rests = refl;
        status_is = refl;
        faults_are = c.tell_unopened.ensures;
      },
    )
