-- What a call of a coordinator does to a pass.
use Rattle.std.specs.Prelude.{◌≡◌, Result, OnOk, OnErr, IfErr}
use Rattle.line_disk.specs.Disk.{View}
use Rattle.report_line.specs.declared.call.Call.{Call}
use Rattle.coordinator.specs.declared.fault.CallFault.{CallFault}
use Rattle.coordinator.specs.Calls.{IsForeignOnly}
use Rattle.coordinator.specs.Passes.{PassState, IsAnswered}
use Rattle.coordinator.specs.Standing.{IsStandingTurn}

-- A turn was asked for this call and this pass, and this is the result: the pass has its entry, or why the turn was not made.
pub record IsPassTurn {D : Type 0} (keeps : D → Type 0) (view : D → View) (old : PassState) (call : Call) (new : PassState) (result : Result (Unit {0}) CallFault) : Type 0 where
  pub ok : OnOk result (IsAnswered old call new)
  pub stands : OnOk result (IsStandingTurn keeps view old call new)
  pub err : OnErr result (new ≡ old)
  pub foreign : IfErr result (λ fault. IsForeignOnly old fault)
