use Rattle.std.specs.Prelude.{Result}
use Rattle.report_line.specs.declared.call.Call.{Call}
use Rattle.report_line.specs.declared.fault.LineFault.{LineFault}
use Rattle.report_line.specs.Reading.{Reads}
use Rattle.report_line.proofs.OneCall.{reads_line, found_reading, none_reading, only_reading}
use Rattle.report_line.proofs.reading.read_line.Goals as goal

pub returns : goal.returns
returns c =
    let read : Result Call LineFault = c.read_call.result in
    let reads : Reads read c.args.bytes.now = reads_line c.args.bytes.now read c.read_call.ensures in
    record {
      exact = reads;
      found = found_reading c.args.bytes.now read reads;
      grammar = none_reading c.args.bytes.now read reads;
      only = only_reading c.args.bytes.now read reads;
    }
