use Rattle.script.proofs.Taking.{begun}
use Rattle.script.proofs.driving.begin.Goals as goal

pub returns-in-Ok-print_made : goal.returns-in-Ok-print_made
returns-in-Ok-print_made c =
    begun c.args.line.now c.in-Some.root c.in-Ok.world c.in-Ok.report c.new-printout.result c.print_made.new.printout c.in-Some.ensures c.in-Ok.ensures.world c.in-Ok.ensures.report
    c.new-printout.ensures.text c.new-printout.ensures.lines c.new-printout.ensures.pending c.new-printout.ensures.chains c.in-Ok-print_made.ensures.ok
