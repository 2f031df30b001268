use Rattle.std.proofs.Common.{◌≡◌, ◌≢◌, ◌≤◌, ◌+◌, None, Some, Err, length, arith}
use Rattle.std.specs.Fmt.{decimal}
use Rattle.report_line.specs.declared.code.Code.TheVariants.{Full}
use Rattle.report_line.specs.declared.reply.Reply.TheVariants.{No, Accepted}
use Rattle.chains.specs.Processes.{known, newborn}
use Rattle.chains.specs.Held.{held_of}
use Rattle.chains.specs.Admission.{Decides, report_limit, process_limit}
use Rattle.chains.proofs.Tested.{refuses_full, passed_on}
use Rattle.chains.proofs.chains.Chains.test_room.Goals as goal

pub returns-then-front-ge-REPORT_LIMIT : goal.returns-then-front-ge-REPORT_LIMIT
returns-then-front-ge-REPORT_LIMIT c =
    let held = held_of c.args.self.now in
    let accepted = held.accepted in
    let front = held.front in
    let r = c.args.report.now in
    refuses_full (report_limit ≤ front) (λ a. Decides ((newborn r ≢ None) × (process_limit ≤ length (known accepted))) (No Full None (Some (decimal process_limit))) a (a ≡ Accepted (front + 1)))
    front c.full.result report_limit c.full.ensures (omega (arith, c.front.ensures, c.if-front-ge-REPORT_LIMIT.true))

pub returns-then-count-ge-PROCESS_LIMIT : goal.returns-then-count-ge-PROCESS_LIMIT
returns-then-count-ge-PROCESS_LIMIT c =
    let held = held_of c.args.self.now in
    let accepted = held.accepted in
    let front = held.front in
    let r = c.args.report.now in
    let refusal = c.full-then-count-ge-PROCESS_LIMIT.result in
    passed_on (report_limit ≤ front) (No Full None (Some (decimal report_limit))) (λ a. Decides ((newborn r ≢ None) × (process_limit ≤ length (known accepted))) (No Full None (Some (decimal process_limit))) a (a ≡ Accepted (front + 1)))
    front (Err refusal) (λ le. absurd (omega (arith, le, c.front.ensures, c.if-front-ge-REPORT_LIMIT.false)))
    (refuses_full ((newborn r ≢ None) × (process_limit ≤ length (known accepted))) (λ a. a ≡ Accepted (front + 1)) front refusal process_limit c.full-then-count-ge-PROCESS_LIMIT.ensures
    (c.is_birth.ensures.0 c.if-is_birth.true, omega (arith, c.count.ensures, c.if-count-ge-PROCESS_LIMIT.true)))
