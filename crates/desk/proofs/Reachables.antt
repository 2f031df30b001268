-- What turns leave, admission and settlements reach from nothing.
use Rattle.std.proofs.Common.{◌≡◌, ℕ, Bool, true, false, List, refl, sym, subst}
use Rattle.report_line.specs.declared.marked.MarkedReport.{MarkedReport}
use Rattle.report_line.specs.declared.call.Call.{Call}
use Rattle.report_line.specs.declared.call.Call.TheVariants as calls
use Rattle.report_line.specs.declared.reply.Outcome.TheVariants.{Before, Unknown}
use Rattle.report_line.specs.declared.reply.Reply.{Reply}
use Rattle.report_line.specs.declared.reply.Reply.TheVariants.{Accepted, Settled, Fail}
use Rattle.chains.specs.Processes.{Name}
use Rattle.chains.specs.Held.{Held}
use Rattle.chains.specs.Admission.{IsAdmission, Passes, held_after}
use Rattle.chains.specs.Reachable.{IsReachable, one_more, all_returned}
use Rattle.chains.specs.Settled.{IsSettled}
use Rattle.chains.specs.Turns.{Fate, fine, memory, before, unknown, IsReported, IsSettling, PassesSettle, LeavesSettled, IsSettleAnswered, IsTurn}
use Rattle.chains.proofs.Turning.{unchanged}
use Rattle.desk.specs.Lawful.{unstopped}
use Rattle.desk.proofs.Recording.{settles_so, still_goes}
use Rattle.desk.proofs.Running.{is_unstopped, passes}

same_reach : (held after : Held) → after ≡ held → IsReachable (unstopped held) → IsReachable (unstopped after)
same_reach held after same reach = subst (λ (h : Held). IsReachable (unstopped h)) (sym same) reach

after_admission : (held : Held) (m : MarkedReport) (answer : Reply) → held.stopped ≡ false → IsReachable (unstopped held) → IsAdmission held m answer → IsReachable (unstopped (held_after held m answer))
after_admission held m (Accepted front) goes reach admitted =
    one_more (unstopped held) m reach (subst (λ (h : Held). Passes h m) (is_unstopped held goes) (passes held m front admitted))
after_admission held m (Fail Before) goes reach admitted = reach
after_admission held m (Fail Unknown) goes reach admitted = reach
after_admission held m _ goes reach admitted = reach

after_report : (stopped : Bool) (fate : Fate) (held : Held) (m : MarkedReport) (reply : Reply) (after : Held) → held.stopped ≡ stopped → IsReachable (unstopped held)
    → IsReported stopped fate held m reply after → IsReachable (unstopped after)
after_report true fate held m reply after is reach t = same_reach held after t.2 reach
after_report false fine held m reply after is reach t =
    subst (λ (h : Held). IsReachable (unstopped h)) (sym t.1) (after_admission held m reply is reach t.0)
after_report false memory held m reply after is reach t = same_reach held after t.4 reach
after_report false before held m reply after is reach t = subst (λ (h : Held). IsReachable (unstopped h)) (sym t.2) reach
after_report false unknown held m reply after is reach t = subst (λ (h : Held). IsReachable (unstopped h)) (sym t.2) reach

after_settled : (held : Held) (front : ℕ) (names : List Name) (reply : Reply) (after : Held) → held.stopped ≡ false → IsReachable (unstopped held) → IsSettling held front names reply → LeavesSettled reply held names after → IsReachable (unstopped after)
after_settled held front names (Settled epoch now) after goes reach settling left =
    let here = is_unstopped held goes in
    let is = settles_so held front names (Settled epoch now) (λ code name value e. cc) settling in
    all_returned (unstopped held) (unstopped after) front names reach
    (subst (λ (h : Held). PassesSettle h front names) here (subst (λ (x : Reply). IsSettling held front names x) is settling))
    (subst (λ (h : Held). IsSettled h names (unstopped after)) here (subst (λ (h : Held). IsSettled held names h) (is_unstopped after (still_goes held names after goes left)) left))
after_settled held front names _ after goes reach settling left = same_reach held after left reach

after_settlement : (stopped : Bool) (fate : Fate) (held : Held) (front : ℕ) (names : List Name) (reply : Reply) (after : Held) → held.stopped ≡ stopped → IsReachable (unstopped held)
    → IsSettleAnswered stopped fate held front names reply after → IsReachable (unstopped after)
after_settlement true fate held front names reply after is reach t = same_reach held after t.2 reach
after_settlement false fine held front names reply after is reach t = after_settled held front names reply after is reach t.0 t.1
after_settlement false memory held front names reply after is reach t = same_reach held after t.4 reach
after_settlement false before held front names reply after is reach t = subst (λ (h : Held). IsReachable (unstopped h)) (sym t.2) reach
after_settlement false unknown held front names reply after is reach t = subst (λ (h : Held). IsReachable (unstopped h)) (sym t.2) reach

pub still_reachable : (held after : Held) (call : Call) (reply : Reply) → IsReachable (unstopped held) → IsTurn held call reply after → IsReachable (unstopped after)
still_reachable held after (calls.Report m) reply reach (fate, t) = after_report held.stopped fate held m reply after refl reach t
still_reachable held after (calls.Line names) reply reach (fate, t) = same_reach held after (unchanged held.stopped fate held _ reply after t) reach
still_reachable held after calls.Garbage reply reach (fate, t) = same_reach held after (unchanged held.stopped fate held _ reply after t) reach
still_reachable held after (calls.Settle front names) reply reach (fate, t) = after_settlement held.stopped fate held front names reply after refl reach t
still_reachable held after (calls.State p) reply reach (fate, t) = same_reach held after (unchanged held.stopped fate held _ reply after t) reach
still_reachable held after calls.Bye reply reach (fate, t) = same_reach held after t.2 reach
still_reachable held after (calls.Bad n) reply reach (fate, t) = same_reach held after t.2 reach
still_reachable held after calls.Unread reply reach (fate, t) = same_reach held after t.2 reach
