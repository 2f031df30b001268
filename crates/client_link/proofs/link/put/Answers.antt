use Rattle.std.proofs.Common.{◌≡◌, ◌++◌, List, ℕ, take, drop, ap, sym, ◌∙◌, append_assoc, eqb, false, rules}
use borrow.Author.Tests.{tests}
use Rattle.std.proofs.lemmas.List.{take-append-drop}
use Rattle.client_link.proofs.Sent.{appends_then}
use Rattle.client_link.proofs.link.put.Goals as goal

pub loop-rest-preserved : goal.loop-rest-preserved
loop-rest-preserved g c =
    let invariant = c.loop-rest.invariant in
    let before = invariant.sent in
    let n = c.in_ok-n.n in
    let write = c.in_ok-n.ensures.write in
    let parts : c.args.bytes.now ≡ (before.0 ++ take n c.loop-rest.rest.now) ++ drop n c.loop-rest.rest.now =
    before.1 ∙ ap (λ (l : List ℕ). before.0 ++ l) (sym (take-append-drop n c.loop-rest.rest.now)) ∙ sym (append_assoc before.0 (take n c.loop-rest.rest.now) (drop n c.loop-rest.rest.now)) in
    let some : eqb n 0 ≡ false = search (rules, tests) in
    record {
      sent = (before.0 ++ take n c.loop-rest.rest.now, rw c.split_at.ensures.back parts, appends_then _ _ _ before.0 (take n c.loop-rest.rest.now) before.2 write.bytes);
      sound = record { failures = write.failures ∙ invariant.sound.failures; stalls = (rw some at write.stalls) ∙ invariant.sound.stalls; ended = write.ended ∙ invariant.sound.ended };
      left = write.left ∙ invariant.left;
      reads = write.reads ∙ invariant.reads;
    }
