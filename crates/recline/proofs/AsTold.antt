-- What is said of a link is so of what it tells.
use Rattle.std.proofs.Common.{◌≡◌, inl, ℕ, List, Some, subst}
use Rattle.desk.specs.Desks.{DeskState}
use Rattle.line_disk.specs.declared.memory.MemoryDisk.{MemoryDisk}
use Rattle.client_link.specs.Links.{LinkState}
use Rattle.session.specs.declared.flush_policy.FlushPolicy.{FlushPolicy}
use Rattle.session.specs.declared.flush_policy.FlushPolicy.TheVariants as flush_policies
use Rattle.session.specs.declared.kind.SessionEndKind.{SessionEndKind}
use Rattle.session.specs.Exchanges.{Exchange}
use Rattle.session.specs.Ends.{Ended, HaveGone, IsReadAt, Leaves}
use Rattle.recline.specs.Asking.{AsksDesk, HandsOver, HasReply, asking, keeps_always}

read_as_told : {K : Type 0} (told : K → LinkState) (link : K) (n : ℕ) (earlier : List ℕ) (turned : List Exchange) → IsReadAt told link n earlier turned → IsReadAt (λ (s : LinkState). s) (told link) n earlier turned
read_as_told told link n earlier turned r =
    record {
      reading = told r.reading;
      reads_are = r.reads_are;
      consumed = r.consumed;
      answered = r.answered;
      later = r.later;
      turned_are = r.turned_are;
      each_line = r.each_line;
      written = r.written;
      nothing_waits = r.nothing_waits;
      no_bye = r.no_bye;
      is_open = r.is_open;
    }

gone_as_told : {K : Type 0} (told : K → LinkState) (link : K) (earlier : List Exchange) → HaveGone told link earlier → HaveGone (λ (s : LinkState). s) (told link) earlier
gone_as_told told link earlier g = record { moment = told g.moment; written = g.written; nothing_waits = g.nothing_waits; sound = g.sound }

ended_as_told : {D K : Type 0} (keeps : D → Type 0) (told : K → LinkState) (when : FlushPolicy) (link after_link : K) (desk after : DeskState D) (kind : SessionEndKind) (count : ℕ)
    → Ended keeps told when link after_link desk after kind count → Ended keeps (λ (state : LinkState). state) when (told link) (told after_link) desk after kind count
ended_as_told keeps told when link after_link desk after kind count e = record {
  pieces = e.pieces;
  turned = e.turned;
  text = e.text;
  session = e.session;
  turns = e.turns;
  consumed = e.consumed;
  written = e.written;
  reads = e.reads;
  few = e.few;
  prompt = λ n lt. read_as_told told link n _ e.turned (e.prompt n lt);
  gone = λ each.
      record {
        before_each = λ n lt. gone_as_told told link _ ((e.gone each).before_each n lt);
        last = λ some all. gone_as_told told link _ ((e.gone each).last some all);
      };
  lines = e.lines;
  chosen = e.chosen;
}

-- a session with a client in memory that sends this line, whose reply was handed over
pub asks_desk : {K F : Type 0} (told : K → LinkState) (faults_told : F → LinkState) (sent reply : List ℕ) (link link_after : K) (desk after : DeskState MemoryDisk) (kind : SessionEndKind) (count : ℕ) (client client_after : LinkState) (faults faults_after : F) (status : ℕ)
    → told link ≡ asking sent → Ended keeps_always told flush_policies.EachRead link link_after desk after kind count → Leaves kind (told link) (told link_after)
    → (told link_after).held ≡ Some reply → HasReply kind → HandsOver faults_told reply client client_after faults faults_after status → AsksDesk faults_told sent desk after client client_after faults faults_after status
asks_desk told faults_told sent reply link link_after desk after kind count client client_after faults faults_after status begins session leaves reply_is whole handed =
    let there = ended_as_told keeps_always told flush_policies.EachRead link link_after desk after kind count session in
    inl (record {
      link = told link_after;
      kind = kind;
      replies = count;
      session = subst (λ (state : LinkState). Ended keeps_always (λ (s : LinkState). s) flush_policies.EachRead state (told link_after) desk after kind count) begins there;
      leaves = subst (λ (state : LinkState). Leaves kind state (told link_after)) begins leaves;
      reply = reply;
      reply_is = reply_is;
      whole = whole;
      handed = handed;
    })
