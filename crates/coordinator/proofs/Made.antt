-- A turn that a desk made for a pass, and what it leaves in the file.
use Rattle.std.proofs.Common.{◌≡◌, inl, inr, ℕ, List, ◌++◌, Option, Some, sym, ap, ◌∙◌, subst}
use Rattle.line_disk.specs.Disk.{View}
use Rattle.record_file.specs.File.{Said}
use Rattle.report_line.specs.declared.call.Call.{Call}
use Rattle.report_line.specs.declared.reply.Reply.{Reply}
use Rattle.report_line.specs.declared.reply.Reply.TheVariants.{Line}
use Rattle.chains.specs.Kept.{Kept}
use Rattle.chains.specs.Held.{Held, held_of}
use Rattle.chains.specs.Folded.{IsReached}
use Rattle.desk.specs.declared.turn.Receipt.{Receipt}
use Rattle.desk.specs.declared.turn.Turn.{Turn}
use Rattle.desk.specs.Desks.{DeskState, records_of}
use Rattle.desk.specs.Lawful.{IsLawfulDesk}
use Rattle.desk.specs.Records.{IsOpened, recorded}
use Rattle.desk.proofs.Running.{is_unstopped}
use Rattle.desk.proofs.Turning.{records_more}
use Rattle.line_answer.specs.Questions.{IsAnswer}
use Rattle.coordinator.specs.Passes.{PassState, IsAnswered, IsShownOver}
use Rattle.coordinator.specs.working.Parts.{MayShowLine, with_line}
use Rattle.coordinator.specs.Calls.{IsOneTurn, IsTakenFor, IsTurnFor}
use Rattle.coordinator.specs.Standing.{IsAcknowledgement, StandsInEachFile, IsStandingTurn, IsMadeWith}
use Rattle.coordinator.proofs.Acknowledged.{acknowledged}
use Rattle.coordinator.proofs.Answering.{one_shown, shown_line}
use Rattle.coordinator.proofs.Telling.{taken_goes}

module _ {D : Type 0} (keeps : D → Type 0) (view : D → View) where
  in_each_file : (before after : DeskState D) (call : Call) (receipt : Receipt) → IsLawfulDesk keeps view after → IsOneTurn before call receipt after → IsAcknowledgement receipt.reply
      → StandsInEachFile keeps view before after call receipt.reply
  in_each_file before after call receipt lawful turn told =
      let has = acknowledged before.held after.held call receipt.reply turn.step told in
      record {
        one = has.0;
        is_its = has.1;
        last = ap (λ (found : List Said). found ++ recorded after.turns) turn.found
            ∙ (ap (λ (turns : List Turn). before.found ++ recorded turns) turn.turns
            ∙ (records_more before.found before.turns (record { call = call; receipt = receipt }) ∙ ap (λ (more : List Said). records_of before ++ more) has.1));
        stands = lawful.running has.2;
      }

  -- a turn that a desk made for a pass
  pub is_made : (before after : DeskState D) (old : PassState) (call : Call) (new : PassState) → IsLawfulDesk keeps view before → IsLawfulDesk keeps view after → IsTurnFor before after old call new
      → IsStandingTurn keeps view old call new
  is_made before after old call new was now made = record {
    before = before;
    after = after;
    was_lawful = was;
    lawful = now;
    entry = made.entry;
    one = made.one;
    turn = made.turn;
    shows = made.shows;
    stands = in_each_file before after call made.entry.receipt now made.turn;
  }

  -- and what that desk held where a line was taken
  pub made_with : (before after : DeskState D) (old : PassState) (call : Call) (snapshot : Option Kept) (new : PassState) → IsLawfulDesk keeps view before → IsLawfulDesk keeps view after
      → IsTakenFor before after old call snapshot new → IsMadeWith keeps view old call snapshot new
  unfolding is_made
  made_with before after old call snapshot new was now taken = record { made = is_made before after old call new was now taken.made; snapshot_is = taken.snapshot_is }

  -- which the pass shows as an answer
  pub answered : (old : PassState) (call : Call) (new : PassState) → IsStandingTurn keeps view old call new → IsAnswered old call new
  answered old call new made = record { entry = made.entry; one = made.one; held = made.after.held; shows = made.shows }

  -- the line that was computed over the snapshot is shown over what the desk held
  shown_there : (old : PassState) (call : Call) (k : Kept) (mid : PassState) (text : List ℕ) (m : IsMadeWith keeps view old call (Some k) mid) → IsReached (held_of k) → IsAnswer (held_of k) call text
      → IsShownOver m.made.after.held call m.made.entry.receipt.reply (Line text)
  shown_there old call k mid text m reached fits =
      let made = m.made in
      let goes = taken_goes made.before.held made.after.held call made.entry.receipt.reply k.front made.turn.step m.snapshot_is.1 in
      let same : held_of k ≡ made.after.held = m.snapshot_is.0 ∙ sym (is_unstopped made.after.held goes) in
      let opened = subst IsOpened (sym m.snapshot_is.0) made.shows.opened in
      subst (λ (h : Held). IsShownOver h call made.entry.receipt.reply (Line text)) same
      (subst (λ (r : Reply). IsShownOver (held_of k) call r (Line text)) (sym m.snapshot_is.1) (shown_line (held_of k) call text opened reached fits))

  with_shown : (old : PassState) (call : Call) (k : Kept) (mid new : PassState) → IsMadeWith keeps view old call (Some k) mid → MayShowLine (held_of k) call mid new → IsStandingTurn keeps view old call new
  with_shown old call k mid new m (inl unchanged) = subst (λ (v : PassState). IsStandingTurn keeps view old call v) (sym unchanged) m.made
  with_shown old call k mid new m (inr (text, reached, fits, instead)) =
      let was = m.made in
      record {
        before = was.before;
        after = was.after;
        was_lawful = was.was_lawful;
        lawful = was.lawful;
        entry = with_line was.entry text;
        one = one_shown old call was.entry text mid new was.one instead;
        turn = was.turn;
        shows = shown_there old call k mid text m reached fits;
        stands = was.stands;
      }

  -- and its line is shown, with the call and the chains as the function has them
  pub made_when : (old : PassState) (asked call : Call) (snapshot : Option Kept) (chains : Kept) (mid new : PassState) → asked ≡ call → snapshot ≡ Some chains → IsMadeWith keeps view old asked snapshot mid
      → MayShowLine (held_of chains) call mid new → IsStandingTurn keeps view old call new
  made_when old asked call snapshot chains mid new same is m shows =
      with_shown old call chains mid new
      (subst (λ (s : Option Kept). IsMadeWith keeps view old call s mid) is (subst (λ (c : Call). IsMadeWith keeps view old c snapshot mid) same m))
      shows
