-- What is shown for a question.
use Rattle.std.proofs.Common.{◌≡◌, ℕ, List, [], ◌∷◌, ◌++◌, Option, Some, sym, ap, ◌∙◌, subst}
use Rattle.std.proofs.lemmas.List.{same_from_push}
use Rattle.report_line.specs.declared.call.Call.{Call}
use Rattle.report_line.specs.declared.reply.Reply.TheVariants.{Line, Taken}
use Rattle.chains.specs.Processes.{Name}
use Rattle.chains.specs.Kept.{Kept}
use Rattle.chains.specs.Held.{Held}
use Rattle.chains.specs.Folded.{IsReached}
use Rattle.knows_row.proofs.Lawful.{lawful}
use Rattle.reasons.specs.Certificates.{positions_of}
use Rattle.reasons.specs.Shown.{IsLineText}
use Rattle.law_lines.specs.Headline.{IsRightLine}
use Rattle.law_lines.proofs.Lines.{line_of_histories}
use Rattle.propagate.proofs.Certified.{certified_is_greatest}
use Rattle.desk.specs.Desks.{DeskState}
use Rattle.desk.specs.Lawful.{unstopped}
use Rattle.desk.specs.Records.{IsOpened}
use Rattle.line_answer.specs.Questions.{IsAnswer, IsChosenFor}
use Rattle.line_answer.proofs.Texts.{shows_taken}
use Rattle.coordinator.specs.Passes.{PassEntry, PassState, IsOneEntry, IsShownOver, Sees}
use Rattle.coordinator.specs.working.Parts.{IsShownInstead, LastTaken, with_line}
use Rattle.coordinator.specs.Calls.{IsTakenFor}

-- the text of a certificate that certifies is right
right_text : (held : Held) (names : List Name) (text : List ℕ) → IsReached held → IsLineText held names text → IsRightLine held names text
right_text held names text reach t =
    let folded = reach.folded in
    record {
      certificate = t.certificate;
      text_is = t.text_is;
      for_names = t.for_names;
      line = line_of_histories held.accepted t.certificate.failed (positions_of t.certificate.line) folded (certified_is_greatest held t.certificate (lawful held.accepted folded) t.certifies);
      certifies = t.certifies;
    }

same_text : (s t : List ℕ) → Line s ≡ Line t → s ≡ t
same_text s t e = cc

-- the line that was computed is shown
pub shown_line : (held : Held) (call : Call) (text : List ℕ) → IsOpened (unstopped held) → IsReached held → IsAnswer held call text → IsShownOver held call (Taken held.front) (Line text)
shown_line held call text opened reach answer = let fits = answer.line in record {
  opened = opened;
  front = λ n is. cc is;
  epoch = λ e is. absurd (cc);
  shows = shows_taken held call text held.front fits;
  right = λ other e. (fits.0, fits.1, subst (IsRightLine held fits.0) (same_text text other e) (right_text held fits.0 text reach fits.2));
  chosen = λ other e. subst (IsChosenFor held call) (same_text text other e) answer.chosen;
}

-- the entry shows a line, and all else stays
pub one_shown : (old : PassState) (call : Call) (entry : PassEntry) (text : List ℕ) (mid new : PassState) → IsOneEntry old call entry mid → IsShownInstead mid text new → IsOneEntry old call (with_line entry text) new
one_shown old call entry text mid new one (front, last, was, now) =
    let same = same_from_push old.entries front entry last (sym one.entries ∙ was) in
    record {
      number = ap (λ (v : PassState). v.number) now ∙ one.number;
      entries = ap (λ (v : PassState). v.entries) now
          ∙ (ap (λ (es : List PassEntry). es ++ with_line last text ∷ []) (sym same.0) ∙ ap (λ (e : PassEntry). old.entries ++ with_line e text ∷ []) (sym same.1));
      call_is = one.call_is;
      above = one.above;
      share = ap (λ (v : PassState). v.share) now ∙ one.share;
      front = subst (λ (f : ℕ). Sees old.front entry.receipt.reply f) (sym (ap (λ (v : PassState). v.front) now)) one.front;
    }

-- where there is a snapshot, a line was taken last
pub taken_when : {D : Type 0} (before after : DeskState D) (old : PassState) (call : Call) (snapshot : Option Kept) (chains : Kept) (new : PassState)
    → snapshot ≡ Some chains → IsTakenFor before after old call snapshot new → (front : ℕ) × LastTaken new.entries front
taken_when before after old call snapshot chains new is t =
    let made = subst (λ (s : Option Kept). IsTakenFor before after old call s new) is t in
    (chains.front, (old.entries, made.made.entry, made.made.one.entries, made.snapshot_is.1))
