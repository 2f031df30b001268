-- Steps of a session that lasts.
use Rattle.std.proofs.Common.{◌≡◌, ◌≢◌, ℕ, zero, suc, Bool, ◌+◌, ◌≤◌, ◌<◌, List, [], ◌∷◌, ◌++◌, length, take, drop, Option, Some, None, Result, Ok, Err, true, refl, sym, ap, subst, ◌∙◌, append_assoc, append-nil, arith, inl, inr}
use Rattle.std.specs.Prelude.{IsSome, IsNone, IfSome}
use Rattle.std.specs.List.{flat_map, AllByRecursion}
use Rattle.std.specs.Io.KnownBytes.{Appends, Consumes, Keeps}
use Rattle.std.proofs.lemmas.List.{length-append, take-append-le, take_all}
use Rattle.std.proofs.lemmas.Bool.{cases_lt}
use Rattle.std.proofs.Transfers.{drop-appended}
use Rattle.report_line.specs.Cutting.{Stand, IsLine, ended, onto, cut_of}
use Rattle.line_disk.specs.Disk.{View}
use Rattle.coordinator.specs.Passes.{PassState, IsNewPass}
use Rattle.client_link.specs.declared.link.LinkFault.{LinkFault}
use Rattle.client_link.specs.Links.{up, LinkState, IsSound, IsFault, IsRead, IsTriedFlush}
use Rattle.client_link.proofs.Sent.{appends_none, appends_then, sound_none, sound_then, fault_then}
use Rattle.session.specs.Exchanges.{Exchange}
use Rattle.session.specs.declared.kind.SessionEndKind.{SessionEndKind}
use Rattle.session.specs.declared.kind.SessionEndKind.TheVariants as kinds
use Rattle.session.specs.declared.rest.Rest.{Rest}
use Rattle.session.specs.declared.rest.Rest.TheVariants as rests
use Rattle.session.specs.declared.stage.Stage.{Stage}
use Rattle.session.specs.declared.stage.Stage.TheVariants as stages
use Rattle.session.specs.SessionText.{Mean, NoBye, at_pass, at_passes, exchange_line, session_text, ending_line, ending_count, joined, EndReason, Ends, IsCutInReply, IsWhole, AreNonEmptyReads, GaveAll, IsSession}
use Rattle.session.specs.Ends.{IsReadAt, IsPrompt, HaveGone, EachHasGone, Leaves}
use Rattle.session.specs.Gained.{GainsEach, Gains}
use Rattle.session.specs.Lasting.{LastingState, HasDone, HasLastLine, Rests, IsOver, ComesTo, IsAnswered, AreOfPasses}
use Rattle.session.specs.working.Parts.{Serves}
use Rattle.session.specs.working.Resting.{standing, GoesOn, BeginsEnd, StandsBehind, IsAnsweredOn}
use Rattle.session.proofs.ServedTurns.{mean_then, mean_length, no_bye_then, bye_then, cut_then}
use Rattle.session.proofs.Ending.{consumes_none, consumes_then, appends_held, text_then, joined_more, length_more, widened, prompt_then, reads_more, all_more}
use Rattle.session.proofs.FirstLines.{all_then, lines_then, cut_behind}
use Rattle.session.proofs.Steps.{consumes_keeps_none}
use Rattle.session.proofs.Gone.{nothing_gone}
use Rattle.session.proofs.Gaining.{gains_then, each_gained, gained_then}

abbrev Cut : Type 0
Cut = List (List ℕ) × Stand

abbrev Exchanges : Type 0
Exchanges = List Exchange

abbrev Bytes : Type 0
Bytes = List ℕ

-- ---- what a link did

keeps_same : (a b : Option Bytes) → b ≡ a → Keeps a b
keeps_same None b e = tt
keeps_same (Some xs) b e = subst (λ (x : Option Bytes). Keeps (Some xs) x) (sym e) refl

consumes_kept : (a b c : Option Bytes) (x : Bytes) → Consumes a b x → Keeps b c → Consumes a c x
consumes_kept None b c x p k = tt
consumes_kept (Some xs) None c x p k = absurd p
consumes_kept (Some xs) (Some ys) None x p k = absurd k
consumes_kept (Some xs) (Some ys) (Some zs) x p k = p ∙ ap (λ (l : Bytes). x ++ l) (sym k)

done_none : {K : Type 0} (told : K → LinkState) (link : K) → HasDone told link link [] []
done_none told link = record { consumed = consumes_none (told link).left; written = appends_none (told link).held; reads = omega arith }

done_kept : {K : Type 0} (told : K → LinkState) (begun now new : K) (pieces : List Bytes) (text : Bytes) → HasDone told begun now pieces text → Keeps (told now).left (told new).left → Keeps (told now).held (told new).held → (told new).reads ≡ (told now).reads → HasDone told begun new pieces text
done_kept told begun now new pieces text d left held reads =
    record {
      consumed = consumes_kept (told begun).left (told now).left (told new).left (joined pieces) d.consumed left;
      written = appends_held (told begun).held (told now).held (told new).held text d.written held;
      reads = reads ∙ d.reads;
    }

-- more was taken
done_more : {K : Type 0} (told : K → LinkState) (begun now new : K) (pieces : List Bytes) (text more : Bytes) → HasDone told begun now pieces text → (told new).left ≡ (told now).left → Appends (told now).held (told new).held more → (told new).reads ≡ (told now).reads → HasDone told begun new pieces (text ++ more)
done_more told begun now new pieces text more d left held reads =
    record {
      consumed = subst (λ (l : Option Bytes). Consumes (told begun).left l (joined pieces)) (sym left) d.consumed;
      written = appends_then (told begun).held (told now).held (told new).held text more d.written held;
      reads = reads ∙ d.reads;
    }

-- one more read
done_read : {K : Type 0} (told : K → LinkState) (begun now new : K) (pieces : List Bytes) (piece text : Bytes) → HasDone told begun now pieces text → Consumes (told now).left (told new).left piece → (told new).held ≡ (told now).held → (told new).reads ≡ up 1 (told now).reads → HasDone told begun new (pieces ++ piece ∷ []) text
done_read told begun now new pieces piece text d left held reads =
    record {
      consumed = subst (λ (l : Bytes). Consumes (told begun).left (told new).left l) (joined_more pieces piece) (consumes_then (told begun).left (told now).left (told new).left (joined pieces) piece d.consumed left);
      written = subst (λ (h : Option Bytes). Appends (told begun).held h text) (sym held) d.written;
      reads = reads_more (told begun).reads (told now).reads (told now).reads (told new).reads (length pieces) d.reads refl reads ∙ ap (λ (n : ℕ). up n (told begun).reads) (sym (length_more pieces piece));
    }

sound_flush : (old new : LinkState) (all : Bool) → IsTriedFlush {E = LinkFault} old new (Ok all) → IsSound old new
sound_flush old new all f = record { failures = f.failures; stalls = f.stalls; ended = f.ended }

fault_flush : (old new : LinkState) (e : LinkFault) → IsTriedFlush old new (Err e) → IsFault old new
fault_flush old new e f = record { fault = inl (f.failures, f.stalls); ended = f.ended }

done_flush : {K : Type 0} (told : K → LinkState) (begun now new : K) (pieces : List Bytes) (text : Bytes) (result : Result Bool LinkFault) → HasDone told begun now pieces text → IsTriedFlush (told now) (told new) result → HasDone told begun new pieces text
done_flush told begun now new pieces text result d f = done_kept told begun now new pieces text d (keeps_same (told now).left (told new).left f.left) f.held f.reads

-- ---- exchanges

-- all but so many exchanges are one
last_of : (turned : Exchanges) (count : ℕ) → count + 1 ≡ length turned → (before : Exchanges) × ((last : Exchange) × ((turned ≡ before ++ last ∷ []) × (count ≡ length before)))
last_of [] count one = absurd (omega arith)
last_of (e ∷ []) count one = ([], (e, (refl, omega arith)))
last_of (e ∷ (f ∷ fs)) zero one = absurd (omega arith)
last_of (e ∷ (f ∷ fs)) (suc count) one =
    let l = last_of (f ∷ fs) count (omega arith) in
    (e ∷ l.0, (l.1.0, (ap (λ (x : Exchanges). e ∷ x) l.1.1.0, ap (λ (n : ℕ). suc n) l.1.1.1)))

no_bye_before : (before more : Exchanges) → NoBye (before ++ more) → NoBye before
no_bye_before [] more none = tt
no_bye_before (e ∷ es) more none = (none.0, no_bye_before es more none.1)

-- the text of some exchanges and one more
text_last : (before : Exchanges) (last : Exchange) → session_text (before ++ last ∷ []) ≡ session_text before ++ exchange_line last
text_last before last = sym (text_then before (last ∷ [])) ∙ ap (λ (t : Bytes). session_text before ++ t) (append-nil (exchange_line last))

-- the reply to the last of them was not handed on
not_gone : (turned before : Exchanges) (last : Exchange) (text : Bytes) (count : ℕ) → turned ≡ before ++ last ∷ [] → NoBye before → text ≡ session_text turned ++ [] → count ≡ length before → IsCutInReply turned text count
not_gone turned before last text count is none text_is counted =
    record {
      before = before;
      last = last;
      turned_are = is;
      none_before = none;
      part = exchange_line last;
      cut = inr refl;
      text_is = text_is ∙ append-nil (session_text turned) ∙ ap session_text is ∙ text_last before last;
      count_is = counted;
    }

-- all replies are gone by now
gone_now : {K : Type 0} (told : K → LinkState) (begun now : K) (pieces : List Bytes) (turned : Exchanges) → HasDone told begun now pieces (session_text turned ++ []) → IsSound (told begun) (told now) → (told now).waiting ≡ [] → HaveGone told begun turned
gone_now told begun now pieces turned d sound rests =
    record { moment = now; written = subst (λ (t : Bytes). Appends (told begun).held (told now).held t) (append-nil (session_text turned)) d.written; nothing_waits = rests; sound = sound }

-- one turn more, before which all replies were gone
gone_one : {K : Type 0} (told : K → LinkState) (begun : K) (turned more : Exchanges) (count : ℕ) → EachHasGone told begun turned count → HaveGone told begun turned → count ≡ length turned → length more ≡ 1 → EachHasGone told begun (turned ++ more) count
gone_one told begun turned more count gone now same one =
    record {
      before_each = λ n lt. elim (cases_lt n (length turned)) [
        | inl less ↦
            let within : n ≤ length turned = omega (arith, less) in
            subst (λ (l : Exchanges). HaveGone told begun l) (sym (take-append-le n turned more within)) (gone.before_each n less)
        | inr last ↦
            let all : n ≡ length turned = omega (arith, last, lt, length-append turned more, one) in
            let within : n ≤ length turned = omega (arith, all) in
            let whole : length turned ≤ n = omega (arith, all) in
            subst (λ (l : Exchanges). HaveGone told begun l) (sym (take-append-le n turned more within ∙ take_all n turned whole)) now
      ];
      last = λ some few. absurd (omega (arith, few, length-append turned more, one, same));
    }

widened_each : {K : Type 0} (told : K → LinkState) (begun : K) (pieces : List Bytes) (turned more : Exchanges) → IsPrompt told begun pieces turned → IsPrompt told begun pieces (turned ++ more)
widened_each told begun pieces turned more prompt = λ n lt. widened told begun n (joined (take n pieces)) turned more (prompt n lt)

-- ---- lines

-- the lines of what was read
lines_read : (pieces : List Bytes) (front : List Bytes) (rest : Bytes) → joined pieces ≡ flat_map ended front ++ rest → AllByRecursion IsLine front → cut_of (joined pieces) ≡ onto front (cut_of rest)
lines_read pieces front rest read lines = ap cut_of read ∙ cut_behind front rest lines

-- and one more
read_line_more : (front : List Bytes) (line behind rest : Bytes) (bytes : Bytes) → bytes ≡ flat_map ended front ++ rest → rest ≡ ended line ++ behind → bytes ≡ flat_map ended (front ++ line ∷ []) ++ behind
read_line_more front line behind rest bytes read is =
    read ∙ ap (λ (t : Bytes). flat_map ended front ++ t) is ∙ sym (append_assoc (flat_map ended front) (ended line) behind)
    ∙ ap (λ (t : Bytes). (flat_map ended front ++ t) ++ behind) (sym (append-nil (ended line))) ∙ ap (λ (t : Bytes). t ++ behind) (lines_then front (line ∷ []))

-- ---- the last line of all was handed on

whole_end : (kind : SessionEndKind) (pieces : List Bytes) (stand : Stand) (front later : List Bytes) (turned : Exchanges) (text : Bytes) (count : ℕ) → HasLastLine kind → EndReason kind at_passes pieces stand front later turned → IsWhole kind turned text count → Ends kind at_passes pieces stand front later turned text count
whole_end kinds.Bye pieces stand front later turned text count has reason whole = (reason, whole)
whole_end kinds.TooLong pieces stand front later turned text count has reason whole = (reason, whole)
whole_end kinds.Memory pieces stand front later turned text count has reason whole = (reason, whole)
whole_end kinds.End pieces stand front later turned text count has reason whole = absurd has
whole_end kinds.Worn pieces stand front later turned text count has reason whole = absurd has
whole_end kinds.ReadFailed pieces stand front later turned text count has reason whole = absurd has
whole_end kinds.WriteFailed pieces stand front later turned text count has reason whole = absurd has
whole_end kinds.Endless pieces stand front later turned text count has reason whole = absurd has
whole_end kinds.Foreign pieces stand front later turned text count has reason whole = absurd has

gave_all : (kind : SessionEndKind) (pieces : List Bytes) → HasLastLine kind → AreNonEmptyReads pieces → GaveAll kind pieces
gave_all kinds.Bye pieces has gave = gave
gave_all kinds.TooLong pieces has gave = gave
gave_all kinds.Memory pieces has gave = gave
gave_all kinds.End pieces has gave = absurd has
gave_all kinds.Worn pieces has gave = absurd has
gave_all kinds.ReadFailed pieces has gave = absurd has
gave_all kinds.WriteFailed pieces has gave = absurd has
gave_all kinds.Endless pieces has gave = absurd has
gave_all kinds.Foreign pieces has gave = absurd has

leaves_all : (kind : SessionEndKind) (old new : LinkState) → HasLastLine kind → IsSound old new → new.waiting ≡ [] → Leaves kind old new
leaves_all kinds.Bye old new has sound rests = (sound, rests)
leaves_all kinds.TooLong old new has sound rests = (sound, rests)
leaves_all kinds.Memory old new has sound rests = (sound, rests)
leaves_all kinds.End old new has sound rests = absurd has
leaves_all kinds.Worn old new has sound rests = absurd has
leaves_all kinds.ReadFailed old new has sound rests = absurd has
leaves_all kinds.WriteFailed old new has sound rests = absurd has
leaves_all kinds.Endless old new has sound rests = absurd has
leaves_all kinds.Foreign old new has sound rests = absurd has

-- the last reply has gone where it is counted
gone_end : {K : Type 0} (told : K → LinkState) (begun now : K) (pieces : List Bytes) (kind : SessionEndKind) (turned : Exchanges) (count : ℕ) → HasLastLine kind → EachHasGone told begun turned count → count + 1 ≡ length turned + ending_count kind → HasDone told begun now pieces (session_text turned ++ ending_line kind)
    → IsSound (told begun) (told now) → (told now).waiting ≡ [] → EachHasGone told begun turned (count + 1)
gone_end told begun now pieces kinds.Bye turned count has gone one done sound rests = record { before_each = gone.before_each; last = λ some all. gone_now told begun now pieces turned done sound rests }
gone_end told begun now pieces kinds.TooLong turned count has gone one done sound rests = record { before_each = gone.before_each; last = λ some all. gone.last some (omega (arith, one)) }
gone_end told begun now pieces kinds.Memory turned count has gone one done sound rests = record { before_each = gone.before_each; last = λ some all. gone.last some (omega (arith, one)) }
gone_end told begun now pieces kinds.End turned count has gone one done sound rests = absurd has
gone_end told begun now pieces kinds.Worn turned count has gone one done sound rests = absurd has
gone_end told begun now pieces kinds.ReadFailed turned count has gone one done sound rests = absurd has
gone_end told begun now pieces kinds.WriteFailed turned count has gone one done sound rests = absurd has
gone_end told begun now pieces kinds.Endless turned count has gone one done sound rests = absurd has
gone_end told begun now pieces kinds.Foreign turned count has gone one done sound rests = absurd has

never_endless : (kind : SessionEndKind) → HasLastLine kind → kind ≢ kinds.Endless
never_endless kind has e = subst HasLastLine e has

pub end_gone : {K : Type 0} (told : K → LinkState) (begun now new : K) (unanswered : Bytes) (kind : SessionEndKind) (turned : Exchanges) → Rests told begun now (standing unanswered (stages.Ending kind)) turned → IsTriedFlush {E = LinkFault} (told now) (told new) (Ok true) → IsOver told begun new turned kind
end_gone told begun now new unanswered kind turned r f =
    let has = r.stands.0 in
    let text = session_text turned ++ ending_line kind in
    let done = done_flush told begun now new r.pieces text (Ok true) r.done f in
    let sound = sound_then (told begun) (told now) (told new) r.sound (sound_flush (told now) (told new) true f) in
    record {
      pieces = r.pieces;
      text = text;
      count = r.count + 1;
      session = record {
        front = r.front;
        later = (cut_of r.rest).0;
        lines_are = ap (λ (c : Cut). c.0) (lines_read r.pieces r.front r.rest r.read r.lines);
        gave = gave_all kind r.pieces has r.gave;
        mean = r.mean;
        ends = whole_end kind r.pieces (cut_of (joined r.pieces)).1 r.front (cut_of r.rest).0 turned text (r.count + 1) has r.stands.1.0 (refl, r.stands.1.1);
      };
      endless = never_endless kind has;
      done = done;
      prompt = r.prompt;
      gone = gone_end told begun new r.pieces kind turned r.count has r.gone r.stands.1.1 done sound (f.handed refl);
      leaves = leaves_all kind (told begun) (told new) has sound (f.handed refl);
    }

-- ---- the last line was not handed on

-- a session whose reply was cut, or could not be handed on
cut_session : (pieces front later : List Bytes) (turned : Exchanges) (text : Bytes) (count : ℕ) → (cut_of (joined pieces)).0 ≡ front ++ later → AreNonEmptyReads pieces → Mean front turned → IsCutInReply turned text count → IsSession at_passes pieces kinds.WriteFailed turned text count
cut_session pieces front later turned text count lines gave mean cut = record { front = front; later = later; lines_are = lines; gave = gave; mean = mean; ends = inl cut }

write_endless : kinds.WriteFailed ≢ kinds.Endless
write_endless e = cc

pub reply_failed : {K : Type 0} (told : K → LinkState) (begun now new : K) (unanswered : Bytes) (turned : Exchanges) (e : LinkFault) → Rests told begun now (standing unanswered stages.Replying) turned → IsTriedFlush (told now) (told new) (Err e) → IsOver told begun new turned kinds.WriteFailed
reply_failed told begun now new unanswered turned e r f =
    let l = last_of turned r.count r.stands.1.1 in
    let text = session_text turned ++ [] in
    record {
      pieces = r.pieces;
      text = text;
      count = r.count;
      session = cut_session r.pieces r.front (cut_of r.rest).0 turned text r.count (ap (λ (c : Cut). c.0) (lines_read r.pieces r.front r.rest r.read r.lines)) r.gave r.mean
          (not_gone turned l.0 l.1.0 text r.count l.1.1.0 (no_bye_before l.0 (l.1.0 ∷ []) (subst NoBye l.1.1.0 r.stands.0)) refl l.1.1.1);
      endless = write_endless;
      done = done_flush told begun now new r.pieces text (Err e) r.done f;
      prompt = r.prompt;
      gone = r.gone;
      leaves = fault_then (told begun) (told now) (told new) r.sound (fault_flush (told now) (told new) e f);
    }

-- how the session ends where its last line could not be handed on
failed_end : (kind : SessionEndKind) (pieces front later : List Bytes) (stand : Stand) (turned : Exchanges) (text : Bytes) (count : ℕ) → HasLastLine kind → EndReason kind at_passes pieces stand front later turned → text ≡ session_text turned ++ ending_line kind → count + 1 ≡ length turned + ending_count kind
    → Ends kinds.WriteFailed at_passes pieces stand front later turned text count
failed_end kinds.Bye pieces front later stand turned text count has reason is one =
    inl (not_gone turned reason.before reason.last text count reason.exchanges_are reason.none_before is (omega (arith, one, ap length reason.exchanges_are, length-append reason.before (reason.last ∷ []))))
failed_end kinds.TooLong pieces front later stand turned text count has reason is one = inr (kinds.TooLong, reason, inr (is, omega (arith, one)))
failed_end kinds.Memory pieces front later stand turned text count has reason is one = inr (kinds.Memory, reason, inr (is, omega (arith, one)))
failed_end kinds.End pieces front later stand turned text count has reason is one = absurd has
failed_end kinds.Worn pieces front later stand turned text count has reason is one = absurd has
failed_end kinds.ReadFailed pieces front later stand turned text count has reason is one = absurd has
failed_end kinds.WriteFailed pieces front later stand turned text count has reason is one = absurd has
failed_end kinds.Endless pieces front later stand turned text count has reason is one = absurd has
failed_end kinds.Foreign pieces front later stand turned text count has reason is one = absurd has

pub end_failed : {K : Type 0} (told : K → LinkState) (begun now new : K) (unanswered : Bytes) (kind : SessionEndKind) (turned : Exchanges) (e : LinkFault) → Rests told begun now (standing unanswered (stages.Ending kind)) turned → IsTriedFlush (told now) (told new) (Err e) → IsOver told begun new turned kinds.WriteFailed
end_failed told begun now new unanswered kind turned e r f =
    let text = session_text turned ++ ending_line kind in
    record {
      pieces = r.pieces;
      text = text;
      count = r.count;
      session = record {
        front = r.front;
        later = (cut_of r.rest).0;
        lines_are = ap (λ (c : Cut). c.0) (lines_read r.pieces r.front r.rest r.read r.lines);
        gave = r.gave;
        mean = r.mean;
        ends = failed_end kind r.pieces r.front (cut_of r.rest).0 (cut_of (joined r.pieces)).1 turned text r.count r.stands.0 r.stands.1.0 refl r.stands.1.1;
      };
      endless = write_endless;
      done = done_flush told begun now new r.pieces text (Err e) r.done f;
      prompt = r.prompt;
      gone = r.gone;
      leaves = fault_then (told begun) (told now) (told new) r.sound (fault_flush (told now) (told new) e f);
    }

-- ---- a read

-- behind the lines that were answered no line is there
listening_cut : (pieces front : List Bytes) (rest unanswered : Bytes) → joined pieces ≡ flat_map ended front ++ rest → AllByRecursion IsLine front → rest ≡ unanswered → cut_of unanswered ≡ ([], Some unanswered) → cut_of (joined pieces) ≡ (front, Some unanswered)
listening_cut pieces front rest unanswered read lines is none =
    lines_read pieces front rest read lines ∙ ap (λ (l : Bytes). onto front (cut_of l)) is ∙ ap (onto front) none ∙ ap (λ (l : List Bytes). (l, Some unanswered)) (append-nil front)

-- the state in which a read is made
reading_now : {K : Type 0} (told : K → LinkState) (begun now : K) (unanswered : Bytes) (turned : Exchanges) → (r : Rests told begun now (standing unanswered stages.Listening) turned) → cut_of unanswered ≡ ([], Some unanswered) → IsReadAt told begun (length r.pieces) (joined r.pieces) (turned ++ [])
reading_now told begun now unanswered turned r none =
    let cut = listening_cut r.pieces r.front r.rest unanswered r.read r.lines r.stands.1.0 none in
    record {
      reading = now;
      reads_are = r.done.reads;
      consumed = r.done.consumed;
      answered = turned;
      later = [];
      turned_are = refl;
      each_line = sym (ap (λ (c : Cut). length c.0) cut ∙ mean_length r.front turned r.mean);
      written = subst (λ (t : Bytes). Appends (told begun).held (told now).held t) (append-nil (session_text turned)) r.done.written;
      nothing_waits = r.stands.1.1.1;
      no_bye = r.stands.0;
      is_open = subst (λ (s : Stand). IsSome s) (sym (ap (λ (c : Cut). c.1) cut)) refl;
    }

-- no reading ahead, with one read more
prompt_on : {K : Type 0} (told : K → LinkState) (begun now : K) (unanswered : Bytes) (turned : Exchanges) (piece : Bytes) → (r : Rests told begun now (standing unanswered stages.Listening) turned) → cut_of unanswered ≡ ([], Some unanswered) → IsPrompt told begun (r.pieces ++ piece ∷ []) turned
prompt_on told begun now unanswered turned piece r none =
    subst (λ (es : Exchanges). IsPrompt told begun (r.pieces ++ piece ∷ []) es) (append-nil turned)
    (prompt_then told begun r.pieces piece turned [] r.prompt (reading_now told begun now unanswered turned r none))

-- a read that gave nothing
joined_nothing : (pieces : List Bytes) → joined (pieces ++ [] ∷ []) ≡ joined pieces
joined_nothing pieces = sym (joined_more pieces []) ∙ append-nil (joined pieces)

-- a session that ends at a read that gave nothing
abbrev last_read : (kind : SessionEndKind) → Type 0
last_read kind = (pieces : List Bytes) (front : List Bytes) (stand : Stand) (turned : Exchanges) (text : Bytes) (count : ℕ)
    → (cut_of (joined (pieces ++ [] ∷ []))) ≡ (front, stand) → IsSome stand → AreNonEmptyReads pieces → Mean front turned → NoBye turned → text ≡ session_text turned ++ [] → count ≡ length turned → IsSession at_passes (pieces ++ [] ∷ []) kind turned text count

end_session : last_read kinds.End
end_session pieces front stand turned text count cut some gave mean none is counted =
    record {
      front = front;
      later = [];
      lines_are = ap (λ (c : Cut). c.0) cut ∙ sym (append-nil front);
      gave = (pieces, refl, gave);
      mean = mean;
      ends = ((none, refl, subst (λ (s : Stand). IsSome s) (sym (ap (λ (c : Cut). c.1) cut)) some), (is, omega (arith, counted)));
    }

failed_session : last_read kinds.ReadFailed
failed_session pieces front stand turned text count cut some gave mean none is counted =
    record {
      front = front;
      later = [];
      lines_are = ap (λ (c : Cut). c.0) cut ∙ sym (append-nil front);
      gave = (pieces, refl, gave);
      mean = mean;
      ends = ((none, refl, subst (λ (s : Stand). IsSome s) (sym (ap (λ (c : Cut). c.1) cut)) some), (is, omega (arith, counted)));
    }

end_endless : kinds.End ≢ kinds.Endless
end_endless e = cc

read_endless : kinds.ReadFailed ≢ kinds.Endless
read_endless e = cc

pub read_failed : {K : Type 0} (told : K → LinkState) (begun now new : K) (unanswered : Bytes) (turned : Exchanges) (e : LinkFault) (buf : Bytes) → cut_of unanswered ≡ ([], Some unanswered) → Rests told begun now (standing unanswered stages.Listening) turned → IsRead (told now) (told new) (Err e) buf → IsOver told begun new turned kinds.ReadFailed
read_failed told begun now new unanswered turned e buf none r read =
    let text = session_text turned ++ [] in
    record {
      pieces = r.pieces ++ [] ∷ [];
      text = text;
      count = r.count;
      session = failed_session r.pieces r.front (Some unanswered) turned text r.count (ap cut_of (joined_nothing r.pieces) ∙ listening_cut r.pieces r.front r.rest unanswered r.read r.lines r.stands.1.0 none) refl r.gave r.mean r.stands.0 refl r.stands.1.1.0;
      endless = read_endless;
      done = done_read told begun now new r.pieces [] text r.done (consumes_keeps_none (told now).left (told new).left read.bytes) read.held read.counted;
      prompt = prompt_on told begun now unanswered turned [] r none;
      gone = r.gone;
      leaves = (rw r.sound.failures at read.failures, read.stalls ∙ r.sound.stalls, read.waiting ∙ r.stands.1.1.1, read.ended ∙ r.sound.ended);
    }

pub read_end : {K : Type 0} (told : K → LinkState) (begun now new : K) (unanswered : Bytes) (turned : Exchanges) (n : ℕ) (buf : Bytes) → cut_of unanswered ≡ ([], Some unanswered) → n ≡ 0 → 0 < length buf → Rests told begun now (standing unanswered stages.Listening) turned → IsRead {E = LinkFault} (told now) (told new) (Ok n) buf
    → IsOver told begun new turned kinds.End
read_end told begun now new unanswered turned n buf none nothing room r read =
    let text = session_text turned ++ [] in
    record {
      pieces = r.pieces ++ [] ∷ [];
      text = text;
      count = r.count;
      session = end_session r.pieces r.front (Some unanswered) turned text r.count (ap cut_of (joined_nothing r.pieces) ∙ listening_cut r.pieces r.front r.rest unanswered r.read r.lines r.stands.1.0 none) refl r.gave r.mean r.stands.0 refl r.stands.1.1.0;
      endless = end_endless;
      done = done_read told begun now new r.pieces [] text r.done (rw nothing at read.bytes.0) read.held read.counted;
      prompt = prompt_on told begun now unanswered turned [] r none;
      gone = r.gone;
      leaves = (sound_then (told begun) (told now) (told new) r.sound (record { failures = read.failures; stalls = read.stalls; ended = read.ended }), read.waiting ∙ r.stands.1.1.1, read.bytes.1 nothing room);
    }

-- what was read, with one piece more
read_piece : (pieces front : List Bytes) (rest piece : Bytes) → joined pieces ≡ flat_map ended front ++ rest → joined (pieces ++ piece ∷ []) ≡ flat_map ended front ++ (rest ++ piece)
read_piece pieces front rest piece read = sym (joined_more pieces piece) ∙ ap (λ (l : Bytes). l ++ piece) read ∙ append_assoc (flat_map ended front) rest piece

sound_read : (old new : LinkState) (n : ℕ) (buf : Bytes) → IsRead {E = LinkFault} old new (Ok n) buf → IsSound old new
sound_read old new n buf read = record { failures = read.failures; stalls = read.stalls; ended = read.ended }

pub read_on : {K : Type 0} (told : K → LinkState) (begun now new : K) (unanswered after : Bytes) (turned : Exchanges) (n : ℕ) (buf : Bytes) → cut_of unanswered ≡ ([], Some unanswered) → 0 < length (take n buf) → after ≡ unanswered ++ take n buf → Rests told begun now (standing unanswered stages.Listening) turned
    → IsRead {E = LinkFault} (told now) (told new) (Ok n) buf → Rests told begun new (standing after stages.Listening) turned
read_on told begun now new unanswered after turned n buf none some is r read =
    let piece = take n buf in
    record {
      pieces = r.pieces ++ piece ∷ [];
      front = r.front;
      rest = r.rest ++ piece;
      count = r.count;
      lines = r.lines;
      read = read_piece r.pieces r.front r.rest piece r.read;
      gave = all_more r.pieces piece r.gave some;
      mean = r.mean;
      done = done_read told begun now new r.pieces piece (session_text turned ++ []) r.done read.bytes.0 read.held read.counted;
      sound = sound_then (told begun) (told now) (told new) r.sound (sound_read (told now) (told new) n buf read);
      prompt = prompt_on told begun now unanswered turned piece r none;
      gone = r.gone;
      stands = (r.stands.0, (ap (λ (l : Bytes). l ++ piece) r.stands.1.0 ∙ sym is, (r.stands.1.1.0, read.waiting ∙ r.stands.1.1.1)));
    }

-- ---- it ends by an ending line

-- before its ending line
pub record Stops {K : Type 0} (told : K → LinkState) (begun now : K) (kind : SessionEndKind) (turned : Exchanges) : Type 0 where
  pub pieces : List Bytes
  pub front : List Bytes
  pub rest : Bytes
  pub count : ℕ
  pub lines : AllByRecursion IsLine front
  pub read : joined pieces ≡ flat_map ended front ++ rest
  pub gave : AreNonEmptyReads pieces
  pub mean : Mean front turned
  pub done : HasDone told begun now pieces (session_text turned ++ [])
  pub sound : IsSound (told begun) (told now)
  pub prompt : IsPrompt told begun pieces turned
  pub gone : EachHasGone told begun turned count
  pub counted : count ≡ length turned
  pub reason : EndReason kind at_passes pieces (cut_of (joined pieces)).1 front (cut_of rest).0 turned

-- of more bytes without LF than a line may have
pub too_long : {K : Type 0} (told : K → LinkState) (begun now : K) (unanswered : Bytes) (turned : Exchanges) → cut_of unanswered ≡ ([], None) → Rests told begun now (standing unanswered stages.Listening) turned → Stops told begun now kinds.TooLong turned
too_long told begun now unanswered turned none r =
    let cut : cut_of r.rest ≡ ([], None) = ap cut_of r.stands.1.0 ∙ none in
    record {
      pieces = r.pieces;
      front = r.front;
      rest = r.rest;
      count = r.count;
      lines = r.lines;
      read = r.read;
      gave = r.gave;
      mean = r.mean;
      done = r.done;
      sound = r.sound;
      prompt = r.prompt;
      gone = r.gone;
      counted = r.stands.1.1.0;
      reason = (r.stands.0, ap (λ (c : Cut). c.0) cut, subst (λ (s : Stand). IsNone s) (sym (ap (λ (c : Cut). c.1) (lines_read r.pieces r.front r.rest r.read r.lines ∙ ap (onto r.front) cut))) refl);
    }

-- where memory was wanting for what was read
pub refused : {K : Type 0} (told : K → LinkState) (begun now new : K) (unanswered : Bytes) (turned : Exchanges) (n : ℕ) (buf : Bytes) → cut_of unanswered ≡ ([], Some unanswered) → 0 < length (take n buf) → Rests told begun now (standing unanswered stages.Listening) turned → IsRead {E = LinkFault} (told now) (told new) (Ok n) buf
    → Stops told begun new kinds.Memory turned
refused told begun now new unanswered turned n buf none some r read =
    let piece = take n buf in
    record {
      pieces = r.pieces ++ piece ∷ [];
      front = r.front;
      rest = r.rest ++ piece;
      count = r.count;
      lines = r.lines;
      read = read_piece r.pieces r.front r.rest piece r.read;
      gave = all_more r.pieces piece r.gave some;
      mean = r.mean;
      done = done_read told begun now new r.pieces piece (session_text turned ++ []) r.done read.bytes.0 read.held read.counted;
      sound = sound_then (told begun) (told now) (told new) r.sound (sound_read (told now) (told new) n buf read);
      prompt = prompt_on told begun now unanswered turned piece r none;
      gone = r.gone;
      counted = r.stands.1.1.0;
      reason = (r.stands.0, inl (r.pieces, piece, refl, sym (ap (λ (c : Cut). c.0) (listening_cut r.pieces r.front r.rest unanswered r.read r.lines r.stands.1.0 none))));
    }

-- behind its ending line
begun_at : {K : Type 0} (told : K → LinkState) (begun now new : K) (unanswered : Bytes) (kind : SessionEndKind) (turned : Exchanges) (after : Stage) (rest : Rest) → HasLastLine kind → ending_count kind ≡ 1 → Stops told begun now kind turned → BeginsEnd kind (told now) (told new) after rest → ComesTo rest told begun new (standing unanswered after) turned
begun_at told begun now new unanswered kind turned after rests.Due has one s b =
    subst (λ (stage : Stage). Rests told begun new (standing unanswered stage) turned) (sym b.2)
    (record {
      pieces = s.pieces;
      front = s.front;
      rest = s.rest;
      count = s.count;
      lines = s.lines;
      read = s.read;
      gave = s.gave;
      mean = s.mean;
      done = subst (λ (t : Bytes). HasDone told begun new s.pieces (t ++ ending_line kind)) (append-nil (session_text turned)) (done_more told begun now new s.pieces (session_text turned ++ []) (ending_line kind) s.done b.1.left b.1.sent b.1.reads);
      sound = sound_then (told begun) (told now) (told new) s.sound b.1.faults;
      prompt = s.prompt;
      gone = s.gone;
      stands = (has, (s.reason, omega (arith, s.counted, one)));
    })
begun_at told begun now new unanswered kind turned after (rests.Over kinds.WriteFailed) has one s b =
    let sent = b.1.sent in
    let text = session_text turned ++ sent.0 in
    record {
      pieces = s.pieces;
      text = text;
      count = s.count;
      session = record {
        front = s.front;
        later = (cut_of s.rest).0;
        lines_are = ap (λ (c : Cut). c.0) (lines_read s.pieces s.front s.rest s.read s.lines);
        gave = s.gave;
        mean = s.mean;
        ends = inr (kind, s.reason, inl (record { part = sent.0; short = (sent.1, sent.2, sent.3); text_is = refl; count_is = s.counted }));
      };
      endless = write_endless;
      done = subst (λ (t : Bytes). HasDone told begun new s.pieces (t ++ sent.0)) (append-nil (session_text turned)) (done_more told begun now new s.pieces (session_text turned ++ []) sent.0 s.done b.1.left sent.4 b.1.reads);
      prompt = s.prompt;
      gone = s.gone;
      leaves = fault_then (told begun) (told now) (told new) s.sound b.1.faults;
    }
begun_at told begun now new unanswered kind turned after rests.Read has one s b = absurd b
begun_at told begun now new unanswered kind turned after rests.Write has one s b = absurd b
begun_at told begun now new unanswered kind turned after rests.Receive has one s b = absurd b
begun_at told begun now new unanswered kind turned after rests.Renewal has one s b = absurd b
begun_at told begun now new unanswered kind turned after (rests.Over kinds.End) has one s b = absurd b
begun_at told begun now new unanswered kind turned after (rests.Over kinds.Bye) has one s b = absurd b
begun_at told begun now new unanswered kind turned after (rests.Over kinds.TooLong) has one s b = absurd b
begun_at told begun now new unanswered kind turned after (rests.Over kinds.Worn) has one s b = absurd b
begun_at told begun now new unanswered kind turned after (rests.Over kinds.Memory) has one s b = absurd b
begun_at told begun now new unanswered kind turned after (rests.Over kinds.ReadFailed) has one s b = absurd b
begun_at told begun now new unanswered kind turned after (rests.Over kinds.Endless) has one s b = absurd b
begun_at told begun now new unanswered kind turned after (rests.Over kinds.Foreign) has one s b = absurd b

pub too_long_end : {K : Type 0} (told : K → LinkState) (begun now new : K) (unanswered : Bytes) (turned : Exchanges) (after : Stage) (rest : Rest) → Stops told begun now kinds.TooLong turned → BeginsEnd kinds.TooLong (told now) (told new) after rest → ComesTo rest told begun new (standing unanswered after) turned
too_long_end told begun now new unanswered turned after rest s b = begun_at told begun now new unanswered kinds.TooLong turned after rest tt refl s b

pub memory_end : {K : Type 0} (told : K → LinkState) (begun now new : K) (unanswered : Bytes) (turned : Exchanges) (after : Stage) (rest : Rest) → Stops told begun now kinds.Memory turned → BeginsEnd kinds.Memory (told now) (told new) after rest → ComesTo rest told begun new (standing unanswered after) turned
memory_end told begun now new unanswered turned after rest s b = begun_at told begun now new unanswered kinds.Memory turned after rest tt refl s b

-- ---- a turn

first_of : (a b : Bytes) (xs ys : List Bytes) → a ∷ [] ≡ b ∷ (xs ++ ys) → a ≡ b
first_of a b xs ys is = cc

-- where nothing or all of one line was answered
one_line_all : (line : Bytes) (front later : List Bytes) (turned : Exchanges) → line ∷ [] ≡ front ++ later → Mean front turned → length turned ≡ 1 → front ≡ line ∷ []
one_line_all line [] later [] is mean one = absurd (omega (arith, one))
one_line_all line [] later (e ∷ es) is mean one = absurd mean
one_line_all line (l ∷ []) later turned is mean one = ap (λ (x : Bytes). x ∷ []) (sym (first_of line l [] later is))
one_line_all line (l ∷ (m ∷ ls)) later turned is mean one = absurd (let n = ap length is in omega (arith, length-append ls later))

one_line_none : (line : Bytes) (front later : List Bytes) → line ∷ [] ≡ front ++ later → later ≢ [] → front ≡ []
one_line_none line [] later is some = refl
one_line_none line (l ∷ ls) [] is some = absurd (some refl)
one_line_none line (l ∷ ls) (m ∷ ms) is some = absurd (let n = ap length is in omega (arith, length-append ls (m ∷ ms)))

nothing_meant : (front : List Bytes) (turned : Exchanges) → Mean front turned → front ≡ [] → turned ≡ []
nothing_meant [] [] mean none = refl
nothing_meant [] (e ∷ es) mean none = absurd mean
nothing_meant (l ∷ ls) turned mean none = absurd cc

module _ {D K : Type 0} (keeps : D → Type 0) (view : D → View) (told : K → LinkState) (begun now new : K) (unanswered : Bytes) (line behind : Bytes) (turned : Exchanges) (old after : PassState) (is_line : IsLine line) (is : unanswered ≡ ended line ++ behind)
    (r : Rests told begun now (standing unanswered stages.Listening) turned) where
  gone_before : HaveGone told begun turned
  gone_before = gone_now told begun now r.pieces turned r.done r.sound r.stands.1.1.1

  -- the line's text behind that of the others
  done_line : (text : Bytes) → Appends (told now).held (told new).held text → (told new).left ≡ (told now).left → (told new).reads ≡ (told now).reads → HasDone told begun new r.pieces (session_text turned ++ text)
  done_line text written left reads =
      subst (λ (t : Bytes). HasDone told begun new r.pieces (t ++ text)) (append-nil (session_text turned)) (done_more told begun now new r.pieces (session_text turned ++ []) text r.done left written reads)

  read_line : joined r.pieces ≡ flat_map ended (r.front ++ line ∷ []) ++ behind
  read_line = read_line_more r.front line behind r.rest (joined r.pieces) r.read (r.stands.1.0 ∙ is)

  lines_line : AllByRecursion IsLine (r.front ++ line ∷ [])
  lines_line = all_then r.front (line ∷ []) r.lines (is_line, tt)

  -- a line that was answered, and its reply waits
  pub replied : (s : Serves (GainsEach keeps view) at_pass (told now) (told new) (line ∷ []) old after None 1) → IsAnsweredOn keeps view told begun new (standing behind stages.Replying) turned old after None
  replied s =
      let one : length s.turned ≡ 1 = sym s.how.2.1 in
      let front : s.front ≡ line ∷ [] = one_line_all line s.front s.later s.turned s.lines_are s.mean one in
      record {
        more = s.turned;
        goes = record {
          pieces = r.pieces;
          front = r.front ++ line ∷ [];
          rest = behind;
          count = r.count;
          lines = lines_line;
          read = read_line;
          gave = r.gave;
          mean = mean_then r.front (line ∷ []) turned s.turned r.mean (subst (λ (l : List Bytes). Mean l s.turned) front s.mean);
          done = subst (λ (t : Bytes). HasDone told begun new r.pieces t) (ap (λ (t : Bytes). session_text turned ++ t) s.how.2.0 ∙ text_then turned s.turned ∙ sym (append-nil (session_text (turned ++ s.turned)))) (done_line s.text s.written s.left s.reads);
          sound = sound_then (told begun) (told now) (told new) r.sound s.faults;
          prompt = widened_each told begun r.pieces turned s.turned r.prompt;
          gone = gone_one told begun turned s.turned r.count r.gone gone_before r.stands.1.1.0 one;
          stands = (no_bye_then turned s.turned r.stands.0 s.how.0, (refl, omega (arith, length-append turned s.turned, one, r.stands.1.1.0)));
        };
        gains = s.turns;
      }

  -- the last one
  pub replied_bye : (kept : Bytes) → (s : Serves (GainsEach keeps view) at_pass (told now) (told new) (line ∷ []) old after (Some kinds.Bye) 1) → IsAnsweredOn keeps view told begun new (standing kept (stages.Ending kinds.Bye)) turned old after None
  replied_bye kept s =
      let one : length s.turned ≡ 1 = sym s.how.1.1 in
      let front : s.front ≡ line ∷ [] = one_line_all line s.front s.later s.turned s.lines_are s.mean one in
      record {
        more = s.turned;
        goes = record {
          pieces = r.pieces;
          front = r.front ++ line ∷ [];
          rest = behind;
          count = r.count;
          lines = lines_line;
          read = read_line;
          gave = r.gave;
          mean = mean_then r.front (line ∷ []) turned s.turned r.mean (subst (λ (l : List Bytes). Mean l s.turned) front s.mean);
          done = subst (λ (t : Bytes). HasDone told begun new r.pieces t) (ap (λ (t : Bytes). session_text turned ++ t) s.how.1.0 ∙ text_then turned s.turned ∙ sym (append-nil (session_text (turned ++ s.turned)))) (done_line s.text s.written s.left s.reads);
          sound = sound_then (told begun) (told now) (told new) r.sound s.faults;
          prompt = widened_each told begun r.pieces turned s.turned r.prompt;
          gone = gone_one told begun turned s.turned r.count r.gone gone_before r.stands.1.1.0 one;
          stands = (tt, (bye_then turned s.turned r.stands.0 s.how.0, omega (arith, length-append turned s.turned, one, r.stands.1.1.0)));
        };
        gains = s.turns;
      }

  -- one whose reply was cut
  pub reply_cut : (state : LastingState) → (s : Serves (GainsEach keeps view) at_pass (told now) (told new) (line ∷ []) old after (Some kinds.WriteFailed) 0) → IsAnsweredOn keeps view told begun new state turned old after (Some (rests.Over kinds.WriteFailed))
  reply_cut state s =
      let cut = s.how in
      let one : length s.turned ≡ 1 = omega (arith, ap length cut.turned_are, length-append cut.before (cut.last ∷ []), cut.count_is) in
      let front : s.front ≡ line ∷ [] = one_line_all line s.front s.later s.turned s.lines_are s.mean one in
      let count : r.count + 0 ≡ r.count = omega arith in
      record {
        more = s.turned;
        goes = record {
          pieces = r.pieces;
          text = session_text turned ++ s.text;
          count = r.count;
          session = cut_session r.pieces (r.front ++ line ∷ []) (cut_of behind).0 (turned ++ s.turned) (session_text turned ++ s.text) r.count (ap (λ (c : Cut). c.0) (lines_read r.pieces (r.front ++ line ∷ []) behind read_line lines_line)) r.gave
              (mean_then r.front (line ∷ []) turned s.turned r.mean (subst (λ (l : List Bytes). Mean l s.turned) front s.mean))
              (subst (λ (n : ℕ). IsCutInReply (turned ++ s.turned) (session_text turned ++ s.text) n) count (cut_then turned s.turned (session_text turned) s.text r.count 0 r.stands.0 (refl, r.stands.1.1.0) cut));
          endless = write_endless;
          done = done_line s.text s.written s.left s.reads;
          prompt = widened_each told begun r.pieces turned s.turned r.prompt;
          gone = gone_one told begun turned s.turned r.count r.gone gone_before r.stands.1.1.0 one;
          leaves = fault_then (told begun) (told now) (told new) r.sound s.faults;
        };
        gains = s.turns;
      }

  -- a line is there
  some_line : (cut_of r.rest).0 ≢ []
  some_line none =
      let rest : r.rest ≡ flat_map ended (line ∷ []) ++ behind = r.stands.1.0 ∙ is ∙ ap (λ (t : Bytes). t ++ behind) (sym (append-nil (ended line))) in
      let cut : (cut_of r.rest).0 ≡ line ∷ (cut_of behind).0 = ap (λ (c : Cut). c.0) (ap cut_of rest ∙ cut_behind (line ∷ []) behind (is_line, tt)) in
      absurd (let n = ap length (sym cut ∙ none) in omega arith)

  memory_stops : Stops told begun now kinds.Memory turned
  memory_stops =
      record {
        pieces = r.pieces;
        front = r.front;
        rest = r.rest;
        count = r.count;
        lines = r.lines;
        read = r.read;
        gave = r.gave;
        mean = r.mean;
        done = r.done;
        sound = r.sound;
        prompt = r.prompt;
        gone = r.gone;
        counted = r.stands.1.1.0;
        reason = (r.stands.0, inr some_line);
      }

-- a pass that was answered nothing
none_gained : {D : Type 0} (keeps : D → Type 0) (view : D → View) (old new : PassState) (turned : Exchanges) → turned ≡ [] → GainsEach keeps view old turned new → GainsEach keeps view old [] new
none_gained keeps view old new turned none gains = subst (λ (es : Exchanges). GainsEach keeps view old es new) none gains

-- for want of memory it was not
pub no_memory : {D K : Type 0} (keeps : D → Type 0) (view : D → View) (told : K → LinkState) (begun now mid new : K) (unanswered line behind : Bytes) (turned : Exchanges) (old after : PassState) (stage : Stage) (rest : Rest) → IsLine line → unanswered ≡ ended line ++ behind → Rests told begun now (standing unanswered stages.Listening) turned → mid ≡ now
    → Serves (GainsEach keeps view) at_pass (told now) (told mid) (line ∷ []) old after (Some kinds.Memory) 0 → BeginsEnd kinds.Memory (told mid) (told new) stage rest → IsAnsweredOn keeps view told begun new (standing unanswered stage) turned old after (Some rest)
no_memory {K = K} keeps view told begun now mid new unanswered line behind turned old after stage rest is_line is r same s b =
    let none = nothing_meant s.front s.turned s.mean (one_line_none line s.front s.later s.lines_are s.how.1) in
    record {
      more = [];
      goes = subst (λ (es : Exchanges). ComesTo rest told begun new (standing unanswered stage) es) (sym (append-nil turned))
          (memory_end told begun now new unanswered turned stage rest (memory_stops keeps view told begun now new unanswered line behind turned old after is_line is r) (subst (λ (k : K). BeginsEnd kinds.Memory (told k) (told new) stage rest) same b));
      gains = none_gained keeps view old after s.turned none s.turns;
    }

-- no line is there
pub none_there : {D K : Type 0} (keeps : D → Type 0) (view : D → View) (told : K → LinkState) (begun now : K) (state : LastingState) (turned : Exchanges) (pass : PassState) (rest : Rest) → ComesTo rest told begun now state turned → IsAnsweredOn keeps view told begun now state turned pass pass (Some rest)
none_there keeps view told begun now state turned pass rest c = record { more = []; goes = subst (λ (t : Exchanges). ComesTo rest told begun now state t) (sym (append-nil turned)) c; gains = refl }

-- the bytes behind a line
pub line_dropped : (unanswered line behind : Bytes) (n : ℕ) → n ≡ length line + 1 → unanswered ≡ ended line ++ behind → drop n unanswered ≡ behind
line_dropped unanswered line behind n counted is =
    let all : n ≡ length (ended line) = counted ∙ sym (length-append line (10 ∷ [])) in
    ap (λ (m : ℕ). drop m unanswered) all ∙ drop-appended (ended line) unanswered behind is

-- ---- one line after the other

goes_same : {K : Type 0} (rest : Option Rest) (told : K → LinkState) (begun now : K) (state : LastingState) (turned other : Exchanges) → turned ≡ other → GoesOn rest told begun now state turned → GoesOn rest told begun now state other
goes_same rest told begun now state turned other same g = subst (λ (es : Exchanges). GoesOn rest told begun now state es) same g

-- a flush ended the step, and no line was answered
pub flushed_so : {D K : Type 0} (keeps : D → Type 0) (view : D → View) (told : K → LinkState) (begun now : K) (state : LastingState) (turned : Exchanges) (pass : PassState) (rest : Option Rest) → GoesOn rest told begun now state turned → IsAnsweredOn keeps view told begun now state turned pass pass rest
flushed_so keeps view told begun now state turned pass rest g = record { more = []; goes = goes_same rest told begun now state turned (turned ++ []) (sym (append-nil turned)) g; gains = refl }

pub answered_then : {D K : Type 0} (keeps : D → Type 0) (view : D → View) (told : K → LinkState) (begun now new : K) (state after : LastingState) (turned : Exchanges) (old mid pass : PassState) (rest : Option Rest) → (a : IsAnsweredOn keeps view told begun now state turned old mid None)
    → IsAnsweredOn keeps view told begun new after (turned ++ a.more) mid pass rest → IsAnsweredOn keeps view told begun new after turned old pass rest
answered_then keeps view told begun now new state after turned old mid pass rest a b =
    record {
      more = a.more ++ b.more;
      goes = goes_same rest told begun new after ((turned ++ a.more) ++ b.more) (turned ++ (a.more ++ b.more)) (append_assoc turned a.more b.more) b.goes;
      gains = gains_then keeps view old mid pass a.more b.more a.gains b.gains;
    }

-- behind a line that was computed others may come first
pub due_or_on : {D K : Type 0} (keeps : D → Type 0) (view : D → View) (told : K → LinkState) (begun now : K) (state : LastingState) (turned : Exchanges) (old new : PassState) (rest : Option Rest) → IfSome rest (λ r. r ≡ rests.Due)
    → IsAnsweredOn keeps view told begun now state turned old new None → IsAnsweredOn keeps view told begun now state turned old new rest
due_or_on keeps view told begun now state turned old new None due a = a
due_or_on keeps view told begun now state turned old new (Some rest) due a =
    record { more = a.more; goes = subst (λ (r : Rest). ComesTo r told begun now state (turned ++ a.more)) (sym due) a.goes; gains = a.gains }

pub answered_all : {D K : Type 0} (keeps : D → Type 0) (view : D → View) (told : K → LinkState) (begun now : K) (state : LastingState) (turned : Exchanges) (old pass : PassState) (rest : Rest) → IsAnsweredOn keeps view told begun now state turned old pass (Some rest) → IsAnswered keeps view told begun now state turned old pass rest
answered_all keeps view told begun now state turned old pass rest a = record { more = a.more; comes = a.goes; gains = each_gained keeps view old pass a.more a.gains }

-- as far as it came
pub answered_due : {D K : Type 0} (keeps : D → Type 0) (view : D → View) (told : K → LinkState) (begun now : K) (state : LastingState) (turned : Exchanges) (old pass : PassState) → IsAnsweredOn keeps view told begun now state turned old pass None → IsAnswered keeps view told begun now state turned old pass rests.Due
answered_due keeps view told begun now state turned old pass a = record { more = a.more; comes = a.goes; gains = each_gained keeps view old pass a.more a.gains }

-- ---- behind a step

pub comes_behind : {K : Type 0} (rest : Rest) (told : K → LinkState) (begun now : K) (unanswered : Bytes) (stage after : Stage) (turned : Exchanges) → StandsBehind stage rest after → ComesTo rest told begun now (standing unanswered stage) turned → ComesTo rest told begun now (standing unanswered after) turned
comes_behind (rests.Over kind) told begun now unanswered stage after turned stands comes = comes
comes_behind rests.Read told begun now unanswered stage after turned stands comes = rw stands comes
comes_behind rests.Write told begun now unanswered stage after turned stands comes = rw stands comes
comes_behind rests.Receive told begun now unanswered stage after turned stands comes = rw stands comes
comes_behind rests.Due told begun now unanswered stage after turned stands comes = rw stands comes
comes_behind rests.Renewal told begun now unanswered stage after turned stands comes = rw stands comes

pub answered_behind : {D K : Type 0} (keeps : D → Type 0) (view : D → View) (rest : Rest) (told : K → LinkState) (begun now : K) (unanswered : Bytes) (stage after : Stage) (turned : Exchanges) (old pass : PassState) → StandsBehind stage rest after
    → IsAnswered keeps view told begun now (standing unanswered stage) turned old pass rest → IsAnswered keeps view told begun now (standing unanswered after) turned old pass rest
answered_behind keeps view rest told begun now unanswered stage after turned old pass stands a =
    record { more = a.more; comes = comes_behind rest told begun now unanswered stage after (turned ++ a.more) stands a.comes; gains = a.gains }

-- ---- its beginning

pub begins : {K : Type 0} (told : K → LinkState) (link : K) (unanswered : Bytes) → unanswered ≡ [] → (told link).waiting ≡ [] → Rests told link link (standing unanswered stages.Listening) []
begins told link unanswered none rests =
    record {
      pieces = [];
      front = [];
      rest = [];
      count = 0;
      lines = tt;
      read = refl;
      gave = tt;
      mean = tt;
      done = done_none told link;
      sound = sound_none (told link);
      prompt = λ n lt. absurd (omega (arith, lt));
      gone = nothing_gone told link 0;
      stands = (tt, (sym none, (refl, rests)));
    }

-- ---- one pass after the other

-- a reply was written, and others come first, or the step goes on
pub another_pass : {D : Type 0} (keeps : D → Type 0) (view : D → View) (passes : List PassState) (turned : Exchanges) (pass : PassState) → AreOfPasses keeps view passes turned → IsNewPass pass → AreOfPasses keeps view (pass ∷ passes) turned
another_pass keeps view passes turned pass are new =
    record { before = turned; ours = []; turned_are = sym (append-nil turned); fresh = pass; is_new = new; gains = each_gained keeps view pass pass [] refl; earlier = are }

pub answered_more : {D : Type 0} (keeps : D → Type 0) (view : D → View) (passes : List PassState) (turned more : Exchanges) (old new : PassState) → AreOfPasses keeps view (old ∷ passes) turned → Gains keeps view old more new → AreOfPasses keeps view (new ∷ passes) (turned ++ more)
answered_more keeps view passes turned more old new are gains =
    record {
      before = are.before;
      ours = are.ours ++ more;
      turned_are = ap (λ (es : Exchanges). es ++ more) are.turned_are ∙ append_assoc are.before are.ours more;
      fresh = are.fresh;
      is_new = are.is_new;
      gains = gained_then keeps view are.fresh old new are.ours more are.gains gains;
      earlier = are.earlier;
    }
