-- A client that sends one line gets one reply.
use Rattle.std.proofs.Common.{◌≡◌, inl, inr, ℕ, List, [], ◌∷◌, ◌++◌, Option, None, Some, refl, sym, ◌∙◌, ap, subst, arith}
use Rattle.std.proofs.lemmas.List.{append-nil}
use Rattle.std.specs.Prelude.{◌≢◌, ◌⊎◌, Bool, true, false, if◌then◌else◌, IsNone}
use Rattle.std.specs.Io.KnownBytes.{Appends, Consumes, IsAtEnd}
use Rattle.line_disk.specs.Tape.{disk_view}
use Rattle.line_disk.specs.declared.memory.MemoryDisk.{MemoryDisk}
use Rattle.record_file.specs.File as files
use Rattle.report_line.specs.Cutting.{ended, IsLine, Stand, Stands, cut_of, cut_from}
use Rattle.report_line.specs.Spelling.{spelling, HasSpelling, action_word, action_fields, mark_text, report_words}
use Rattle.std.specs.List.{join_with_byte}
use Rattle.std.specs.Fmt.{decimal}
use Rattle.stamp.specs.Stamps.{stamp_text}
use Rattle.report_line.specs.declared.report.ReportKind.{ReportKind}
use Rattle.report_line.specs.declared.report.ReportKind.TheVariants.{Check, Present, Fork, Retire, Absorb}
use Rattle.report_line.specs.declared.report.Report.{Report}
use Rattle.report_line.specs.declared.report.Report.TheVariants as reports
use Rattle.report_line.specs.declared.call.Call.{Call}
use Rattle.report_line.specs.declared.call.Call.TheVariants as calls
use Rattle.report_line.specs.Replies.{reply_text}
use Rattle.report_line.specs.declared.reply.Reply.{Reply}
use Rattle.report_line.specs.declared.reply.Reply.TheVariants as replies
use Rattle.report_line.proofs.Streams.{only_cut, at_none, cut_append}
use Rattle.chains.specs.Held.{Held}
use Rattle.desk.specs.Desks.{DeskState}
use Rattle.client_link.specs.Links.{LinkState}
use Rattle.session.specs.Exchanges.{Exchange}
use Rattle.session.specs.SessionText.{Means, Mean, joined, exchange_line, session_text}
use Rattle.session.specs.Turned.{AreExchanges, EachLineIsChosen, IsExchange, ShowsChosen}
use Rattle.session.specs.Ends.{Ended, Leaves}
use Rattle.session.specs.declared.flush_policy.FlushPolicy.{FlushPolicy}
use Rattle.session.specs.declared.flush_policy.FlushPolicy.TheVariants as flush_policies
use Rattle.session.specs.declared.kind.SessionEndKind.{SessionEndKind}
use Rattle.session.specs.declared.kind.SessionEndKind.TheVariants as kinds
use Rattle.recline.specs.Driving.{WritesAll}
use Rattle.recline.specs.Outcome.{IsOpened, Tells}
use Rattle.recline.specs.Asking.{AsksDesk, AsksOn, AsksOpened, AsksOver, IsAnswered, IsAnsweredByLine, IsAsked, IsAskedOf, IsRefused, IsReplied, HandsOver, HasReply, ShowsRight, asked_fault, asked_status, asking, is_line, keeps_always, question_line, refusal_line}
use Rattle.recline.specs.declared.asking.Question.{Question}
use Rattle.recline.specs.declared.asking.Question.TheVariants.{Line, Garbage}

-- a line with its LF is that line alone
cut_line : (line : List ℕ) → IsLine line → cut_of (ended line) ≡ (line ∷ [], Some [])
cut_line line is =
    let none : Stands [] (Some []) = (refl, record { short = omega arith; one = tt }) in
    only_cut (line ∷ []) (ended line) (Some []) ([], (is, tt), sym (append-nil (ended line ++ []) ∙ append-nil (ended line)), none)

-- what reads gave of it: its lines are the first ones of the line
cut_part : (line read more : List ℕ) → IsLine line → ended line ≡ read ++ more
    → (line ∷ [] ≡ (cut_of read).0 ++ (cut_from (cut_of read).1 more).0) × (Some [] ≡ (cut_from (cut_of read).1 more).1)
cut_part line read more is whole =
    let same = sym (cut_line line is) ∙ ap cut_of whole ∙ cut_append (Some []) read more in
    (ap (λ (c : List (List ℕ) × Stand). c.0) same, ap (λ (c : List (List ℕ) × Stand). c.1) same)

two_stands : (a b : Stand) → a ≡ Some [] → b ≡ None → a ≡ b → ⊥
two_stands a b some none same = cc

-- where too many bytes came, no line ends any more
past_limit : (stand : Stand) (more : List ℕ) → IsNone stand → Some [] ≡ (cut_from stand more).1 → ⊥
past_limit None more none same = two_stands (cut_from None more).1 None (sym same) refl (ap (λ (c : List (List ℕ) × Stand). c.1) (at_none more))
past_limit (Some rest) more none same = let e : true ≡ false = none in cc

-- the exchange of one line
one_exchange : (line : List ℕ) (turned : List Exchange) → Mean (line ∷ []) turned → (exchange : Exchange) × (turned ≡ exchange ∷ []) × Means line exchange.call
one_exchange line [] mean = absurd mean
one_exchange line (e ∷ []) mean = (e, refl, mean.0)
one_exchange line (e ∷ f ∷ es) mean = absurd mean.1

-- ---- what is asked is a question

-- the first byte of a text
abbrev letter : List ℕ → ℕ
letter [] = 0
letter (x ∷ xs) = x

-- L or G
abbrev IsLetter : ℕ → Type 0
IsLetter n = (n ≡ 76) ⊎ (n ≡ 71)

question_letter : (question : Question) → IsLetter (letter (question_line question))
question_letter (Line names) = inl refl
question_letter Garbage = inr refl

no_letter : (n k : ℕ) → IsLetter n → n ≡ k → k ≢ 76 → k ≢ 71 → ⊥
no_letter n k (inl is) same no_l no_g = no_l (sym same ∙ is)
no_letter n k (inr is) same no_l no_g = no_g (sym same ∙ is)

action_letter : (n : ℕ) (a : ReportKind) (mark rest : List ℕ) → IsLetter n → n ≡ letter ((action_word a ++ mark) ++ rest) → ⊥
action_letter n Check mark rest is same = no_letter n 67 is same (λ e. omega (arith, e)) (λ e. omega (arith, e))
action_letter n Present mark rest is same = no_letter n 80 is same (λ e. omega (arith, e)) (λ e. omega (arith, e))
action_letter n (Fork f) mark rest is same = no_letter n 70 is same (λ e. omega (arith, e)) (λ e. omega (arith, e))
action_letter n (Retire target) mark rest is same = no_letter n 82 is same (λ e. omega (arith, e)) (λ e. omega (arith, e))
action_letter n (Absorb retired) mark rest is same = no_letter n 65 is same (λ e. omega (arith, e)) (λ e. omega (arith, e))

report_letter : (n epoch : ℕ) (r : Report) → IsLetter n → n ≡ letter (join_with_byte 32 (report_words epoch r)) → ⊥
report_letter n epoch (reports.Begin p) is same = no_letter n 66 is same (λ e. omega (arith, e)) (λ e. omega (arith, e))
report_letter n epoch (reports.Numbered r) is same = action_letter n r.action (mark_text epoch) (32 ∷ join_with_byte 32 (r.process ∷ decimal r.number ∷ stamp_text r.stamp ∷ action_fields r.action)) is same

call_letter : (n : ℕ) (call : Call) → IsLetter n → HasSpelling call → n ≡ letter (spelling call) → IsAsked call
unfolding spelling
call_letter n (calls.Report m) is has same = absurd (report_letter n m.epoch m.report is same)
call_letter n (calls.Line names) is has same = tt
call_letter n calls.Garbage is has same = tt
call_letter n (calls.Settle front names) is has same = absurd (no_letter n 83 is same (λ e. omega (arith, e)) (λ e. omega (arith, e)))
call_letter n (calls.State p) is has same = absurd (no_letter n 83 is same (λ e. omega (arith, e)) (λ e. omega (arith, e)))
call_letter n calls.Bye is has same = absurd (no_letter n 66 is same (λ e. omega (arith, e)) (λ e. omega (arith, e)))
call_letter n (calls.Bad k) is has same = tt
call_letter n calls.Unread is has same = tt

asked_call : (question : Question) (call : Call) → Means (question_line question) call → IsAsked call
asked_call question call (inl spells) = call_letter (letter (question_line question)) call (question_letter question) spells.0 (ap letter spells.1)
asked_call question call (inr (inl bad)) = subst IsAsked (sym bad.0) tt
asked_call question call (inr (inr unread)) = subst IsAsked (sym unread) tt

-- ---- how a session with one line ends

part_read : (left : Option (List ℕ)) (line read : List ℕ) → Consumes (Some line) left read → (more : List ℕ) × (line ≡ read ++ more)
part_read None line read consumed = absurd consumed
part_read (Some more) line read consumed = (more, consumed)

all_read : (left : Option (List ℕ)) (line read : List ℕ) → Consumes (Some line) left read → IsAtEnd left → line ≡ read
all_read None line read consumed ends = absurd consumed
all_read (Some more) line read consumed ends = consumed ∙ ap (λ (l : List ℕ). read ++ l) ends ∙ append-nil read

-- a session with a client that sends this line alone
abbrev IsOne : {D : Type 0} → (D → Type 0) → FlushPolicy → List ℕ → LinkState → DeskState D → DeskState D → SessionEndKind → ℕ → Type 0
IsOne keeps when line link desk after kind count = Ended keeps (λ (state : LinkState). state) when (asking (ended line)) link desk after kind count

-- the line took one turn over what is held, and the reply is what is shown for it
record IsShownBy (held : Held) (line reply : List ℕ) : Type 0 where
  exchange : Exchange
  after : Held
  means : Means line exchange.call
  asked : IsAsked exchange.call
  turned : IsExchange held exchange after
  right : ShowsRight held exchange
  chosen : ShowsChosen held exchange
  reply_is : reply ≡ exchange_line exchange

-- what was written to a link to which nothing was written before
all_written : (text reply : List ℕ) (held : Option (List ℕ)) → Appends (Some []) held text → held ≡ Some reply → reply ≡ text
all_written text reply None written is = absurd written
all_written text reply (Some bytes) written is = let same : bytes ≡ reply = cc in sym same ∙ written

reply_at_end : {D : Type 0} (keeps : D → Type 0) (when : FlushPolicy) (question : Question) (link : LinkState) (desk after : DeskState D) (count : ℕ) (reply : List ℕ) → IsLine (question_line question)
    → IsOne keeps when (question_line question) link desk after kinds.End count → Leaves kinds.End (asking (ended (question_line question))) link → link.held ≡ Some reply
    → IsShownBy desk.held (question_line question) reply
reply_at_end keeps when question link desk after count reply is e leaves reply_is =
    let line : List ℕ = question_line question in
    let read : List ℕ = joined e.pieces in
    let whole : ended line ≡ read = all_read link.left (ended line) read e.consumed leaves.2 in
    let cut : cut_of read ≡ (line ∷ [], Some []) = ap cut_of (sym whole) ∙ cut_line line is in
    let front : List (List ℕ) = e.session.front in
    let all : front ≡ line ∷ [] =
    sym (append-nil front) ∙ ap (λ (l : List (List ℕ)). front ++ l) (sym e.session.ends.0.1) ∙ sym e.session.lines_are ∙ ap (λ (c : List (List ℕ) × Stand). c.0) cut in
    let one = one_exchange line e.turned (subst (λ (l : List (List ℕ)). Mean l e.turned) all e.session.mean) in
    let x : Exchange = one.0 in
    let text : e.text ≡ exchange_line x =
    e.session.ends.1.0 ∙ ap (λ (es : List Exchange). session_text es ++ []) one.1 ∙ append-nil (exchange_line x ++ []) ∙ append-nil (exchange_line x) in
    let served = subst (λ (es : List Exchange). AreExchanges desk.held es after.held) one.1 e.turns.served in
    record {
      exchange = x;
      after = served.0;
      means = one.2;
      asked = asked_call question x.call one.2;
      turned = served.1;
      right = λ shown is_shown. e.lines [] [] x shown desk.held one.1 refl is_shown;
      chosen = (subst (λ (es : List Exchange). EachLineIsChosen desk.held es) one.1 e.chosen).0;
      reply_is = all_written e.text reply link.held e.written reply_is ∙ text;
    }

no_limit_end : {D : Type 0} (keeps : D → Type 0) (when : FlushPolicy) (line : List ℕ) (link : LinkState) (desk after : DeskState D) (count : ℕ) → IsLine line
    → IsOne keeps when line link desk after kinds.TooLong count → ⊥
no_limit_end keeps when line link desk after count is e =
    let read : List ℕ = joined e.pieces in
    let part = part_read link.left (ended line) read e.consumed in
    past_limit (cut_of read).1 part.0 e.session.ends.0.2 (cut_part line read part.0 is part.1).1

-- ---- by its first letter

-- the reply is a LINE where its first letter is L, and only there
line_by_letter : (r : Reply) → is_line (ended (reply_text r)) ≡ true → (text : List ℕ) × (r ≡ replies.Line text)
unfolding reply_text
line_by_letter (replies.Accepted front) is = let e : true ≡ false = sym is in cc
line_by_letter (replies.Old front) is = let e : true ≡ false = sym is in cc
line_by_letter (replies.No code name value) is = let e : true ≡ false = sym is in cc
line_by_letter (replies.Bad number) is = let e : true ≡ false = sym is in cc
line_by_letter (replies.Fail outcome) is = let e : true ≡ false = sym is in cc
line_by_letter (replies.Line text) is = (text, refl)
line_by_letter (replies.State name reports elements live id) is = let e : true ≡ false = sym is in cc
line_by_letter (replies.Settled epoch front) is = let e : true ≡ false = sym is in cc
line_by_letter replies.Bye is = let e : true ≡ false = sym is in cc
line_by_letter (replies.Taken front) is = let e : true ≡ false = sym is in cc

letter_of_line : (text : List ℕ) → is_line (ended (reply_text (replies.Line text))) ≡ true
unfolding reply_text
letter_of_line text = refl

no_line_by_letter : (r : Reply) (text : List ℕ) → is_line (ended (reply_text r)) ≡ false → r ≡ replies.Line text → ⊥
no_line_by_letter r text none is = let e : true ≡ false = sym (letter_of_line text) ∙ ap (λ (s : Reply). is_line (ended (reply_text s))) (sym is) ∙ none in cc

-- ---- which status tells what

by_letter_0 : (reply : List ℕ) (letter : Bool) → is_line reply ≡ letter → ◌≡◌ {A = ℕ} (if letter then 0 else 4) 0 → is_line reply ≡ true
by_letter_0 reply true is status = is
by_letter_0 reply false is status = absurd (omega (arith, status))

by_letter_4 : (reply : List ℕ) (letter : Bool) → is_line reply ≡ letter → ◌≡◌ {A = ℕ} (if letter then 0 else 4) 4 → is_line reply ≡ false
by_letter_4 reply true is status = absurd (omega (arith, status))
by_letter_4 reply false is status = is

-- a whole reply: the session ended with its input, or the line was too long
ends_whole : (kind : SessionEndKind) → HasReply kind → (kind ≡ kinds.End) ⊎ (kind ≡ kinds.TooLong)
ends_whole kinds.End whole = inl refl
ends_whole kinds.TooLong whole = inr refl
ends_whole kinds.Bye whole = absurd whole
ends_whole kinds.Worn whole = absurd whole
ends_whole kinds.Endless whole = absurd whole
ends_whole kinds.Memory whole = absurd whole
ends_whole kinds.ReadFailed whole = absurd whole
ends_whole kinds.WriteFailed whole = absurd whole
ends_whole kinds.Foreign whole = absurd whole

-- ---- the reply went to the client

replied : (held : Held) (line reply : List ℕ) (old new : LinkState) → WritesAll old new reply → IsShownBy held line reply → IsReplied held line old new
replied held line reply old new writes s = record {
  exchange = s.exchange;
  after = s.after;
  means = s.means;
  asked = s.asked;
  turned = s.turned;
  right = s.right;
  chosen = s.chosen;
  written = subst (λ (text : List ℕ). Appends old.held new.held text) s.reply_is writes.written;
  nothing_waits = writes.nothing_waits;
}

-- the session over a desk that ended with its input
shown_by : {F : Type 0} (faults_told : F → LinkState) (question : Question) (desk after : DeskState MemoryDisk) (client client_after : LinkState) (faults faults_after : F) (status : ℕ)
    → IsLine (question_line question) → (a : IsAskedOf faults_told (ended (question_line question)) desk after client client_after faults faults_after status) → a.kind ≡ kinds.End → IsShownBy desk.held (question_line question) a.reply
shown_by faults_told question desk after client client_after faults faults_after status is a ends =
    let session = subst (λ (k : SessionEndKind). Ended keeps_always (λ (state : LinkState). state) flush_policies.EachRead (asking (ended (question_line question))) a.link desk after k a.replies) ends a.session in
    let leaves = subst (λ (k : SessionEndKind). Leaves k (asking (ended (question_line question))) a.link) ends a.leaves in
    reply_at_end keeps_always flush_policies.EachRead question a.link desk after a.replies a.reply is session leaves a.reply_is

not_too_long : {F : Type 0} (faults_told : F → LinkState) (question : Question) (desk after : DeskState MemoryDisk) (client client_after : LinkState) (faults faults_after : F) (status : ℕ)
    → IsLine (question_line question) → (a : IsAskedOf faults_told (ended (question_line question)) desk after client client_after faults faults_after status) → a.kind ≡ kinds.TooLong → ⊥
not_too_long faults_told question desk after client client_after faults faults_after status is a ends =
    no_limit_end keeps_always flush_policies.EachRead (question_line question) a.link desk after a.replies is
    (subst (λ (k : SessionEndKind). Ended keeps_always (λ (state : LinkState). state) flush_policies.EachRead (asking (ended (question_line question))) a.link desk after k a.replies) ends a.session)

-- so the session ended with its input
at_end : {F : Type 0} (faults_told : F → LinkState) (question : Question) (desk after : DeskState MemoryDisk) (client client_after : LinkState) (faults faults_after : F) (status : ℕ)
    → IsLine (question_line question) → (a : IsAskedOf faults_told (ended (question_line question)) desk after client client_after faults faults_after status) → a.kind ≡ kinds.End
at_end faults_told question desk after client client_after faults faults_after status is a = by_kind (ends_whole a.kind a.whole)
  where
    by_kind : (a.kind ≡ kinds.End) ⊎ (a.kind ≡ kinds.TooLong) → a.kind ≡ kinds.End
    by_kind (inl ends) = ends
    by_kind (inr long) = absurd (not_too_long faults_told question desk after client client_after faults faults_after status is a long)

-- what a desk of these bytes answered
answer_of : (bytes : List ℕ) (question : Question) (disk : MemoryDisk) (desk : DeskState MemoryDisk) (client client_after : LinkState) (reply : List ℕ) → (disk_view disk).seen ≡ bytes
    → IsOpened keeps_always disk_view disk desk → WritesAll client client_after reply → IsShownBy desk.held (question_line question) reply → IsAnswered bytes (question_line question) client client_after
answer_of bytes question disk desk client client_after reply seen opened writes shown = record {
  said = desk.found;
  held = desk.held;
  stands = subst (λ (b : List ℕ). files.Stands desk.found b) seen (opened.records tt);
  opened = opened.opened;
  replied = replied desk.held (question_line question) reply client client_after writes shown;
}

-- a reply in full and its status, where no fault is told
handed_by : {F : Type 0} (faults_told : F → LinkState) (reply : List ℕ) (client client_after : LinkState) (faults faults_after : F) (status : ℕ) → HandsOver faults_told reply client client_after faults faults_after status → status ≢ 3
    → WritesAll client client_after reply × (status ≡ asked_status reply) × Tells (faults_told faults) (faults_told faults_after) (asked_fault reply)
handed_by faults_told reply client client_after faults faults_after status (inl all) sound = all
handed_by faults_told reply client client_after faults faults_after status (inr part) sound = absurd (sound part.1)

-- which question was asked of a desk where the status is none of a fault
asked_by : {F : Type 0} (faults_told : F → LinkState) (bytes sent : List ℕ) (client client_after : LinkState) (faults faults_after : F) (status : ℕ) → AsksOn faults_told bytes sent client client_after faults faults_after status → status ≢ 3
    → (disk : MemoryDisk) × (desk after : DeskState MemoryDisk) × ((disk_view disk).seen ≡ bytes) × IsOpened keeps_always disk_view disk desk × IsAskedOf faults_told sent desk after client client_after faults faults_after status
asked_by faults_told bytes sent client client_after faults faults_after status (inl copy) sound = by_disk copy.over
  where
    by_desk : (o : AsksOpened faults_told copy.disk sent client client_after faults faults_after status) → AsksDesk faults_told sent o.desk o.after client client_after faults faults_after status
        → (disk : MemoryDisk) × (desk after : DeskState MemoryDisk) × ((disk_view disk).seen ≡ bytes) × IsOpened keeps_always disk_view disk desk × IsAskedOf faults_told sent desk after client client_after faults faults_after status
    by_desk o (inl asked) = (copy.disk, o.desk, o.after, copy.seen, o.opened, asked)
    by_desk o (inr none) = absurd (sound none.status_is)

    by_disk : AsksOver faults_told copy.disk sent client client_after faults faults_after status
        → (disk : MemoryDisk) × (desk after : DeskState MemoryDisk) × ((disk_view disk).seen ≡ bytes) × IsOpened keeps_always disk_view disk desk × IsAskedOf faults_told sent desk after client client_after faults faults_after status
    by_disk (inl o) = by_desk o o.asks
    by_disk (inr n) = absurd (sound n.1.status_is)
asked_by faults_told bytes sent client client_after faults faults_after status (inr none) sound = absurd (sound none.status_is)

pub answered : {F : Type 0} (faults_told : F → LinkState) (bytes : List ℕ) (question : Question) (client client_after : LinkState) (faults faults_after : F) (status : ℕ)
    → AsksOn faults_told bytes (ended (question_line question)) client client_after faults faults_after status → IsLine (question_line question) → status ≡ 0 → IsAnsweredByLine bytes (question_line question) client client_after
unfolding answer_of replied
answered faults_told bytes question client client_after faults faults_after status asks is zero =
    let sound : status ≢ 3 = λ three. omega (arith, zero, three) in
    let by = asked_by faults_told bytes (ended (question_line question)) client client_after faults faults_after status asks sound in
    let a = by.5 in
    let all = handed_by faults_told a.reply client client_after faults faults_after status a.handed sound in
    let letter = by_letter_0 a.reply (is_line a.reply) refl (sym all.1 ∙ zero) in
    let ends = at_end faults_told question by.1 by.2 client client_after faults faults_after status is a in
    let shown = shown_by faults_told question by.1 by.2 client client_after faults faults_after status is a ends in
    (answer_of bytes question by.0 by.1 client client_after a.reply by.3 by.4 all.0 shown, line_by_letter shown.exchange.shown (ap is_line (sym shown.reply_is) ∙ letter))

pub refused : {F : Type 0} (faults_told : F → LinkState) (bytes : List ℕ) (question : Question) (client client_after : LinkState) (faults faults_after : F) (status : ℕ)
    → AsksOn faults_told bytes (ended (question_line question)) client client_after faults faults_after status → IsLine (question_line question) → status ≡ 4
    → IsRefused faults_told bytes (question_line question) client client_after faults faults_after
unfolding answer_of replied
refused faults_told bytes question client client_after faults faults_after status asks is four =
    let sound : status ≢ 3 = λ three. omega (arith, four, three) in
    let by = asked_by faults_told bytes (ended (question_line question)) client client_after faults faults_after status asks sound in
    let a = by.5 in
    let all = handed_by faults_told a.reply client client_after faults faults_after status a.handed sound in
    let letter = by_letter_4 a.reply (is_line a.reply) refl (sym all.1 ∙ four) in
    let ends = at_end faults_told question by.1 by.2 client client_after faults faults_after status is a in
    let shown = shown_by faults_told question by.1 by.2 client client_after faults faults_after status is a ends in
    let none : is_line (exchange_line shown.exchange) ≡ false = ap is_line (sym shown.reply_is) ∙ letter in
    let told : asked_fault a.reply ≡ refusal_line a.reply = rw letter refl in
    record {
      answered = answer_of bytes question by.0 by.1 client client_after a.reply by.3 by.4 all.0 shown;
      none = λ text is_line_text. no_line_by_letter shown.exchange.shown text none is_line_text;
      told = subst (λ (l : List ℕ). Tells (faults_told faults) (faults_told faults_after) l) (told ∙ ap refusal_line shown.reply_is) all.2;
    }
